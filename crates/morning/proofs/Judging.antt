-- Refusal 13. The test is passed by 1 to 16 orders of three words each, and by no others; a morning that fails it leaves everything as it was.
use mathlib.Core.Path.{◌≡◌, refl}
use mathlib.Core.Bool.{true, false}
use mathlib.Core.List.{List}
use Prim.Native.Nat.{ℕ, ◌*◌}
use borrow.Author.Tests.{eqb-true, eq-eqb, ltb-false, le-ltb, not-false}
use lib.Dec.{eqb, ltb}
use lib.ListN.{length}
use Rattle.words.proofs.Truth.{or_neither}
use Rattle.contract.specs.Filled.{Tables}
use Rattle.morning.specs.Morning.{max_orders, orders_fault, served, morning}
use Rattle.morning.specs.Demands.{OneToSixteen}

-- the test is passed by 1 to 16 orders
pub passing : (words answers : List ℕ) → orders_fault (length words) (length answers) ≡ false → OneToSixteen words answers
unfolding orders_fault
passing words answers e =
    let a = or_neither (ltb (length answers) 1) _ e in
    let b = or_neither (ltb max_orders (length answers)) _ a.1 in
    record {
      one = ltb-false (length answers) 1 a.0;
      sixteen = ltb-false max_orders (length answers) b.0;
      three_words = eqb-true (length words) (3 * length answers) (not-false (eqb (length words) (3 * length answers)) b.1);
    }

-- and by no others
pub passes : (words answers : List ℕ) → OneToSixteen words answers → orders_fault (length words) (length answers) ≡ false
unfolding orders_fault
passes words answers m =
    rw (
      le-ltb (length answers) 1 m.one,
      le-ltb max_orders (length answers) m.sixteen,
      eq-eqb (length words) (3 * length answers) m.three_words,
    ) refl

module _ (bytes words : List ℕ) (allowance : ℕ) (answers : List ℕ) (t : Tables) where
  -- a morning by its test
  pub morning_turned : orders_fault (length words) (length answers) ≡ true → morning bytes words allowance answers t ≡ record { number = 13; answers = answers; tables = t }
  unfolding morning
  morning_turned e = rw (e, morning)

  pub morning_passed : orders_fault (length words) (length answers) ≡ false → morning bytes words allowance answers t ≡ served bytes words allowance (length answers) t
  unfolding morning
  morning_passed e = rw (e, morning)
