-- The rows decide their conditions. Two words name an option above n where they have a member outside the first n, and share one where they meet; the
-- other rows compare numbers. The rows of the rules go by the list of rules.
use mathlib.Core.Path.{◌≡◌, refl, sym, ap, ◌∙◌}
use mathlib.Core.Bool.{true, not, ◌||◌, or-false}
use mathlib.Core.List.{List, [], ◌∷◌}
use mathlib.Core.Logic.{◌↔◌, ◌≢◌}
use Prim.Native.Nat.{ℕ, ◌<◌}
use borrow.Author.Tests.{ltb-true, ltb-false, lt-ltb, le-ltb, eqb-false, ne_eqb, not-true}
use lib.Bits.{bit_or}
use lib.Dec.{ltb, eqb}
use Rattle.words.specs.Words.{is_zero, has, minus, meets, first_vars}
use Rattle.words.proofs.Membership.{has_or, has_zero, has_first_vars}
use Rattle.words.proofs.Sets.{meets_intro, meets_true, minus_nonempty, minus_empty}
use Rattle.words.proofs.Truth.{both_ways, refuted}
use Rattle.steps.specs.Clause.{Clause}
use Rattle.order.specs.Order.{Order}
use Rattle.book.specs.Bytes.{vars_in, rules_in}
use Rattle.book.specs.Refusals.{above, rule_rows, book_rows, order_rows, admit_rows}
use Rattle.book.specs.Conditions.{NamesAbove, HasAbove, InBoth, Decides, rule_conditions, book_conditions, order_conditions}
use Rattle.book.specs.Demands.{RowsDecide}
use Rattle.book.proofs.Refusals.{decides_append}

-- the test of a number that is too large
below : (a b : ℕ) → (ltb a b ≡ true) ↔ (a < b)
below a b = (ltb-true a b, lt-ltb a b)

-- the test of two numbers that differ
differ : (a b : ℕ) → (not (eqb a b) ≡ true) ↔ (a ≢ b)
differ a b = (λ h. eqb-false a b (not-true (eqb a b) h), λ h. ap not (ne_eqb a b h))

-- the test of an option above n
pub names_above : (n p q : ℕ) → (above n p q ≡ true) ↔ NamesAbove n p q
unfolding above
names_above n p q = (found, each)
  where
    found : not (is_zero (minus (bit_or p q) (first_vars n))) ≡ true → NamesAbove n p q
    found h =
        let m = minus_nonempty (bit_or p q) (first_vars n) (not-true _ h) in
        (m.0, ltb-false m.0 n (sym (has_first_vars n m.0) ∙ m.2), sym (has_or p q m.0) ∙ m.1)

    each : NamesAbove n p q → not (is_zero (minus (bit_or p q) (first_vars n))) ≡ true
    each a =
        ap not
        (refuted (is_zero (minus (bit_or p q) (first_vars n)))
        (λ e.
        both_ways
        (has (first_vars n) a.0)
        (minus_empty (bit_or p q) (first_vars n) e a.0 (has_or p q a.0 ∙ a.2))
        (has_first_vars n a.0 ∙ le-ltb a.0 n a.1)))

-- and of one word
pub has_above : (n w : ℕ) → (above n w 0 ≡ true) ↔ HasAbove n w
has_above n w =
    let one : (k : ℕ) → (has w k || has 0 k) ≡ has w k = λ k. ap (λ b. has w k || b) (has_zero k) ∙ or-false (has w k) in (
      λ h. let a = (names_above n w 0).0 h in (a.0, a.1, sym (one a.0) ∙ a.2),
      λ a. (names_above n w 0).1 (a.0, a.1, one a.0 ∙ a.2),
    )

-- the test of an option in both
pub in_both : (p q : ℕ) → (meets p q ≡ true) ↔ InBoth p q
in_both p q = (meets_true p q, λ b. meets_intro p q b.0 b.1 b.2)

-- 5 and 6
pub rules_decide : (n : ℕ) (cs : List Clause) → Decides (rule_rows n cs) (rule_conditions n cs)
unfolding rule_rows
rules_decide n [] = tt
rules_decide n (c ∷ cs) = (refl, names_above n c.pos c.neg, (refl, in_both c.pos c.neg, rules_decide n cs))

-- 1 to 6
pub book_decides : (bytes : List ℕ) → Decides (book_rows bytes) (book_conditions bytes)
unfolding book_rows
book_decides bytes =
    (refl, below _ _, (refl, below _ _, (refl, below _ _, (refl, differ _ _, rules_decide (vars_in bytes) (rules_in bytes)))))

-- 7, 8 and 12
pub order_decides : (n : ℕ) (o : Order) → Decides (order_rows n o) (order_conditions n o)
unfolding order_rows
order_decides n o = (refl, names_above n o.wanted o.unwanted, (refl, in_both o.wanted o.unwanted, (refl, has_above n o.standard, tt)))

-- 1 to 8 and 12
pub rows_decide : RowsDecide
unfolding admit_rows
rows_decide bytes o =
    decides_append (book_rows bytes) (order_rows (vars_in bytes) o) (book_conditions bytes) (order_conditions (vars_in bytes) o) (book_decides bytes)
    (order_decides (vars_in bytes) o)
