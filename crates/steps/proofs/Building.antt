-- Whether book and order can be built is decided by trying all choices. A choice that keeps the table at the start, cut to the n variables, builds, and
-- a choice that builds keeps that table. So a D-sequent that gives a model of the table at the start holds: either book and order can be built, or
-- there is no choice from which it could give one.
use mathlib.Core.Path.{◌≡◌, refl, ap, ◌∙◌}
use mathlib.Core.Logic.{◌⊎◌, inl, inr, ⊎_elim}
use mathlib.Core.Bool.{Bool, true, false, ◌&&◌}
use mathlib.Core.List.Memᴰ
use mathlib.Core.List.{List}
use Prim.Native.Nat.{ℕ, zero, suc, ◌^◌, ◌<◌}
use native.Mathlib.Omega.{arith}
use native.Mathlib.Nat.{le_refl}
use lib.Bits.{bit_and}
use lib.Dec.{eqb}
use borrow.Author.Tests.{eqb-true, eqb-false}
use Rattle.words.specs.Words.{first_vars}
use Rattle.words.proofs.Truth.{both_ways, and_left, and_right, and_both}
use Rattle.words.proofs.Sets.{and_within_r, within_lt}
use Rattle.steps.specs.Clause.{Clause, DSequent}
use Rattle.steps.specs.Run.{Assumptions, units, given}
use Rattle.steps.specs.Meaning.{models, obeys, Builds, Buildable, Holds}
use Rattle.steps.specs.Shape.{Input}
use Rattle.steps.proofs.ShapeStart.{given_proper}
use Rattle.steps.proofs.Models.{Models, models_true, true_models, dropping_true, agrees_true, models_append, obeys_units, units_obeys, cut_satisfied}
use Rattle.steps.proofs.Sound.{Modeled, Gives}

-- some number below n passes a test, or none does
tried : (p : ℕ → Bool) (n : ℕ) → ((x : ℕ) × (x < n) × (p x ≡ true)) ⊎ ((x : ℕ) → x < n → p x ≡ false)
tried p zero = inr (λ x h. absurd (omega arith))
tried p (suc n) = go (p n) refl (tried p n)
  where
    go : (t : Bool) → p n ≡ t → ((x : ℕ) × (x < n) × (p x ≡ true)) ⊎ ((x : ℕ) → x < n → p x ≡ false)
        → ((x : ℕ) × (x < suc n) × (p x ≡ true)) ⊎ ((x : ℕ) → x < suc n → p x ≡ false)
    go true e r = inl (n, le_refl (suc n), e)
    go false e (inl r) = inl (r.0, omega arith, r.2)
    go false e (inr f) = inr (λ x h. last x h (eqb x n) refl)
      where
        last : (x : ℕ) → x < suc n → (t : Bool) → eqb x n ≡ t → p x ≡ false
        last x h true g = ap p (eqb-true x n g) ∙ e
        last x h false g = f x (omega (arith, eqb-false x n g))

module _ (n : ℕ) (book : List Clause) (o : Assumptions) (input : Input n book o) where
  -- a choice that builds keeps the table at the start
  pub built : (x : ℕ) → Builds n book o x → Models x (given book o)
  built x b = models_append x book (units o) (models_true x book b.rules) (obeys_units x o b.order)

  -- and a choice that keeps it builds, cut to n variables
  pub builds : Modeled (given book o) → Buildable n book o
  builds m =
      let x = bit_and m.0 (first_vars n) in
      let cut : Models x (given book o) = λ c l. cut_satisfied n m.0 c (given_proper n book o input c l) (m.1 c l) in
      let small = within_lt n x (and_within_r m.0 (first_vars n)) in
      let rules = true_models x book (λ c l. cut c (Memᴰ.append_left (units o) l)) in
      let order = units_obeys x o (λ c l. cut c (Memᴰ.append_right book l)) in
      (x, record { choice = small; rules = rules; order = order })

  -- so whether they can be built is decided by trying all choices
  decided : Buildable n book o ⊎ (Buildable n book o → ⊥)
  decided = ⊎_elim yes_case no_case (tried (λ x. models x book && obeys x o) (2 ^ n))
    where
      yes_case : (x : ℕ) × (x < 2 ^ n) × ((models x book && obeys x o) ≡ true) → Buildable n book o ⊎ (Buildable n book o → ⊥)
      yes_case r =
          let rules = and_left (models r.0 book) (obeys r.0 o) r.2 in
          let order = and_right (models r.0 book) (obeys r.0 o) r.2 in
          inl (r.0, record { choice = r.1; rules = rules; order = order })

      no_case : ((x : ℕ) → x < 2 ^ n → (models x book && obeys x o) ≡ false) → Buildable n book o ⊎ (Buildable n book o → ⊥)
      no_case f =
          inr
          (λ b.
          let x = b.0 in
          both_ways (models x book && obeys x o) (and_both (models x book) (obeys x o) b.1.rules b.1.order) (f x b.1.choice))

  -- a D-sequent that gives a model holds
  pub gives_holds : (t : List Clause) (d : DSequent) → Gives (given book o) t d → Holds n book o t d
  gives_holds t d g =
      ⊎_elim (λ b. inl b)
      (λ never. inr (λ x small agree keeps. never (builds (g x (agrees_true x d.decisions agree) (dropping_true x d.redundant t keeps)))))
      decided
