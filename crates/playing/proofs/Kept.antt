-- A choice against the wishes, a clause and the clauses of a work table, as the code tests them.
use mathlib.Core.Path.{◌≡◌, refl, sym, ap, ◌∙◌}
use mathlib.Core.Bool.{Bool, true, false, not, ◌&&◌, ◌||◌, and-true, and-false}
use mathlib.Core.List.{List}
use Prim.Native.Nat.{ℕ, ◌+◌, ◌-◌, ◌≤◌, ◌<◌}
use native.Mathlib.Nat.{sub-zero}
use lib.Bits.{bit_and, bit_or}
use lib.Dec.{eqb}
use borrow.Author.Tests.{not-true, not-false}
use Rattle.words.specs.Words.{is_zero, minus, meets}
use Rattle.words.proofs.Sets.{is_zero_test}
use Rattle.words.proofs.Unions.{or_empty}
use Rattle.steps.specs.Clause.{Clause}
use Rattle.steps.specs.Run.{Assumptions}
use Rattle.steps.specs.Meaning.{satisfies, models, obeys}
use Rattle.rows.specs.Rows.{from, clause_at, clauses}
use Rattle.rows.proofs.Lists.{from_step, from_end}

-- ---- the wishes

-- an unwanted option is fitted
pub unwanted_fitted : (a : Assumptions) (x : ℕ) → meets a.neg x ≡ true → false ≡ obeys x a
unfolding obeys
unwanted_fitted a x e = sym (ap (λ b. is_zero (minus a.pos x) && not b) e ∙ and-false (is_zero (minus a.pos x)))

-- none is, and it goes by the wanted ones
pub by_wanted : (a : Assumptions) (x lacking : ℕ) → meets a.neg x ≡ false → lacking ≡ minus a.pos x → eqb lacking 0 ≡ obeys x a
unfolding obeys
by_wanted a x lacking e el =
    is_zero_test lacking ∙ ap is_zero el ∙ sym (ap (λ b. is_zero (minus a.pos x) && not b) e ∙ and-true (is_zero (minus a.pos x)))

-- ---- a clause

neither : (p q : Bool) → (p && q) ≡ not (not p || not q)
neither true true = refl
neither true false = refl
neither false q = refl

-- the clause has no literal that the choice makes true
pub breaks_is : (c : Clause) (x left : ℕ) → left ≡ minus c.neg x → eqb (bit_or (bit_and c.pos x) left) 0 ≡ not (satisfies x c)
unfolding satisfies meets
breaks_is c x left e =
    is_zero_test (bit_or (bit_and c.pos x) left) ∙ or_empty (bit_and c.pos x) left ∙ ap (λ w. is_zero (bit_and c.pos x) && is_zero w) e
    ∙ neither (is_zero (bit_and c.pos x)) (is_zero (minus c.neg x))

-- ---- the clauses of a table

-- the choice keeps all m exactly if it keeps those from the i-th on
abbrev pub Kept : ℕ → List ℕ → ℕ → ℕ → Type 0
Kept x t m i = models x (clauses t m) ≡ models x (from (clause_at t) i (m - i))

pub kept_begin : (x : ℕ) (t : List ℕ) (m : ℕ) → Kept x t m 0
unfolding clauses
kept_begin x t m = rw sub-zero

pub kept_end : (x : ℕ) (t : List ℕ) (m i : ℕ) → m ≤ i → Kept x t m i → true ≡ models x (clauses t m)
kept_end x t m i h inv = sym (inv ∙ ap (models x) (from_end (clause_at t) i m h))

-- a turn: c is the i-th, and was tested
module _ (x : ℕ) (t : List ℕ) (m i : ℕ) (few : i < m) (inv : Kept x t m i) (c : Clause) (read : c ≡ clause_at t i)
    (broken : Bool) (e : broken ≡ not (satisfies x c)) where
  abbrev rest : Bool
  rest = models x (from (clause_at t) (i + 1) (m - (i + 1)))

  here : models x (clauses t m) ≡ (satisfies x c && rest)
  here = inv ∙ ap (models x) (from_step (clause_at t) i m few) ∙ ap (λ d. satisfies x d && rest) (sym read)

  -- the i-th is broken
  pub kept_broken : broken ≡ true → false ≡ models x (clauses t m)
  kept_broken b = sym (here ∙ ap (λ s. s && rest) (not-true (satisfies x c) (sym e ∙ b)))

  -- the i-th is kept
  pub kept_next : broken ≡ false → Kept x t m (i + 1)
  kept_next b = here ∙ ap (λ s. s && rest) (not-false (satisfies x c) (sym e ∙ b))
