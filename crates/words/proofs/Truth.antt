-- Laws of truth values, each by cases on the values.
use mathlib.Core.Path.{◌≡◌, refl, sym, ◌∙◌}
use mathlib.Core.Logic.{◌⊎◌, inl, inr}
use Prim.Native.Nat.{ℕ}
use native.Mathlib.Omega.{arith}
use mathlib.Core.Bool.{Bool, true, false, not, ◌&&◌, ◌||◌, true≢false}

-- nothing is both
pub both_ways : {A : Type 0} (b : Bool) → b ≡ true → b ≡ false → A
both_ways b t f = absurd (true≢false (sym t ∙ f))

-- nothing follows where 0 is 1: two different constructors that are equal give that, by `cc`
pub clash : {A : Type 0} → ◌≡◌ {A = ℕ} 0 1 → A
clash e = absurd (omega arith)

-- what can't be true is false
pub refuted : (b : Bool) → (b ≡ true → ⊥) → b ≡ false
refuted true h = absurd (h refl)
refuted false h = refl

-- and what can't be false is true
pub confirmed : (b : Bool) → (b ≡ false → ⊥) → b ≡ true
confirmed true h = refl
confirmed false h = absurd (h refl)

-- two truth values with the same opposite are the same
pub not_not : (p q : Bool) → not p ≡ not q → p ≡ q
not_not true true e = refl
not_not false false e = refl
not_not true false e = sym e
not_not false true e = sym e

-- both hold, so the first does
pub and_left : (p q : Bool) → (p && q) ≡ true → p ≡ true
and_left true q h = refl
and_left false q h = h

-- and the second
pub and_right : (p q : Bool) → (p && q) ≡ true → q ≡ true
and_right true q h = h
and_right false q h = both_ways false h refl

-- and both where each does
pub and_both : (p q : Bool) → p ≡ true → q ≡ true → (p && q) ≡ true
and_both true q e f = f
and_both false q e f = e

-- where neither of two holds
pub or_neither : (p q : Bool) → (p || q) ≡ false → (p ≡ false) × (q ≡ false)
or_neither true q e = both_ways true refl e
or_neither false q e = (refl, e)

-- one of the two holds
pub or_either : (p q : Bool) → (p || q) ≡ true → (p ≡ true) ⊎ (q ≡ true)
or_either true q h = inl refl
or_either false q h = inr h

-- neither holds without the other
pub iff : (p q : Bool) → (p ≡ true → q ≡ true) → (q ≡ true → p ≡ true) → p ≡ q
iff true q f g = sym (f refl)
iff false true f g = g refl
iff false false f g = refl

-- a truth value is another one or its opposite
pub same_or_not : (p q : Bool) → (p ≡ q) ⊎ (p ≡ not q)
same_or_not true true = inl refl
same_or_not true false = inr refl
same_or_not false true = inr refl
same_or_not false false = inl refl

-- and never its own opposite
pub not_same : (p : Bool) → p ≡ not p → ⊥
not_same true e = both_ways true refl e
not_same false e = both_ways false e refl

-- a definition that goes by a test, once the test is known
module _ {A : Type 0} where
  pub when_true : (b : Bool) (x y : A) → b ≡ true → (elim b as (λ _. A) [ true ↦ x | false ↦ y ]) ≡ x
  when_true true x y e = refl
  when_true false x y e = cc

  pub when_false : (b : Bool) (x y : A) → b ≡ false → (elim b as (λ _. A) [ true ↦ x | false ↦ y ]) ≡ y
  when_false false x y e = refl
  when_false true x y e = cc
