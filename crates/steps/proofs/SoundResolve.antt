-- The resolvent of step 7 follows from its parents. A choice that keeps the clauses falsified on the two sides of a branching over w keeps their
-- resolvent: it has w as on one side, and what keeps that side's clause is a literal of another variable.
use mathlib.Core.Path.{◌≡◌, sym, ◌∙◌}
use mathlib.Core.Logic.{inl, inr, ⊎_elim}
use mathlib.Core.Bool.{Bool, true, false, not}
use Prim.Native.Nat.{ℕ}
use Rattle.words.specs.Words.{has, Within}
use Rattle.words.proofs.Truth.{refuted, same_or_not, not_same}
use Rattle.steps.specs.Clause.{Clause, literals, Assignment, decide}
use Rattle.steps.specs.State.{Env, undecided}
use Rattle.steps.specs.Merge.{resolvent}
use Rattle.steps.specs.Shape.{OneOf}
use Rattle.steps.proofs.Models.{Satisfied, Satisfied.at}
use Rattle.steps.proofs.Literals.{Falsified}
use Rattle.steps.proofs.Resolvent.{literal_resolvent}
use Rattle.steps.proofs.SoundJoin.{decided_value, same_value}

module _ (e : Env) (a : Assignment) (w : ℕ) (one : OneOf w (undecided e a)) (trues : Within a.trues a.decided) where
  -- a choice with a side's value keeps a clause falsified there by a literal other than w's
  kept_elsewhere :
      (b : Bool) (c : Clause) → Falsified (decide a w b) c → (x : ℕ) → has x one.var ≡ b → (σ : Bool) (k : ℕ) → has (literals σ c) k ≡ true →
      has x k ≡ σ → has w k ≡ false
  kept_elsewhere b c f x v σ k l h =
      refuted (has w k)
      (λ m. not_same σ (sym h ∙ same_value e a w one trues x b v k m ∙ sym (decided_value e a w one trues b k m) ∙ (f σ k l).1))

  module _ (b : Bool) (c d : Clause) (f : Falsified (decide a w b) c) (g : Falsified (decide a w (not b)) d) where
    -- the resolvent follows from its parents
    pub resolvent_follows : (x : ℕ) → Satisfied x c → Satisfied x d → Satisfied x (resolvent w c d)
    resolvent_follows x (at k σ l h) (at i τ m j) =
        ⊎_elim
        (λ v. at k σ (literal_resolvent w c d σ k (kept_elsewhere b c f x v σ k l h) (inl l)) h)
        (λ v. at i τ (literal_resolvent w c d τ i (kept_elsewhere (not b) d g x v τ i m j) (inr m)) j)
        (same_or_not (has x one.var) b)
