-- No clause of the table after the given ones is covered by an earlier one: step 7 adds a clause only where the table has none that covers it, and at its
-- end. Every other change leaves the table as it is, so the search keeps that.
use mathlib.Core.Path.{◌≡◌, refl, sym, ap, ◌∙◌}
use mathlib.Core.List.{List, [], ◌∷◌, ◌++◌, append_assoc}
use mathlib.Core.Logic.{◌⊎◌, inl, inr, ⊎_elim}
use mathlib.Core.Option.{none}
use Prim.Native.Nat.{ℕ, ◌+◌}
use native.Mathlib.Omega.{arith}
use lib.ListN.{length, drop, length-append}
use lib.Seq.{drop-append_seam}
use Rattle.words.proofs.Truth.{clash}
use Rattle.steps.specs.Clause.{Clause}
use Rattle.steps.specs.State.{Env, State, Side, Side.up, Side.ended, added}
use Rattle.steps.specs.Merge.{cover}
use Rattle.steps.specs.Run.{given, no_decisions, start, searched, run}
use Rattle.steps.specs.Search.{search}
use Rattle.steps.specs.Demands.{NoneCovers, NeverCovered}
use Rattle.steps.proofs.Covers.{cover_none}
use Rattle.steps.proofs.Keeps.{Leaves, Keeping, keeps_search}
use Rattle.steps.proofs.LockstepGrows.{at, grows_search}
use Rattle.steps.proofs.Allowances.{finish_derived}

-- in a list with x at its end, an element is that last one or stands before it
at_end :
    {A : Type 0} (xs : List A) (x : A) (ys : List A) (y : A) (zs : List A) → xs ++ (x ∷ []) ≡ ys ++ (y ∷ zs) →
    ((xs ≡ ys) × (x ≡ y)) ⊎ ((ws : List A) × (xs ≡ ys ++ (y ∷ ws)))
at_end [] x [] y zs h = inl (refl, cc)
at_end [] x (z ∷ []) y zs h = clash cc
at_end [] x (z ∷ (z' ∷ ys)) y zs h = clash cc
at_end (z ∷ xs) x [] y zs h = inr (xs, cc)
at_end {A} (z ∷ xs) x (z' ∷ ys) y zs h =
    let rest : xs ++ (x ∷ []) ≡ ys ++ (y ∷ zs) = cc in
    let head : z ≡ z' = cc in
    ⊎_elim (λ l. inl (let same = l.0 in cc, l.1)) (λ l. inr (l.0, let same = l.1 in cc)) (at_end xs x ys y zs rest)

module _ (t : List Clause) where
  -- no clause after those of t is covered by an earlier one
  abbrev Uncovered : State → Type 0
  Uncovered s = (before after : List Clause) (c : Clause) → s.table ≡ (t ++ before) ++ (c ∷ after) → NoneCovers (t ++ before) c

  -- nor is one that is added where none covers it
  uncovered_added : (c : Clause) (s : State) → cover c s.table ≡ none → Uncovered s → Uncovered (added c s)
  uncovered_added c s new h before after d is =
      ⊎_elim
      (λ l g m. rw (sym l.1) (cover_none c s.table new g (rw l.0 m)))
      (λ l. h before l.0 d l.1)
      (at_end s.table c (t ++ before) d after is)

  -- every change keeps that
  uncovering : (e : Env) → Keeping e Uncovered (λ x. Uncovered)
  uncovering e =
      record {
        merging =
            record {
              listed = λ l h before after c is. h before after c (sym l.table ∙ is);
              relisted = λ l h before after c is. h before after c (sym l.table ∙ is);
              none_added = λ h. h;
              clause_added = λ c s new z l h. uncovered_added c s new h;
              empty_added = λ c s new z l h. uncovered_added c s new h;
              empty_found = λ s h. h;
              full = λ s l h. h;
            };
        branching = λ s l h. h;
        spent = λ s l h. h;
        satisfied = λ s h. h;
      }

  -- in the state in which a side leaves off
  uncovered_at : (x : Side) → Leaves Uncovered (λ y. Uncovered) x → Uncovered (at x)
  uncovered_at (up s) h = h
  uncovered_at (ended y d s) h = h

  -- a table that is t has nothing after it
  uncovered_start : Uncovered (start t)
  uncovered_start before after c is =
      let lengths = ap length is ∙ length-append (t ++ before) (c ∷ after) ∙ ap (λ (k : ℕ). k + length (c ∷ after)) (length-append t before) in
      absurd (omega (arith, lengths))

-- so it is of every run
pub never_covered : NeverCovered
unfolding run searched
never_covered n book o allowance places before after c is =
    let t = given book o in
    let e : Env = record { n = n; allowance = allowance; capacity = length t + places } in
    let x = search e n no_decisions 0 (start t) in
    let grown = grows_search e n no_decisions 0 (start t) in
    uncovered_at t x (keeps_search (uncovering t e) n no_decisions 0 (start t) (uncovered_start t)) before after c
    (grown.table
    ∙ ap (λ (l : List Clause). t ++ l)
    (sym (drop-append_seam t grown.more) ∙ ap (drop (length t)) (sym grown.table) ∙ sym (finish_derived n (length t) x) ∙ is)
    ∙ sym (append_assoc t before (c ∷ after)))
