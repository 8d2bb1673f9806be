-- Clauses put into a work table one after another: those in it, and those still to come after them, stay the same list.
use mathlib.Core.Path.{◌≡◌, sym, ap, ◌∙◌}
use mathlib.Core.List.{List, ◌∷◌, ◌++◌}
use Prim.Native.Nat.{ℕ, ◌+◌, ◌≤◌}
use lib.ListN.{length, length-append}
use lib.Seq.{append_snoc}
use Rattle.steps.specs.Clause.{Clause}
use Rattle.rows.specs.Rows.{clause_words, clauses, put_clause}
use Rattle.rows.proofs.Tables.{clauses_length, put_clause_at_end}

-- a store after the last clause takes the first of those to come
pub put_next : (t : List ℕ) (i : ℕ) (c : Clause) (cs : List Clause) → clause_words (i + 1) ≤ length t
    → clauses (put_clause t i c) (i + 1) ++ cs ≡ clauses t i ++ (c ∷ cs)
put_next t i c cs h = ap (λ (l : List Clause). l ++ cs) (put_clause_at_end t i c h) ∙ append_snoc (clauses t i) c cs

-- as many clauses more as were put
pub more_clauses : (t t' : List ℕ) (m r : ℕ) (cs : List Clause) → clauses t' r ≡ clauses t m ++ cs → r ≡ m + length cs
more_clauses t t' m r cs e =
    sym (clauses_length t' r) ∙ ap length e ∙ length-append (clauses t m) cs ∙ ap (λ (k : ℕ). k + length cs) (clauses_length t m)
