use mathlib.Core.Path.{◌≡◌, sym, ap, ◌∙◌}
use mathlib.Core.List.{List, ◌∷◌}
use mathlib.Core.Option.{none}
use Prim.Native.Nat.{ℕ, ◌+◌, ◌-◌, ◌≤◌, ◌<◌}
use native.Mathlib.Nat.{sub-zero}
use Rattle.steps.specs.Clause.{Clause}
use Rattle.rows.specs.Rows.{from, clause_at, clauses}
use Rattle.rows.proofs.Lists.{from_step, from_end}
use Rattle.book.specs.Refusals.{first_row, rule_rows}
use Rattle.book.proofs.Refusals.{first_none}
use Rattle.book.proofs.Readings.{refused_by, book_by}
use Rattle.book.proofs.Tests.{rule_above, rule_both, rule_passed}
use Rattle.book.proofs.judge.judge_rules.Goals as goal

-- the first row that holds of the clauses from the i-th on is that of all m
abbrev Left : ℕ → ℕ → List ℕ → ℕ → Type 0
Left n m t i = first_row (rule_rows n (clauses t m)) ≡ first_row (rule_rows n (from (clause_at t) i (m - i)))

-- before the first turn
begin : (n m : ℕ) (t : List ℕ) → Left n m t 0
unfolding clauses
begin n m t = rw sub-zero

-- none is left
done : (n m : ℕ) (t : List ℕ) (i : ℕ) → m ≤ i → Left n m t i → first_row (rule_rows n (clauses t m)) ≡ none
unfolding rule_rows
done n m t i h inv = inv ∙ ap (λ (l : List Clause). first_row (rule_rows n l)) (from_end (clause_at t) i m h) ∙ first_none

-- a turn: c is the i-th
turn : (n m : ℕ) (t : List ℕ) (i : ℕ) (c : Clause) → i < m → c ≡ clause_at t i → Left n m t i
    → first_row (rule_rows n (clauses t m)) ≡ first_row (rule_rows n (c ∷ from (clause_at t) (i + 1) (m - (i + 1))))
turn n m t i c few read inv =
    inv ∙ ap (λ (l : List Clause). first_row (rule_rows n l)) (from_step (clause_at t) i m few)
    ∙ ap (λ (d : Clause). first_row (rule_rows n (d ∷ from (clause_at t) (i + 1) (m - (i + 1))))) (sym read)

pub loop-i-init : goal.loop-i-init
loop-i-init c = begin _ _ _

pub returns-then-above : goal.returns-then-above
returns-then-above c =
    refused_by _ _ _ _ (turn _ _ _ _ _ c.loop-i-test.true c.clause_at-c.ensures c.loop-i.invariant ∙ rule_above _ _ _ (sym c.names_above-above.ensures ∙ c.if-above.true))

pub returns-then-both : goal.returns-then-both
returns-then-both c =
    refused_by _ _ _ _
    (turn _ _ _ _ _ c.loop-i-test.true c.clause_at-c.ensures c.loop-i.invariant
    ∙ rule_both _ _ _ (sym c.names_above-above.ensures ∙ c.if-above.false) (sym c.meets-both.ensures ∙ c.if-both.true))

pub loop-i-preserved : goal.loop-i-preserved
loop-i-preserved c =
    turn _ _ _ _ _ c.loop-i-test.true c.clause_at-c.ensures c.loop-i.invariant
    ∙ rule_passed _ _ _ (sym c.names_above-above.ensures ∙ c.if-above.false) (sym c.meets-both.ensures ∙ c.if-both.false)

pub returns : goal.returns
returns c = book_by _ _ _ (done _ _ _ _ c.loop-i-test.false c.loop-i.invariant)
