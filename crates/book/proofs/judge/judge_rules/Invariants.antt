use Rattle.std.proofs.Common.{◌≡◌, ◌-◌}
use Rattle.rows.specs.Rows.{from, clause_at, clauses}
use Rattle.book.specs.Refusals.{first_row, rule_rows}
use Rattle.book.proofs.judge.judge_rules.Given as goal

-- the first row that holds of all clauses is that of the clauses from the i-th on
abbrev pub invariant-loop-i : goal.invariant-loop-i
invariant-loop-i l =
    first_row (rule_rows l.b.vars (clauses l.t l.b.clauses)) ≡ first_row (rule_rows l.b.vars (from (clause_at l.t) l.i (l.b.clauses - l.i)))
