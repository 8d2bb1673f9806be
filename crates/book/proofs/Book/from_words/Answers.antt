use Rattle.std.proofs.Common.{ap, ◌∙◌}
use native.Mathlib.Omega.{arith}
use Rattle.answer.proofs.Passing.{passed_on}
use Rattle.book.specs.Values.{reading_of}
use Rattle.book.proofs.Readings.{table_by, table_length, table_rules}
use Rattle.book.proofs.Book.from_words.Goals as goal

pub returns-in_err-b : goal.returns-in_err-b
returns-in_err-b c =
    ap (λ x. reading_of x c.args.t.now) (passed_on c.from_residual.result c.in_err-b.field-0.0 c.from_residual.ensures.1)
    ∙ table_by _ _ _ _ (c.in_err-b.ensures _ _)

pub returns-then-t-clauses : goal.returns-then-t-clauses
returns-then-t-clauses c =
    let in_limits = c.in_ok-b.ensures in
    table_length _ _ _ in_limits.vars_few in_limits.clauses_few (λ e. omega arith)

pub returns : goal.returns
returns c =
    let in_limits = c.in_ok-b.ensures in
    c.judge_rules.ensures ∙ rw (in_limits.vars, in_limits.clauses) (table_rules _ _ _ in_limits.vars_few in_limits.clauses_few (omega arith))
