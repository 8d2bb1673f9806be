use Rattle.std.proofs.Common.{◌≡◌, ap, ◌∙◌}
use native.Mathlib.Omega.{arith}
use Rattle.answer.proofs.Passing.{passed_on}
use Rattle.book.specs.Bytes.{vars_in, count_in}
use Rattle.book.specs.Reading.{read_rules}
use Rattle.book.specs.Values.{reading_of}
use Rattle.book.proofs.Readings.{read_short, read_by, read_length, read_rules_lem}
use Rattle.book.proofs.Book.from_bytes.Goals as goal

pub returns-then-bytes-lt3 : goal.returns-then-bytes-lt3
returns-then-bytes-lt3 c = read_short _ c.if-bytes-lt3.true

pub returns-in_err-b : goal.returns-in_err-b
returns-in_err-b c =
    let sizes : c.from-clauses.result ≡ count_in c.args.bytes.now = omega (arith, c.from-clauses.ensures, c.from_le_bytes.ensures) in
    ap (λ x. reading_of x c.args.t.now) (passed_on c.from_residual.result c.in_err-b.field-0.0 c.from_residual.ensures.1)
    ∙ read_by _ (omega arith) _ (rw (c.from-vars.ensures, sizes) at c.in_err-b.ensures _ _)

pub returns-then-bytes-clauses : goal.returns-then-bytes-clauses
returns-then-bytes-clauses c =
    let in_limits = c.in_ok-b.ensures in
    read_length _ (omega arith) (omega (arith, in_limits.vars_few)) (omega (arith, in_limits.clauses_few)) (λ e. omega arith)

pub returns : goal.returns
returns c =
    let in_limits = c.in_ok-b.ensures in
    let sizes : c.from-clauses.result ≡ count_in c.args.bytes.now = omega (arith, c.from-clauses.ensures, c.from_le_bytes.ensures) in
    c.judge_rules.ensures
    ∙ rw (in_limits.vars, in_limits.clauses, c.from-vars.ensures, sizes) (ap (read_rules (vars_in c.args.bytes.now)) (rw sizes at c.copy_clauses.ensures))
    ∙ read_rules_lem _ (omega arith) (omega (arith, in_limits.vars_few)) (omega (arith, in_limits.clauses_few)) (omega (arith, in_limits.vars))
