use Rattle.std.proofs.Common.{sym, ap, ◌∙◌}
use Rattle.rows.specs.Rows.{clauses}
use Rattle.book.specs.Values.{reading_of}
use Rattle.answer.proofs.Passing.{passed_on}
use Rattle.trying.specs.Values.{judged_of}
use Rattle.trying.proofs.Rows.{not_admitted, was_admitted}
use Rattle.trying.proofs.judge.admit.Goals as goal

pub returns-in_err-b : goal.returns-in_err-b
returns-in_err-b c =
    ap judged_of (passed_on c.from_residual.result c.in_err-b.field-0.0 c.from_residual.ensures.1)
    ∙ not_admitted _ _ _ _ _ c.in_err-b.ensures

pub returns : goal.returns
returns c =
    c.after_order.ensures
    ∙ was_admitted _ _ _ _ c.in_ok-b.b.vars (clauses c.admit.new.t c.in_ok-b.b.clauses)
    (sym (ap (λ r. reading_of r c.admit.new.t) c.in_ok-b.was) ∙ c.admit.ensures)
