use Rattle.std.proofs.Common.{ap, ◌∙◌}
use mathlib.Core.Path.{subst⁻¹}
use Rattle.order.specs.Values.{order_of}
use Rattle.answer.proofs.Passing.{passed_on}
use Rattle.book.specs.Refusals.{first_row}
use Rattle.contract.specs.Check.{Lengths}
use Rattle.undecided.specs.Undecided.{undecided_rows, Replies}
use Rattle.undecided.specs.Values.{Reply, reply_of}
use Rattle.checker.specs.Lent.{tables_of}
use Rattle.trying.proofs.Going.{replies_refused, replies_tried}
use Rattle.trying.proofs.undecided.Goals as goal

pub returns-in_err-admit-clause-replies : goal.returns-in_err-admit-clause-replies
returns-in_err-admit-clause-replies c =
    let a = c.args in
    subst⁻¹ (λ (r : Reply). Replies a.book.now (order_of a.o) a.opens a.allowance (tables_of a.tables.now) r (tables_of a.tables.now))
    (ap reply_of (passed_on c.from_residual.result c.in_err-admit.field-0.0 c.from_residual.ensures.1))
    (replies_refused a.book.now (order_of a.o) a.opens a.allowance (tables_of a.tables.now) _
    (c.in_err-admit.ensures ∙ ap (λ (l : Lengths). first_row (undecided_rows a.book.now (order_of a.o) a.opens l)) c.lengths.ensures))

pub returns-clause-replies : goal.returns-clause-replies
returns-clause-replies c =
    let a = c.args in
    replies_tried a.book.now (order_of a.o) a.opens a.allowance (tables_of a.tables.now) _ _ _
    (c.in_ok-admit.ensures ∙ ap (λ (l : Lengths). first_row (undecided_rows a.book.now (order_of a.o) a.opens l)) c.lengths.ensures)
    c.all.ensures.zeroed
    c.try_all.ensures.tries_all
