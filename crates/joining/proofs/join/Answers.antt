use Rattle.std.proofs.Common.{arith}
use Rattle.answer.proofs.Passing.{passed_on}
use Rattle.joining.proofs.Joined.{held, first_refused, second_refused, both_read}
use Rattle.joining.proofs.join.Goals as goal

pub returns-in_err-a : goal.returns-in_err-a
returns-in_err-a c =
    rw (passed_on c.from_residual.result c.in_err-a.field-0.0 c.from_residual.ensures.1) (first_refused _ _ _ _ _ c.in_err-a.ensures)

pub returns-in_err-b : goal.returns-in_err-b
returns-in_err-b c =
    rw (passed_on c.from_residual-in_err-b.result c.in_err-b.field-0.0 c.from_residual-in_err-b.ensures.1)
    (second_refused _ _ _ _ _ _ _ c.in_ok-a.ensures c.in_err-b.ensures)

pub join_books-requires : goal.join_books-requires
join_books-requires c = (held _ _ _ (omega arith) c.in_ok-a.ensures, held _ _ _ (omega arith) c.in_ok-b.ensures)

pub returns : goal.returns
returns c = both_read _ _ _ _ _ _ _ _ _ _ c.in_ok-a.ensures c.in_ok-b.ensures c.join_books.ensures
