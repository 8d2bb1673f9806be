use mathlib.Core.Path.{sym, ap, ◌∙◌}
use Rattle.book.specs.Values.{reading_of}
use Rattle.answer.proofs.Passing.{passed_on}
use Rattle.book.proofs.Accepted.{admit_refused, admit_book}
use Rattle.book.proofs.Book.admit.Goals as goal

pub returns-in_err-b : goal.returns-in_err-b
returns-in_err-b c =
    ap (λ x. reading_of x c.from_bytes.new.t) (passed_on c.from_residual.result c.in_err-b.field-0.0 c.from_residual.ensures.1)
    ∙ admit_refused _ _ _ c.in_err-b.ensures

pub returns : goal.returns
returns c =
    c.judge_order.ensures c.from_bytes.new.t
    ∙ admit_book _ _ _ _ (ap (λ x. reading_of x c.from_bytes.new.t) (sym c.in_ok-b.was) ∙ c.from_bytes.ensures)
