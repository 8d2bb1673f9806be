use Rattle.std.proofs.Common.{refl, sym, ap, ◌∙◌, arith}
use Rattle.order.specs.Values.{order_of}
use Rattle.book.specs.Values.{reading_of}
use Rattle.answer.specs.Numbers.{refusal_number}
use Rattle.contract.specs.Filled.{answer_of}
use Rattle.checker.specs.Lent.{tables_of}
use Rattle.checker.proofs.Working.{refused_checked, admitted_workable, filled_checked}
use Rattle.checker.proofs.check.Goals as goal

pub run_book-requires : goal.run_book-requires
run_book-requires c =
    admitted_workable c.args.book.now (order_of c.args.o) c.args.allowance _ c.complete.ensures _ _
    (sym (ap (λ r. reading_of r c.admit.new.t) c.in-Ok.is) ∙ c.admit.ensures)
    (omega (arith, c.admit.auto.t))

pub returns-in-Err-clause-checked : goal.returns-in-Err-clause-checked
unfolding answer_of
returns-in-Err-clause-checked c =
    refused_checked c.args.book.now (order_of c.args.o) c.args.allowance (refusal_number c.in-Err.refusal) (tables_of c.args.tables.now) _
    (sym (ap (λ r. reading_of r c.admit.new.t) c.in-Err.is) ∙ c.admit.ensures)
    refl

pub returns-in-Ok-clause-checked : goal.returns-in-Ok-clause-checked
returns-in-Ok-clause-checked c =
    filled_checked c.args.book.now (order_of c.args.o) c.args.allowance _ c.complete.ensures _ _ (tables_of c.args.tables.now) _ _
    (sym (ap (λ r. reading_of r c.admit.new.t) c.in-Ok.is) ∙ c.admit.ensures)
    c.run_book.ensures.promised
