use Rattle.order.specs.Values.{order_of}
use Rattle.answer.specs.Numbers.{by_number}
use Rattle.checker.specs.Lent.{tables_of}
use Rattle.report.proofs.Writing.{printed_as}
use Rattle.layout.proofs.Checked.{checked_told}
use Rattle.layout.proofs.check_by.Goals as goal

pub put_page-requires-clause-fit : goal.put_page-requires-clause-fit
put_page-requires-clause-fit c =
    rw c.from.ensures (checked_told c.args.book.now (order_of c.args.o) c.args.allowance (tables_of c.args.tables) c.ranges.allowance.fits c.requires.places (by_number c.check-found.result) (tables_of c.check-found.new.tables) c.check-found.ensures.checked).fit

pub returns : goal.returns
returns c =
    printed_as
    (checked_told c.args.book.now (order_of c.args.o) c.args.allowance (tables_of c.args.tables) c.ranges.allowance.fits c.requires.places (by_number c.check-found.result) (tables_of c.check-found.new.tables) c.check-found.ensures.checked).page
    (rw c.from.ensures at c.put_page.ensures)
