use Rattle.std.proofs.Common.{sym, ap}
use Rattle.order.specs.Values.{order_of}
use Rattle.checker.specs.Lent.{tables_of}
use Rattle.undecided.specs.Undecided.{Left}
use Rattle.undecided.specs.Values.{tried_of}
use Rattle.undecided.proofs.Demands.{last_fits}
use Rattle.telling.proofs.undecided.Goals as goal

pub word_of-requires-in-Ok : goal.word_of-requires-in-Ok
word_of-requires-in-Ok c =
    let a = c.args in
    last_fits a.book.now (order_of a.o) a.opens a.allowance (tables_of a.tables.now) (tried_of c.in-Ok.found) c.ranges.allowance.fits
    (sym (ap (λ (l : Left). l.reply) c.in-Ok.ensures.replies.left))
