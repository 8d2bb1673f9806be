use Rattle.order.specs.Values.{order_of}
use Rattle.contract.specs.Filled.{lent}
use Rattle.contract.proofs.Demands.{checked_fits}
use Rattle.checker.specs.Lent.{tables_of}
use Rattle.serving.proofs.Lending.{cut_tables, put_tables, served_part}
use Rattle.serving.proofs.serve.Goals as goal

pub word_of-requires : goal.word_of-requires
word_of-requires c = checked_fits _ _ _ _ _ _ c.check_on-found.ensures c.ranges.allowance.fits

pub returns-clause-served : goal.returns-clause-served
returns-clause-served c =
    let a = c.args in
    let t = tables_of a.tables.now in
    let new = c.check_on-found.new in
    served_part a.book.now (order_of a.o) a.allowance a.k a.i t _ _ c.check_on-found.ensures c.word_of.ensures
    (cut_tables a.k a.i t c.part-in_pos.ensures c.part-in_neg.ensures c.part-in_decided.ensures c.part-in_trues.ensures c.part-in_redundant.ensures)
    (put_tables a.k a.i t c.part-in_pos.ensures c.part-in_neg.ensures c.part-in_decided.ensures c.part-in_trues.ensures c.part-in_redundant.ensures
    (lent new.pos new.neg new.decided new.trues new.redundant))
