-- `rows::tallies::withdraw` meets its contract: a decision that is withdrawn changes the counts as `withdrawing` says (`Shifts`), and the walk over the blocks does the rest.
use Rattle.rows.proofs.Shifts.{withdrawing, leads_by, shiftable}
use Rattle.rows.proofs.Walks.{number_is, variable_below}
use Rattle.rows.proofs.tallies.withdraw.Goals as goal

pub change-requires : goal.change-requires
change-requires c =
    let g = c.args in
    let pre = c.requires in
    let x = pre.variable in (
      pre.tallied.room,
      shiftable
          pre.table
          (λ i. (c.type_inv.t i).fits)
          (variable_below c.lowest_var.ensures x)
          pre.tallied
          (withdrawing g.t.now g.m pre.proper x.word (number_is c.lowest_var.ensures x x.word) pre.free g.b c.withdrawing.ensures),
    )

pub returns : goal.returns
returns c v a k is free =
    let g = c.args in
    c.change.ensures _ _ k (leads_by (withdrawing g.t.now g.m c.requires.proper is (number_is c.lowest_var.ensures c.requires.variable is) free g.b c.withdrawing.ensures))
