-- Back up from the starting point the list is handed out as it is.
use Rattle.std.proofs.Common.{ap, sym, subst}
use Rattle.steps.specs.State.{Ending.can}
use Rattle.steps.specs.Run.{Outcome, finish}
use Rattle.answer.specs.Numbers.{by_number}
use Rattle.merge.specs.Sides.{side_of}
use Rattle.merge.specs.declared.Side.{Side}
use Rattle.search.specs.Values.{Handed}
use Rattle.search.proofs.Handing.{handed}
use Rattle.search.proofs.run.finish.Goals as goal

pub returns-in-Up : goal.returns-in-Up
unfolding finish
returns-in-Up c t =
    let x = c.args in
    subst
    (λ (o : Outcome). Handed t x.rs.now x.m (by_number c.told.result) o)
    (sym (ap (λ (y : Side). finish x.vars x.m (side_of t x.rs.now y)) c.in-Up.is))
    (handed t x.rs.now x.m can c.in-Up.s c.tally.result (by_number c.told.result) c.tally.ensures c.told.ensures)
