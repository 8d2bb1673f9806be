use Rattle.std.proofs.Common.{◌<◌, true, false, subst, count_ones}
use Rattle.turns.specs.Turns.{Player.buyer as buyers-turn, Player.planner as planners-turn}
use Rattle.playing.proofs.Left.{ended, fewer, asked, not_first, then_second, first_serves, second_serves}
use Rattle.playing.proofs.game.+buyer_planner.Goals as goal

pub buyer-returns-then-t-eq0 : goal.buyer-returns-then-t-eq0
buyer-returns-then-t-eq0 t c = ended _ _ c.if-t-eq0.true buyers-turn _ c.wins.ensures

pub buyer-planner-requires : goal.buyer-planner-requires
buyer-planner-requires t c =
    (subst (λ j. count_ones c.leave_out.result.left < j) c.decreases (fewer _ c.if-t-eq0.false _ _ c.leave_out.ensures), tt)

pub buyer-planner-requires-then-planner : goal.buyer-planner-requires-then-planner
buyer-planner-requires-then-planner t c =
    (subst (λ j. count_ones c.fit.result.left < j) c.decreases (fewer _ c.if-t-eq0.false _ _ c.fit.ensures), tt)

pub buyer-returns-then-planner : goal.buyer-returns-then-planner
buyer-returns-then-planner t c =
    then_second _ _ c.if-t-eq0.false _ (asked _ _ false _ c.leave_out.ensures planners-turn _ c.planner.ensures) c.if-planner.true _
    (asked _ _ true _ c.fit.ensures planners-turn _ c.planner-then-planner.ensures)

pub buyer-returns-else-planner : goal.buyer-returns-else-planner
buyer-returns-else-planner t c =
    not_first _ _ c.if-t-eq0.false _ (asked _ _ false _ c.leave_out.ensures planners-turn _ c.planner.ensures) c.if-planner.false

pub planner-returns-then-t-eq0 : goal.planner-returns-then-t-eq0
planner-returns-then-t-eq0 t c = ended _ _ c.if-t-eq0.true planners-turn _ c.wins.ensures

pub planner-buyer-requires : goal.planner-buyer-requires
planner-buyer-requires t c =
    (subst (λ j. count_ones c.leave_out.result.left < j) c.decreases (fewer _ c.if-t-eq0.false _ _ c.leave_out.ensures), tt)

pub planner-buyer-requires-else-buyer : goal.planner-buyer-requires-else-buyer
planner-buyer-requires-else-buyer t c =
    (subst (λ j. count_ones c.fit.result.left < j) c.decreases (fewer _ c.if-t-eq0.false _ _ c.fit.ensures), tt)

pub planner-returns-then-buyer : goal.planner-returns-then-buyer
planner-returns-then-buyer t c =
    first_serves _ _ c.if-t-eq0.false _ (asked _ _ false _ c.leave_out.ensures buyers-turn _ c.buyer.ensures) c.if-buyer.true

pub planner-returns-else-buyer : goal.planner-returns-else-buyer
planner-returns-else-buyer t c =
    second_serves _ _ c.if-t-eq0.false _ (asked _ _ false _ c.leave_out.ensures buyers-turn _ c.buyer.ensures) c.if-buyer.false _
    (asked _ _ true _ c.fit.ensures buyers-turn _ c.buyer-else-buyer.ensures)
