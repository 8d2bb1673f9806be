use Rattle.std.proofs.Common.{ap}
use Rattle.turns.specs.Turns.{wins}
use Rattle.playing.proofs.Played.{too_many, few_enough}
use Rattle.playing.proofs.play.Goals as goal

pub returns-then-count_of-gt-MAX_FREE : goal.returns-then-count_of-gt-MAX_FREE
returns-then-count_of-gt-MAX_FREE c = too_many _ _ _ _ _ c.free-free.ensures c.count_of.ensures c.if-count_of-gt-MAX_FREE.true

pub returns : goal.returns
returns c =
    let completed = c.complete-order.ensures in
    few_enough _ _ _ _ _ c.free-free.ensures c.count_of.ensures c.if-count_of-gt-MAX_FREE.false _ (ap (wins _) completed) _ (ap (λ a. a.pos) completed) _ c.tell.ensures
