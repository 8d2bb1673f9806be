use Rattle.playing.proofs.Kept.{breaks_is}
use Rattle.playing.proofs.game.breaks.Goals as goal

pub returns : goal.returns
returns c = breaks_is _ _ _ c.minus.ensures
