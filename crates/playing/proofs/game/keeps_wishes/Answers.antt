use Rattle.std.proofs.Common.{sym, ◌∙◌}
use Rattle.playing.proofs.Kept.{unwanted_fitted, by_wanted}
use Rattle.playing.proofs.game.keeps_wishes.Goals as goal

pub returns-then-meets : goal.returns-then-meets
returns-then-meets c = unwanted_fitted _ _ (sym c.meets.ensures ∙ c.if-meets.true)

pub returns : goal.returns
returns c = by_wanted _ _ _ (sym c.meets.ensures ∙ c.if-meets.false) c.minus.ensures
