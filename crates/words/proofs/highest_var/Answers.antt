-- `words::highest_var` meets its contract: leading zeros give the highest member's number. Assumes nothing.
use mathlib.Core.Path.{refl}
use Rattle.words.proofs.Highest.{highest_leading}
use Rattle.words.proofs.highest_var.Goals as goal

pub returns : goal.returns
returns c = highest_leading c.args.x _ c.requires c.ranges.x.fits refl
