use Rattle.std.proofs.Common.{count_ones}
use Rattle.playing.proofs.game.+buyer_planner.Given as goal

-- how many options are left
abbrev pub decreases-buyer : goal.decreases-buyer
decreases-buyer l = count_ones l.t.left

abbrev pub decreases-planner : goal.decreases-planner
decreases-planner l = count_ones l.t.left
