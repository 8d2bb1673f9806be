-- The examples of tallies, by computing them.
use mathlib.Core.Path.{refl}
use lib.Count.{ones, ones_in}
use Rattle.words.specs.Words.{has, minus, meets, first_vars, lowest, members_up_to, members}
use Rattle.steps.specs.Clause.{vars, keepers, satisfied, falsified, names, undecided_in, without}
use Rattle.steps.specs.State.{undecided, live}
use Rattle.steps.specs.Sweep.{all_inactive, monotone, first_monotone, sweep}
use Rattle.steps.specs.Tally.{tally_of, withdrawn, unstruck, tallies_at}
use Rattle.steps.specs.Enter.{unit, swept, falsified_naming, enter}
use Rattle.steps.specs.Merge.{covers, resolvent, join, merge}
use Rattle.steps.specs.Search.{step, search}
use Rattle.steps.specs.Run.{searched}
use Rattle.steps.specs.Demands.{TalliesLeft}

pub tallies_left_lem : TalliesLeft
unfolding
    has minus meets first_vars lowest members_up_to members ones ones_in vars keepers satisfied falsified names undecided_in without undecided live
    all_inactive monotone first_monotone sweep unit swept falsified_naming enter covers resolvent join merge step search searched tally_of withdrawn unstruck tallies_at
tallies_left_lem = record { can = refl; cannot = refl; branchings = refl; places = refl; kept_twice = refl; dropped = refl }
