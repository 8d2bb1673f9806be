-- The marked cases, the further ones and the covered ones have the outcomes beside them, by computation: every definition of the steps computes.
use mathlib.Core.Path.{refl}
use lib.Count.{ones, ones_in}
use Rattle.words.specs.Words.{minus, meets, first_vars, lowest, members_up_to, members}
use Rattle.steps.specs.Clause.{vars, keepers, satisfied, falsified, names, undecided_in, without}
use Rattle.steps.specs.State.{undecided, live}
use Rattle.steps.specs.Sweep.{all_inactive, monotone, first_monotone, sweep}
use Rattle.steps.specs.Enter.{unit, swept, falsified_naming, enter}
use Rattle.steps.specs.Merge.{covers, resolvent, join, merge}
use Rattle.steps.specs.Search.{step, search}
use Rattle.steps.specs.Run.{units, finish, searched, run}
use Rattle.steps.specs.Marked.{marked, further, covered}
use Rattle.steps.specs.Demands.{MarkedCases, FurtherCases, CoveredCases}

-- the marked cases
pub marked_cases : MarkedCases
unfolding
    marked minus meets first_vars lowest members_up_to members ones ones_in vars keepers satisfied falsified names undecided_in without undecided live
    all_inactive monotone first_monotone sweep unit swept falsified_naming enter covers resolvent join merge step search units finish searched run
marked_cases = refl

-- the further ones
pub further_cases : FurtherCases
unfolding
    further minus meets first_vars lowest members_up_to members ones ones_in vars keepers satisfied falsified names undecided_in without undecided live
    all_inactive monotone first_monotone sweep unit swept falsified_naming enter covers resolvent join merge step search units finish searched run
further_cases = refl

-- the covered ones
pub covered_cases : CoveredCases
unfolding
    covered minus meets first_vars lowest members_up_to members ones ones_in vars keepers satisfied falsified names undecided_in without undecided live
    all_inactive monotone first_monotone sweep unit swept falsified_naming enter covers resolvent join merge step search units finish searched run
covered_cases = refl
