-- The cases that are written out, by computation.
use mathlib.Core.Path.{refl}
use mathlib.Core.List.Permᴰ
use lib.Count.{ones, ones_in}
use Rattle.words.specs.Words.{has, minus, meets, first_vars, lowest, members_up_to, members}
use Rattle.steps.specs.Clause.{vars, keepers, satisfied, falsified, names, undecided_in, without}
use Rattle.steps.specs.State.{undecided, live}
use Rattle.steps.specs.Sweep.{all_inactive, monotone, first_monotone, sweep}
use Rattle.steps.specs.Enter.{unit, swept, falsified_naming, enter}
use Rattle.steps.specs.Merge.{covers, resolvent, join, merge}
use Rattle.steps.specs.Search.{step, search}
use Rattle.steps.specs.Run.{units, finish, searched, run}
use Rattle.steps.specs.Worst.{forbidding, all_rules}
use Rattle.worst.specs.Demands.{Examples}

pub examples : Examples
unfolding
    has minus meets first_vars lowest members_up_to members ones ones_in vars keepers satisfied falsified names undecided_in without undecided live
    all_inactive monotone first_monotone sweep unit swept falsified_naming enter covers resolvent join merge step search units finish searched run
    forbidding all_rules
examples = record { ascending = refl; descending = refl; arranged = λ n. Permᴰ.symm (Permᴰ.reverse (all_rules n)) }
