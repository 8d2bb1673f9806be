-- The measure is the number of undecided variables: either side decides one more.
use lib.Count.{ones}
use Rattle.steps.specs.State.{undecided}
use Rattle.rows.specs.Values.{assignment_of, env_of}
use Rattle.search.proofs.branch.+branch.Given as goal

abbrev pub decreases-branch : goal.decreases-branch
decreases-branch l = ones (undecided (env_of l.e) (assignment_of l.a))
