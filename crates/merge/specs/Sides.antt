-- How a run ends, and a side's outcome with the work tables, as values of `steps`.
use Rattle.std.specs.Prelude.{List, ℕ}
use Rattle.steps.specs.State as state
use Rattle.steps.specs.State.{Side.up, Side.ended}
use Rattle.rows.specs.Values.{assignment_of}
use Rattle.rows.specs.Rows.{state_of}
use Rattle.rows.specs.Tally.{TalliedAt}
use Rattle.rows.specs.declared.clause.Assignment.{Assignment}
use Rattle.merge.specs.declared.Ending.{Ending}
use Rattle.merge.specs.declared.Ending.TheVariants as ending
use Rattle.merge.specs.declared.Side.{Side}
use Rattle.merge.specs.declared.Side.TheVariants as side

abbrev pub ending_of : Ending → state.Ending
ending_of ending.Can = state.Ending.can
ending_of ending.Cannot = state.Ending.cannot
ending_of ending.OutOfBranchings = state.Ending.out_of_branchings
ending_of ending.OutOfClauses = state.Ending.out_of_clauses

-- a side's outcome, with the work tables
abbrev pub side_of : List ℕ → List ℕ → Side → state.Side
side_of t rs (side.Up s) = up (state_of t rs s)
side_of t rs (side.Ended x a s) = ended (ending_of x) (assignment_of a) (state_of t rs s)

-- the tallies are those of the decisions and the list at which the side went up, from the decisions a, or ended
abbrev pub TalliedSide : List ℕ → List ℕ → List ℕ → Assignment → Side → Type 0
TalliedSide t q rs a (side.Up s) = TalliedAt t q rs (assignment_of a) s
TalliedSide t q rs a (side.Ended x d s) = TalliedAt t q rs (assignment_of d) s
