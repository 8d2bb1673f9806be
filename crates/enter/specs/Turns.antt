-- A turn, with the work tables, as a value of `steps`, and what entering a point asks.
use Rattle.std.specs.Prelude.{List, ℕ}
use Rattle.steps.specs.Enter as step
use Rattle.steps.specs.Enter.{Turn.back, Turn.satisfiable, Turn.branch}
use Rattle.words.specs.Words.{Within}
use Rattle.steps.specs.State.{undecided as undecided_at}
use Rattle.rows.specs.Values.{assignment_of, env_of}
use Rattle.rows.specs.Rows.{state_of}
use Rattle.rows.specs.Tally.{Tallied}
use Rattle.rows.specs.declared.clause.Assignment.{Assignment}
use Rattle.rows.specs.declared.state.Counts.{Counts}
use Rattle.rows.specs.declared.state.Env.{Env}
use Rattle.enter.specs.declared.Turn.{Turn}
use Rattle.enter.specs.declared.Turn.TheVariants as turn

abbrev pub turn_of : List ℕ → List ℕ → Turn → step.Turn
turn_of t rs (turn.Back s) = back (state_of t rs s)
turn_of t rs (turn.Satisfiable s) = satisfiable (state_of t rs s)
turn_of t rs (turn.Branch v b s) = branch v b (state_of t rs s)

-- the counts that a turn comes with
abbrev pub counts_of : Turn → Counts
counts_of (turn.Back s) = s
counts_of (turn.Satisfiable s) = s
counts_of (turn.Branch v b s) = s

-- the tallies are those of the struck set k, of undecided variables
pub record Entering (t q : List ℕ) (e : Env) (a : Assignment) (k : ℕ) (s : Counts) : Type 0 where
  pub undecided : Within k (undecided_at (env_of e) (assignment_of a))
  pub tallied : Tallied t q s.clauses (assignment_of a) k
