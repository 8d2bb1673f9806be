-- Steps 2 to 4 and the choice of step 5: what there is to do at a branching point.
use Rattle.std.specs.Prelude.{Bool, true, false, not, ◌&&◌, List, ℕ, eqb}
use Rattle.std.proofs.Math.Option.{Option, some, none}
use Rattle.words.specs.Words.{is_zero, minus, lowest}
use Rattle.steps.specs.Lists.{find, any}
use Rattle.steps.specs.Clause.{Clause, vars, Assignment, satisfied, falsified, names, undecided_in}
use Rattle.steps.specs.State.{Env, State, redundant, live, append_falsified}
use Rattle.steps.specs.Sweep.{sweep}

-- go back up, end with "can", or branch over a variable with the value of its first side
pub data Turn : Type 0 where
  back satisfiable : State → Turn
  branch : ℕ → Bool → State → Turn

-- step 5: not satisfied, naming no redundant variable, with exactly one undecided literal
unfoldable pub unit : Assignment → ℕ → Clause → Bool
unit a k c = not (satisfied a c) && (not (names k c) && eqb (undecided_in a c) 1)

-- step 5: the unit clause's variable, its literal made true, or else the lowest live variable, left out
abbrev pub choose : Env → Assignment → State → Option Clause → Turn
choose e a s none = branch (lowest (live e a s)) false s
choose e a s (some c) = branch (minus (vars c) a.decided) (not (is_zero (minus c.pos a.decided))) s

-- step 4, and else step 5
unfoldable pub swept : Env → Assignment → State → Turn
swept e a s =
    elim (is_zero (live e a s)) [
      | true ↦ elim (any (falsified a) s.table) [ true ↦ back s | false ↦ satisfiable s ]
      | false ↦ choose e a s (find (unit a (redundant s)) s.table)
    ]

-- the lowest-numbered falsified clause that names v
unfoldable pub falsified_naming : ℕ → Assignment → List Clause → Option Clause
falsified_naming v a t = find (λ c. names v c && falsified a c) t

-- step 2 where there is such a clause, and else step 3 and what follows
abbrev pub conflict : Env → Assignment → State → Option Clause → Turn
conflict e a s none = swept e a (sweep e a e.n s)
conflict e a s (some c) = elim (is_zero (live e a s)) [ true ↦ back s | false ↦ back (append_falsified e a c s) ]

-- steps 2 to 5. On a first side v is 0, which no clause names
unfoldable pub enter : Env → Assignment → ℕ → State → Turn
enter e a v s = conflict e a s (falsified_naming v a s.table)
