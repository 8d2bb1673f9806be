-- What a run has in hand at a branching point, and how a run goes on from there.
use Rattle.std.specs.Prelude.{List, [], ◌∷◌, ◌++◌, ℕ, suc}
use Rattle.std.specs.Int.Bits.{bit_and}
use Rattle.words.specs.Words.{minus, first_vars}
use Rattle.steps.specs.Clause.{Clause, vars, Assignment, restrict, DSequent, last}

-- what stays the same in a run: how many variables there are, how many branchings are allowed, how many clauses the table may hold
pub record Env : Type 0 where
  pub n : ℕ
  pub allowance : ℕ
  pub capacity : ℕ

-- the table (the book's clauses, the order's, the derived ones), the list of D-sequents, and how many branchings were made
pub record State : Type 0 where
  pub table : List Clause
  pub records : List DSequent
  pub branchings : ℕ

-- how a run ends: the two verdicts, stop 10 and stop 11
pub data Ending : Type 0 where
  can cannot out_of_branchings out_of_clauses : Ending

-- back up, or the end of the run with the decisions and the state in which it was reached
pub data Side : Type 0 where
  up : State → Side
  ended : Ending → Assignment → State → Side

-- a search from a point: its decisions, the variable whose second side it is (0: none), the state
abbrev pub Search : Type 0
Search = Assignment → ℕ → State → Side

-- the variables that are not decided
unfoldable pub undecided : Env → Assignment → ℕ
undecided e a = minus (first_vars e.n) a.decided

-- struck: the set of the last D-sequent
abbrev pub redundant : State → ℕ
redundant s = (last s.records).redundant

-- live: neither decided nor struck
unfoldable pub live : Env → Assignment → State → ℕ
live e a s = minus (undecided e a) (redundant s)

-- the state with another list
abbrev pub recorded : List DSequent → State → State
recorded rs s = record { table = s.table; records = rs; branchings = s.branchings }

-- one more D-sequent: the decisions of a on r, and the set k
abbrev pub append : Assignment → ℕ → ℕ → State → State
append a r k s = recorded (s.records ++ (record { decisions = restrict a r; redundant = k } ∷ [])) s

-- all undecided variables are redundant, by a clause that the decisions falsify
abbrev pub append_falsified : Env → Assignment → Clause → State → State
append_falsified e a c s = append a (bit_and (vars c) a.decided) (undecided e a) s

-- one more clause
abbrev pub added : Clause → State → State
added c s = record { table = s.table ++ (c ∷ []); records = s.records; branchings = s.branchings }

-- one more branching
abbrev pub counted : State → State
counted s = record { table = s.table; records = s.records; branchings = suc s.branchings }
