-- Step 3: the sweep, which strikes variables that no longer matter.
use Rattle.std.specs.Prelude.{Bool, true, false, not, ◌&&◌, List, [], ◌∷◌, ℕ, zero, suc}
use Rattle.std.proofs.Math.Option.{Option, some, none}
use Rattle.std.specs.Int.Bits.{bit_or}
use Rattle.words.specs.Words.{meets, lowest, members}
use Rattle.steps.specs.Lists.{or_else}
use Rattle.steps.specs.Clause.{Clause, literals, Assignment, keepers, satisfied, names, last}
use Rattle.steps.specs.State.{Env, State, redundant, live, append}

-- the decisions r, and for each clause with the literal of w and sign b that names nothing of k its lowest decision that satisfies it;
-- none where such a clause is not satisfied
unfoldable pub all_inactive : Bool → ℕ → Assignment → ℕ → ℕ → List Clause → Option ℕ
all_inactive b w a k r [] = some r
all_inactive b w a k r (c ∷ cs) =
    elim (meets (literals b c) w && not (names k c)) [
      | false ↦ all_inactive b w a k r cs
      | true ↦ elim (satisfied a c) [ false ↦ none | true ↦ all_inactive b w a k (bit_or r (lowest (keepers a c))) cs ]
    ]

-- all clauses with the literal of w and sign b are inactive (`SweepTests`): by which decisions, the last D-sequent's among them
abbrev pub inactive_by : Assignment → State → ℕ → Bool → Option ℕ
inactive_by a s w b = all_inactive b w a (redundant s) (last s.records).decisions.decided s.table

-- the test for w: its negative literal, or else its positive one
unfoldable pub monotone : Assignment → State → ℕ → Option ℕ
monotone a s w = or_else (inactive_by a s w false) (inactive_by a s w true)

-- a variable that passes the test, with its decisions
pub data Found : Type 0 where
  nothing : Found
  variable : ℕ → ℕ → Found

-- the first of the listed variables that passes the test
unfoldable pub first_monotone : Assignment → State → List ℕ → Found
first_monotone a s [] = nothing
first_monotone a s (w ∷ ws) = elim (monotone a s w) [ none ↦ first_monotone a s ws | some r ↦ variable w r ]

-- one more redundant variable
abbrev pub strike : Assignment → ℕ → ℕ → State → State
strike a w r s = append a r (bit_or (redundant s) w) s

-- strike what was found, and go on
abbrev pub sweep_on : Assignment → (State → State) → State → Found → State
sweep_on a self s nothing = s
sweep_on a self s (variable w r) = self (strike a w r s)

-- again and again until no variable is found: at most k times. No more than n variables are live, so n times are enough (`SweepEnds`)
unfoldable pub sweep : Env → Assignment → ℕ → State → State
sweep e a zero s = s
sweep e a (suc k) s = sweep_on a (sweep e a k) s (first_monotone a s (members (live e a s)))
