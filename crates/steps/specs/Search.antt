-- A branching point, steps 1 to 7, and the search. A point takes the search one level down as a parameter, so a theorem about the search is a
-- lemma about `step` and one induction.
use Rattle.std.specs.Prelude.{Bool, true, false, not, ℕ, zero, suc, ltb}
use Rattle.words.specs.Words.{is_zero}
use Rattle.steps.specs.Lists.{any}
use Rattle.steps.specs.Clause.{Clause, vars, Assignment, decide, last, without}
use Rattle.steps.specs.State.{Env, Ending.can, Ending.cannot, Ending.out_of_branchings, Side, Side.up, Side.ended, Search, recorded, counted}
use Rattle.steps.specs.Enter.{Turn, Turn.back, Turn.satisfiable, Turn.branch, enter}
use Rattle.steps.specs.Merge.{merge}

-- step 7, unless the second side ended the run. r is the first side's last decisions
abbrev pub after_second : Env → Assignment → ℕ → Bool → ℕ → Side → Side
after_second e a v b r (up s) = merge e a v b r s
after_second e a v b r (ended x d s) = ended x d s

-- step 6, unless the first side ended the run
abbrev pub after_first : Env → Search → Assignment → ℕ → Bool → Side → Side
after_first e self a v b (up s) =
    after_second e a v b (last s.records).decisions.decided (self (decide a v (not b)) v (recorded (without v s.records) s))
after_first e self a v b (ended x d s) = ended x d s

-- go back up, end with "can", or step 5, with stop 10
abbrev pub proceed : Env → Search → Assignment → Turn → Side
proceed e self a (back s) = up s
proceed e self a (satisfiable s) = ended can a s
proceed e self a (branch v b s) =
    elim (ltb s.branchings e.allowance) [
      | false ↦ ended out_of_branchings a s
      | true ↦ after_first e self a v b (self (decide a v b) 0 (counted s))
    ]

-- the empty clause
abbrev pub is_empty : Clause → Bool
is_empty c = is_zero (vars c)

-- one point: step 1, then what the others find
unfoldable pub step : Env → Search → Search
step e self a v s = elim (any is_empty s.table) [ true ↦ ended cannot a s | false ↦ proceed e self a (enter e a v s) ]

-- k is how many variables are undecided. With none, nothing is live, and `step` does not go down (`NeverDeeper`)
unfoldable pub search : Env → ℕ → Search
search e zero = step e (λ a v s. up s)
search e (suc k) = step e (search e k)
