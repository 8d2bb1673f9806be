-- The tallies that the engine holds with each clause of the table: how many of its literals are undecided, how many decisions satisfy it, and whether it names a
-- redundant variable. What a clause is under the decisions is read from them (`ByTally`), and each change of decisions or struck set changes them as is said here
-- (`Tallying`).
use Rattle.std.specs.Prelude.{Bool, true, false, not, ◌&&◌, ◌||◌, List, map, ℕ, ◌+◌, ◌-◌, eqb}
use Rattle.std.specs.Int.Count.{ones}
use Rattle.words.specs.Words.{is_zero, digit, has}
use Rattle.steps.specs.Clause.{Clause, literals, vars, Assignment, keepers, names, undecided_in}
use Rattle.steps.specs.State.{State, Side, Side.up, Side.ended, redundant}

-- a clause's tallies. It is kept where there is a decision that satisfies it
pub record Tally : Type 0 where
  pub undecided : ℕ
  pub keepers : ℕ
  pub struck : Bool

-- those of the clause c at the decisions a and the struck set k
unfoldable pub tally_of : Assignment → ℕ → Clause → Tally
tally_of a k c = record { undecided = undecided_in a c; keepers = ones (keepers a c); struck = names k c }

-- ---- what they say

-- broken
abbrev pub is_falsified : Tally → Bool
is_falsified x = is_zero x.undecided && is_zero x.keepers

-- step 5's rule with exactly one undecided entry
abbrev pub is_unit : Tally → Bool
is_unit x = is_zero x.keepers && (not x.struck && eqb x.undecided 1)

-- out
abbrev pub is_inactive : Tally → Bool
is_inactive x = not (is_zero x.keepers) || x.struck

-- ---- how they change. A variable is given by its number v

-- 1 where the clause has the literal of v and sign b
abbrev pub literal : ℕ → Bool → Clause → ℕ
literal v b c = digit (has (literals b c) v)

-- how many literals of v the clause has
abbrev pub entries : ℕ → Clause → ℕ
entries v c = literal v true c + literal v false c

-- v is decided, with the value b
unfoldable pub decided : ℕ → Bool → Clause → Tally → Tally
decided v b c x = record { undecided = x.undecided - entries v c; keepers = x.keepers + literal v b c; struck = x.struck }

-- that decision is withdrawn
unfoldable pub withdrawn : ℕ → Bool → Clause → Tally → Tally
withdrawn v b c x = record { undecided = x.undecided + entries v c; keepers = x.keepers - literal v b c; struck = x.struck }

-- v is struck
unfoldable pub struck_by : ℕ → Clause → Tally → Tally
struck_by v c x = record { undecided = x.undecided; keepers = x.keepers; struck = x.struck || has (vars c) v }

-- the struck set is k from now on
unfoldable pub unstruck : ℕ → Clause → Tally → Tally
unstruck k c x = record { undecided = x.undecided; keepers = x.keepers; struck = names k c }

-- ---- those of a table

-- clause by clause, at the decisions a and the list of the state
unfoldable pub tallies_at : Assignment → State → List Tally
tallies_at a s = map (tally_of a (redundant s)) s.table

-- where a search from the decisions a went up or ended: with the decisions and the list at which it did. "Cannot" has not replaced the list yet
abbrev pub tallies_left : Assignment → Side → List Tally
tallies_left a (up s) = tallies_at a s
tallies_left a (ended x d s) = tallies_at d s
