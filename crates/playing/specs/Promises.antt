-- What the functions under the entry point ask and promise.
use Rattle.std.specs.Prelude.{◌≡◌, Bool, List, ℕ}
use Rattle.words.specs.Words.{lowest, minus, members}
use Rattle.steps.specs.Clause.{Clause}
use Rattle.order.specs.Order.{Order}
use Rattle.order.specs.Values.{assumptions_of}
use Rattle.rows.specs.Rows.{clauses}
use Rattle.book.specs.Refusals.{first_row}
use Rattle.turns.specs.Turns.{Turns, free_rows, Player.buyer, settled, wins, forces, responses, told, answered_by}
use Rattle.playing.specs.declared.given.Given.{Given}
use Rattle.playing.specs.declared.turn.Turn.{Turn}

-- the choices that keep the wishes and the clauses of a work table
abbrev pub wins_in : Given → ℕ → Bool
wins_in g = wins (clauses g.table.now g.clauses) (assumptions_of g.order)

-- the next option of t is settled, as fitted or left out, and r is the turn after it
pub record Settles (fitted : Bool) (t r : Turn) : Type 0 where
  pub left : r.left ≡ minus t.left (lowest t.left)
  pub now_fitted : r.fitted ≡ settled fitted (lowest t.left) t.fitted

-- the book was admitted with its order: 16, and else the answer
pub record PlaysBook (n : ℕ) (cs : List Clause) (o : Order) (r : Turns) : Type 0 where
  pub answer : r ≡ answered_by n cs o (first_row (free_rows n o))

-- the answer on the buyer's turn
pub record Tells (won : ℕ → Bool) (t : Turn) (r : Turns) : Type 0 where
  pub answer : r ≡ told (forces won buyer (members t.left) t.fitted) (responses won (members t.left) t.fitted)

-- whether it is forced
pub record Forced (won : ℕ → Bool) (t : Turn) (r : Bool) : Type 0 where
  pub forced : r ≡ forces won buyer (members t.left) t.fitted
