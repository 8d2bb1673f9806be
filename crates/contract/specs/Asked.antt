-- What the demands on a check say of one answer and the tables it left, for the crates whose answers are each that of an order asked singly (`Checked`).
use Rattle.std.specs.Prelude.{◌≡◌, List, ◌⊎◌, ◌↔◌, ℕ, ◌-◌, ◌^◌, ◌≤◌, ◌<◌, length}
use Rattle.steps.specs.Run.{Outcome}
use Rattle.steps.specs.Meaning.{Buildable}
use Rattle.steps.specs.Demands.{DerivedFollow, RecordsHold, Enough, Spent}
use Rattle.order.specs.Order.{Order, complete}
use Rattle.book.specs.Bytes.{vars_in, rules_in}
use Rattle.book.specs.Conditions.{First, NoRow, book_conditions}
use Rattle.answer.specs.declared.Tally.{Tally}
use Rattle.answer.specs.Answer.{Answer, Answer.Can, Answer.Cannot, Answer.Refused}
use Rattle.contract.specs.Check.{Lengths, outcome, check}
use Rattle.contract.specs.Filled.{Tables, filled}
use Rattle.contract.specs.Demands.{answer, Permitted, check_conditions, Named, Fills, Tells, Uncovered, Settled, StopsOnBranchings, StopsOnPlaces, IsVerdict}

-- an order that is not refused, with its outcome r: demands 1 and 2 of a single check, of this answer and these tables; and no derived rule is covered by an
-- earlier one. Of demand 3: a stop has spent what it says, within the allowance and the places
pub record RightOrder (bytes : List ℕ) (o : Order) (allowance places : ℕ) (r : Outcome) (before : Tables) (a : Answer) (after : Tables) : Type 0 where
  pub told : Tells r a
  pub can_only : (c : Tally) → a ≡ Can c → Buildable (vars_in bytes) (rules_in bytes) (complete o)
  pub cannot_only : (c : Tally) → a ≡ Cannot c → Buildable (vars_in bytes) (rules_in bytes) (complete o) → ⊥
  pub derived : DerivedFollow (vars_in bytes) (rules_in bytes) (complete o) r
  pub records : RecordsHold (vars_in bytes) (rules_in bytes) (complete o) r
  pub fills : Fills r before after
  pub uncovered : Uncovered bytes o r after
  pub spent : Spent allowance places r

-- an order that is settled with the outcome r, with so many places: enough of both gives it this outcome, and less a stop by what is spent; stop 10 where only the
-- branchings are too few, and stop 11 where only the places are
pub record Bought (r : Outcome) (allowance places : ℕ) (before : Tables) (a : Answer) (after : Tables) : Type 0 where
  pub enough : Enough r allowance places → Tells r a × Fills r before after
  pub stops : (Enough r allowance places → ⊥) → StopsOnBranchings allowance a ⊎ StopsOnPlaces places a
  pub fewer_branchings : allowance < r.branchings → length r.derived ≤ places → StopsOnBranchings allowance a
  pub fewer_places : r.branchings ≤ allowance → places < length r.derived → StopsOnPlaces places a

-- an order with tables of the lengths l: the places for derived rules are `l.pos`
pub record Demanded (bytes : List ℕ) (o : Order) (allowance : ℕ) (l : Lengths) (before : Tables) (a : Answer) (after : Tables) : Type 0 where
  -- 1: a verdict, a numbered refusal or a named stop
  pub named : Named a
  -- 2, where nothing is refused
  pub right : NoRow (check_conditions bytes o l) → RightOrder bytes o allowance l.pos (outcome bytes o allowance l) before a after
  -- 3: what the allowance and the places buy, and what is always enough
  pub bought : (r : Outcome) → Settled bytes o r → Permitted l → Bought r allowance l.pos before a after
  pub always : NoRow (check_conditions bytes o l) → 2 ^ vars_in bytes - 1 ≤ allowance → 2 ^ vars_in bytes - 1 ≤ l.pos → IsVerdict a
  -- the rest of demand 3 is said of `check bytes o allowance l`: which stop it is where both are too few, how the derived rules of two runs begin, and the bound.
  -- This answer and these tables are those of that check
  pub answer_is : a ≡ answer bytes o allowance l
  pub tables_are : after ≡ filled (check bytes o allowance l) before

-- an order is refused by the first condition that holds, and its tables are then as they were
pub record RefusedFirst (bytes : List ℕ) (o : Order) (l : Lengths) (before : Tables) (a : Answer) (after : Tables) : Type 0 where
  pub when : (j : ℕ) → (a ≡ Refused j) ↔ First (check_conditions bytes o l) j
  pub untouched : (j : ℕ) → a ≡ Refused j → after ≡ before
  -- a refusal of the book is the answer to every order
  pub book : (j : ℕ) → First (book_conditions bytes) j → a ≡ Refused j
