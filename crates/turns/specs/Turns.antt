-- The buyer and the planner settle the free options in turn, in ascending number, the buyer first. Each says fitted or left out.
use Rattle.std.specs.Prelude.{◌≡◌, Bool, true, false, ◌&&◌, ◌||◌, List, [], ◌∷◌, ◌++◌, ℕ, ltb}
use Rattle.std.proofs.Math.Option.{Option, some, none}
use Rattle.std.specs.Int.Bits.{bit_or}
use Rattle.std.specs.Int.Count.{ones}
use Rattle.words.specs.Words.{members}
use Rattle.steps.specs.Clause.{Clause}
use Rattle.steps.specs.Run.{Assumptions}
use Rattle.steps.specs.Meaning.{models, obeys}
use Rattle.order.specs.Order.{Order, complete, free}
use Rattle.book.specs.Bytes.{vars_in, rules_in}
use Rattle.book.specs.Refusals.{Row, row, first_row, admit_rows}

-- ---- what is answered

-- what the planner answers to a choice of the buyer's: he leaves the next option out, he fits it, or there is no answer
pub data Response : Type 0 where
  Out : Response
  Fitted : Response
  None : Response

-- his answers where the buyer leaves the first option out, and where he fits it
pub record Responses : Type 0 where
  pub out : Response
  pub fitted : Response

-- whether the planner can force it, and his answers; or the number of the refusal
pub data Turns : Type 0 where
  Forced : Responses → Turns
  Open : Responses → Turns
  Refused : ℕ → Turns

-- ---- refusals

-- the most free options
abbrev pub max_free : ℕ
max_free = 12

-- 16, more than 12 free options
unfoldable pub free_rows : ℕ → Order → List Row
free_rows n o = row 16 (ltb max_free (ones (free n o))) ∷ []

-- 1 to 8 and 12, then 16
abbrev pub turns_rows : List ℕ → Order → List Row
turns_rows bytes o = admit_rows bytes o ++ free_rows (vars_in bytes) o

-- ---- a turn

pub data Player : Type 0 where
  buyer : Player
  planner : Player

-- what is fitted once the option of word v is left out, or fitted, beside x
abbrev pub settled : Bool → ℕ → ℕ → ℕ
settled false v x = x
settled true v x = bit_or x v

-- the choice keeps every wish and every rule
unfoldable pub wins : List Clause → Assumptions → ℕ → Bool
wins cs a x = obeys x a && models x cs

-- the planner can force an end that `won` takes. The options vs are left, the next one first; the player's turn is on it, and x has what is fitted so far. The buyer may
-- say either; the planner says what serves
unfoldable pub forces : (ℕ → Bool) → Player → List ℕ → ℕ → Bool
forces won who [] x = won x
forces won buyer (v ∷ vs) x = forces won planner vs (settled false v x) && forces won planner vs (settled true v x)
forces won planner (v ∷ vs) x = forces won buyer vs (settled false v x) || forces won buyer vs (settled true v x)

-- ---- the planner's answers

-- left out, where that serves; else fitted, where that serves; else none
abbrev pub serving : Bool → Bool → Response
serving true fitted = Out
serving false true = Fitted
serving false false = None

-- there is an answer
abbrev pub given : Response → Bool
given Out = true
given Fitted = true
given None = false

-- the planner's answer on the first of the options vs; none where there is none
unfoldable pub response : (ℕ → Bool) → List ℕ → ℕ → Response
response won [] x = None
response won (v ∷ vs) x = serving (forces won buyer vs (settled false v x)) (forces won buyer vs (settled true v x))

-- his answers to the buyer's two choices on the first of the options
unfoldable pub responses : (ℕ → Bool) → List ℕ → ℕ → Responses
responses won [] x = record { out = None; fitted = None }
responses won (v ∷ vs) x = record { out = response won vs (settled false v x); fitted = response won vs (settled true v x) }

-- ---- all turns

abbrev pub told : Bool → Responses → Turns
told true r = Forced r
told false r = Open r

-- the words of the free options, in the order in which they are settled
abbrev pub in_turn : ℕ → Order → List ℕ
in_turn n o = members (free n o)

-- a book of n options and an order to it: what the completed order wants is fitted from the start, and what it does not want is left out
unfoldable pub played : ℕ → List Clause → Order → Turns
played n cs o = told (forces (wins cs (complete o)) buyer (in_turn n o) (complete o).pos) (responses (wins cs (complete o)) (in_turn n o) (complete o).pos)

-- refused by the row that was found, and else played
abbrev pub answered_by : ℕ → List Clause → Order → Option ℕ → Turns
answered_by n cs o (some k) = Refused k
answered_by n cs o none = played n cs o

-- book bytes and an order
unfoldable pub turns : List ℕ → Order → Turns
turns bytes o = answered_by (vars_in bytes) (rules_in bytes) o (first_row (turns_rows bytes o))

-- what the entry point promises
pub record Answers (bytes : List ℕ) (o : Order) (r : Turns) : Type 0 where
  pub answer : r ≡ turns bytes o
