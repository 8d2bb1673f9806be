-- What it is that the planner can force it. Option k + 1 stands at bit k. Nothing here knows how the turns are gone through.
use Rattle.std.specs.Prelude.{◌≡◌, Bool, true, false, List, ℕ, ◌^◌, ◌≤◌, ◌<◌}
use Rattle.std.specs.Int.Bits.{bit_and}
use Rattle.std.specs.Int.Count.{ones}
use Rattle.words.specs.Words.{has, odd, first_vars}
use Rattle.steps.specs.Clause.{Clause}
use Rattle.steps.specs.Meaning.{Builds}
use Rattle.order.specs.Order.{Order, complete, free}

-- option k + 1 is free: one of the n, and neither wanted nor unwanted nor standard. A standard option is unwanted, or else wanted in the completed order
pub record Free (n : ℕ) (o : Order) (k : ℕ) : Type 0 where
  pub option : k < n
  pub not_wanted : has o.wanted k ≡ false
  pub not_unwanted : has o.unwanted k ≡ false
  pub not_standard : has o.standard k ≡ false

-- ---- who settles what

-- the options of x below option k + 1
abbrev pub lower : ℕ → ℕ → ℕ
lower k x = bit_and x (first_vars k)

-- option k + 1 is the planner's to settle: it is free, and the free options below it are odd in number, for the buyer begins
pub record Planners (n : ℕ) (o : Order) (k : ℕ) : Type 0 where
  pub is_free : Free n o k
  pub turn : odd (ones (lower k (free n o))) ≡ true

-- a way of answering: whether the planner fits option k + 1, by k and by what is fitted below it
abbrev pub Way : Type 0
Way = ℕ → ℕ → Bool

-- the choice x comes out where the options below option j + 1 stand as in y, the planner settles his later ones by the way, and the buyer settles his as he likes. An
-- option that is not free stands as the completed order has it
pub record ComesOut (n : ℕ) (o : Order) (way : Way) (j y x : ℕ) : Type 0 where
  pub choice : x < 2 ^ n
  pub so_far : (k : ℕ) → k < j → has x k ≡ has y k
  pub fixed : (k : ℕ) → k < n → (Free n o k → ⊥) → has x k ≡ has (complete o).pos k
  pub answered : (k : ℕ) → j ≤ k → Planners n o k → has x k ≡ way k (lower k x)

-- option k + 1 is the buyer's to settle
pub record Buyers (n : ℕ) (o : Order) (k : ℕ) : Type 0 where
  pub is_free : Free n o k
  pub turn : odd (ones (lower k (free n o))) ≡ false

-- the choice x comes out of a whole play with what the buyer says of his options, and no other does
pub record Play (n : ℕ) (o : Order) (way : Way) (says : ℕ → Bool) (x : ℕ) : Type 0 where
  pub comes_out : ComesOut n o way 0 0 x
  pub said : (k : ℕ) → Buyers n o k → has x k ≡ says k
  pub only : (z : ℕ) → ComesOut n o way 0 0 z → ((k : ℕ) → Buyers n o k → has z k ≡ says k) → z ≡ x

-- from there on the planner can force it: there is a way of answering such that every choice that comes out keeps every rule and every wish
abbrev pub CanForceFrom : ℕ → List Clause → Order → ℕ → ℕ → Type 0
CanForceFrom n rules o j y = (way : Way) × ((x : ℕ) → ComesOut n o way j y x → Builds n rules (complete o) x)
