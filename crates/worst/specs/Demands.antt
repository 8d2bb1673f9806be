-- The demands on a check of a worst book, each as a named type that is proved in `proofs/`. The record at the end has them all; docs/STEPS.md says how to read the signs, and
-- docs/WORST.md what they mean for allowances. A worst book has n options and all 2^n rules that name every one of them, in any order (`Arranged`, crate `steps`, whose page says
-- that the steps meet the bound on it, for every n). What a check is, is said in crate `contract`.
use Rattle.std.specs.Prelude.{◌≡◌, List, [], ◌∷◌, reverse, ◌⊎◌, ℕ, ◌-◌, ◌^◌, ◌≤◌, ◌<◌, length}
use Rattle.steps.specs.Clause.{Clause}
use Rattle.steps.specs.State.{Ending, Ending.cannot}
use Rattle.steps.specs.Run.{Outcome, run}
use Rattle.steps.specs.Worst.{all_rules, Arranged}
use Rattle.order.specs.Order.{Order}
use Rattle.order.specs.Demands.{order}
use Rattle.book.specs.Bytes.{vars_in, rules_in, encode}
use Rattle.book.specs.Conditions.{NoRow}
use Rattle.answer.specs.declared.Tally.{Tally}
use Rattle.answer.specs.Answer.{Answer, Answer.Cannot}
use Rattle.contract.specs.Check.{Lengths}
use Rattle.contract.specs.Filled.{Tables, lengths, Checked}
use Rattle.contract.specs.Demands.{Permitted, check_conditions, StopsOnBranchings, StopsOnPlaces}

-- the bytes of a worst book of n options
pub record WorstBytes (n : ℕ) (bytes : List ℕ) : Type 0 where
  pub options : vars_in bytes ≡ n
  pub rules : Arranged n (rules_in bytes)

-- an empty order, without standard fittings
abbrev pub empty_order : Order
empty_order = order 0 0 0

-- ---- what an allowance and places buy

-- the counts that meet the bound: 2^n - 1 branchings, as many derived rules, and one record
abbrev pub met : ℕ → Tally
met n = record { branchings = 2 ^ n - 1; derived = 2 ^ n - 1; records = 1 }

-- the answer a to a check of a worst book, by the branching allowance and the places
pub record Buys (n allowance places : ℕ) (a : Answer) : Type 0 where
  -- 2^n - 1 of both, or more: "cannot", with exactly these counts
  pub exactly : 2 ^ n - 1 ≤ allowance → 2 ^ n - 1 ≤ places → a ≡ Cannot (met n)
  -- fewer branchings, be it by one: stop 10
  pub fewer_branchings : allowance < 2 ^ n - 1 → 2 ^ n - 1 ≤ places → StopsOnBranchings allowance a
  -- fewer places: stop 11
  pub fewer_places : 2 ^ n - 1 ≤ allowance → places < 2 ^ n - 1 → StopsOnPlaces places a
  -- fewer of both: one of the two
  pub fewer : allowance < 2 ^ n - 1 → places < 2 ^ n - 1 → StopsOnBranchings allowance a ⊎ StopsOnPlaces places a

-- so it is with every call of the entry point (`Checked`) on such bytes and an empty order that is not refused
abbrev pub BoundMet : Type 0
BoundMet =
    (n : ℕ) → 1 ≤ n → (bytes : List ℕ) → WorstBytes n bytes → (allowance : ℕ) (before after : Tables) (a : Answer) → Checked bytes empty_order allowance before a after →
    NoRow (check_conditions bytes empty_order (lengths before)) → Buys n allowance (length before.pos) a

-- ---- up to ten options

-- every worst book of up to 10 options, written as bytes, is not refused with any permitted tables
pub record Passes (n : ℕ) (book : List Clause) : Type 0 where
  pub worst : WorstBytes n (encode n book)
  pub not_refused : (l : Lengths) → Permitted l → NoRow (check_conditions (encode n book) empty_order l)

abbrev pub UpToTen : Type 0
UpToTen = (n : ℕ) → n ≤ 10 → (book : List Clause) → Arranged n book → Passes n book

-- and none of more options passes, since a book has at most 1,024 rules
abbrev pub NoneBeyond : Type 0
NoneBeyond = (n : ℕ) (bytes : List ℕ) → WorstBytes n bytes → (l : Lengths) → NoRow (check_conditions bytes empty_order l) → n ≤ 10

-- ---- examples

-- the ending and the counts of a run of a book of n options, with 2^n - 1 of both
abbrev pub counts : ℕ → List Clause → Ending × ℕ × ℕ
counts n book = let r : Outcome = run n book (record { pos = 0; neg = 0 }) (2 ^ n - 1) (2 ^ n - 1) in (r.ending, r.branchings, length r.derived)

-- 1 to 4 options, by computation
pub record Examples : Type 0 where
  -- the rules by the choice that each forbids, the smallest first
  pub ascending :
      counts 1 (all_rules 1) ∷ counts 2 (all_rules 2) ∷ counts 3 (all_rules 3) ∷ counts 4 (all_rules 4) ∷ [] ≡
      (cannot, 1, 1) ∷ (cannot, 3, 3) ∷ (cannot, 7, 7) ∷ (cannot, 15, 15) ∷ []
  -- the other way round, which is an order like any other
  pub descending :
      counts 1 (reverse (all_rules 1)) ∷ counts 2 (reverse (all_rules 2)) ∷ counts 3 (reverse (all_rules 3)) ∷ counts 4 (reverse (all_rules 4)) ∷ [] ≡
      (cannot, 1, 1) ∷ (cannot, 3, 3) ∷ (cannot, 7, 7) ∷ (cannot, 15, 15) ∷ []
  pub arranged : (n : ℕ) → Arranged n (reverse (all_rules n))

-- ---- all of them

-- every demand, proved in `proofs/Demands.antt`
pub record Demands : Type 0 where
  pub bound_met : BoundMet
  pub up_to_ten : UpToTen
  pub none_beyond : NoneBeyond
  pub examples : Examples
