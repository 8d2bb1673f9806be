-- The conditions of the table of refusals (docs/FORMAT.md), in words of membership and number, row by row as they are tested. The first condition
-- that holds is the refusal. Each rule has its rows 5 and 6 in turn: so the lowest-numbered faulty rule decides, and of its faults 5.
use Rattle.std.specs.Prelude.{◌≡◌, true, ◌||◌, List, [], ◌∷◌, ◌++◌, ◌≢◌, ◌⊎◌, ◌↔◌, ℕ, ◌≤◌, ◌<◌, length}
use Rattle.words.specs.Words.{has}
use Rattle.steps.specs.Clause.{Clause}
use Rattle.order.specs.Order.{Order}
use Rattle.book.specs.Limits.{max_vars, max_clauses}
use Rattle.book.specs.Bytes.{book_bytes, vars_in, count_in, rules_in}
use Rattle.book.specs.Refusals.{Row}

-- a condition, and the number of its refusal
pub record Condition : Type 1 where
  pub number : ℕ
  pub Holds : Type 0

abbrev pub condition : ℕ → Type 0 → Condition
condition k A = record { number = k; Holds = A }

-- the first condition that holds has number k
abbrev pub First : List Condition → ℕ → Type 0
First [] k = ⊥
First (a ∷ rest) k = (a.Holds × (a.number ≡ k)) ⊎ ((a.Holds → ⊥) × First rest k)

-- no condition holds
abbrev pub NoRow : List Condition → Type 0
NoRow [] = Unit {0}
NoRow (a ∷ rest) = (a.Holds → ⊥) × NoRow rest

-- each row holds exactly where its condition does, and has its number
abbrev pub Decides : List Row → List Condition → Type 0
Decides [] [] = Unit {0}
Decides [] (a ∷ rest) = ⊥
Decides (r ∷ rs) [] = ⊥
Decides (r ∷ rs) (a ∷ rest) = (r.number ≡ a.number) × ((r.holds ≡ true) ↔ a.Holds) × Decides rs rest

-- two words name an option above n: option k + 1 stands at bit k
abbrev pub NamesAbove : ℕ → ℕ → ℕ → Type 0
NamesAbove n p q = (k : ℕ) × (n ≤ k) × ((has p k || has q k) ≡ true)

-- a word has an option above n
abbrev pub HasAbove : ℕ → ℕ → Type 0
HasAbove n w = (k : ℕ) × (n ≤ k) × (has w k ≡ true)

-- one option is in both words
abbrev pub InBoth : ℕ → ℕ → Type 0
InBoth p q = (k : ℕ) × (has p k ≡ true) × (has q k ≡ true)

-- 5 and 6, of each rule in order
abbrev pub rule_conditions : ℕ → List Clause → List Condition
rule_conditions n [] = []
rule_conditions n (c ∷ cs) =
    condition 5 (NamesAbove n c.pos c.neg) ∷ condition 6 (InBoth c.pos c.neg) ∷ rule_conditions n cs

-- 1 to 6
abbrev pub book_conditions : List ℕ → List Condition
book_conditions bytes =
    condition 1 (length bytes < 3) ∷ condition 2 (max_vars < vars_in bytes) ∷ condition 3 (max_clauses < count_in bytes) ∷
    condition 4 (length bytes ≢ book_bytes (count_in bytes)) ∷ rule_conditions (vars_in bytes) (rules_in bytes)

-- 7, 8 and 12, which is tested right after 8
abbrev pub order_conditions : ℕ → Order → List Condition
order_conditions n o =
    condition 7 (NamesAbove n o.wanted o.unwanted) ∷ condition 8 (InBoth o.wanted o.unwanted) ∷ condition 12 (HasAbove n o.standard) ∷ []

-- 1 to 8 and 12
abbrev pub admit_conditions : List ℕ → Order → List Condition
admit_conditions bytes o = book_conditions bytes ++ order_conditions (vars_in bytes) o
