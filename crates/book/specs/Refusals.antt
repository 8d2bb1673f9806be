-- The table of refusals (docs/FORMAT.md), as rows in the order in which they are tested. The first row that holds gives the refusal.
use Rattle.std.specs.Prelude.{Bool, true, false, not, List, [], ◌∷◌, ◌++◌, ℕ, ltb, eqb, length}
use Rattle.std.proofs.Math.Option.{Option, some, none}
use Rattle.std.specs.Int.Bits.{bit_or}
use Rattle.words.specs.Words.{is_zero, minus, meets, first_vars}
use Rattle.steps.specs.Clause.{Clause}
use Rattle.order.specs.Order.{Order}
use Rattle.book.specs.Limits.{max_vars, max_clauses}
use Rattle.book.specs.Bytes.{book_bytes, vars_in, count_in, rules_in}

-- a row: its number, and whether it holds
pub record Row : Type 0 where
  pub number : ℕ
  pub holds : Bool

abbrev pub row : ℕ → Bool → Row
row k b = record { number = k; holds = b }

-- the number of the first row that holds
unfoldable pub first_row : List Row → Option ℕ
first_row [] = none
first_row (r ∷ rs) = elim r.holds [ true ↦ some r.number | false ↦ first_row rs ]

-- two words name an option above n
unfoldable pub above : ℕ → ℕ → ℕ → Bool
above n p q = not (is_zero (minus (bit_or p q) (first_vars n)))

-- 2 to 4: n options and m rules; `whole` says whether there are as many bytes, or words, as m rules take
abbrev pub size_rows : ℕ → ℕ → Bool → List Row
size_rows n m whole = row 2 (ltb max_vars n) ∷ row 3 (ltb max_clauses m) ∷ row 4 (not whole) ∷ []

-- 5 and 6, of each rule: it names an option above n, it has one option in both words
unfoldable pub rule_rows : ℕ → List Clause → List Row
rule_rows n [] = []
rule_rows n (c ∷ cs) = row 5 (above n c.pos c.neg) ∷ row 6 (meets c.pos c.neg) ∷ rule_rows n cs

-- 1 to 6: book bytes
unfoldable pub book_rows : List ℕ → List Row
book_rows bytes =
    row 1 (ltb (length bytes) 3) ∷ size_rows (vars_in bytes) (count_in bytes) (eqb (length bytes) (book_bytes (count_in bytes))) ++
    rule_rows (vars_in bytes) (rules_in bytes)

-- 7, 8 and 12: the order wants or does not want an option above n, it has one option as wanted and as unwanted, a standard option is above n
unfoldable pub order_rows : ℕ → Order → List Row
order_rows n o = row 7 (above n o.wanted o.unwanted) ∷ row 8 (meets o.wanted o.unwanted) ∷ row 12 (above n o.standard 0) ∷ []

-- 1 to 8 and 12: book bytes and an order
unfoldable pub admit_rows : List ℕ → Order → List Row
admit_rows bytes o = book_rows bytes ++ order_rows (vars_in bytes) o
