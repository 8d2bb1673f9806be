-- A morning: 1 to 16 orders against one book, each checked with the whole allowance and with its own part of the lent tables.
use Rattle.std.specs.Prelude.{◌≡◌, Bool, true, false, not, ◌||◌, List, ℕ, zero, suc, ◌+◌, ◌*◌, eqb, ltb, length, get_or}
use Rattle.rows.specs.Rows.{from}
use Rattle.order.specs.Order.{Order}
use Rattle.answer.specs.Packed.{packed}
use Rattle.contract.specs.Check.{Result, check}
use Rattle.contract.specs.Filled.{Tables, lengths, answer_of, filled}
use Rattle.morning.specs.Parts.{part_of, with_part_of}

-- the most orders of a morning
abbrev pub max_orders : ℕ
max_orders = 16

-- order i, counted from 0: three words, its wanted, unwanted and standard options
abbrev pub order_at : List ℕ → ℕ → Order
order_at words i = record { wanted = get_or words (3 * i) 0; unwanted = get_or words (3 * i + 1) 0; standard = get_or words (3 * i + 2) 0 }

-- refusal 13, judged on the numbers of words and of answers: there is an answer an order, and there are three words an order
unfoldable pub orders_fault : ℕ → ℕ → Bool
orders_fault words answers = ltb answers 1 || (ltb max_orders answers || not (eqb words (3 * answers)))

-- the check of order i of k, on its part
abbrev pub check_part : List ℕ → Order → ℕ → ℕ → ℕ → Tables → Result
check_part bytes o allowance k i t = check bytes o allowance (lengths (part_of k i t))

-- its answer, as a word
abbrev pub word_part : List ℕ → Order → ℕ → ℕ → ℕ → Tables → ℕ
word_part bytes o allowance k i t = packed (answer_of (check_part bytes o allowance k i t))

-- the tables after it: its part is filled, and all else is as it was
unfoldable pub fill_part : List ℕ → Order → ℕ → ℕ → ℕ → Tables → Tables
fill_part bytes o allowance k i t = with_part_of k i t (filled (check_part bytes o allowance k i t) (part_of k i t))

-- the tables after so many orders from order i on, one after the other
abbrev pub fill_parts : List ℕ → List ℕ → ℕ → ℕ → ℕ → ℕ → Tables → Tables
fill_parts bytes words allowance k i zero t = t
fill_parts bytes words allowance k i (suc more) t =
    fill_parts bytes words allowance k (suc i) more (fill_part bytes (order_at words i) allowance k i t)

-- what a morning leaves: 0 or the number of its refusal, the answers' words, and the tables
pub record Left : Type 0 where
  pub number : ℕ
  pub answers : List ℕ
  pub tables : Tables

-- 13, or the check of every order on its part
unfoldable pub served : List ℕ → List ℕ → ℕ → ℕ → Tables → Left
served bytes words allowance k t =
    record {
      number = 0;
      answers = from (λ i. word_part bytes (order_at words i) allowance k i t) 0 k;
      tables = fill_parts bytes words allowance k 0 k t;
    }

-- book bytes, the orders' words, the allowance, the table of answers, whose length is the number of orders, and the lent tables
unfoldable pub morning : List ℕ → List ℕ → ℕ → List ℕ → Tables → Left
morning bytes words allowance answers t =
    elim (orders_fault (length words) (length answers)) [
      | true ↦ record { number = 13; answers = answers; tables = t }
      | false ↦ served bytes words allowance (length answers) t
    ]

-- what the entry point promises: its number, the answers and all five tables are those of the definition
pub record Serves (bytes words : List ℕ) (allowance : ℕ) (answers : List ℕ) (before : Tables) (number : ℕ) (told : List ℕ) (after : Tables) : Type 0 where
  pub left : record { number = number; answers = told; tables = after } ≡ morning bytes words allowance answers before
