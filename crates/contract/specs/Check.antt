-- A check of book bytes and an order: the number of the first row that refuses it, or the outcome of a run.
use Rattle.std.specs.Prelude.{Bool, not, ◌||◌, List, [], ◌∷◌, ◌++◌, ℕ, eqb, ltb}
use Rattle.std.proofs.Math.Option.{Option, some, none}
use Rattle.steps.specs.Run.{Assumptions, Outcome, run}
use Rattle.order.specs.Order.{Order, complete}
use Rattle.book.specs.Limits.{max_derived, min_records}
use Rattle.book.specs.Bytes.{vars_in, rules_in}
use Rattle.book.specs.Refusals.{Row, row, first_row, admit_rows}

-- the lengths of the lent tables: two for derived clauses, three for D-sequents
pub record Lengths : Type 0 where
  pub pos : ℕ
  pub neg : ℕ
  pub decided : ℕ
  pub trues : ℕ
  pub redundant : ℕ

-- the derived tables differ in length or are too long, or a record table is too short
unfoldable pub tables_fault : Lengths → Bool
tables_fault l =
    not (eqb l.pos l.neg) ||
    (ltb max_derived l.pos || (ltb l.decided min_records || (ltb l.trues min_records || ltb l.redundant min_records)))

-- 9: the tables
abbrev pub table_rows : Lengths → List Row
table_rows l = row 9 (tables_fault l) ∷ []

-- 1 to 8, 12 and 9, in the order in which they are tested
abbrev pub check_rows : List ℕ → Order → Lengths → List Row
check_rows bytes o l = admit_rows bytes o ++ table_rows l

-- what the steps come to with such wishes. The places are the length of the derived tables
abbrev pub outcome_with : Assumptions → List ℕ → ℕ → Lengths → Outcome
outcome_with wishes bytes allowance l = run (vars_in bytes) (rules_in bytes) wishes allowance l.pos

-- with those of the completed order
abbrev pub outcome : List ℕ → Order → ℕ → Lengths → Outcome
outcome bytes o allowance l = outcome_with (complete o) bytes allowance l

-- a refusal, or what a run came to
pub data Result : Type 0 where
  refused : ℕ → Result
  ran : Outcome → Result

-- refused by the row that was found, and else run
abbrev pub result_by : List ℕ → Order → ℕ → Lengths → Option ℕ → Result
result_by bytes o allowance l (some k) = refused k
result_by bytes o allowance l none = ran (outcome bytes o allowance l)

-- book bytes, order, branching allowance, and the lengths of the lent tables
unfoldable pub check : List ℕ → Order → ℕ → Lengths → Result
check bytes o allowance l = result_by bytes o allowance l (first_row (check_rows bytes o l))
