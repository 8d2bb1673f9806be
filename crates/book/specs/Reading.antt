-- What bytes, an order or a table are: a book, or the number of the first row that holds.
use Rattle.std.specs.Prelude.{List, ◌++◌, ℕ, ◌≤◌, eqb, length}
use Rattle.std.proofs.Math.Option.{Option, some, none}
use Rattle.steps.specs.Clause.{Clause}
use Rattle.steps.specs.Shape.{AllProper}
use Rattle.order.specs.Order.{Order}
use Rattle.rows.specs.Rows.{clause_words, clauses}
use Rattle.book.specs.Limits.{max_vars, max_clauses}
use Rattle.book.specs.Bytes.{vars_in, rules_in}
use Rattle.book.specs.Refusals.{first_row, size_rows, rule_rows, book_rows, order_rows, admit_rows}

-- a book: how many variables, and its clauses; or the number of the refusal
pub data Reading : Type 0 where
  book : ℕ → List Clause → Reading
  refused : ℕ → Reading

-- refused by the row that was found, and else a book
unfoldable pub judged : Option ℕ → ℕ → List Clause → Reading
judged none n cs = book n cs
judged (some k) n cs = refused k

-- book bytes
unfoldable pub read : List ℕ → Reading
read bytes = judged (first_row (book_rows bytes)) (vars_in bytes) (rules_in bytes)

-- book bytes, and an order to the book
unfoldable pub admit : List ℕ → Order → Reading
admit bytes o = judged (first_row (admit_rows bytes o)) (vars_in bytes) (rules_in bytes)

-- n variables and clauses, judged by 5 and 6
abbrev pub read_rules : ℕ → List Clause → Reading
read_rules n cs = judged (first_row (rule_rows n cs)) n cs

-- a book, judged with an order by 7, 8 and 12
abbrev pub read_order : ℕ → List Clause → Order → Reading
read_order n cs o = judged (first_row (order_rows n o)) n cs

-- sizes, and a table of the clauses and nothing else
unfoldable pub read_table : ℕ → ℕ → List ℕ → Reading
read_table n m t = judged (first_row (size_rows n m (eqb (length t) (clause_words m)) ++ rule_rows n (clauses t m))) n (clauses t m)

-- what a book that was read is: within the limits, each clause one that passes 5 and 6
pub record WellFormed (n : ℕ) (cs : List Clause) : Type 0 where
  pub vars_few : n ≤ max_vars
  pub clauses_few : length cs ≤ max_clauses
  pub proper : AllProper n cs
