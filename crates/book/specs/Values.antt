-- The structs and enums of this crate as values of the specs.
use Rattle.std.specs.Prelude.{◌≡◌, Bool, List, ◌++◌, ℕ, ◌≤◌, length, Result, Ok, Err}
use Rattle.std.proofs.Math.Option.{some}
use Rattle.answer.specs.declared.refusal.Refusal.{Refusal}
use Rattle.answer.specs.Numbers.{refusal_number}
use Rattle.rows.specs.Rows.{clause_words, clauses}
use Rattle.book.specs.Limits.{max_vars, max_clauses}
use Rattle.book.specs.Refusals.{Row, first_row, size_rows}
use Rattle.book.specs.Reading as reading
use Rattle.book.specs.declared.Book as declared

-- what reading gives, with the table whose first clauses are the book's
abbrev pub reading_of : Result declared.Book Refusal → List ℕ → reading.Reading
reading_of (Ok b) t = reading.book b.vars (clauses t b.clauses)
reading_of (Err r) t = reading.refused (refusal_number r)

-- a book of these sizes, which are within the limits
pub record InLimits (n m : ℕ) (b : declared.Book) : Type 0 where
  pub vars : b.vars ≡ n
  pub clauses : b.clauses ≡ m
  pub vars_few : n ≤ max_vars
  pub clauses_few : m ≤ max_clauses

-- what judging sizes gives: such a book, or the refusal of row 2 or 3, whatever rows come after them
abbrev pub SizesJudged : ℕ → ℕ → Result declared.Book Refusal → Type 0
SizesJudged n m (Ok b) = InLimits n m b
SizesJudged n m (Err r) = (whole : Bool) (rest : List Row) → first_row (size_rows n m whole ++ rest) ≡ some (refusal_number r)

-- a book that was read into a work table
pub record Held (b : declared.Book) (t : List ℕ) : Type 0 where
  pub vars : b.vars ≤ max_vars
  pub few : b.clauses ≤ max_clauses
  pub room : clause_words b.clauses ≤ length t
