-- The demands on a book that is read and written, each as a named type that is proved in `proofs/`. Bytes and words are any numbers.
use Rattle.std.specs.Prelude.{◌≡◌, List, ◌↔◌, ℕ}
use Rattle.steps.specs.Clause.{Clause}
use Rattle.order.specs.Order.{Order}
use Rattle.book.specs.Bytes.{AllBytes, vars_in, rules_in, encode}
use Rattle.book.specs.Refusals.{admit_rows}
use Rattle.book.specs.Reading.{Reading.book, Reading.refused, read, admit, WellFormed}
use Rattle.book.specs.Conditions.{First, NoRow, Decides, admit_conditions}

-- ---- refusals

-- each row is tested for its condition, which is in words of membership and number (`Conditions`)
abbrev pub RowsDecide : Type 0
RowsDecide = (bytes : List ℕ) (o : Order) → Decides (admit_rows bytes o) (admit_conditions bytes o)

-- a refusal has the number of the first condition that holds, and each first condition that holds is refused
abbrev pub FirstRefused : Type 0
FirstRefused = (bytes : List ℕ) (o : Order) (k : ℕ) → (admit bytes o ≡ refused k) ↔ First (admit_conditions bytes o) k

-- where no condition holds, and only there, there is a book, and it is the one in the bytes
abbrev pub FaultlessBook : Type 0
FaultlessBook =
    (bytes : List ℕ) (o : Order) (n : ℕ) (cs : List Clause) →
    (admit bytes o ≡ book n cs) ↔ (NoRow (admit_conditions bytes o) × (n ≡ vars_in bytes) × (cs ≡ rules_in bytes))

-- ---- reading and writing

-- reading what was written gives the same book
abbrev pub ReadWritten : Type 0
ReadWritten = (n : ℕ) (cs : List Clause) → WellFormed n cs → read (encode n cs) ≡ book n cs

-- writing what was read gives the same bytes
abbrev pub WrittenRead : Type 0
WrittenRead = (bytes : List ℕ) (n : ℕ) (cs : List Clause) → AllBytes bytes → read bytes ≡ book n cs → encode n cs ≡ bytes

-- ---- all of them

pub record Demands : Type 0 where
  pub rows_decide : RowsDecide
  pub first_refused : FirstRefused
  pub faultless_book : FaultlessBook
  pub read_written : ReadWritten
  pub written_read : WrittenRead
