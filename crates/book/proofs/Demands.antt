-- Each demand, with its proof. The rows decide their conditions, so the first row that holds is at the first condition that does; and a book is what
-- no row refuses. Reading and writing undo each other array by array, word by word and byte by byte.
use mathlib.Core.Path.{sym, ap₂, ◌∙◌}
use Rattle.book.specs.Bytes.{vars_in, rules_in}
use Rattle.book.specs.Refusals.{first_row, admit_rows}
use Rattle.book.specs.Reading.{Reading.book, admit}
use Rattle.book.specs.Conditions.{admit_conditions}
use Rattle.book.specs.Demands.{FirstRefused, FaultlessBook, Demands}
use Rattle.book.proofs.Refusals.{first_iff, none_iff}
use Rattle.book.proofs.Conditions.{rows_decide}
use Rattle.book.proofs.Readings.{judged_book, judged_refused, refused_by, book_by}
use Rattle.book.proofs.RoundTrip.{read_written, written_read}

first_refused : FirstRefused
unfolding admit
first_refused bytes o k =
    let first = first_iff (admit_rows bytes o) (admit_conditions bytes o) k (rows_decide bytes o) in
    let found = first_row (admit_rows bytes o) in
    (λ e. first.0 (judged_refused found (vars_in bytes) k (rules_in bytes) e), λ h. sym (refused_by found (vars_in bytes) k (rules_in bytes) (first.1 h)))

faultless_book : FaultlessBook
unfolding admit
faultless_book bytes o n cs =
    let no_row = none_iff (admit_rows bytes o) (admit_conditions bytes o) (rows_decide bytes o) in
    let found = first_row (admit_rows bytes o) in (
      λ e. let j = judged_book found (vars_in bytes) n (rules_in bytes) cs e in (no_row.0 j.0, sym j.1, sym j.2),
      λ h. sym (book_by found (vars_in bytes) (rules_in bytes) (no_row.1 h.0)) ∙ ap₂ book (sym h.1) (sym h.2),
    )

pub demands : Demands
demands =
    record {
      rows_decide = rows_decide;
      first_refused = first_refused;
      faultless_book = faultless_book;
      read_written = read_written;
      written_read = written_read;
    }
