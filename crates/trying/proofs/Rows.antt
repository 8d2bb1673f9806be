-- The refusals, row by row: those of the open options and of the tables, and those of the book and the order before them.
use mathlib.Core.Path.{◌≡◌, sym, ap, ◌∙◌}
use mathlib.Core.Bool.{Bool, true, false, ◌||◌, or-true}
use mathlib.Core.List.{List, [], ◌∷◌, ◌++◌, append_assoc}
use mathlib.Core.Option.{some, none}
use Prim.Native.Nat.{ℕ, ◌≤◌, ◌<◌}
use borrow.Author.Tests.{lt-ltb, le-ltb}
use lib.Bits.{bit_or}
use lib.Count.{ones}
use lib.Dec.{ltb}
use Rattle.words.specs.Words.{meets}
use Rattle.steps.specs.Clause.{Clause}
use Rattle.order.specs.Order.{Order}
use Rattle.book.specs.Bytes.{vars_in}
use Rattle.book.specs.Refusals.{Row, row, first_row, above, admit_rows}
use Rattle.book.specs.Reading.{Reading.book, Reading.refused as unread, admit}
use Rattle.book.proofs.Refusals.{first_none, first_here, first_later, first_among, first_after}
use Rattle.book.proofs.Accepted.{admitted_book, admitted_row}
use Rattle.contract.specs.Check.{Lengths, tables_fault, table_rows}
use Rattle.undecided.specs.Undecided.{max_open, open_rows, undecided_rows}

module _ (n : ℕ) (o : Order) (opens : ℕ) (l : Lengths) where
  abbrev nineteen : Row
  nineteen = row 19 (ltb max_open (ones opens) || above n opens 0)

  abbrev twenty : Row
  twenty = row 20 (meets opens (bit_or o.wanted o.unwanted))

  abbrev nine : Row
  nine = row 9 (tables_fault l)

  -- more than 10 open options
  pub too_many : max_open < ones opens → some 19 ≡ first_row (open_rows n o opens ++ table_rows l)
  unfolding open_rows
  too_many h = sym (first_here nineteen (twenty ∷ nine ∷ []) (ap (λ (b : Bool). b || above n opens 0) (lt-ltb max_open (ones opens) h)))

  -- an open option above n
  pub too_high : above n opens 0 ≡ true → some 19 ≡ first_row (open_rows n o opens ++ table_rows l)
  unfolding open_rows
  too_high h =
      sym (first_here nineteen (twenty ∷ nine ∷ []) (ap (λ (b : Bool). ltb max_open (ones opens) || b) h ∙ or-true (ltb max_open (ones opens))))

  module _ (few : ones opens ≤ max_open) (low : above n opens 0 ≡ false) where
    passes_nineteen : nineteen.holds ≡ false
    passes_nineteen = ap (λ (b : Bool). b || above n opens 0) (le-ltb max_open (ones opens) few) ∙ low

    -- an open option is decided
    pub decided_too : meets opens (bit_or o.wanted o.unwanted) ≡ true → some 20 ≡ first_row (open_rows n o opens ++ table_rows l)
    unfolding open_rows
    decided_too h = sym (first_later nineteen (twenty ∷ nine ∷ []) passes_nineteen ∙ first_here twenty (nine ∷ []) h)

    module _ (apart : meets opens (bit_or o.wanted o.unwanted) ≡ false) where
      pub tables_faulty : tables_fault l ≡ true → some 9 ≡ first_row (open_rows n o opens ++ table_rows l)
      unfolding open_rows
      tables_faulty h = sym (first_later nineteen (twenty ∷ nine ∷ []) passes_nineteen ∙ first_later twenty (nine ∷ []) apart ∙ first_here nine [] h)

      pub nothing_faulty : tables_fault l ≡ false → none ≡ first_row (open_rows n o opens ++ table_rows l)
      unfolding open_rows
      nothing_faulty h =
          sym (first_later nineteen (twenty ∷ nine ∷ []) passes_nineteen ∙ first_later twenty (nine ∷ []) apart ∙ first_later nine [] h ∙ first_none)

module _ (bytes : List ℕ) (o : Order) (opens : ℕ) (l : Lengths) where
  -- what is not admitted is refused by the same row
  pub not_admitted : (k : ℕ) → unread k ≡ admit bytes o → some k ≡ first_row (undecided_rows bytes o opens l)
  not_admitted k e =
      sym
      (first_among (admit_rows bytes o ++ open_rows (vars_in bytes) o opens) (table_rows l) k
      (first_among (admit_rows bytes o) (open_rows (vars_in bytes) o opens) k (admitted_row bytes o k e)))

  -- and after what is admitted the later rows decide
  pub was_admitted : (n : ℕ) (cs : List Clause) → book n cs ≡ admit bytes o → first_row (open_rows n o opens ++ table_rows l) ≡ first_row (undecided_rows bytes o opens l)
  was_admitted n cs e =
      let a = admitted_book bytes o n cs e in
      ap (λ (m : ℕ). first_row (open_rows m o opens ++ table_rows l)) (sym a.vars_are)
      ∙ sym (first_after (admit_rows bytes o) (open_rows (vars_in bytes) o opens ++ table_rows l) a.no_row)
      ∙ ap first_row (sym (append_assoc (admit_rows bytes o) (open_rows (vars_in bytes) o opens) (table_rows l)))
