-- The program: the result of a check of what standard input holds, the printed outcome, and the sizes of both.
use Rattle.std.specs.Prelude.{◌≡◌, true, false, List, [], map, ℕ, ◌+◌, ltb, length, drop}
use Rattle.steps.specs.Clause.{Clause, DSequent}
use Rattle.order.specs.Order.{Order}
use Rattle.book.specs.Bytes.{book_bytes, word_at}
use Rattle.book.specs.Limits.{max_clauses, max_derived, min_records}
use Rattle.answer.specs.Answer.{of_outcome, Answer, Answer.Refused}
use Rattle.contract.specs.Check.{Lengths, Result, Result.refused, Result.ran, check}
use Rattle.contract.specs.Filled.{Tables, lengths, answer_of, filled}
use Rattle.report.specs.Text.{outcome_text, bound}

-- the branching allowance of the program
abbrev pub allowance : ℕ
allowance = 1000000

-- the program's tables: as many places as are permitted, and as few for records as are permitted
abbrev pub places : Lengths
places = record { pos = max_derived; neg = max_derived; decided = min_records; trues = min_records; redundant = min_records }

-- the bytes of an order
abbrev pub order_bytes : ℕ
order_bytes = 24

-- wanted, unwanted and standard words, low byte first
abbrev pub order_in : List ℕ → Order
order_in input = record { wanted = word_at input 0; unwanted = word_at input 8; standard = word_at input 16 }

-- the order's bytes, then the book; refusal 1 with fewer bytes than the order has
unfoldable pub result_in : Lengths → List ℕ → Result
result_in l input =
    elim (ltb (length input) order_bytes) [ true ↦ refused 1 | false ↦ check (drop order_bytes input) (order_in input) allowance l ]

-- the text of a result: the answer, the derived rules and the records
unfoldable pub text_of : Result → List ℕ
text_of (refused k) = outcome_text (Refused k) [] [] [] [] []
text_of (ran r) =
    outcome_text
    (of_outcome r)
    (map (λ (c : Clause). c.pos) r.derived)
    (map (λ (c : Clause). c.neg) r.derived)
    (map (λ (d : DSequent). d.decisions.decided) r.records)
    (map (λ (d : DSequent). d.decisions.trues) r.records)
    (map (λ (d : DSequent). d.redundant) r.records)

-- what the program prints
unfoldable pub reply_to : List ℕ → List ℕ
reply_to input = text_of (result_in places input)

-- how much of an input the program reads: the order, the largest book, and one byte more
abbrev pub readable : ℕ
readable = order_bytes + (book_bytes max_clauses + 1)

-- no reply is longer
abbrev pub longest : ℕ
longest = bound max_derived min_records

-- a check of an input: its answer and the five tables are those of the definition
pub record Answered (input : List ℕ) (before : Tables) (r : Answer) (after : Tables) : Type 0 where
  pub answer : r ≡ answer_of (result_in (lengths before) input)
  pub tables : after ≡ filled (result_in (lengths before) input) before
