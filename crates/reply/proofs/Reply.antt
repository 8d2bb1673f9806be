-- The text of a result, out of the filled tables. The first places of a table, as many as are counted, hold just the words of the result, so the counts are within the tables and the lines
-- printed from them are those of the definition.
use mathlib.Core.Path.{◌≡◌, refl, sym, ap, ap₂, ◌∙◌, subst⁻¹}
use mathlib.Core.List.{List, map}
use Prim.Native.Nat.{ℕ, ◌-◌, ◌≤◌, ◌<◌}
use native.Mathlib.Decide.{dec_lt}
use native.Mathlib.Omega.{arith}
use borrow.Author.Tests.{lt-ltb, le-ltb}
use lib.ListN.{length, take, drop, length-append, length-drop, length-map}
use lib.Seq.{take_all, take_at}
use Rattle.steps.specs.Clause.{Clause, DSequent}
use Rattle.order.specs.Order.{Order}
use Rattle.answer.specs.Answer.{tally_of, of_outcome, tally_in, Answer, Answer.Refused}
use Rattle.answer.specs.declared.Tally.{Tally}
use Rattle.answer.proofs.Ending.{tally_told}
use Rattle.contract.specs.Check.{Lengths, Result, Result.refused, Result.ran, check}
use Rattle.contract.specs.Filled.{Tables, lengths, answer_of, written, filled, Checked}
use Rattle.contract.proofs.Filling.{ran_spent, ran_records}
use Rattle.book.specs.Limits.{min_records}
use Rattle.report.specs.Text.{outcome_text, text_from, Counted}
use Rattle.reply.specs.Reply.{allowance, order_bytes, order_in, result_in, text_of, Answered}

-- 1, with fewer bytes than an order has
pub result_short : (l : Lengths) (input : List ℕ) → length input < order_bytes → result_in l input ≡ refused 1
unfolding result_in
result_short l input h = rw (lt-ltb _ _ h, result_in)

-- and else the check of the book after the order
pub result_checked : (l : Lengths) (input : List ℕ) → order_bytes ≤ length input → result_in l input ≡ check (drop order_bytes input) (order_in input) allowance l
unfolding result_in
result_checked l input h = rw (le-ltb _ _ h, result_in)

-- as the code asks for it: the bytes from the order's end on, and an order that was read
pub result_read :
    (l : Lengths) (input : List ℕ) (o : Order) → order_bytes ≤ length input → o ≡ order_in input →
    check (take (length input - order_bytes) (drop order_bytes input)) o allowance l ≡ result_in l input
result_read l input o h e =
    ap₂ (λ (bs : List ℕ) (x : Order). check bs x allowance l) (take_all (length input - order_bytes) (drop order_bytes input) (omega (arith, length-drop order_bytes input))) e
    ∙ sym (result_checked l input h)

-- the words of some elements, at the first places of a table: they fit, and as many places as there are elements hold them
module _ {A : Type 0} (f : A → ℕ) (xs : List A) (t : List ℕ) (k : ℕ) (e : k ≡ length xs) where
  pub words_fit : k ≤ length (written (map f xs) t)
  words_fit = omega (arith, length-append (map f xs) (drop (length (map f xs)) t), length-map xs f)

  words_taken : take k (written (map f xs) t) ≡ map f xs
  words_taken = take_at (map f xs) (drop (length (map f xs)) t) k (length-map xs f ∙ sym e)

-- the counts of an answer are within the tables
abbrev pub Within : Answer → Tables → Type 0
Within a t = Counted (tally_in a) t.pos t.neg t.decided t.trues t.redundant

within : (x : Result) (t : Tables) → Within (answer_of x) (filled x t)
unfolding answer_of filled
within (refused k) t = record { pos = omega arith; neg = omega arith; decided = omega arith; trues = omega arith; redundant = omega arith }
within (ran r) t =
    let told = tally_told r.ending (tally_of r) in
    let derived = ap (λ (c : Tally). c.derived) told in
    let records = ap (λ (c : Tally). c.records) told in
    record {
      pos = words_fit _ r.derived t.pos _ derived;
      neg = words_fit _ r.derived t.neg _ derived;
      decided = words_fit _ r.records t.decided _ records;
      trues = words_fit _ r.records t.trues _ records;
      redundant = words_fit _ r.records t.redundant _ records;
    }

-- the text of an answer and the counted places of the tables
abbrev text_in : Answer → Tables → List ℕ
text_in a t = text_from a t.pos t.neg t.decided t.trues t.redundant

-- is that of the result
text_is : (x : Result) (t : Tables) → text_in (answer_of x) (filled x t) ≡ text_of x
unfolding answer_of filled text_of
text_is (refused k) t = refl
text_is (ran r) t =
    let told = tally_told r.ending (tally_of r) in
    let derived = ap (λ (c : Tally). c.derived) told in
    let records = ap (λ (c : Tally). c.records) told in
    λ i.
    outcome_text
    (of_outcome r)
    (words_taken (λ (c : Clause). c.pos) r.derived t.pos _ derived i)
    (words_taken (λ (c : Clause). c.neg) r.derived t.neg _ derived i)
    (words_taken (λ (s : DSequent). s.decisions.decided) r.records t.decided _ records i)
    (words_taken (λ (s : DSequent). s.decisions.trues) r.records t.trues _ records i)
    (words_taken (λ (s : DSequent). s.redundant) r.records t.redundant _ records i)

-- the counts of a check's answer are few
few :
    (bytes : List ℕ) (o : Order) (most : ℕ) (l : Lengths) (x : Result) → check bytes o most l ≡ x
    → ((tally_in (answer_of x)).derived ≤ l.pos) × ((tally_in (answer_of x)).records ≤ min_records)
unfolding answer_of
few bytes o most l (refused k) e = (omega arith, omega arith)
few bytes o most l (ran r) e =
    let told = tally_told r.ending (tally_of r) in (
      omega (arith, ap (λ (c : Tally). c.derived) told, (ran_spent bytes o most l r e).no_more_clauses),
      omega (arith, ap (λ (c : Tally). c.records) told, ran_records bytes o most l r e),
    )

few_of : (l : Lengths) (input : List ℕ) → let t = tally_in (answer_of (result_in l input)) in (t.derived ≤ l.pos) × (t.records ≤ min_records)
unfolding answer_of
few_of l input = elim (dec_lt (length input) order_bytes) [
  | yes short ↦ rw (result_short l input short) (omega arith, omega arith)
  | no not-short ↦ rw (result_checked l input (omega arith)) (few (drop order_bytes input) (order_in input) allowance l _ refl)
]

-- ---- a check of an input

module _ (input : List ℕ) (before : Tables) where
  -- fewer bytes than an order has
  pub answered_short : length input < order_bytes → Answered input before (Refused 1) before
  unfolding answer_of filled
  answered_short h =
      let e = result_short (lengths before) input h in
      record { answer = ap answer_of (sym e); tables = ap (λ (x : Result). filled x before) (sym e) }

  -- the order of the first bytes, and a check of the bytes after it
  pub answered_checked :
      (o : Order) (r : Answer) (after : Tables) → order_bytes ≤ length input → o ≡ order_in input →
      Checked (take (length input - order_bytes) (drop order_bytes input)) o allowance before r after → Answered input before r after
  answered_checked o r after h e done =
      let same = result_read (lengths before) input o h e in
      record { answer = done.answer ∙ ap answer_of same; tables = done.tables ∙ ap (λ (x : Result). filled x before) same }

-- what it left
module _ (input : List ℕ) (before after : Tables) (r : Answer) (h : Answered input before r after) where
  pub counts_fit : Within r after
  counts_fit =
      let x = result_in (lengths before) input in
      subst⁻¹ (λ (t : Tables). Within r t) h.tables (subst⁻¹ (λ (a : Answer). Within a (filled x before)) h.answer (within x before))

  pub counts_few : ((tally_in r).derived ≤ length before.pos) × ((tally_in r).records ≤ min_records)
  counts_few = rw h.answer (few_of (lengths before) input)

  pub text_printed : text_in r after ≡ text_of (result_in (lengths before) input)
  text_printed = ap₂ text_in h.answer h.tables ∙ text_is (result_in (lengths before) input) before
