-- Two books that were read, joined: the sizes that the code works out are the joint book's, the clauses that it puts together are its rules, and what it answers is the
-- first row that holds.
use mathlib.Core.Path.{◌≡◌, sym, ap, ap₂, ◌∙◌}
use mathlib.Core.Bool.{Bool, true, false}
use mathlib.Core.List.{List, [], ◌++◌, map}
use mathlib.Core.Option.{some}
use Prim.Native.Nat.{ℕ, ◌+◌, ◌≤◌, ◌<◌}
use native.Mathlib.Omega.{arith}
use borrow.Author.Tests.{le-ltb}
use lib.Count.{ones}
use lib.ListN.{length, get_or}
use Rattle.std.proofs.Common.{Option, Some, None, Result, Ok, Err, ok_or}
use Rattle.answer.specs.declared.refusal.Refusal.{Refusal}
use Rattle.answer.specs.declared.refusal.Refusal.TheVariants.{FaultyPairs}
use Rattle.words.specs.Words.{minus, first_vars}
use Rattle.rows.specs.Rows.{clause_words, clauses}
use Rattle.rows.proofs.Tables.{clauses_length}
use Rattle.book.specs.Limits.{max_clauses}
use Rattle.book.specs.Bytes.{book_bytes, vars_in, rules_in, encode}
use Rattle.book.specs.Refusals.{Row, row, first_row, book_rows}
use Rattle.book.specs.Reading.{Reading.book, Reading.refused, read}
use Rattle.book.specs.Written.{Written.Bytes, placed, written_by, written_of, written_to}
use Rattle.book.specs.declared.encode.WriteError.{WriteError}
use Rattle.book.specs.declared.encode.WriteError.TheVariants as error
use Rattle.book.specs.declared.Book as declared
use Rattle.book.proofs.Refusals.{first_none, first_here, first_later, first_among, first_after}
use Rattle.book.proofs.Readings.{judged_book, judged_refused}
use Rattle.book.proofs.Accepted.{bytes_book}
use Rattle.book.proofs.Encoding.{length_encode}
use Rattle.renaming.specs.Renaming.{renamed}
use Rattle.renaming.proofs.Keeping.{renamed_same}
use Rattle.joint.specs.Pairs.{pair_count, paired, unpaired_below, place}
use Rattle.joint.specs.Join.{Book, book_in, joint_vars, joint_count, joint_rules, joint_bytes, pairs_fault, too_large, Fitting, joint_rows, Joined, Joined.Written, Joined.Refused, joined_of, left_by, join, Joins}
use Rattle.joint.proofs.Pairs.{fits}
use Rattle.joint.proofs.Places.{below_all, places_into}
use Rattle.joint.proofs.Judging.{Faultless, faultless, fitting}
use Rattle.joint.proofs.Choices.{joint_rules_lem}
use Rattle.joining.specs.Promises.{book_of, Held, Small, Sizes, Writes, JoinsBooks, judged_as, NoneZero, place_in, Appendable}
use Rattle.joining.proofs.Judged.{judged_fault, judged_options}

-- ---- sizes and bytes

-- what is written is as long as the book's bytes
written_ok : (r : Result ℕ WriteError) (size : ℕ) → written_by r ≡ Bytes size → r ≡ Ok size
written_ok (Ok k) size e = cc
written_ok (Err (error.Refused k)) size e = cc
written_ok (Err error.Short) size e = cc

-- a book that fits is written at the beginning
module _ (b : declared.Book) (t out : List ℕ) (room : book_bytes b.clauses ≤ length out) where
  long : length (encode b.vars (clauses t b.clauses)) ≤ length out
  long = omega (arith, length_encode b.vars (clauses t b.clauses), clauses_length t b.clauses)

  pub written_whole : (r : Result ℕ WriteError) → written_by r ≡ written_of (length out) (book b.vars (clauses t b.clauses)) → r ≡ Ok (book_bytes (length (clauses t b.clauses)))
  unfolding written_of
  written_whole r e = written_ok r _ (e ∙ rw (le-ltb _ _ long, written_of) (ap Bytes (length_encode b.vars (clauses t b.clauses))))

  pub written_after : (after : List ℕ) → after ≡ written_to out (book b.vars (clauses t b.clauses)) → after ≡ placed out 0 (encode b.vars (clauses t b.clauses))
  unfolding written_to
  written_after after e = e ∙ rw (le-ltb _ _ long, written_to)

-- ---- two books in work tables

-- a book that was read is within the limits
pub small : (b : declared.Book) (t : List ℕ) → Held b t → Small b
small b t h = record { vars = h.formed.vars_few; clauses = omega (arith, clauses_length t b.clauses, h.formed.clauses_few) }

module _ (a b : declared.Book) (t u pairs : List ℕ) (ha : Held a t) (hb : Held b u) where
  abbrev A : Book
  A = book_of a t

  abbrev B : Book
  B = book_of b u

  -- the rows
  abbrev twenty_two : Row
  twenty_two = row 22 (pairs_fault a.vars b.vars pairs)

  abbrev twenty_three : ℕ → Row
  twenty_three room = row 23 (too_large (joint_vars A B pairs) (joint_count A B) room)

  -- a pair at fault
  pub books_fault :
      (out : List ℕ) (x : ℕ) (v : Option ℕ) (r : Result ℕ Refusal) → v ≡ None → v ≡ judged_as (pairs_fault a.vars b.vars pairs) x →
      r ≡ ok_or v FaultyPairs → JoinsBooks A B pairs out (joined_of r) out
  unfolding left_by
  books_fault out x v r none e er =
      let faulty = judged_fault (pairs_fault a.vars b.vars pairs) x (sym none ∙ e) in
      let refused : joined_of r ≡ Refused 22 = ap joined_of (er ∙ ap (λ o. ok_or o FaultyPairs) none) in
      record { left = ap (λ j. record { answer = j; out = out }) refused ∙ sym (ap (left_by A B pairs out) (first_here twenty_two _ faulty)) }

  module _ (p : ℕ) (passed : Some p ≡ judged_as (pairs_fault a.vars b.vars pairs) (paired pairs)) where
    no_fault : pairs_fault a.vars b.vars pairs ≡ false
    no_fault = (judged_options (pairs_fault a.vars b.vars pairs) (paired pairs) p passed).0

    pub paired_are : p ≡ paired pairs
    paired_are = (judged_options (pairs_fault a.vars b.vars pairs) (paired pairs) p passed).1

    sides : Faultless a.vars b.vars pairs
    sides = faultless a.vars b.vars pairs no_fault

    -- no option of the first side is 0
    pub first_low : NoneZero pairs
    first_low i h = (fits 0 pairs a.vars (pair_count pairs) sides.first i h).low

    module _ (s : declared.Book) (sizes : Sizes a b p s) where
      -- the sizes are the joint book's
      vars_are : s.vars ≡ joint_vars A B pairs
      unfolding unpaired_below
      vars_are =
          sizes.vars ∙ ap (λ w. a.vars + ones (minus (first_vars b.vars) w)) paired_are
          ∙ ap (λ k. a.vars + k) (below_all a.vars b.vars pairs sides.first sides.second)

      count_are : s.clauses ≡ joint_count A B
      count_are = omega (arith, sizes.clauses, clauses_length t a.clauses, clauses_length u b.clauses)

      large_are : (room : ℕ) → too_large s.vars s.clauses room ≡ too_large (joint_vars A B pairs) (joint_count A B) room
      large_are room = ap₂ (λ n m. too_large n m room) vars_are count_are

      -- not more clauses than two books have
      pub count_few : s.clauses ≤ max_clauses + max_clauses
      count_few = omega (arith, sizes.clauses, (small a t ha).clauses, (small b u hb).clauses)

      -- too large
      pub books_large : (out : List ℕ) (r : Bool) → r ≡ too_large s.vars s.clauses (length out) → r ≡ true → JoinsBooks A B pairs out (Refused 23) out
      unfolding left_by
      books_large out r er e =
          record {
            left =
                sym
                (ap (left_by A B pairs out)
                (first_later twenty_two _ no_fault ∙ first_here (twenty_three (length out)) [] (sym (large_are (length out)) ∙ sym er ∙ e)));
          }

      module _ (room : ℕ) (r : Bool) (er : r ≡ too_large s.vars s.clauses room) (not-large : r ≡ false) where
        pub fit : Fitting s.vars s.clauses room
        fit = fitting s.vars s.clauses room (sym er ∙ not-large)

        -- each place is the number of a bit
        pub bit : (k : ℕ) → k < b.vars → place a.vars pairs k < 64
        bit k h = omega (arith, places_into a.vars b.vars pairs sides.first sides.second k h, vars_are, fit.vars)

        pub appendable : Appendable a.clauses b.clauses u t
        appendable =
            record {
              from = omega (arith, hb.room, (small b u hb).clauses);
              room = omega (arith, ha.room, fit.clauses, sizes.clauses);
            }

        module _ (places : List ℕ) (placed-as : (k : ℕ) → k < b.vars → get_or places k 0 ≡ place a.vars pairs k) where
          -- the clauses that are put together are the joint book's rules
          rules_are :
              (t' : List ℕ) → clauses t' (a.clauses + b.clauses) ≡ clauses t a.clauses ++ map (renamed (place_in places) 64) (clauses u b.clauses) →
              clauses t' s.clauses ≡ joint_rules A B pairs
          rules_are t' e =
              ap (clauses t') sizes.clauses ∙ e
              ∙ ap (λ l. clauses t a.clauses ++ l)
              (renamed_same (place_in places) (place a.vars pairs) b.vars 64 (clauses u b.clauses) hb.formed.vars_few hb.formed.proper placed-as)
              ∙ sym (joint_rules_lem A B pairs)

          -- and its bytes are written
          pub books_written :
              (out after t' : List ℕ) (count : ℕ) → length out ≡ room →
              clauses t' (a.clauses + b.clauses) ≡ clauses t a.clauses ++ map (renamed (place_in places) 64) (clauses u b.clauses) →
              Writes (book_of s t') out count after → JoinsBooks A B pairs out (Written count) after
          unfolding left_by joint_bytes
          books_written out after t' count same put writes =
              let bytes : encode s.vars (clauses t' s.clauses) ≡ joint_bytes A B pairs = ap₂ encode vars_are (rules_are t' put) in
              let size : book_bytes (length (clauses t' s.clauses)) ≡ length (joint_bytes A B pairs) =
              sym (length_encode s.vars (clauses t' s.clauses)) ∙ ap length bytes
              in
              let passes : too_large (joint_vars A B pairs) (joint_count A B) (length out) ≡ false =
              ap (too_large (joint_vars A B pairs) (joint_count A B)) same ∙ sym (large_are room) ∙ sym er ∙ not-large
              in
              record {
                left =
                    ap₂ (λ x y. record { answer = x; out = y }) (ap Written (writes.bytes ∙ size)) (writes.out ∙ ap (placed out 0) bytes)
                    ∙ sym (ap (left_by A B pairs out) (first_later twenty_two _ no_fault ∙ first_later (twenty_three (length out)) [] passes ∙ first_none));
              }

-- ---- a book's bytes before the rows that follow

-- bytes that are refused
pub rows_refused : (bytes : List ℕ) (rest : List Row) (k : ℕ) → refused k ≡ read bytes → first_row (book_rows bytes ++ rest) ≡ some k
unfolding read
rows_refused bytes rest k e = first_among (book_rows bytes) rest k (judged_refused (first_row (book_rows bytes)) (vars_in bytes) k (rules_in bytes) (sym e))

-- bytes that are read into a work table
pub rows_passed : (bytes : List ℕ) (rest : List Row) (b : declared.Book) (t : List ℕ) → book b.vars (clauses t b.clauses) ≡ read bytes
    → (first_row (book_rows bytes ++ rest) ≡ first_row rest) × (book_of b t ≡ book_in bytes)
unfolding read
rows_passed bytes rest b t e =
    let j = judged_book (first_row (book_rows bytes)) (vars_in bytes) b.vars (rules_in bytes) (clauses t b.clauses) (sym e) in
    (first_after (book_rows bytes) rest j.0, ap₂ (λ n cs. record { vars = n; rules = cs }) (sym j.1) (sym j.2))

pub held : (bytes : List ℕ) (b : declared.Book) (t : List ℕ) → clause_words max_clauses ≤ length t → book b.vars (clauses t b.clauses) ≡ read bytes → Held b t
held bytes b t room e = record { room = room; formed = (bytes_book bytes b.vars (clauses t b.clauses) e).well_formed }

-- ---- the second book, and then the first

module _ (second pairs out : List ℕ) where
  -- the first book's rows are passed, and it is this one
  pub second_refused :
      (first : List ℕ) (a : declared.Book) (t : List ℕ) (k : ℕ) → book a.vars (clauses t a.clauses) ≡ read first → refused k ≡ read second →
      Joins first second pairs out (Refused k) out
  unfolding join left_by
  second_refused first a t k ea e =
      let passed = (rows_passed first _ a t ea).0 ∙ rows_refused second _ k e in
      record { left = sym (ap (left_by (book_in first) (book_in second) pairs out) passed) }

  pub first_refused : (first : List ℕ) (k : ℕ) → refused k ≡ read first → Joins first second pairs out (Refused k) out
  unfolding join left_by
  first_refused first k e = record { left = sym (ap (left_by (book_in first) (book_in second) pairs out) (rows_refused first _ k e)) }

  -- both are read
  pub both_read :
      (first : List ℕ) (a b : declared.Book) (t u : List ℕ) (r : Joined) (after : List ℕ) → book a.vars (clauses t a.clauses) ≡ read first →
      book b.vars (clauses u b.clauses) ≡ read second → JoinsBooks (book_of a t) (book_of b u) pairs out r after → Joins first second pairs out r after
  unfolding join
  both_read first a b t u r after ea eb j =
      let A = book_in first in
      let B = book_in second in
      let rows = (rows_passed first (book_rows second ++ joint_rows A B pairs (length out)) a t ea).0 ∙ (rows_passed second (joint_rows A B pairs (length out)) b u eb).0 in
      record {
        left =
            j.left
            ∙ ap₂ (λ x y. left_by x y pairs out (first_row (joint_rows x y pairs (length out)))) (rows_passed first [] a t ea).1 (rows_passed second [] b u eb).1
            ∙ ap (left_by A B pairs out) (sym rows);
      }
