-- What the parts of a check know of each other. A book that was admitted is an input of the steps, so its run derives no more than the places and leaves no more
-- records than options; and the result for it is the check's, since it passed every row before 9.
use mathlib.Core.Path.{◌≡◌, refl, sym, ap, ap₂, subst⁻¹, ◌∙◌}
use mathlib.Core.Bool.{Bool, true, false}
use mathlib.Core.List.{List, []}
use Prim.Native.Nat.{ℕ, ◌+◌, ◌≤◌}
use native.Mathlib.Omega.{arith}
use lib.ListN.{length, length-append}
use Rattle.words.proofs.Truth.{when_true, when_false}
use Rattle.steps.specs.Clause.{Clause}
use Rattle.steps.specs.Run.{Assumptions, Outcome, units, given, no_decisions, start, finish, searched, run}
use Rattle.steps.specs.Search.{search as search_from}
use Rattle.steps.specs.Shape.{AllProper}
use Rattle.steps.proofs.ShapeStart.{given_proper}
use Rattle.steps.proofs.Allowances.{stops_spent}
use Rattle.steps.proofs.Soundness.{demand2}
use Rattle.answer.specs.Answer.{tally_of, tally_in, Answer}
use Rattle.answer.specs.Numbers.{by_number}
use Rattle.answer.specs.declared.Tally.{Tally}
use Rattle.answer.proofs.Ending.{tally_told}
use Rattle.order.specs.Order.{Order, complete}
use Rattle.book.specs.Limits.{max_vars, max_clauses, max_derived}
use Rattle.book.specs.Refusals.{row, admit_rows}
use Rattle.book.specs.Reading.{Reading.book, Reading.refused as unread, admit}
use Rattle.book.specs.declared.Book.{Book}
use Rattle.book.proofs.Refusals.{first_here, first_among, first_after}
use Rattle.book.proofs.Accepted.{admitted_book, admitted_row}
use Rattle.rows.specs.Rows.{clause_words, clauses, clauses_from, sequent_words, sequents}
use Rattle.rows.proofs.Tables.{clauses_length}
use Rattle.contract.specs.Check.{Lengths, tables_fault, table_rows, Result, Result.refused, Result.ran, check}
use Rattle.contract.specs.Filled.{Tables, lengths, answer_of, filled_with, filled, Checked}
use Rattle.contract.specs.Demands.{Permitted}
use Rattle.contract.proofs.Checking.{passing, check_refused, admitted_ran}
use Rattle.checker.specs.Work.{result_of, Workable, Promised, HasRun, Fitting}
use Rattle.checker.specs.declared.decide.Done.{Done}

-- ---- deciding

-- book and order, in a work table that has room for the largest run
module _ (b : Book) (o : Assumptions) (t : List ℕ) (w : Workable b o t) where
  -- how many clauses they are at most
  pub book_few : b.clauses ≤ max_clauses
  book_few = omega (arith, clauses_length t b.clauses, w.well_formed.clauses_few)

  -- the table with the order's clauses too, m in all
  module _ (t' : List ℕ) (m : ℕ) (is : clauses t' m ≡ given (clauses t b.clauses) o) where
    pub given_count : m ≡ length (given (clauses t b.clauses) o)
    given_count = sym (clauses_length t' m) ∙ ap length is

    pub given_few : m ≤ max_clauses + max_vars
    given_few =
        omega (
          arith,
          given_count,
          length-append (clauses t b.clauses) (units o),
          w.well_formed.clauses_few,
          w.well_formed.vars_few,
          w.order_few,
        )

    pub given_are_proper : AllProper b.vars (clauses t' m)
    given_are_proper = subst⁻¹ (AllProper b.vars) is (given_proper b.vars (clauses t b.clauses) o w.input)

-- the engine's run on the given clauses is the definition's
pub run_is :
    (n : ℕ) (cs : List Clause) (o : Assumptions) (allowance places m : ℕ) (g : List Clause) → m ≡ length (given cs o) → g ≡ given cs o →
    finish n m (search_from (record { n = n; allowance = allowance; capacity = m + places }) n no_decisions 0 (start g)) ≡ run n cs o allowance places
unfolding run searched
run_is n cs o allowance places m g e f =
    ap₂ (λ (k : ℕ) (l : List Clause). finish n k (search_from (record { n = n; allowance = allowance; capacity = k + places }) n no_decisions 0 (start l))) e f

-- ---- handing out

-- what was decided fits the lent tables
module _ (b : Book) (o : Assumptions) (t : List ℕ) (w : Workable b o t) (allowance : ℕ) (before : Tables) (p : Permitted (lengths before)) (d : Done) (t' rs : List ℕ)
    (done : HasRun b.vars (clauses t b.clauses) o allowance (length before.pos) d t' rs) where
  abbrev outcome : Outcome
  outcome = run b.vars (clauses t b.clauses) o allowance (length before.pos)

  -- the counts are those of the outcome
  counted : tally_in (by_number d.answer) ≡ tally_of outcome
  counted = ap tally_in done.handed.answer ∙ tally_told outcome.ending (tally_of outcome)

  pub fitting : length t' ≡ length t → sequent_words max_vars ≤ length rs → (c : Tally) → c ≡ tally_in (by_number d.answer) → Fitting t' rs d.given c before
  fitting same list c is =
      let spent = stops_spent b.vars (clauses t b.clauses) o w.input allowance (length before.pos) in
      let right = demand2 b.vars (clauses t b.clauses) o w.input allowance (length before.pos) in
      let derived : c.derived ≤ length before.pos = omega (arith, ap (λ (x : Tally). x.derived) (is ∙ counted), spent.no_more_clauses) in
      let records : c.records ≤ max_vars = omega (arith, ap (λ (x : Tally). x.records) (is ∙ counted), right.records.few, w.well_formed.vars_few) in
      record {
        table =
            omega (
              arith,
              derived,
              done.given_is,
              length-append (clauses t b.clauses) (units o),
              w.well_formed.clauses_few,
              w.well_formed.vars_few,
              w.order_few,
              p.few,
              w.room,
              same,
            );
        list = omega (arith, records, list);
        pos = derived;
        neg = omega (arith, derived, p.same);
        decided = omega (arith, records, p.decided);
        trues = omega (arith, records, p.trues);
        redundant = omega (arith, records, p.redundant);
      }

  -- and fills them
  pub handed_out : (c : Tally) → c ≡ tally_in (by_number d.answer) → (after : Tables) → tables_fault (lengths before) ≡ false →
      after ≡ filled_with (clauses_from t' d.given c.derived) (sequents rs c.records) before →
      Promised b.vars (clauses t b.clauses) o allowance before (by_number d.answer) after
  unfolding answer_of filled
  handed_out c is after passes copied =
      let ran_it : ran outcome ≡ result_of b.vars (clauses t b.clauses) o allowance (lengths before) = sym (when_false (tables_fault (lengths before)) _ _ passes) in
      record {
        answer = done.handed.answer ∙ ap answer_of ran_it;
        tables =
            copied
            ∙ ap₂
            (λ cs ds. filled_with cs ds before)
            (ap (λ (x : Tally). clauses_from t' d.given x.derived) is ∙ done.handed.derived)
            (ap (λ (x : Tally). sequents rs x.records) is ∙ done.handed.records)
            ∙ ap (λ (x : Result). filled x before) ran_it;
      }

-- lent tables that are refused
pub tables_refused : (n : ℕ) (cs : List Clause) (o : Assumptions) (allowance : ℕ) (before : Tables) (r : Answer) → tables_fault (lengths before) ≡ true →
    r ≡ answer_of (refused 9) → Promised n cs o allowance before r before
unfolding filled
tables_refused n cs o allowance before r fault is =
    let nine : refused 9 ≡ result_of n cs o allowance (lengths before) = sym (when_true (tables_fault (lengths before)) _ _ fault) in
    record { answer = is ∙ ap answer_of nine; tables = ap (λ (x : Result). filled x before) nine }

-- ---- the check

module _ (bytes : List ℕ) (o : Order) (allowance : ℕ) where
  -- 1 to 8 and 12
  pub refused_checked : (k : ℕ) (before : Tables) (r : Answer) → unread k ≡ admit bytes o → r ≡ answer_of (refused k) → Checked bytes o allowance before r before
  unfolding filled
  refused_checked k before r e is =
      let first = check_refused bytes o allowance (lengths before) k (first_among (admit_rows bytes o) (table_rows (lengths before)) k (admitted_row bytes o k e)) in
      record { answer = is ∙ ap answer_of (sym first); tables = ap (λ (x : Result). filled x before) (sym first) }

  -- 9 and the run
  result_is : (n : ℕ) (cs : List Clause) (l : Lengths) → book n cs ≡ admit bytes o → result_of n cs (complete o) allowance l ≡ check bytes o allowance l
  result_is n cs l e = go (tables_fault l) refl
    where
      go : (x : Bool) → tables_fault l ≡ x → result_of n cs (complete o) allowance l ≡ check bytes o allowance l
      go true f =
          let a = admitted_book bytes o n cs e in
          when_true (tables_fault l) _ _ f
          ∙ sym (check_refused bytes o allowance l 9 (first_after (admit_rows bytes o) (table_rows l) a.no_row ∙ first_here (row 9 (tables_fault l)) [] f))
      go false f =
          let a = admitted_book bytes o n cs e in
          when_false (tables_fault l) _ _ f
          ∙ ap₂ (λ (m : ℕ) (ds : List Clause). ran (run m ds (complete o) allowance l.pos)) (sym a.vars_are) (sym a.clauses_are)
          ∙ sym (admitted_ran bytes o allowance l a.no_row (passing l f))

  -- a book that was admitted, with a, the completed order
  module _ (a : Assumptions) (completed : a ≡ complete o) where
    pub admitted_workable : (b : Book) (t : List ℕ) → book b.vars (clauses t b.clauses) ≡ admit bytes o →
        clause_words (max_clauses + max_vars + max_derived) ≤ length t → Workable b a t
    admitted_workable b t e room =
        let accepted = admitted_book bytes o b.vars (clauses t b.clauses) e in
        subst⁻¹
        (λ (x : Assumptions). Workable b x t)
        completed
        (record { well_formed = accepted.well_formed; input = accepted.input; order_few = accepted.few; room = room })

    pub filled_checked : (n : ℕ) (cs : List Clause) (before : Tables) (r : Answer) (after : Tables) → book n cs ≡ admit bytes o →
        Promised n cs a allowance before r after → Checked bytes o allowance before r after
    filled_checked n cs before r after e f =
        let same : result_of n cs a allowance (lengths before) ≡ check bytes o allowance (lengths before) =
        ap (λ (x : Assumptions). result_of n cs x allowance (lengths before)) completed ∙ result_is n cs (lengths before) e
        in
        record { answer = f.answer ∙ ap answer_of same; tables = f.tables ∙ ap (λ (x : Result). filled x before) same }
