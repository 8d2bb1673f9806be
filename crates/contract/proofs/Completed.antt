-- A check goes by the completed order. Which orders pass does (crate `book`), and so does what is run; so two orders that complete to the same have the same outcome.
-- With a standard word of zero the completed order is the two words, and the row of 12 never holds, so that it can be left out of the table.
use mathlib.Core.Path.{◌≡◌, refl, sym, ap, ◌∙◌}
use mathlib.Core.Bool.{Bool, true, false}
use mathlib.Core.List.{List, [], ◌∷◌, ◌++◌, append_assoc}
use Prim.Native.Nat.{ℕ}
use Rattle.words.specs.Words.{meets}
use Rattle.words.proofs.Truth.{clash}
use Rattle.words.proofs.Sets.{or_within, within_zero}
use Rattle.steps.specs.Run.{Assumptions, Outcome, run}
use Rattle.order.specs.Order.{Order, complete}
use Rattle.order.specs.Demands.{order}
use Rattle.order.proofs.Completed as completed
use Rattle.book.specs.Bytes.{vars_in, rules_in}
use Rattle.book.specs.Refusals.{Row, row, first_row, above, book_rows, order_rows, admit_rows}
use Rattle.book.specs.Conditions.{Decides, book_conditions}
use Rattle.book.proofs.Refusals.{first_here, first_later, decides_append, first_iff, none_iff}
use Rattle.book.proofs.Conditions.{names_above, in_both, book_decides}
use Rattle.book.proofs.Orders.{above_within}
use Rattle.book.proofs.Accepted.{same_admitted}
use Rattle.contract.specs.Check.{Lengths, tables_fault, table_rows, check_rows, outcome_with, outcome, Result, Result.refused, Result.ran, check}
use Rattle.contract.specs.Filled.{Tables, lengths, filled}
use Rattle.contract.specs.Demands.{ByCompleted, two_word_conditions, TwoWords}
use Rattle.contract.proofs.Checking.{tables_decide, check_refused, check_ran, refused_row, ran_row, ran_passed, admitted_ran}

-- ---- two orders that complete to the same

-- where the one is run, the other is, with the same outcome
pub same_ran : (bytes : List ℕ) (o o' : Order) → complete o ≡ complete o' → (allowance : ℕ) (l : Lengths) (r : Outcome) →
    check bytes o allowance l ≡ ran r → check bytes o' allowance l ≡ ran r
same_ran bytes o o' same allowance l r e =
    let p = ran_passed bytes o allowance l r e in
    admitted_ran bytes o' allowance l (same_admitted bytes o o' same p.admitted) p.permitted
    ∙ ap ran (sym (p.by_the_steps ∙ ap (λ (a : Assumptions). outcome_with a bytes allowance l) same))

pub by_completed : ByCompleted
unfolding filled
by_completed bytes o o' same =
    record {
      result = λ allowance l r. (same_ran bytes o o' same allowance l r, same_ran bytes o' o (sym same) allowance l r);
      tables = λ allowance t. go allowance t (check bytes o allowance (lengths t)) refl (check bytes o' allowance (lengths t)) refl;
    }
  where
    go : (allowance : ℕ) (t : Tables) (x : Result) → check bytes o allowance (lengths t) ≡ x → (y : Result) → check bytes o' allowance (lengths t) ≡ y →
        filled x t ≡ filled y t
    go allowance t (refused k) e (refused j) f = refl
    go allowance t (refused k) e (ran r) f =
        let other : refused k ≡ ran r = sym e ∙ same_ran bytes o' o (sym same) allowance (lengths t) r f in
        clash cc
    go allowance t (ran r) e y f = ap (λ (x : Result). filled x t) (sym (same_ran bytes o o' same allowance (lengths t) r e) ∙ f)

-- ---- a standard word of zero

-- a row that does not hold can be left out
without_row : (rs ss : List Row) (r : Row) → r.holds ≡ false → first_row (rs ++ (r ∷ ss)) ≡ first_row (rs ++ ss)
without_row [] ss r h = first_later r ss h
without_row (s ∷ rs) ss r h = go (without_row rs ss r h) s.holds refl
  where
    go : first_row (rs ++ (r ∷ ss)) ≡ first_row (rs ++ ss) → (b : Bool) → s.holds ≡ b → first_row (s ∷ rs ++ (r ∷ ss)) ≡ first_row (s ∷ rs ++ ss)
    go rest true e = first_here s (rs ++ (r ∷ ss)) e ∙ sym (first_here s (rs ++ ss) e)
    go rest false e = first_later s (rs ++ (r ∷ ss)) e ∙ rest ∙ sym (first_later s (rs ++ ss) e)

-- wanted p and unwanted q, and no standard option
module _ (bytes : List ℕ) (p q allowance : ℕ) (l : Lengths) where
  -- 7 and 8
  abbrev wish_rows : List Row
  wish_rows = row 7 (above (vars_in bytes) p q) ∷ row 8 (meets p q) ∷ []

  -- 1 to 9
  abbrev two_word_rows : List Row
  two_word_rows = book_rows bytes ++ (row 7 (above (vars_in bytes) p q) ∷ row 8 (meets p q) ∷ row 9 (tables_fault l) ∷ [])

  -- no option of an empty word is above n
  none_above : above (vars_in bytes) 0 0 ≡ false
  none_above = above_within (vars_in bytes) 0 0 (or_within 0 0 _ (within_zero _) (within_zero _))

  -- the rows of a check without 12
  same_row : first_row (check_rows bytes (order p q 0) l) ≡ first_row two_word_rows
  unfolding admit_rows order_rows
  same_row =
      ap first_row
      (append_assoc (book_rows bytes) (order_rows (vars_in bytes) (order p q 0)) (table_rows l)
      ∙ sym (append_assoc (book_rows bytes) wish_rows (row 12 (above (vars_in bytes) 0 0) ∷ table_rows l)))
      ∙ without_row (book_rows bytes ++ wish_rows) (table_rows l) (row 12 (above (vars_in bytes) 0 0)) none_above
      ∙ ap first_row (append_assoc (book_rows bytes) wish_rows (table_rows l))

  decides : Decides two_word_rows (two_word_conditions bytes p q l)
  decides =
      decides_append (book_rows bytes) _ (book_conditions bytes) _ (book_decides bytes)
      (refl, names_above (vars_in bytes) p q, (refl, in_both p q, tables_decide l))

  -- what is run
  same_run : outcome bytes (order p q 0) allowance l ≡ run (vars_in bytes) (rules_in bytes) (record { pos = p; neg = q }) allowance l.pos
  same_run = ap (λ (a : Assumptions). outcome_with a bytes allowance l) (completed.without_standard p q)

  pub two_words : TwoWords bytes p q allowance l
  two_words =
      let o = order p q 0 in
      let no_row = none_iff two_word_rows (two_word_conditions bytes p q l) decides in
      record {
        refusals =
            λ k. (
              λ e. (first_iff two_word_rows (two_word_conditions bytes p q l) k decides).0 (sym same_row ∙ refused_row bytes o allowance l k e),
              λ f. check_refused bytes o allowance l k (same_row ∙ (first_iff two_word_rows (two_word_conditions bytes p q l) k decides).1 f),
            );
        runs =
            λ r. (
              λ e. let h = ran_row bytes o allowance l r e in (no_row.0 (sym same_row ∙ h.0), h.1 ∙ same_run),
              λ h. check_ran bytes o allowance l (same_row ∙ no_row.1 h.0) ∙ ap ran (same_run ∙ sym h.1),
            );
      }
