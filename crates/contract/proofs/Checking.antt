-- A check and its rows. Each row decides its condition, so the first row that holds is at the first condition that does; a check that was run passed every
-- row, and whether it is run does not depend on the allowance, nor on the tables while they are permitted.
use mathlib.Core.Path.{◌≡◌, refl, sym, ap, ◌∙◌}
use mathlib.Core.Bool.{Bool, true, false, not}
use mathlib.Core.List.{List, [], ◌∷◌}
use mathlib.Core.Logic.{◌⊎◌, inl, inr}
use mathlib.Core.Option.{Option, some, none}
use Prim.Native.Nat.{ℕ, ◌≤◌}
use native.Mathlib.Omega.{arith}
use borrow.Author.Tests.{eqb-true, eq-eqb, ltb-false, le-ltb, not-false}
use lib.Dec.{eqb, ltb}
use Rattle.words.proofs.Truth.{both_ways, clash, or_neither}
use Rattle.steps.specs.Run.{Outcome}
use Rattle.order.specs.Order.{Order}
use Rattle.book.specs.Limits.{max_derived, min_records}
use Rattle.book.specs.Bytes.{vars_in}
use Rattle.book.specs.Refusals.{row, first_row, admit_rows}
use Rattle.book.specs.Conditions.{condition, First, Decides, book_conditions, order_conditions, admit_conditions}
use Rattle.book.proofs.Refusals.{first_none, first_later, none_here, first_among, first_after, none_among, decides_append, first_iff, none_iff, first_number, append_numbers, book_numbers}
use Rattle.book.proofs.Conditions.{rows_decide}
use Rattle.contract.specs.Check.{Lengths, tables_fault, table_rows, check_rows, outcome, Result.refused, Result.ran, result_by, check}
use Rattle.contract.specs.Demands.{Permitted, check_conditions, Refusals, Runs}

-- ---- the tables

-- lengths that pass are permitted
pub passing : (l : Lengths) → tables_fault l ≡ false → Permitted l
unfolding tables_fault
passing l e =
    let a = or_neither (not (eqb l.pos l.neg)) _ e in
    let b = or_neither (ltb max_derived l.pos) _ a.1 in
    let c = or_neither (ltb l.decided min_records) _ b.1 in
    let d = or_neither (ltb l.trues min_records) (ltb l.redundant min_records) c.1 in
    record {
      same = eqb-true l.pos l.neg (not-false (eqb l.pos l.neg) a.0);
      few = ltb-false max_derived l.pos b.0;
      decided = ltb-false l.decided min_records c.0;
      trues = ltb-false l.trues min_records d.0;
      redundant = ltb-false l.redundant min_records d.1;
    }

-- and permitted lengths pass
pub permitted_passes : (l : Lengths) → Permitted l → tables_fault l ≡ false
unfolding tables_fault
permitted_passes l p =
    rw (
      eq-eqb l.pos l.neg p.same,
      le-ltb max_derived l.pos p.few,
      le-ltb l.decided min_records p.decided,
      le-ltb l.trues min_records p.trues,
      le-ltb l.redundant min_records p.redundant,
    ) refl

-- row 9 decides its condition
pub tables_decide : (l : Lengths) → Decides (table_rows l) (condition 9 (Permitted l → ⊥) ∷ [])
tables_decide l = (
  refl,
  (
    λ e p. both_ways (tables_fault l) e (permitted_passes l p),
    λ h. go (tables_fault l) refl h,
  ),
  tt,
)
  where
    go : (b : Bool) → tables_fault l ≡ b → (Permitted l → ⊥) → b ≡ true
    go true e h = refl
    go false e h = absurd (h (passing l e))

-- every row of a check decides its condition
rows_of_check : (bytes : List ℕ) (o : Order) (l : Lengths) → Decides (check_rows bytes o l) (check_conditions bytes o l)
rows_of_check bytes o l = decides_append (admit_rows bytes o) (table_rows l) (admit_conditions bytes o) _ (rows_decide bytes o) (tables_decide l)

-- ---- the check

module _ (bytes : List ℕ) (o : Order) (allowance : ℕ) (l : Lengths) where
  -- a check by its first row
  pub check_refused : (k : ℕ) → first_row (check_rows bytes o l) ≡ some k → check bytes o allowance l ≡ refused k
  unfolding check
  check_refused k e = ap (result_by bytes o allowance l) e

  pub check_ran : first_row (check_rows bytes o l) ≡ none → check bytes o allowance l ≡ ran (outcome bytes o allowance l)
  unfolding check
  check_ran e = ap (result_by bytes o allowance l) e

  -- and the first row of a check
  pub refused_row : (k : ℕ) → check bytes o allowance l ≡ refused k → first_row (check_rows bytes o l) ≡ some k
  refused_row k e = go (first_row (check_rows bytes o l)) refl
    where
      go : (x : Option ℕ) → first_row (check_rows bytes o l) ≡ x → x ≡ some k
      go (some j) f = let same : refused j ≡ refused k = sym (check_refused j f) ∙ e in cc
      go none f = let other : ran (outcome bytes o allowance l) ≡ refused k = sym (check_ran f) ∙ e in clash cc

  pub ran_row : (r : Outcome) → check bytes o allowance l ≡ ran r → (first_row (check_rows bytes o l) ≡ none) × (r ≡ outcome bytes o allowance l)
  ran_row r e = go (first_row (check_rows bytes o l)) refl
    where
      go : (x : Option ℕ) → first_row (check_rows bytes o l) ≡ x → (x ≡ none) × (r ≡ outcome bytes o allowance l)
      go (some j) f = let other : refused j ≡ ran r = sym (check_refused j f) ∙ e in clash cc
      go none f = let same : ran (outcome bytes o allowance l) ≡ ran r = sym (check_ran f) ∙ e in (refl, cc)

pub refusals : Refusals
refusals bytes o allowance l k =
    let first = first_iff (check_rows bytes o l) (check_conditions bytes o l) k (rows_of_check bytes o l) in
    (λ e. first.0 (refused_row bytes o allowance l k e), λ h. check_refused bytes o allowance l k (first.1 h))

pub runs : Runs
runs bytes o allowance l r =
    let no_row = none_iff (check_rows bytes o l) (check_conditions bytes o l) (rows_of_check bytes o l) in (
      λ e. let h = ran_row bytes o allowance l r e in (no_row.0 h.0, h.1),
      λ h. check_ran bytes o allowance l (no_row.1 h.0) ∙ ap ran (sym h.1),
    )

-- ---- what a check that was run has passed

pub record Ran (bytes : List ℕ) (o : Order) (allowance : ℕ) (l : Lengths) (r : Outcome) : Type 0 where
  pub admitted : first_row (admit_rows bytes o) ≡ none
  pub permitted : Permitted l
  pub by_the_steps : r ≡ outcome bytes o allowance l

pub ran_passed : (bytes : List ℕ) (o : Order) (allowance : ℕ) (l : Lengths) (r : Outcome) → check bytes o allowance l ≡ ran r → Ran bytes o allowance l r
ran_passed bytes o allowance l r e =
    let h = ran_row bytes o allowance l r e in
    let admitted = none_among (admit_rows bytes o) (table_rows l) h.0 in
    record {
      admitted = admitted;
      permitted = passing l (none_here _ _ (sym (first_after (admit_rows bytes o) (table_rows l) admitted) ∙ h.0));
      by_the_steps = h.1;
    }

-- an admitted book and order run with all permitted tables
pub admitted_ran :
    (bytes : List ℕ) (o : Order) (allowance : ℕ) (l : Lengths) → first_row (admit_rows bytes o) ≡ none → Permitted l →
    check bytes o allowance l ≡ ran (outcome bytes o allowance l)
admitted_ran bytes o allowance l a p =
    check_ran bytes o allowance l
    (first_after (admit_rows bytes o) (table_rows l) a ∙ first_later (row 9 (tables_fault l)) [] (permitted_passes l p) ∙ first_none)

-- permitted tables with as many places give the same result
pub same_check :
    (bytes : List ℕ) (o : Order) (allowance : ℕ) (l l' : Lengths) → Permitted l → Permitted l' → l.pos ≡ l'.pos →
    check bytes o allowance l ≡ check bytes o allowance l'
same_check bytes o allowance l l' p p' e = go (first_row (admit_rows bytes o)) refl
  where
    go : (x : Option ℕ) → first_row (admit_rows bytes o) ≡ x → check bytes o allowance l ≡ check bytes o allowance l'
    go (some k) f =
        check_refused bytes o allowance l k (first_among (admit_rows bytes o) (table_rows l) k f)
        ∙ sym (check_refused bytes o allowance l' k (first_among (admit_rows bytes o) (table_rows l') k f))
    go none f =
        admitted_ran bytes o allowance l f p
        ∙ ap
        (λ (places : ℕ). ran (outcome bytes o allowance (record { pos = places; neg = l.neg; decided = l.decided; trues = l.trues; redundant = l.redundant })))
        e
        ∙ sym (admitted_ran bytes o allowance l' f p')

-- ---- the numbers of refusals

-- a number from 1 to 9, or 12
abbrev Numbered : ℕ → Type 0
Numbered k = ((1 ≤ k) × (k ≤ 9)) ⊎ (k ≡ 12)

up_to_nine : (k : ℕ) → 1 ≤ k → k ≤ 9 → Numbered k
up_to_nine k l h = inl (l, h)

-- the number of a refusal
pub numbered : (bytes : List ℕ) (o : Order) (l : Lengths) (k : ℕ) → First (check_conditions bytes o l) k → ((1 ≤ k) × (k ≤ 9)) ⊎ (k ≡ 12)
numbered bytes o l k =
    first_number Numbered (check_conditions bytes o l) k
    (append_numbers Numbered (admit_conditions bytes o) _
    (append_numbers Numbered (book_conditions bytes) (order_conditions (vars_in bytes) o) (book_numbers Numbered (λ j low high. up_to_nine j low (omega arith)) bytes)
    (up_to_nine 7 (omega arith) (omega arith), (up_to_nine 8 (omega arith) (omega arith), (inr refl, tt))))
    (up_to_nine 9 (omega arith) (omega arith), tt))
