-- The lent tables. A run's counts are the lengths of its two lists of words, so the counted places are those words and the later ones are left. Its derived
-- rules are no more than the places, and its records no more than the options, of which there are at most 64: both fit.
use mathlib.Core.Path.{◌≡◌, refl, sym, ap, subst, ◌∙◌}
use mathlib.Core.List.{List, map}
use mathlib.Core.Option.{none}
use Prim.Native.Nat.{ℕ, ◌≤◌}
use native.Mathlib.Nat.{le_trans}
use native.Mathlib.Omega.{arith}
use lib.ListN.{length, take, drop, length-map, length-append, length-drop}
use lib.Seq.{take_at, drop_at}
use Rattle.steps.specs.Clause.{Clause, DSequent}
use Rattle.steps.specs.Run.{Outcome}
use Rattle.steps.specs.Shape.{Input}
use Rattle.steps.specs.Demands.{Right, Spent}
use Rattle.steps.proofs.Soundness.{demand2}
use Rattle.steps.proofs.Allowances.{stops_spent as run_spent}
use Rattle.order.specs.Order.{Order, complete}
use Rattle.book.specs.Bytes.{vars_in, rules_in}
use Rattle.book.specs.Refusals.{first_row, admit_rows}
use Rattle.book.proofs.Accepted.{none_admitted}
use Rattle.answer.specs.Answer.{tally_of}
use Rattle.contract.specs.Check.{Lengths, Result, Result.refused, Result.ran, check}
use Rattle.contract.specs.Filled.{Tables, lengths, written, filled}
use Rattle.contract.specs.Demands.{Permitted, Untouched, first_places, later_places, tables_of, Fills, Filling, NoPart}
use Rattle.contract.proofs.Checking.{ran_passed, runs, same_check}

-- ---- one table

module _ (k : ℕ) (ws t : List ℕ) (e : length ws ≡ k) where
  -- the first k places hold the words
  first_written : take k (written ws t) ≡ ws
  first_written = take_at ws _ k e

  -- the later ones are as they were
  later_written : drop k (written ws t) ≡ drop k t
  later_written = drop_at ws (drop (length ws) t) k e ∙ ap (λ m. drop m t) e

  -- and so is the length
  length_written : k ≤ length t → length (written ws t) ≡ length t
  length_written h = length-append ws (drop (length ws) t) ∙ omega (arith, length-drop (length ws) t, h, e)

-- ---- five tables

-- tables with the same contents are the same
pub tables_equal :
    {p p' q q' x x' y y' z z' : List ℕ} → p ≡ p' → q ≡ q' → x ≡ x' → y ≡ y' → z ≡ z' →
    ◌≡◌ {A = Tables}
    (record { pos = p; neg = q; decided = x; trues = y; redundant = z })
    (record { pos = p'; neg = q'; decided = x'; trues = y'; redundant = z' })
tables_equal p q x y z = cc

-- and so are equal lengths
pub lengths_equal :
    {p p' q q' x x' y y' z z' : ℕ} → p ≡ p' → q ≡ q' → x ≡ x' → y ≡ y' → z ≡ z' →
    ◌≡◌ {A = Lengths}
    (record { pos = p; neg = q; decided = x; trues = y; redundant = z })
    (record { pos = p'; neg = q'; decided = x'; trues = y'; redundant = z' })
lengths_equal p q x y z = cc

module _ (r : Outcome) (t : Tables) where
  -- the counts are the lengths of the words
  derived_words : (f : Clause → ℕ) → length (map f r.derived) ≡ length r.derived
  derived_words f = length-map r.derived f

  records_words : (f : DSequent → ℕ) → length (map f r.records) ≡ length r.records
  records_words f = length-map r.records f

  -- the counted places of the tables after a run
  filled_first : first_places (tally_of r) (filled (ran r) t) ≡ tables_of r
  unfolding filled
  filled_first =
      tables_equal
      (first_written _ (tables_of r).pos t.pos (derived_words _))
      (first_written _ (tables_of r).neg t.neg (derived_words _))
      (first_written _ (tables_of r).decided t.decided (records_words _))
      (first_written _ (tables_of r).trues t.trues (records_words _))
      (first_written _ (tables_of r).redundant t.redundant (records_words _))

  -- the later ones
  filled_later : later_places (tally_of r) (filled (ran r) t) ≡ later_places (tally_of r) t
  unfolding filled
  filled_later =
      tables_equal
      (later_written _ (tables_of r).pos t.pos (derived_words _))
      (later_written _ (tables_of r).neg t.neg (derived_words _))
      (later_written _ (tables_of r).decided t.decided (records_words _))
      (later_written _ (tables_of r).trues t.trues (records_words _))
      (later_written _ (tables_of r).redundant t.redundant (records_words _))

  -- and their lengths, where there is room
  filled_lengths : Permitted (lengths t) → length r.derived ≤ length t.pos → length r.records ≤ 64 → lengths (filled (ran r) t) ≡ lengths t
  unfolding filled
  filled_lengths p d k =
      lengths_equal
      (length_written _ (tables_of r).pos t.pos (derived_words _) d)
      (length_written _ (tables_of r).neg t.neg (derived_words _) (subst (λ m. length r.derived ≤ m) p.same d))
      (length_written _ (tables_of r).decided t.decided (records_words _) (le_trans k p.decided))
      (length_written _ (tables_of r).trues t.trues (records_words _) (le_trans k p.trues))
      (length_written _ (tables_of r).redundant t.redundant (records_words _) (le_trans k p.redundant))

-- ---- a run

-- an admitted book and the completed order are an input of the steps
pub admitted_input : (bytes : List ℕ) (o : Order) → first_row (admit_rows bytes o) ≡ none → Input (vars_in bytes) (rules_in bytes) (complete o)
admitted_input bytes o a = (none_admitted bytes o a).input

module _ (bytes : List ℕ) (o : Order) (allowance : ℕ) (l : Lengths) (r : Outcome) (e : check bytes o allowance l ≡ ran r) where
  -- demand 2
  pub ran_right : Right (vars_in bytes) (rules_in bytes) (complete o) r
  ran_right =
      let p = ran_passed bytes o allowance l r e in
      subst
      (Right (vars_in bytes) (rules_in bytes) (complete o))
      (sym p.by_the_steps)
      (demand2 (vars_in bytes) (rules_in bytes) (complete o) (admitted_input bytes o p.admitted) _ _)

  -- within the allowances
  pub ran_spent : Spent allowance l.pos r
  ran_spent =
      let p = ran_passed bytes o allowance l r e in
      subst
      (Spent allowance l.pos)
      (sym p.by_the_steps)
      (run_spent (vars_in bytes) (rules_in bytes) (complete o) (admitted_input bytes o p.admitted) _ _)

  -- at most 64 records
  pub ran_records : length r.records ≤ 64
  ran_records = le_trans ran_right.records.few (none_admitted bytes o (ran_passed bytes o allowance l r e).admitted).well_formed.vars_few

-- the tables after a check that was run
pub ran_fills :
    (bytes : List ℕ) (o : Order) (allowance : ℕ) (t : Tables) (r : Outcome) → check bytes o allowance (lengths t) ≡ ran r →
    Fills r t (filled (check bytes o allowance (lengths t)) t)
ran_fills bytes o allowance t r e =
    let fits = (ran_spent bytes o allowance (lengths t) r e).no_more_clauses in
    let few = ran_records bytes o allowance (lengths t) r e in
    let p = (ran_passed bytes o allowance (lengths t) r e).permitted in
    subst
    (λ (x : Result). Fills r t (filled x t))
    (sym e)
    (record {
      first = filled_first r t;
      later = filled_later r t;
      same_lengths = filled_lengths r t p fits few;
      derived_fit = fits;
      records_fit = few;
    })

pub filling : Filling
filling bytes o allowance t h = ran_fills bytes o allowance t _ ((runs bytes o allowance (lengths t) _).1 (h, refl))

pub untouched : Untouched
unfolding filled
untouched bytes o allowance t k e = rw e

-- no check changes a length
pub checked_lengths : (bytes : List ℕ) (o : Order) (allowance : ℕ) (t : Tables) → lengths (filled (check bytes o allowance (lengths t)) t) ≡ lengths t
checked_lengths bytes o allowance t = go (check bytes o allowance (lengths t)) refl
  where
    go : (x : Result) → check bytes o allowance (lengths t) ≡ x → lengths (filled (check bytes o allowance (lengths t)) t) ≡ lengths t
    go (refused k) e = ap lengths (untouched bytes o allowance t k e)
    go (ran r) e = (ran_fills bytes o allowance t r e).same_lengths

-- ---- what plays no part

pub no_part : NoPart
no_part bytes o allowance t t' p p' e =
    let same = same_check bytes o allowance (lengths t) (lengths t') p p' e in
    record {
      result = same;
      words = λ r f. (ran_fills bytes o allowance t r f).first ∙ sym (ran_fills bytes o allowance t' r (sym same ∙ f)).first;
    }
