-- A check of a worst book is a run of the steps on its rules with an empty order, which meets the bound. It passes where it has no more than 1,024 rules, and so up to 10 options;
-- then 2^n - 1 places are permitted, the check is settled, and what less buys is demand 3.
use mathlib.Core.Path.{◌≡◌, refl, ap, ◌∙◌}
use mathlib.Core.Bool.{Bool, true, false}
use mathlib.Core.List.{List}
use mathlib.Core.Logic.{inr, ⊎_elim}
use mathlib.Core.Option.{none}
use Prim.Native.Nat.{ℕ, zero, suc, ◌-◌, ◌^◌, ◌≤◌}
use native.Mathlib.Nat.{le_refl}
use native.Mathlib.Omega.{arith}
use lib.Dec.{ltb}
use lib.ListN.{length}
use lib.Pow.{pow_mono}
use borrow.Author.Tests.{ltb-true, ltb-false}
use Rattle.words.specs.Words.{has}
use Rattle.words.proofs.Truth.{both_ways, or_either}
use Rattle.words.proofs.Membership.{has_zero}
use Rattle.steps.specs.Clause.{Clause}
use Rattle.steps.specs.Run.{Outcome, everything, run}
use Rattle.steps.specs.Marked as marked
use Rattle.steps.specs.Worst.{Arranged}
use Rattle.steps.specs.Demands.{Exactly}
use Rattle.steps.proofs.Demands as steps
use Rattle.steps.proofs.FullClauses.{full_proper, arranged_full, arranged_many}
use Rattle.order.proofs.Completed.{without_standard}
use Rattle.book.specs.Bytes.{rules_in, encode}
use Rattle.book.specs.Refusals.{first_row, order_rows}
use Rattle.book.specs.Reading.{WellFormed}
use Rattle.book.specs.Conditions.{NoRow, order_conditions}
use Rattle.book.proofs.Refusals.{none_iff}
use Rattle.book.proofs.Conditions.{order_decides}
use Rattle.book.proofs.Accepted.{none_admitted}
use Rattle.book.proofs.RoundTrip.{written_holds, written_admitted}
use Rattle.answer.specs.Answer.{tally_of, Answer.Cannot}
use Rattle.contract.specs.Check.{Lengths, outcome}
use Rattle.contract.specs.Filled.{lengths}
use Rattle.contract.specs.Demands.{answer, check_conditions, with_places, Settled}
use Rattle.contract.proofs.Checking.{Ran, ran_passed, admitted_ran}
use Rattle.contract.proofs.Demands as contract
use Rattle.worst.specs.Demands.{WorstBytes, empty_order, met, Buys, BoundMet, Passes, UpToTen, NoneBeyond}

-- ---- up to ten options

-- 2^n is more than 1,024 beyond 10
few_options : (n : ℕ) → 2 ^ n ≤ 1024 → n ≤ 10
few_options n h = go (ltb 10 n) refl
  where
    go : (t : Bool) → ltb 10 n ≡ t → n ≤ 10
    go true e = let many : 2 ^ 11 ≤ 2 ^ n = pow_mono (ltb-true 10 n e) in absurd (omega arith)
    go false e = ltb-false 10 n e

module _ (n : ℕ) (few : 2 ^ n ≤ 1024) (book : List Clause) (arranged : Arranged n book) where
  -- the book is well formed
  formed : WellFormed n book
  formed =
      record {
        vars_few = omega (arith, few_options n few);
        clauses_few = rw (arranged_many n book arranged) few;
        proper = λ c m. full_proper n c (arranged_full n book arranged c m);
      }

  -- an empty order passes
  empty_passes : first_row (order_rows n empty_order) ≡ none
  empty_passes =
      (none_iff (order_rows n empty_order) (order_conditions n empty_order) (order_decides n empty_order)).1 (
        λ (k, high, h). ⊎_elim (unset k) (unset k) (or_either (has 0 k) (has 0 k) h),
        (λ (k, h, g). unset k h, (λ (k, high, h). unset k h, tt)),
      )
    where
      unset : (k : ℕ) → has 0 k ≡ true → ⊥
      unset k h = both_ways (has 0 k) h (has_zero k)

  written : Passes n book
  written =
      let holds = written_holds n book formed in
      record {
        worst = record { options = holds.vars_are; rules = rw holds.clauses_are arranged };
        not_refused =
            λ l permitted.
            let bytes = encode n book in
            (((contract.demands).runs bytes empty_order 0 l (outcome bytes empty_order 0 l)).0 (admitted_ran bytes empty_order 0 l (written_admitted n book empty_order formed empty_passes) permitted)).0;
      }

pub up_to_ten : UpToTen
up_to_ten n small = written n (pow_mono small)

-- ---- what a check comes to

-- one record goes with "cannot"
one_record_lem : (n : ℕ) → 1 ≤ n → length (everything n) ≡ 1
one_record_lem zero h = absurd (omega arith)
one_record_lem (suc n) h = refl

module _ (n : ℕ) (bytes : List ℕ) (w : WorstBytes n bytes) (l : Lengths) (passes : NoRow (check_conditions bytes empty_order l)) where
  -- it is a run of its rules
  outcome_is : (allowance : ℕ) (tables : Lengths) → outcome bytes empty_order allowance tables ≡ run n (rules_in bytes) (marked.order 0 0) allowance tables.pos
  outcome_is allowance tables = rw (w.options, without_standard 0 0) refl

  -- which is not refused
  was_run : Ran bytes empty_order 0 l (outcome bytes empty_order 0 l)
  was_run = ran_passed bytes empty_order 0 l _ (((contract.demands).runs bytes empty_order 0 l (outcome bytes empty_order 0 l)).1 (passes, refl))

  few_rules : 2 ^ n ≤ 1024
  few_rules = rw (arranged_many n (rules_in bytes) w.rules) at (none_admitted bytes empty_order was_run.admitted).well_formed.clauses_few

  -- and meets the bound
  meets : (allowance : ℕ) (tables : Lengths) → 2 ^ n - 1 ≤ allowance → 2 ^ n - 1 ≤ tables.pos → Exactly n (outcome bytes empty_order allowance tables)
  meets allowance tables branchings places = rw (outcome_is allowance tables) (((steps.demands).worst_book n (rules_in bytes) w.rules).exactly allowance tables.pos branchings places)

  -- the tables with just as many places are permitted, so that the check is settled
  just : Lengths
  just = with_places (2 ^ n - 1) l

  settled : Settled bytes empty_order (outcome bytes empty_order (2 ^ n - 1) just)
  unfolding just
  settled =
      let few = few_rules in
      let p = was_run.permitted in
      record {
        asked = empty_order;
        same = refl;
        allowance = 2 ^ n - 1;
        tables = just;
        reached =
            admitted_ran bytes empty_order (2 ^ n - 1) just was_run.admitted
            (record { same = refl; few = omega arith; decided = p.decided; trues = p.trues; redundant = p.redundant });
        verdict = inr (meets (2 ^ n - 1) just (le_refl (2 ^ n - 1)) (le_refl (2 ^ n - 1))).ending;
      }

  bought : 1 ≤ n → (allowance : ℕ) → Buys n allowance l.pos (answer bytes empty_order allowance l)
  unfolding just
  bought positive allowance =
      let r = outcome bytes empty_order (2 ^ n - 1) just in
      let counts = meets (2 ^ n - 1) just (le_refl (2 ^ n - 1)) (le_refl (2 ^ n - 1)) in
      let buys = (contract.demands).buys bytes empty_order r settled allowance l was_run.permitted in
      let branchings : r.branchings ≡ 2 ^ n - 1 = counts.branchings in
      let derived : length r.derived ≡ 2 ^ n - 1 = counts.derived in
      record {
        exactly =
            λ h k.
            let x = meets allowance l h k in
            (contract.outcomes bytes empty_order allowance l passes).told.cannot x.ending ∙ ap Cannot (counted (outcome bytes empty_order allowance l) x);
        fewer_branchings = λ h k. buys.fewer_branchings (omega arith) (omega arith);
        fewer_places = λ h k. buys.fewer_places (omega arith) (omega arith);
        fewer = λ h k. buys.stops (λ e. omega (arith, e.0));
      }
    where
      counted : (r : Outcome) → Exactly n r → tally_of r ≡ met n
      counted r x = rw (x.branchings, x.derived, x.records, one_record_lem n positive) refl

pub none_beyond : NoneBeyond
none_beyond n bytes w l passes = few_options n (few_rules n bytes w l passes)

pub bound_met : BoundMet
bound_met n positive bytes w allowance before after a checked passes = rw checked.answer (bought n bytes w (lengths before) passes positive allowance)
