-- The demands on a check. A check that was run passed every row, so its outcome is that of a run of an input of the steps, and demands 2 and 3 are those of the
-- steps.
use mathlib.Core.Path.{◌≡◌, refl, sym, ap, ap₂, subst, subst⁻¹, ◌∙◌}
use mathlib.Core.Logic.{inl, inr, ⊎_elim}
use mathlib.Core.List.{List}
use mathlib.Core.Option.{none}
use Prim.Native.Nat.{ℕ, ◌-◌, ◌^◌, ◌≤◌, ◌<◌}
use native.Mathlib.Nat.{le_trans}
use native.Mathlib.Omega.{arith}
use lib.ListN.{length}
use lib.Pow.{pow_mono}
use Rattle.words.proofs.Truth.{clash}
use Rattle.steps.specs.Clause.{Clause}
use Rattle.steps.specs.State.{Ending, Ending.can, Ending.cannot, Ending.out_of_branchings, Ending.out_of_clauses}
use Rattle.steps.specs.Run.{Outcome, run}
use Rattle.steps.specs.Meaning.{Buildable}
use Rattle.steps.specs.Demands as steps
use Rattle.steps.proofs.Allowances as allowances
use Rattle.steps.proofs.Bound as steps_bound
use Rattle.order.specs.Order.{Order, complete}
use Rattle.book.specs.Bytes.{vars_in, rules_in, encode}
use Rattle.book.specs.Refusals.{first_row, rule_rows, order_rows, admit_rows}
use Rattle.book.specs.Conditions.{rule_conditions, order_conditions}
use Rattle.book.specs.Reading.{WellFormed}
use Rattle.book.proofs.Refusals.{none_iff}
use Rattle.book.proofs.Conditions.{rules_decide, order_decides}
use Rattle.book.proofs.Accepted.{rules_proper, FromBytes}
use Rattle.book.proofs.RoundTrip.{written_holds, written_admitted}
use Rattle.answer.specs.Answer.{tally_of, end_of, Answer, Answer.Can, Answer.Cannot}
use Rattle.answer.specs.Packed.{Packable}
use Rattle.answer.specs.declared.Tally.{Tally}
use Rattle.answer.proofs.Ending.{tally_told, number_few}
use Rattle.contract.specs.Check.{Lengths, Result, Result.refused, Result.ran, outcome, check}
use Rattle.contract.specs.Filled.{Tables, lengths, answer_of, Checked}
use Rattle.contract.specs.Demands.{answer, Permitted, Named, Answers, AnswersFit, LimitsPass, Tells, Outcomes, Settled, StopsOnBranchings, StopsOnPlaces, with_places, Buys, DerivedBegin, IsVerdict, Bound, Demands}
use Rattle.contract.proofs.Examples.{one_run}
use Rattle.contract.proofs.Checking.{refusals, runs, numbered, ran_passed, admitted_ran}
use Rattle.contract.proofs.Filling.{admitted_input, ran_right, ran_spent, ran_records, filling, untouched, no_part}
use Rattle.contract.proofs.NeverCovered.{never_covered}
use Rattle.contract.proofs.Completed.{same_ran, by_completed, two_words}

-- ---- answers

-- the answer of a run names its ending
pub tells : (r : Outcome) → Tells r (answer_of (ran r))
unfolding answer_of
tells r = record { can = λ e. rw e; cannot = λ e. rw e; stops_on_branchings = λ e. rw e; stop_clauses = λ e. rw e }

-- a run's answer is a verdict or a named stop
named_ending : (x : Ending) (t : Tally) → Named (end_of x t)
named_ending can t = tt
named_ending cannot t = tt
named_ending out_of_branchings t = inl refl
named_ending out_of_clauses t = inr refl

pub answers : Answers
unfolding answer_of
answers bytes o allowance l = go (check bytes o allowance l) refl
  where
    go : (x : Result) → check bytes o allowance l ≡ x → Named (answer_of x)
    go (refused k) e = numbered bytes o l k ((refusals bytes o allowance l k).0 e)
    go (ran r) e = named_ending r.ending (tally_of r)

-- a refusal's number is at most 12 and a stop's at most 11; a run makes no more branchings than the allowance, no more derived rules than places, of which more
-- than 2,048 are refused, and at most 64 records
pub answers_fit : AnswersFit
unfolding answer_of
answers_fit bytes o allowance l h = go (check bytes o allowance l) refl
  where
    go : (x : Result) → check bytes o allowance l ≡ x → Packable (answer_of x)
    go (refused k) e =
        let named = numbered bytes o l k ((refusals bytes o allowance l k).0 e) in
        record { number = ⊎_elim (λ h. omega (arith, h.1)) (λ h. omega arith) named; branchings = omega arith; derived = omega arith; records = omega arith }
    go (ran r) e =
        let told = tally_told r.ending (tally_of r) in
        let spent = ran_spent bytes o allowance l r e in
        let few = (ran_passed bytes o allowance l r e).permitted.few in
        record {
          number = omega (arith, number_few r.ending (tally_of r));
          branchings = omega (arith, ap (λ (c : Tally). c.branchings) told, spent.no_more_branchings, h);
          derived = omega (arith, ap (λ (c : Tally). c.derived) told, spent.no_more_clauses, few);
          records = omega (arith, ap (λ (c : Tally). c.records) told, ran_records bytes o allowance l r e);
        }

-- so does the answer of the code
pub checked_fits :
    (bytes : List ℕ) (o : Order) (allowance : ℕ) (before after : Tables) (r : Answer) → Checked bytes o allowance before r after → allowance < 2 ^ 32 → Packable r
checked_fits bytes o allowance before after r checked h = subst⁻¹ Packable checked.answer (answers_fit bytes o allowance (lengths before) h)

-- ---- the limits

pub limits_pass : LimitsPass
limits_pass rules o count faultless ordered allowance =
    admitted_ran bytes o allowance _ (written_admitted 64 rules o formed ((none_iff (order_rows 64 o) (order_conditions 64 o) (order_decides 64 o)).1 ordered))
    (record { same = refl; few = omega arith; decided = omega arith; trues = omega arith; redundant = omega arith })
    ∙ ap₂ (λ (n : ℕ) (cs : List Clause). ran (run n cs (complete o) allowance 2048)) holds.vars_are holds.clauses_are
  where
    bytes : List ℕ
    bytes = encode 64 rules

    formed : WellFormed 64 rules
    formed =
        record {
          vars_few = omega arith;
          clauses_few = omega arith;
          proper = rules_proper 64 rules ((none_iff (rule_rows 64 rules) (rule_conditions 64 rules) (rules_decide 64 rules)).1 faultless);
        }

    holds : FromBytes bytes 64 rules
    holds = written_holds 64 rules formed

-- ---- demand 2

-- a run says "can" only at that ending
said_can : (x : Ending) (c t : Tally) → end_of x c ≡ Can t → x ≡ can
said_can can c t e = refl
said_can cannot c t e = clash cc
said_can out_of_branchings c t e = clash cc
said_can out_of_clauses c t e = clash cc

-- and "cannot" only at that one
said_cannot : (x : Ending) (c t : Tally) → end_of x c ≡ Cannot t → x ≡ cannot
said_cannot can c t e = clash cc
said_cannot cannot c t e = refl
said_cannot out_of_branchings c t e = clash cc
said_cannot out_of_clauses c t e = clash cc

-- the answer to a check that was run
told : (bytes : List ℕ) (o : Order) (allowance : ℕ) (l : Lengths) (r : Outcome) → check bytes o allowance l ≡ ran r → Tells r (answer bytes o allowance l)
told bytes o allowance l r e = subst (λ (x : Result). Tells r (answer_of x)) (sym e) (tells r)

-- it is "can" or "cannot" where the run ends so
told_can :
    (bytes : List ℕ) (o : Order) (allowance : ℕ) (l : Lengths) (r : Outcome) → check bytes o allowance l ≡ ran r →
    (t : Tally) → answer bytes o allowance l ≡ Can t → r.ending ≡ can
unfolding answer_of
told_can bytes o allowance l r e t a = said_can r.ending (tally_of r) t (sym (ap answer_of e) ∙ a)

told_cannot :
    (bytes : List ℕ) (o : Order) (allowance : ℕ) (l : Lengths) (r : Outcome) → check bytes o allowance l ≡ ran r →
    (t : Tally) → answer bytes o allowance l ≡ Cannot t → r.ending ≡ cannot
unfolding answer_of
told_cannot bytes o allowance l r e t a = said_cannot r.ending (tally_of r) t (sym (ap answer_of e) ∙ a)

pub outcomes : Outcomes
outcomes bytes o allowance l h =
    let r = outcome bytes o allowance l in
    let e = (runs bytes o allowance l r).1 (h, refl) in
    let right = ran_right bytes o allowance l r e in
    record {
      by_the_steps = e;
      told = told bytes o allowance l r e;
      can_only = λ t a. right.verdict.can_only (told_can bytes o allowance l r e t a);
      cannot_only = λ t a. right.verdict.cannot_only (told_cannot bytes o allowance l r e t a);
      derived = right.derived;
      records = right.records;
    }

-- an answer that is a verdict is that of a run
pub verdict_ran : (bytes : List ℕ) (o : Order) (allowance : ℕ) (l : Lengths) → IsVerdict (answer bytes o allowance l) → (r : Outcome) × (check bytes o allowance l ≡ ran r)
unfolding answer_of
verdict_ran bytes o allowance l v = go (check bytes o allowance l) refl v
  where
    go : (x : Result) → check bytes o allowance l ≡ x → IsVerdict (answer_of x) → (r : Outcome) × (check bytes o allowance l ≡ ran r)
    go (refused k) e v = absurd v
    go (ran r) e v = (r, e)

-- so whatever else is known of a check, after "can" book and order can be built, and after "cannot" they cannot
module _ (bytes : List ℕ) (o : Order) (allowance : ℕ) (l : Lengths) (t : Tally) where
  pub can_built : answer bytes o allowance l ≡ Can t → Buildable (vars_in bytes) (rules_in bytes) (complete o)
  can_built e =
      let r = verdict_ran bytes o allowance l (rw e tt) in
      (outcomes bytes o allowance l ((runs bytes o allowance l r.0).0 r.1).0).can_only t e

  pub cannot_built : answer bytes o allowance l ≡ Cannot t → Buildable (vars_in bytes) (rules_in bytes) (complete o) → ⊥
  cannot_built e =
      let r = verdict_ran bytes o allowance l (rw e tt) in
      (outcomes bytes o allowance l ((runs bytes o allowance l r.0).0 r.1).0).cannot_only t e

-- ---- demand 3

-- permitted tables with other places
permitted_places : (l : Lengths) (places : ℕ) → Permitted l → places ≤ 2048 → Permitted (with_places places l)
permitted_places l places p h = record { same = refl; few = h; decided = p.decided; trues = p.trues; redundant = p.redundant }

-- a verdict that was reached, and other allowances and tables
module _ (bytes : List ℕ) (o : Order) (r : Outcome) (d : Settled bytes o r) (allowance : ℕ) (l : Lengths) (p : Permitted l) where
  -- the order itself comes to it
  settled : check bytes o d.allowance d.tables ≡ ran r
  settled = same_ran bytes d.asked o d.same d.allowance d.tables r d.reached

  reached : first_row (admit_rows bytes o) ≡ none
  reached = (ran_passed bytes o d.allowance d.tables r settled).admitted

  -- the same of the steps
  bought : steps.Buys (vars_in bytes) (rules_in bytes) (complete o) r allowance l.pos
  bought =
      allowances.demand3 (vars_in bytes) (rules_in bytes) (complete o) (admitted_input bytes o reached) r
      (record {
        allowance = d.allowance;
        places = d.tables.pos;
        reached = sym (ran_passed bytes o d.allowance d.tables r settled).by_the_steps;
        verdict = d.verdict;
      })
      allowance
      l.pos

  now_ran : check bytes o allowance l ≡ ran (outcome bytes o allowance l)
  now_ran = admitted_ran bytes o allowance l reached p

  -- a stop, told
  on_branchings : steps.StopsOnBranchings allowance (outcome bytes o allowance l) → StopsOnBranchings allowance (answer bytes o allowance l)
  on_branchings s = (_, (told bytes o allowance l _ now_ran).stops_on_branchings s.0, s.1)

  on_places : steps.StopsOnPlaces l.pos (outcome bytes o allowance l) → StopsOnPlaces l.pos (answer bytes o allowance l)
  on_places s = (_, (told bytes o allowance l _ now_ran).stop_clauses s.0, s.1)

  -- with places enough, which are permitted
  enough : Permitted (with_places (length r.derived) l)
  enough =
      permitted_places l (length r.derived) p
      (le_trans
      (ran_spent bytes o d.allowance d.tables r settled).no_more_clauses
      (ran_passed bytes o d.allowance d.tables r settled).permitted.few)

  with_enough : (x : Outcome) → check bytes o allowance (with_places (length r.derived) l) ≡ ran x →
      x ≡ run (vars_in bytes) (rules_in bytes) (complete o) allowance (length r.derived)
  with_enough x e = (ran_passed bytes o allowance (with_places (length r.derived) l) x e).by_the_steps

  buys : Buys bytes o r allowance l
  buys =
      record {
        same = (λ h. now_ran ∙ ap ran (bought.same.0 h), λ e. bought.same.1 (sym (ran_passed bytes o allowance l r e).by_the_steps));
        stops = λ short. ⊎_elim (λ s. inl (on_branchings s)) (λ s. inr (on_places s)) (bought.stops short);
        fewer_branchings = λ h g. on_branchings (bought.fewer_branchings h g);
        fewer_places = λ h g. on_places (bought.fewer_places h g);
        branchings_first =
            λ x e h g few.
            let is = with_enough x e in
            let s = bought.branchings_first h g (subst (λ (y : Outcome). length y.derived ≤ l.pos) is few) in
            (on_branchings s.0, now_ran ∙ ap ran (s.1 ∙ sym is));
        places_first =
            λ x e h g many.
            let is = with_enough x e in
            let s = bought.places_first h g (subst (λ (y : Outcome). l.pos < length y.derived) is many) in
            (on_places s.0, now_ran ∙ ap ran s.1 ∙ sym (admitted_ran bytes o r.branchings l reached p));
        as_with_places = (_, admitted_ran bytes o allowance (with_places (length r.derived) l) reached enough);
      }

pub derived_begin : DerivedBegin
derived_begin bytes o o' same allowance allowance' l l' r r' e e' h g =
    let p = ran_passed bytes o allowance l r e in
    let p' = ran_passed bytes o allowance' l' r' (same_ran bytes o' o (sym same) allowance' l' r' e') in
    rw (p.by_the_steps, p'.by_the_steps)
    (allowances.derived_begin (vars_in bytes) (rules_in bytes) (complete o) (admitted_input bytes o p.admitted) allowance l.pos allowance' l'.pos h g)

-- the answer to a run with a verdict
verdict_answer :
    (bytes : List ℕ) (o : Order) (allowance : ℕ) (l : Lengths) (r : Outcome) → check bytes o allowance l ≡ ran r → steps.Verdict r.ending →
    IsVerdict (answer bytes o allowance l)
verdict_answer bytes o allowance l r e v =
    let t = told bytes o allowance l r e in
    ⊎_elim (λ h. subst IsVerdict (sym (t.can h)) tt) (λ h. subst IsVerdict (sym (t.cannot h)) tt) v

pub bound : Bound
bound bytes o l h =
    let n = vars_in bytes in
    let always : (allowance : ℕ) → check bytes o allowance l ≡ ran (outcome bytes o allowance l) = λ allowance. (runs bytes o allowance l _).1 (h, refl) in
    let p = ran_passed bytes o 0 l _ (always 0) in
    let b = steps_bound.always_enough n (rules_in bytes) (complete o) (admitted_input bytes o p.admitted) in
    record {
      enough = λ allowance g f. verdict_answer bytes o allowance l _ (always allowance) (b.enough allowance l.pos g f);
      to_eleven =
          λ few.
          let places = permitted_places l (2 ^ n - 1) p.permitted (omega (arith, pow_mono few)) in
          let e = admitted_ran bytes o (2 ^ n - 1) (with_places (2 ^ n - 1) l) p.admitted places in
          verdict_answer bytes o (2 ^ n - 1) (with_places (2 ^ n - 1) l) _ e (b.enough (2 ^ n - 1) (2 ^ n - 1) (omega arith) (omega arith));
      bound = λ allowance r e. rw (ran_passed bytes o allowance l r e).by_the_steps (b.branchings allowance l.pos, b.clauses allowance l.pos);
    }

-- ---- all of them

pub demands : Demands
demands =
    record {
      answers = answers;
      refusals = refusals;
      runs = runs;
      limits_pass = limits_pass;
      untouched = untouched;
      filling = filling;
      no_part = no_part;
      answers_fit = answers_fit;
      outcomes = outcomes;
      never_covered = never_covered;
      by_completed = by_completed;
      without_standard = two_words;
      one_run = one_run;
      buys = buys;
      stops_spent = ran_spent;
      derived_begin = derived_begin;
      bound = bound;
    }
