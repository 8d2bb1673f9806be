-- The demands on a check, of one answer and the tables it left: they are those of the check, so what is said of the check holds of them.
use mathlib.Core.Path.{◌≡◌, refl, sym, ap, subst, subst⁻¹, ◌∙◌}
use mathlib.Core.List.{List}
use mathlib.Core.Logic.{◌⊎◌, ◌↔◌}
use Prim.Native.Nat.{ℕ, ◌≤◌}
use native.Mathlib.Omega.{arith}
use Rattle.words.proofs.Truth.{clash}
use Rattle.steps.specs.State.{Ending, Ending.can, Ending.cannot, Ending.out_of_branchings, Ending.out_of_clauses}
use Rattle.steps.specs.Run.{Outcome}
use Rattle.order.specs.Order.{Order}
use Rattle.book.specs.Conditions.{First, book_conditions, admit_conditions}
use Rattle.book.proofs.Refusals.{first_front}
use Rattle.answer.specs.Answer.{tally_of, end_of, tally_in, Answer, Answer.Refused}
use Rattle.answer.specs.declared.Tally.{Tally}
use Rattle.answer.proofs.Ending.{tally_told}
use Rattle.contract.specs.Check.{Lengths, Result, Result.refused, Result.ran, outcome, check}
use Rattle.contract.specs.Filled.{Tables, lengths, answer_of, filled, Checked}
use Rattle.contract.specs.Demands.{Permitted, check_conditions, Named, first_places, Fills, Tells, Uncovered, Settled, StopsOnBranchings, StopsOnPlaces, IsVerdict}
use Rattle.contract.specs.Asked.{Bought, Demanded, RefusedFirst}
use Rattle.contract.proofs.Filling.{ran_spent, ran_fills}
use Rattle.contract.proofs.Demands as contract

-- ---- the counts

-- none of a refusal, and those of a run
abbrev nothing : Tally
nothing = record { branchings = 0; derived = 0; records = 0 }

refused_tally : (j : ℕ) → tally_in (answer_of (refused j)) ≡ nothing
unfolding answer_of
refused_tally j = refl

ran_tally : (r : Outcome) → tally_in (answer_of (ran r)) ≡ tally_of r
unfolding answer_of
ran_tally r = tally_told r.ending (tally_of r)

-- no answer has more branchings than the allowance
pub branchings_within : (bytes : List ℕ) (o : Order) (allowance : ℕ) (l : Lengths) → (tally_in (answer_of (check bytes o allowance l))).branchings ≤ allowance
branchings_within bytes o allowance l = go (check bytes o allowance l) refl
  where
    go : (x : Result) → check bytes o allowance l ≡ x → (tally_in (answer_of x)).branchings ≤ allowance
    go (refused j) e = subst⁻¹ (λ (c : Tally). c.branchings ≤ allowance) (refused_tally j) (omega arith)
    go (ran r) e = subst⁻¹ (λ (c : Tally). c.branchings ≤ allowance) (ran_tally r) (ran_spent bytes o allowance l r e).no_more_branchings

-- two tables of the same lengths hold the same words in the counted places, after a check of each
pub counted_same :
    (bytes : List ℕ) (o : Order) (allowance : ℕ) (p p' : Tables) → lengths p ≡ lengths p' →
    (c : Tally) → c ≡ tally_in (answer_of (check bytes o allowance (lengths p))) →
    first_places c (filled (check bytes o allowance (lengths p)) p) ≡ first_places c (filled (check bytes o allowance (lengths p')) p')
counted_same bytes o allowance p p' same c e = go (check bytes o allowance (lengths p)) refl
  where
    left : Tables → Tables
    left x = filled (check bytes o allowance (lengths x)) x

    go : (x : Result) → check bytes o allowance (lengths p) ≡ x → first_places c (left p) ≡ first_places c (left p')
    go (refused j) f =
        let none : c ≡ nothing = e ∙ ap (λ (x : Result). tally_in (answer_of x)) f ∙ refused_tally j in
        ap (λ (y : Tally). first_places y (left p)) none ∙ sym (ap (λ (y : Tally). first_places y (left p')) none)
    go (ran r) f =
        let all : c ≡ tally_of r = e ∙ ap (λ (x : Result). tally_in (answer_of x)) f ∙ ran_tally r in
        ap (λ (y : Tally). first_places y (left p)) all
        ∙ (ran_fills bytes o allowance p r f).first
        ∙ sym (ran_fills bytes o allowance p' r (ap (check bytes o allowance) (sym same) ∙ f)).first
        ∙ sym (ap (λ (y : Tally). first_places y (left p')) all)

-- ---- refusals

-- a check is refused where its answer is
answer_refused : (x : Result) (j : ℕ) → answer_of x ≡ Refused j → x ≡ refused j
unfolding answer_of
answer_refused (refused k) j e = cc
answer_refused (ran r) j e = go r.ending e
  where
    go : (x : Ending) → end_of x (tally_of r) ≡ Refused j → ran r ≡ refused j
    go can f = clash cc
    go cannot f = clash cc
    go out_of_branchings f = clash cc
    go out_of_clauses f = clash cc

module _ (bytes : List ℕ) (o : Order) (allowance : ℕ) (before : Tables) (a : Answer) (after : Tables) (asked : Checked bytes o allowance before a after) where
  refused_check : (j : ℕ) → a ≡ Refused j → check bytes o allowance (lengths before) ≡ refused j
  refused_check j e = answer_refused _ j (sym asked.answer ∙ e)

  refused_when : (j : ℕ) → (a ≡ Refused j) ↔ First (check_conditions bytes o (lengths before)) j
  unfolding answer_of
  refused_when j =
      let r = (contract.demands).refusals bytes o allowance (lengths before) j in
      (λ e. r.0 (refused_check j e), λ f. asked.answer ∙ ap answer_of (r.1 f))

  pub refused_first : (l : Lengths) → lengths before ≡ l → RefusedFirst bytes o l before a after
  refused_first l e =
      subst
      (λ (x : Lengths). RefusedFirst bytes o x before a after)
      e
      (record {
        when = refused_when;
        untouched = λ j f. asked.tables ∙ (contract.demands).untouched bytes o allowance before j (refused_check j f);
        book = λ j f. (refused_when j).1 (first_front (admit_conditions bytes o) _ j (first_front (book_conditions bytes) _ j f));
      })

-- ---- demands 1 to 3

-- what the allowance and the places buy
bought :
    (bytes : List ℕ) (o : Order) (allowance : ℕ) (before : Tables) (a : Answer) (after : Tables) → Checked bytes o allowance before a after →
    (r : Outcome) → Settled bytes o r → Permitted (lengths before) → Bought r allowance (lengths before).pos before a after
bought bytes o allowance before a after asked r settled p =
    let l : Lengths = lengths before in
    let x = (contract.demands).buys bytes o r settled allowance l p in
    record {
      enough =
          λ e.
          let run = x.same.0 e in (
            subst⁻¹ (Tells r) (asked.answer ∙ ap answer_of run) (contract.tells r),
            subst⁻¹ (Fills r before) asked.tables (ran_fills bytes o allowance before r run),
          );
      stops = λ n. subst⁻¹ (λ (y : Answer). StopsOnBranchings allowance y ⊎ StopsOnPlaces l.pos y) asked.answer (x.stops n);
      fewer_branchings = λ e f. subst⁻¹ (StopsOnBranchings allowance) asked.answer (x.fewer_branchings e f);
      fewer_places = λ e f. subst⁻¹ (StopsOnPlaces l.pos) asked.answer (x.fewer_places e f);
    }

-- of a check that was asked singly
pub demanded :
    (bytes : List ℕ) (o : Order) (allowance : ℕ) (before : Tables) (a : Answer) (after : Tables) → Checked bytes o allowance before a after →
    (l : Lengths) → lengths before ≡ l → Demanded bytes o allowance l before a after
demanded bytes o allowance before a after asked size same =
    let l : Lengths = lengths before in
    let r : Outcome = outcome bytes o allowance l in
    subst
    (λ (x : Lengths). Demanded bytes o allowance x before a after)
    same
    (record {
      named = subst⁻¹ Named asked.answer ((contract.demands).answers bytes o allowance l);
      right =
          λ n.
          let x = (contract.demands).outcomes bytes o allowance l n in
          record {
            told = subst⁻¹ (Tells r) asked.answer x.told;
            can_only = λ c e. x.can_only c (sym asked.answer ∙ e);
            cannot_only = λ c e. x.cannot_only c (sym asked.answer ∙ e);
            derived = x.derived;
            records = x.records;
            fills = subst⁻¹ (Fills r before) asked.tables ((contract.demands).filling bytes o allowance before n);
            uncovered = subst⁻¹ (Uncovered bytes o r) asked.tables ((contract.demands).never_covered bytes o allowance before r x.by_the_steps);
            spent = (contract.demands).stops_spent bytes o allowance l r x.by_the_steps;
          };
      bought = bought bytes o allowance before a after asked;
      always = λ n e f. subst⁻¹ IsVerdict asked.answer (((contract.demands).bound bytes o l n).enough allowance e f);
      answer_is = asked.answer;
      tables_are = asked.tables;
    })
