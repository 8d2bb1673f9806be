-- What is so of every check that a page is of: its numbers are few enough for their fields, and its derived rules are as many as it counts, at most 2,048, each of 64 options and none
-- with both signs. A run keeps its table so (`Shape`), and the derived rules are the end of that table.
use mathlib.Core.Path.{◌≡◌, refl, sym, ap, ◌∙◌, subst}
use mathlib.Core.Bool.{Bool, true, false}
use mathlib.Core.List.{List, Memᴰ}
use Prim.Native.Nat.{ℕ, ◌+◌, ◌^◌, ◌≤◌, ◌<◌}
use native.Mathlib.Omega.{arith}
use borrow.Author.Tests.{ltb-true, ltb-false, lt-ltb}
use lib.Dec.{ltb}
use lib.ListN.{length, take, drop, take-append-drop}
use Rattle.words.proofs.Membership.{has_first_vars}
use Rattle.steps.specs.Clause.{Clause, Assignment}
use Rattle.steps.specs.State.{Env, Side, Side.up, Side.ended}
use Rattle.steps.specs.Search.{search}
use Rattle.steps.specs.Run.{Assumptions, Outcome, given, no_decisions, start, searched, run}
use Rattle.steps.specs.Shape.{Proper, AllProper, Input, SideShape}
use Rattle.steps.proofs.Allowances.{finish_derived}
use Rattle.steps.proofs.LockstepGrows.{at}
use Rattle.steps.proofs.ShapeSearch.{shape_search}
use Rattle.steps.proofs.ShapeStart.{shape_start}
use Rattle.order.specs.Order.{Order, complete}
use Rattle.book.specs.Bytes.{vars_in, rules_in}
use Rattle.book.specs.Limits.{max_vars, max_derived}
use Rattle.book.proofs.Accepted.{none_admitted}
use Rattle.answer.specs.Answer.{tally_of, tally_in}
use Rattle.answer.specs.declared.Tally.{Tally}
use Rattle.answer.proofs.Ending.{tally_told}
use Rattle.contract.specs.Check.{Result, Result.refused, Result.ran, check}
use Rattle.contract.specs.Filled.{answer_of}
use Rattle.contract.proofs.Checking.{ran_passed}
use Rattle.contract.proofs.Demands.{answers_fit}
use Rattle.contract.proofs.Filling.{ran_spent}
use Rattle.reply.specs.Reply.{allowance, places, order_bytes, order_in, result_in}
use Rattle.reply.proofs.Reply.{result_short, result_checked}
use Rattle.page.specs.Demands.{Asked, Asked.book, Asked.input, derived_of}
use Rattle.page.proofs.Lines.{Narrow}

-- ---- the derived rules

-- the table at the end of a side
side_proper : (e : Env) (a : Assignment) (x : Side) → SideShape e a x → AllProper e.n (at x).table
side_proper e a (up s) h = h.clauses
side_proper e a (ended y d s) h = h.clauses

-- those of a run
derived_proper : (n : ℕ) (rules : List Clause) (o : Assumptions) → Input n rules o → (most room : ℕ) → AllProper n (run n rules o most room).derived
unfolding run searched
derived_proper n rules o proper-input most room c m =
    let t = given rules o in
    let e : Env = record { n = n; allowance = most; capacity = length t + room } in
    let x = search e n no_decisions 0 (start t) in
    let proper = side_proper e no_decisions x (shape_search e n no_decisions 0 (start t) (shape_start n rules o most (length t + room) proper-input)) in
    let there : Memᴰ c (drop (length t) (at x).table) = subst (Memᴰ c) (finish_derived n (length t) x) m in
    proper c (subst (Memᴰ c) (take-append-drop (length t) (at x).table) (mathlib.Core.List.Memᴰ.append_right (take (length t) (at x).table) there))

-- a rule of fewer options is one of 64
proper_wider : (n : ℕ) (c : Clause) → n ≤ max_vars → Proper n c → Proper max_vars c
proper_wider n c few p =
    record {
      named = λ k h. has_first_vars max_vars k ∙ lt-ltb k max_vars (omega (arith, ltb-true k n (sym (has_first_vars n k) ∙ p.named k h)));
      consistent = p.consistent;
    }

-- ---- a check

pub record Fits (x : Result) : Type 0 where
  pub narrow : Narrow (answer_of x)
  pub counted : (tally_in (answer_of x)).derived ≡ length (derived_of x)
  pub few : length (derived_of x) ≤ max_derived
  pub proper : AllProper max_vars (derived_of x)

module _ (bytes : List ℕ) (o : Order) (most : ℕ) (small : most < 2 ^ 32) where
  answer_narrow : Narrow (answer_of (check bytes o most places))
  answer_narrow =
      let fit = answers_fit bytes o most places small in
      record { number = omega (arith, fit.number); branchings = omega (arith, fit.branchings); derived = omega (arith, fit.derived) }

  pub check_fits : Fits (check bytes o most places)
  unfolding answer_of
  check_fits = go (check bytes o most places) refl
    where
      go : (x : Result) → check bytes o most places ≡ x → Fits x
      go (refused k) e =
          record { narrow = subst (λ (y : Result). Narrow (answer_of y)) e answer_narrow; counted = refl; few = omega arith; proper = λ c m. absurd (mathlib.Core.List.Memᴰ.not-nil m) }
      go (ran r) e =
          let passed = ran_passed bytes o most places r e in
          let admitted = none_admitted bytes o passed.admitted in
          record {
            narrow = subst (λ (y : Result). Narrow (answer_of y)) e answer_narrow;
            counted = ap (λ (t : Tally). t.derived) (tally_told r.ending (tally_of r));
            few = (ran_spent bytes o most places r e).no_more_clauses;
            proper = λ c m.
                proper_wider (vars_in bytes) c admitted.well_formed.vars_few
                (derived_proper (vars_in bytes) (rules_in bytes) (complete o) admitted.input most places.pos c
                (subst (λ (y : Outcome). Memᴰ c y.derived) passed.by_the_steps m));
          }

-- refusal 1, where there is no whole order
short_fits : Fits (refused 1)
unfolding answer_of
short_fits =
    record {
      narrow = record { number = omega arith; branchings = omega arith; derived = omega arith };
      counted = refl;
      few = omega arith;
      proper = λ c m. absurd (mathlib.Core.List.Memᴰ.not-nil m);
    }

pub asked_fits : (x : Result) → Asked x → Fits x
asked_fits x (book bytes o most small) = check_fits bytes o most small
asked_fits x (input bytes) = go (ltb (length bytes) order_bytes) refl
  where
    go : (b : Bool) → ltb (length bytes) order_bytes ≡ b → Fits (result_in places bytes)
    go true t = subst Fits (sym (result_short places bytes (ltb-true _ _ t))) short_fits
    go false t = subst Fits (sym (result_checked places bytes (ltb-false _ _ t))) (check_fits (drop order_bytes bytes) (order_in bytes) allowance (omega arith))
