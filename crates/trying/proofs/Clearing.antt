-- The tables after a setting: its counts fit them, and cleared of what it wrote they are zero.
use mathlib.Core.Path.{◌≡◌, refl, ap, subst, subst⁻¹, ◌∙◌}
use mathlib.Core.List.{List}
use Prim.Native.Nat.{ℕ}
use native.Mathlib.Omega.{arith}
use lib.ListN.{length, length-map}
use Rattle.steps.specs.Clause.{Clause, DSequent}
use Rattle.steps.specs.Run.{Outcome}
use Rattle.answer.specs.Answer.{tally_of, tally_in, Answer}
use Rattle.answer.specs.declared.Tally.{Tally}
use Rattle.answer.proofs.Ending.{tally_told}
use Rattle.order.specs.Order.{Order}
use Rattle.contract.specs.Check.{Result, Result.refused, Result.ran, check}
use Rattle.contract.specs.Filled.{Tables, lengths, answer_of, filled}
use Rattle.contract.specs.Demands.{tables_of}
use Rattle.contract.proofs.Checking.{ran_passed}
use Rattle.contract.proofs.Filling.{tables_equal, ran_spent, ran_records}
use Rattle.undecided.specs.Undecided.{with_setting, zeroed}
use Rattle.settings.specs.Promises.{Counted, cleared}
use Rattle.settings.proofs.Clearing.{written_cleared}
use Rattle.undecided.specs.Undecided.{answer_to}

-- the tables hold what the check of the order with setting s wrote into zeros, and a is its answer
pub record Stands (bytes : List ℕ) (o : Order) (opens allowance s : ℕ) (a : Answer) (t : Tables) : Type 0 where
  pub answer : a ≡ answer_to bytes o opens allowance (lengths t) s
  pub tables : t ≡ filled (check bytes (with_setting o opens s) allowance (lengths t)) (zeroed t)

-- a setting that stands: its counts fit, and cleared of them the tables are zero
module _ (bytes : List ℕ) (o : Order) (opens allowance s : ℕ) (a : Answer) (t : Tables) (stands : Stands bytes o opens allowance s a t) where
  abbrev asked : Order
  asked = with_setting o opens s

  -- what it came to
  result_answer : {x : Result} → check bytes asked allowance (lengths t) ≡ x → a ≡ answer_of x
  result_answer e = stands.answer ∙ ap answer_of e

  result_tables : {x : Result} → check bytes asked allowance (lengths t) ≡ x → t ≡ filled x (zeroed t)
  result_tables e = stands.tables ∙ ap (λ (x : Result). filled x (zeroed t)) e

  refused_tally : {k : ℕ} → check bytes asked allowance (lengths t) ≡ refused k → tally_in a ≡ record { branchings = 0; derived = 0; records = 0 }
  unfolding answer_of
  refused_tally e = ap tally_in (result_answer e)

  ran_tally : {r : Outcome} → check bytes asked allowance (lengths t) ≡ ran r → tally_in a ≡ tally_of r
  unfolding answer_of
  ran_tally {r} e = ap tally_in (result_answer e) ∙ tally_told r.ending (tally_of r)

  pub counted : Counted (tally_in a) t
  counted = go (check bytes asked allowance (lengths t)) refl
    where
      go : (x : Result) → check bytes asked allowance (lengths t) ≡ x → Counted (tally_in a) t
      go (refused k) e = subst⁻¹ (λ (c : Tally). Counted c t) (refused_tally e) (record { pos = omega arith; neg = omega arith; decided = omega arith; trues = omega arith; redundant = omega arith })
      go (ran r) e =
          let p = (ran_passed bytes asked allowance (lengths t) r e).permitted in
          let few = (ran_spent bytes asked allowance (lengths t) r e).no_more_clauses in
          let short = ran_records bytes asked allowance (lengths t) r e in
          subst⁻¹ (λ (c : Tally). Counted c t) (ran_tally e)
          (record {
            pos = few;
            neg = omega (arith, few, p.same);
            decided = omega (arith, short, p.decided);
            trues = omega (arith, short, p.trues);
            redundant = omega (arith, short, p.redundant);
          })

  unread : {k : ℕ} → check bytes asked allowance (lengths t) ≡ refused k → t ≡ zeroed t
  unfolding filled
  unread e = result_tables e

  ran_cleared : (r : Outcome) → Counted (tally_of r) t → cleared (tally_of r) (filled (ran r) (zeroed t)) ≡ zeroed t
  unfolding filled
  ran_cleared r c =
      tables_equal
      (written_cleared (length r.derived) (length t.pos) (tables_of r).pos (length-map r.derived (λ (x : Clause). x.pos)) c.pos)
      (written_cleared (length r.derived) (length t.neg) (tables_of r).neg (length-map r.derived (λ (x : Clause). x.neg)) c.neg)
      (written_cleared (length r.records) (length t.decided) (tables_of r).decided (length-map r.records (λ (x : DSequent). x.decisions.decided)) c.decided)
      (written_cleared (length r.records) (length t.trues) (tables_of r).trues (length-map r.records (λ (x : DSequent). x.decisions.trues)) c.trues)
      (written_cleared (length r.records) (length t.redundant) (tables_of r).redundant (length-map r.records (λ (x : DSequent). x.redundant)) c.redundant)

  pub clears : cleared (tally_in a) t ≡ zeroed t
  clears = go (check bytes asked allowance (lengths t)) refl
    where
      go : (x : Result) → check bytes asked allowance (lengths t) ≡ x → cleared (tally_in a) t ≡ zeroed t
      go (refused k) e = ap (λ (c : Tally). cleared c t) (refused_tally e) ∙ unread e
      go (ran r) e =
          let c = counted in
          let is = ran_tally e in
          ap (λ (x : Tables). cleared (tally_in a) x) (result_tables e)
          ∙ ap (λ (x : Tally). cleared x (filled (ran r) (zeroed t))) is
          ∙ ran_cleared r (subst (λ (x : Tally). Counted x t) is c)
