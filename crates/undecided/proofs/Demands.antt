-- The demands on options that are left open: what was tried (`Found`) is what the reply has.
use mathlib.Core.Path.{◌≡◌, refl, sym, ap, subst, subst⁻¹, ◌∙◌}
use mathlib.Core.List.{List}
use mathlib.Core.Logic.{◌⊎◌, ⊎_elim}
use Prim.Native.Nat.{ℕ, ◌^◌, ◌<◌}
use native.Mathlib.Omega.{arith}
use lib.ListN.{length}
use Rattle.order.specs.Order.{Order}
use Rattle.book.specs.Conditions.{NoRow}
use Rattle.answer.specs.Packed.{unpacked, Packable}
use Rattle.answer.specs.declared.Tally.{Tally}
use Rattle.answer.specs.Answer.{Answer, Answer.Refused as CheckRefused, Answer.Stopped as CheckStopped}
use Rattle.answer.proofs.Demands.{inverse}
use Rattle.contract.specs.Check.{Lengths}
use Rattle.contract.specs.Filled.{Tables, lengths}
use Rattle.contract.specs.Demands.{IsVerdict}
use Rattle.contract.proofs.Demands as contract
use Rattle.undecided.specs.Undecided.{with_setting, undecided}
use Rattle.undecided.specs.Told.{verdict_number, word_in, verdict_in, setting_in}
use Rattle.undecided.specs.Demands.{undecided_conditions, NamedReply, Answers, TriedIs, InTurn, Trying, RightVerdict, Verdicts, LastWrote, TablesKept, NoPart, Bought, Buying, AlwaysEnough, Taking, Demands}
use Rattle.undecided.specs.Values.{Tried, Reply, Reply.Refused, Reply.tried}
use Rattle.undecided.proofs.Subsets.{all_settings}
use Rattle.undecided.proofs.Walk.{visiting}
use Rattle.undecided.proofs.Judging.{outcome_of, left_tried, judged, tried_passed, no_row, tried_is, refusals, refused_number}
use Rattle.undecided.proofs.Wishes.{as_wishes, none_open, keeping}
use Rattle.undecided.proofs.Tables.{tried_same}
use Rattle.undecided.proofs.Examples.{examples}
use Rattle.undecided.proofs.Found.{always_enough_for, bought, found_small, found_within, in_turn, last_wrote, named, right_verdict}

-- ---- of what the reply has

module _ (bytes : List ℕ) (o : Order) (opens allowance : ℕ) (t : Tables) (x : Tried) (e : TriedIs bytes o opens allowance t x) where
  passed : NoRow (undecided_conditions bytes o opens (lengths t))
  passed = tried_passed bytes o opens allowance t x e

  same : x ≡ outcome_of bytes o opens allowance t
  same = tried_is bytes o opens allowance t x e

trying : Trying
trying bytes o opens allowance t x e = subst⁻¹ (InTurn bytes o opens allowance (lengths t)) (same bytes o opens allowance t x e) (in_turn bytes o opens allowance t (passed bytes o opens allowance t x e))

verdicts : Verdicts
verdicts bytes o opens allowance t x e n =
    let is = same bytes o opens allowance t x e in
    subst⁻¹ (RightVerdict bytes o opens) is
    (right_verdict bytes o opens allowance t (passed bytes o opens allowance t x e) (λ h. n (ap (λ (y : Tried). y.verdict) is ∙ h)))

tables_kept : TablesKept
tables_kept bytes o opens allowance t x e =
    subst⁻¹ (λ (y : Tried). LastWrote bytes o opens allowance t y (undecided bytes o opens allowance t).tables) (same bytes o opens allowance t x e)
    (last_wrote bytes o opens allowance t (passed bytes o opens allowance t x e))

buying : Buying
buying bytes o opens allowance t x e r =
    subst⁻¹ (Bought bytes o opens allowance (length t.pos) r) (same bytes o opens allowance t x e)
    (bought bytes o opens allowance t (passed bytes o opens allowance t x e) r)

always_enough : AlwaysEnough
always_enough bytes o opens allowance t x e h g v =
    always_enough_for bytes o opens allowance t (passed bytes o opens allowance t x e) h g (sym (ap (λ (y : Tried). y.verdict) (same bytes o opens allowance t x e)) ∙ v)

-- the answer fits its word, and the setting a word of 64 bits
pub last_fits : (bytes : List ℕ) (o : Order) (opens allowance : ℕ) (t : Tables) (x : Tried) → allowance < 2 ^ 32 → TriedIs bytes o opens allowance t x → Packable x.last
last_fits bytes o opens allowance t x few e =
    subst⁻¹ Packable (ap (λ (y : Tried). y.last) (same bytes o opens allowance t x e))
    (contract.answers_fit bytes (with_setting o opens (outcome_of bytes o opens allowance t).setting) allowance (lengths t) few)

setting_fits : (bytes : List ℕ) (o : Order) (opens allowance : ℕ) (t : Tables) (x : Tried) → TriedIs bytes o opens allowance t x → x.setting < 2 ^ 64
setting_fits bytes o opens allowance t x e =
    subst⁻¹ (λ (s : ℕ). s < 2 ^ 64) (ap (λ (y : Tried). y.setting) (same bytes o opens allowance t x e))
    (found_small bytes o opens allowance t (passed bytes o opens allowance t x e))

-- and so does a refusal
pub refused_fits : (bytes : List ℕ) (o : Order) (opens allowance : ℕ) (t : Tables) (k : ℕ) → (undecided bytes o opens allowance t).reply ≡ Refused k → Packable (CheckRefused k)
refused_fits bytes o opens allowance t k e =
    let n = refused_number bytes o opens (lengths t) k (((judged bytes o opens allowance t).refused k).0 e) in
    record {
      number = ⊎_elim (⊎_elim (λ h. omega (arith, h.1)) (λ h. omega (arith, h))) (⊎_elim (λ h. omega (arith, h)) (λ h. omega (arith, h))) n;
      branchings = omega arith;
      derived = omega arith;
      records = omega arith;
    }

taking : Taking
taking bytes o opens allowance v s before w v' s' after few told =
    record {
      refused =
          λ k e. (
            ap unpacked (told.word ∙ ap word_in e) ∙ inverse _ (refused_fits bytes o opens allowance before k e),
            told.verdict ∙ ap (verdict_in v) e,
            told.setting ∙ ap (setting_in s) e,
            told.tables ∙ (judged bytes o opens allowance before).untouched k e,
          );
      answered =
          λ x e.
          let set : s' ≡ x.setting = told.setting ∙ ap (setting_in s) e in (
            ap unpacked (told.word ∙ ap word_in e) ∙ inverse _ (last_fits bytes o opens allowance before x few e),
            set,
            subst⁻¹ (λ (u : ℕ). u < 2 ^ 64) set (setting_fits bytes o opens allowance before x e),
            told.tables,
          );
      always = λ x e is. verdict_is x e ∙ ap verdict_number is;
      sometimes = λ x e is. verdict_is x e ∙ ap verdict_number is;
      never = λ x e is. verdict_is x e ∙ ap verdict_number is;
      stopped = λ x e is. verdict_is x e ∙ ap verdict_number is;
    }
  where
    verdict_is : (x : Tried) → TriedIs bytes o opens allowance before x → v' ≡ verdict_number x.verdict
    verdict_is x e = told.verdict ∙ ap (verdict_in v) e

no_part : NoPart
no_part bytes o opens allowance t t' same h =
    left_tried bytes o opens allowance t (no_row bytes o opens allowance t h)
    ∙ tried_same bytes o opens allowance t t' same
    ∙ sym (left_tried bytes o opens allowance t' (no_row bytes o opens allowance t' (subst (λ (l : Lengths). NoRow (undecided_conditions bytes o opens l)) same h)))

-- ---- demand 1

answers : Answers
answers bytes o opens allowance t = go (undecided bytes o opens allowance t).reply refl
  where
    go : (x : Reply) → (undecided bytes o opens allowance t).reply ≡ x → NamedReply x
    go (Refused k) e = refused_number bytes o opens (lengths t) k (((judged bytes o opens allowance t).refused k).0 e)
    go (tried x) e =
        let h = passed bytes o opens allowance t x e in
        let is = ap (λ (y : Tried). y.last) (same bytes o opens allowance t x e) in
        subst⁻¹ (λ (a : Answer). IsVerdict a ⊎ ((k : ℕ) × (c : Tally) × (a ≡ CheckStopped k c) × ((k ≡ 10) ⊎ (k ≡ 11)))) is
        (named bytes o opens allowance t h (outcome_of bytes o opens allowance t).setting (found_within bytes o opens allowance t h))

-- ---- all of them

pub demands : Demands
demands =
    record {
      refusals = refusals;
      answers = answers;
      all_settings = all_settings;
      visiting = visiting;
      as_wishes = as_wishes;
      none_open = none_open;
      keeping = keeping;
      trying = trying;
      verdicts = verdicts;
      tables_kept = tables_kept;
      no_part = no_part;
      buying = buying;
      always_enough = always_enough;
      taking = taking;
      examples = examples;
    }
