-- The demands on a desk with drafts.
use mathlib.Core.Path.{◌≡◌, refl, ap, ◌∙◌}
use mathlib.Core.List.{List}
use Prim.Native.Nat.{ℕ}
use Rattle.words.specs.Words.{has, minus}
use Rattle.drafts.specs.declared.Desk.{Desk}
use Rattle.drafts.specs.Desk.{Done, fresh, Call, refusal, after, desk_after}
use Rattle.drafts.specs.Demands.{OneCall, HandedOn, HandedOn.made, HandedOn.lent, RunOfCalls, Examples, Demands}
use Rattle.drafts.proofs.Calls.{after_refused, clearing_unset, any_desk}
use Rattle.drafts.proofs.Runs.{fresh_desk, as_for_none, drafts}
use Rattle.drafts.proofs.Back.{judging, stands, one_way}
use Rattle.drafts.proofs.Fitting.{always_fit, checkable}

-- ---- what a caller has

one_call : OneCall
one_call =
    record {
      made = λ n answer d m. (ap (λ (x : Done). x.answer) m.as_defined, ap (λ (x : Done). x.desk) m.as_defined);
      lent = λ before c answer d a. (ap (λ (x : Done). x.answer) a.as_defined, ap (λ (x : Done). x.desk) a.as_defined);
    }

handed_on : (n : ℕ) (calls : List Call) (d : Desk) → HandedOn n calls d → d ≡ desk_after n calls
handed_on n calls d (made {answer = answer} m) = (one_call.made n answer d m).1
handed_on n calls d (lent {answer = answer} {past = past} {c = c} {d = before} h a) =
    (one_call.lent before c answer d a).1 ∙ ap (λ (x : Desk). after x c) (handed_on n past before h)

run_of_calls : RunOfCalls
run_of_calls n calls d h =
    record {
      desk = handed_on n calls d h;
      answer = λ c r d' a. (one_call.lent d c r d' a).0 ∙ ap (λ (x : Desk). refusal x c) (handed_on n calls d h);
    }

-- ---- examples

examples : Examples
unfolding fresh refusal after has minus
examples =
    record {
      tries = refl;
      back = refl;
      cleared = refl;
      again = refl;
      replaced = refl;
      two_drafts = refl;
      whole = refl;
      options = (refl, refl, refl);
      drafts = (refl, refl, refl);
      returns = (refl, refl, refl);
      largest = refl;
      too_many = (refl, refl, refl);
    }

-- ---- all of them

pub demands : Demands
demands =
    record {
      fresh_desk = fresh_desk;
      judging = judging;
      refused_alters_nothing = after_refused;
      clearing_unset = clearing_unset;
      stands = stands;
      one_way = one_way;
      drafts = drafts;
      always_fit = always_fit;
      checkable = checkable;
      as_for_none = as_for_none;
      one_call = one_call;
      run_of_calls = run_of_calls;
      any_desk = any_desk;
      examples = examples;
    }
