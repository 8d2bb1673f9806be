-- The demands on the page, each with its proof. A page is that of an answer and the derived rules, and these fit it.
use mathlib.Core.Path.{◌≡◌, refl, sym, ap, ◌∙◌, subst}
use mathlib.Core.List.Memᴰ
use mathlib.Core.List.{List, ◌∷◌, ◌++◌, Memᴰ}
use Prim.Native.Nat.{ℕ, suc, ◌+◌, ◌-◌, ◌<◌}
use native.Mathlib.Decide.{dec_lt}
use native.Mathlib.Omega.{arith}
use lib.ListN.{length, get_or, take, drop, length-append, length-drop}
use lib.Seq.{take_at, get_or-append-add, get_or-drop}
use Rattle.steps.specs.Clause.{Clause}
use Rattle.contract.specs.Check.{Result, Result.refused, Result.ran, check}
use Rattle.contract.specs.Filled.{answer_of}
use Rattle.reply.specs.Reply.{places, result_in, reply_to}
use Rattle.reply.proofs.Reply.{result_short, result_checked}
use Rattle.reply.proofs.Input.{readable_result}
use Rattle.page.specs.Page.{rule_lines, page_text, page_of, page_to, longest}
use Rattle.page.specs.Demands.{Asked.book, Asked.input, derived_of, SameCheck, ReadableDecides, line_at, FirstLine, RuleLine, Due, AsDue, AlwaysFits, Taking, Demands}
use Rattle.page.proofs.Lines.{page_lines, first_fields, rule_fields, line_is}
use Rattle.page.proofs.Asked.{asked_fits}
use Rattle.page.proofs.Unique.{one_page}
use Rattle.page.proofs.Examples.{examples}

page_is : (x : Result) → page_of x ≡ page_text (answer_of x) (derived_of x)
unfolding page_of answer_of
page_is (refused k) = refl
page_is (ran r) = refl

pub same_check : SameCheck
unfolding page_to reply_to
same_check =
    record {
      one = λ bytes. (result_in places bytes, input bytes, refl, refl);
      short = λ bytes h. ap page_of (result_short places bytes h);
      whole = λ bytes h. ap page_of (result_checked places bytes h);
      tables = refl;
    }

readable_decides : ReadableDecides
unfolding page_to
readable_decides bytes = ap page_of (readable_result bytes)

as_due : AsDue
unfolding page_text
as_due x asked =
    let a = answer_of x in
    let rules = derived_of x in
    let fits = asked_fits x asked in
    subst (Due x) (sym (page_is x))
    (record {
      lines = page_lines a rules fits.narrow (omega (arith, fits.few));
      first = subst (λ (d : ℕ). FirstLine a d (line_at 0 (page_text a rules))) fits.counted (first_fields a (rule_lines 1 rules) fits.narrow);
      rules = λ before after c is.
          let number = suc (length before) in
          let few : number < 10000 = omega (arith, fits.few, ap length is, length-append before (c ∷ after)) in
          let proper = fits.proper c (subst (Memᴰ c) (sym is) (Memᴰ.append_right before (Memᴰ.head refl))) in
          subst (RuleLine number c) (sym (ap (λ (cs : List Clause). line_at number (page_text a cs)) is ∙ line_is a before after c fits.narrow (omega arith)))
          (rule_fields number c (rule_lines (suc number) after) few proper);
    })

always_fits : AlwaysFits
always_fits = record { most = refl; fits = λ x asked. omega (arith, (as_due x asked).lines.size, (asked_fits x asked).few) }

-- a page is not empty, and has room in a buffer as long as the longest
taking : Taking
taking bytes o allowance before after r small filed =
    let x = check bytes o allowance places in
    let asked = book bytes o allowance small in
    let page = page_of x in
    let size = (as_due x asked).lines.size in
    elim (dec_lt (length before) longest) [
      | yes less ↦
          let none = filed.short less in
          let same = none.1 in
          record {
            none = (λ e. less, λ h. none.0);
            written = λ h. absurd (omega (arith, none.0, h));
            later = λ i h. ap (λ (l : List ℕ). get_or l i 0) same;
            same_length = ap length same;
          }
      | no not-less ↦
          let printed = filed.page (omega arith) in
          let rest = drop (length page) before in
          record {
            none = (λ e. absurd (omega (arith, size, printed.size)), λ h. absurd (not-less h));
            written = λ h. (printed.size, ap (take r) printed.bytes ∙ take_at page rest r (sym printed.size));
            later = λ i h.
                let at : i ≡ length page + (i - length page) = omega (arith, printed.size) in
                ap (λ (l : List ℕ). get_or l i 0) printed.bytes ∙ ap (λ (j : ℕ). get_or (page ++ rest) j 0) at ∙ get_or-append-add page rest (i - length page) 0
                ∙ get_or-drop (length page) before (i - length page) 0 ∙ ap (λ (j : ℕ). get_or before j 0) (sym at);
            same_length = ap length printed.bytes ∙ length-append page rest ∙ omega (arith, length-drop (length page) before, always_fits.fits x asked);
          }
    ]

pub demands : Demands
demands =
    record {
      same_check = same_check;
      readable_decides = readable_decides;
      as_due = as_due;
      one_page = one_page;
      always_fits = always_fits;
      taking = taking;
      examples = examples;
    }
