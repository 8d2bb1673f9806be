-- The page of a check, out of its answer and the tables that it filled: the counted places hold the words of the derived rules. And how long the page of an answer is.
use mathlib.Core.Path.{◌≡◌, refl, sym, ap, ◌∙◌, subst}
use mathlib.Core.List.{List, [], ◌∷◌}
use Prim.Native.Nat.{ℕ, zero, suc, ◌^◌, ◌≤◌, ◌<◌}
use native.Mathlib.Omega.{arith}
use lib.ListN.{length, take}
use Rattle.steps.specs.Clause.{Clause}
use Rattle.order.specs.Order.{Order}
use Rattle.answer.specs.Answer.{tally_of, tally_in, Answer, Answer.Refused}
use Rattle.contract.specs.Check.{Result, Result.refused, Result.ran, check}
use Rattle.contract.specs.Filled.{Tables, lengths, answer_of, filled, Checked}
use Rattle.contract.specs.Demands.{rules_of, derived_in}
use Rattle.contract.proofs.NeverCovered.{never_covered}
use Rattle.reply.specs.Reply.{places}
use Rattle.reply.proofs.Reply.{words_fit}
use Rattle.page.specs.Page.{longest, page_text, page_of}
use Rattle.page.proofs.Lines.{Narrow, page_lines}
use Rattle.page.proofs.Asked.{Fits, check_fits}
use Rattle.layout.specs.Layout.{Fit, page_in}

-- ---- a check

-- the answer and the derived tables are those of the result x
pub record Told (x : Result) (a : Answer) (ps ns : List ℕ) : Type 0 where
  pub fit : Fit a ps ns
  pub page : page_in a ps ns ≡ page_of x

module _ (bytes : List ℕ) (o : Order) (most : ℕ) (t : Tables) where
  told : (x : Result) → check bytes o most (lengths t) ≡ x → Fits x → Told x (answer_of x) (filled x t).pos (filled x t).neg
  unfolding answer_of filled page_of
  told (refused k) e fits =
      record {
        fit = record { pos = omega arith; neg = omega arith; few = omega arith; number = fits.narrow.number; branchings = omega arith };
        page = refl;
      }
  told (ran r) e fits =
      let same : (tally_in (answer_of (ran r))).derived ≡ length r.derived = fits.counted in
      let handed : derived_in (tally_of r) (filled (ran r) t) ≡ r.derived = subst (λ (x : Result). derived_in (tally_of r) (filled x t) ≡ r.derived) e (never_covered bytes o most t r e).handed_out in
      record {
        fit = record {
          pos = words_fit (λ (c : Clause). c.pos) r.derived t.pos _ same;
          neg = words_fit (λ (c : Clause). c.neg) r.derived t.neg _ same;
          few = omega (arith, same, fits.few);
          number = fits.narrow.number;
          branchings = fits.narrow.branchings;
        };
        page = ap (page_text (answer_of (ran r))) (ap (λ (k : ℕ). rules_of (take k (filled (ran r) t).pos) (take k (filled (ran r) t).neg)) same ∙ handed);
      }

  -- what a check left
  pub checked_told :
      most < 2 ^ 32 → lengths t ≡ places → (a : Answer) (after : Tables) → Checked bytes o most t a after → Told (check bytes o most places) a after.pos after.neg
  checked_told small same a after done =
      let x = check bytes o most (lengths t) in
      let is : x ≡ check bytes o most places = ap (check bytes o most) same in
      subst (λ (y : Result). Told y a after.pos after.neg) is
      (subst (λ (u : Tables). Told x a u.pos u.neg) (sym done.tables)
      (subst (λ (b : Answer). Told x b (filled x t).pos (filled x t).neg) (sym done.answer) (told x refl (subst Fits (sym is) (check_fits bytes o most small)))))

-- ---- the length of a page

-- the rules in the first k places of two tables are k
first_rules : (k : ℕ) (ps ns : List ℕ) → k ≤ length ps → k ≤ length ns → length (rules_of (take k ps) (take k ns)) ≡ k
first_rules zero ps ns p n = refl
first_rules (suc k) [] ns p n = absurd (omega arith)
first_rules (suc k) (x ∷ ps) [] p n = absurd (omega arith)
first_rules (suc k) (x ∷ ps) (y ∷ ns) p n = ap suc (first_rules k ps ns (omega arith) (omega arith))

pub page_fits : (a : Answer) (ps ns : List ℕ) → Fit a ps ns → length (page_in a ps ns) ≤ longest
page_fits a ps ns fit =
    let rules = rules_of (take (tally_in a).derived ps) (take (tally_in a).derived ns) in
    let many = first_rules (tally_in a).derived ps ns fit.pos fit.neg in
    let narrow : Narrow a = record { number = fit.number; branchings = fit.branchings; derived = omega (arith, fit.few) } in
    omega (arith, many, fit.few, (page_lines a rules narrow (omega (arith, many, fit.few))).size)

-- refusal 1, with no tables
pub short_told : Told (refused 1) (Refused 1) [] []
unfolding page_of
short_told =
    record { fit = record { pos = omega arith; neg = omega arith; few = omega arith; number = omega arith; branchings = omega arith }; page = refl }
