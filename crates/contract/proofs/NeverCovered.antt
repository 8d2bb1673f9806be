-- The derived rules in the tables are those of the outcome, word by word, and a check that was run has the outcome of a run of the steps.
use mathlib.Core.Path.{◌≡◌, refl, sym, ap, ◌∙◌}
use mathlib.Core.List.{List, [], ◌∷◌, map}
use Rattle.steps.specs.Clause.{Clause}
use Rattle.steps.specs.Run.{Outcome}
use Rattle.steps.proofs.NeverCovered as steps
use Rattle.order.specs.Order.{complete}
use Rattle.book.specs.Bytes.{vars_in, rules_in}
use Rattle.contract.specs.Filled.{Tables, lengths}
use Rattle.contract.specs.Demands.{rules_of, NeverCovered}
use Rattle.contract.proofs.Checking.{ran_passed}
use Rattle.contract.proofs.Filling.{ran_fills}

-- the rules whose words are these
rules_of_lem : (cs : List Clause) → rules_of (map (λ (c : Clause). c.pos) cs) (map (λ (c : Clause). c.neg) cs) ≡ cs
rules_of_lem [] = refl
rules_of_lem (c ∷ cs) = ap (λ (ds : List Clause). c ∷ ds) (rules_of_lem cs)

pub never_covered : NeverCovered
never_covered bytes o allowance t r e =
    let handed_out = ap (λ (x : Tables). rules_of x.pos x.neg) (ran_fills bytes o allowance t r e).first ∙ rules_of_lem r.derived in
    record {
      handed_out = handed_out;
      none_covers =
          λ before after c is.
          steps.never_covered (vars_in bytes) (rules_in bytes) (complete o) allowance (lengths t).pos before after c
          (ap (λ (x : Outcome). x.derived) (sym (ran_passed bytes o allowance (lengths t) r e).by_the_steps) ∙ sym handed_out ∙ is);
    }
