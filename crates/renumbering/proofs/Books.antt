-- Renumbered books and orders at the entry point. The rules of a book without fault become rules without fault, and an order that passes one that passes; so what they become,
-- written as bytes and as two words, is not refused. A verdict says whether book and order can be built, which is the same of both.
use mathlib.Core.Path.{◌≡◌, refl, subst}
use mathlib.Core.Bool.{false}
use mathlib.Core.List.Memᴰ
use mathlib.Core.List.{List}
use mathlib.Core.Logic.{⊎_elim, ◌↔◌}
use mathlib.Core.Option.{none}
use Prim.Native.Nat.{ℕ}
use native.Mathlib.Omega.{arith}
use lib.ListN.{length-map}
use Rattle.words.specs.Words.{has, meets, first_vars}
use Rattle.words.proofs.Truth.{both_ways, or_either}
use Rattle.words.proofs.Membership.{has_zero}
use Rattle.words.proofs.Sets.{or_within}
use Rattle.steps.specs.Clause.{Clause, vars}
use Rattle.steps.specs.Run.{Assumptions}
use Rattle.steps.specs.Meaning.{Buildable}
use Rattle.steps.specs.Shape.{Proper, AllProper, Input}
use Rattle.order.specs.Order.{Order, complete}
use Rattle.order.specs.Demands.{order}
use Rattle.order.proofs.Completed.{without_standard}
use Rattle.book.specs.Bytes.{vars_in, rules_in}
use Rattle.book.specs.Refusals.{first_row, order_rows, admit_rows}
use Rattle.book.specs.Reading.{WellFormed}
use Rattle.book.specs.Conditions.{NoRow, order_conditions}
use Rattle.book.proofs.Refusals.{none_iff}
use Rattle.book.proofs.Conditions.{in_both, order_decides}
use Rattle.book.proofs.Accepted.{Admitted, none_admitted}
use Rattle.book.proofs.RoundTrip.{written_holds, written_admitted}
use Rattle.answer.specs.declared.Tally.{Tally}
use Rattle.answer.specs.Answer.{Answer, Answer.Can, Answer.Cannot, Answer.Refused, Answer.Stopped}
use Rattle.contract.specs.Check.{Lengths, outcome}
use Rattle.contract.specs.Filled.{lengths}
use Rattle.contract.specs.Demands.{answer, IsVerdict}
use Rattle.contract.proofs.Checking.{ran_passed, admitted_ran}
use Rattle.contract.proofs.Demands as contract
use Rattle.renaming.proofs.Images.{first_below}
use Rattle.renumbering.specs.Renumbering.{Renumbering, Permutes, renumbered_rule, renumbered_order, renumbered_rules, renumbered_book, renumbered_words}
use Rattle.renumbering.specs.Demands.{Becomes, SameVerdict, SameVerdict.both_can, SameVerdict.both_cannot, Agreeing, EveryBook}
use Rattle.renumbering.proofs.Carrying.{carried_within, carried_apart}
use Rattle.renumbering.proofs.Choices.{building}

-- ---- two verdicts

-- of two answers that are verdicts, of which the one says "can" only if the other does
same : (a a' : Answer) → IsVerdict a → IsVerdict a' → ((t t' : Tally) → a ≡ Can t → a' ≡ Cannot t' → ⊥) → ((t t' : Tally) → a ≡ Cannot t → a' ≡ Can t' → ⊥) → SameVerdict a a'
same (Can t) (Can t') v v' f g = both_can t t'
same (Cannot t) (Cannot t') v v' f g = both_cannot t t'
same (Can t) (Cannot t') v v' f g = absurd (f t t' refl refl)
same (Cannot t) (Can t') v v' f g = absurd (g t t' refl refl)
same (Refused k) a v v' f g = absurd v
same (Stopped k t) a v v' f g = absurd v
same (Can t) (Refused k) v v' f g = absurd v'
same (Can t) (Stopped k t') v v' f g = absurd v'
same (Cannot t) (Refused k) v v' f g = absurd v'
same (Cannot t) (Stopped k t') v v' f g = absurd v'

module _ (m : Renumbering) (bytes bytes' : List ℕ) (o o' : Order) (b : Becomes m bytes bytes' o o') where
  -- the one can be built exactly if the other can
  both_built : Input (vars_in bytes) (rules_in bytes) (complete o) → Buildable (vars_in bytes) (rules_in bytes) (complete o) ↔ Buildable (vars_in bytes') (rules_in bytes') (complete o')
  both_built input = rw (b.options, b.rules, b.order) (building m (vars_in bytes) (rules_in bytes) (complete o) b.permutes input)

  module _ (allowance allowance' : ℕ) (l l' : Lengths) where
    agreed : IsVerdict (answer bytes o allowance l) → IsVerdict (answer bytes' o' allowance' l') → SameVerdict (answer bytes o allowance l) (answer bytes' o' allowance' l')
    agreed v v' =
        let r = contract.verdict_ran bytes o allowance l v in
        let built = both_built (none_admitted bytes o (ran_passed bytes o allowance l r.0 r.1).admitted).input in
        same _ _ v v'
        (λ t t' e e'. contract.cannot_built bytes' o' allowance' l' t' e' (built.0 (contract.can_built bytes o allowance l t e)))
        (λ t t' e e'. contract.cannot_built bytes o allowance l t e (built.1 (contract.can_built bytes' o' allowance' l' t' e')))

pub agreeing : Agreeing
agreeing m bytes bytes' o o' b allowance allowance' before before' after after' a a' c c' v v' =
    rw (c.answer, c'.answer)
    (agreed m bytes bytes' o o' b allowance allowance' (lengths before) (lengths before') (rw c.answer at v) (rw c'.answer at v'))

-- ---- every book

module _ (m : Renumbering) (n : ℕ) (p : Permutes m.number n) where
  -- a rule without fault
  proper : (c : Clause) → Proper n c → Proper n (renumbered_rule m n c)
  unfolding renumbered_rule vars
  proper c d =
      record {
        named = or_within _ _ (first_vars n) (carried_within m n p c.pos c.neg) (carried_within m n p c.neg c.pos);
        consistent = carried_apart m n p c.pos c.neg d.consistent;
      }

  all_proper : (cs : List Clause) → AllProper n cs → AllProper n (renumbered_rules m n cs)
  all_proper cs all c i = let from = Memᴰ.of_map (renumbered_rule m n) cs i in subst (Proper n) from.2 (proper from.0 (all from.0 from.1))

  formed : (cs : List Clause) → WellFormed n cs → WellFormed n (renumbered_rules m n cs)
  formed cs w =
      record {
        vars_few = w.vars_few;
        clauses_few = omega (arith, length-map cs (renumbered_rule m n), w.clauses_few);
        proper = all_proper cs w.proper;
      }

  -- a completed order that passes, as two words
  ordered : (a : Assumptions) → meets a.pos a.neg ≡ false → NoRow (order_conditions n (order (renumbered_order m n a).pos (renumbered_order m n a).neg 0))
  unfolding renumbered_order
  ordered a apart =
      let fitted = carried_within m n p a.pos a.neg in
      let out = carried_within m n p a.neg a.pos in (
        λ (k, high, h). absurd (omega (arith, ⊎_elim (λ e. first_below n k (fitted k e)) (λ e. first_below n k (out k e)) (or_either _ _ h))),
        (
          λ x. both_ways _ ((in_both _ _).1 x) (carried_apart m n p a.pos a.neg apart),
          (λ (k, high, h). both_ways (has 0 k) h (has_zero k), tt),
        ),
      )

module _ (m : Renumbering) (bytes : List ℕ) (o : Order) (p : Permutes m.number (vars_in bytes)) (a : Admitted bytes o (vars_in bytes) (rules_in bytes)) where
  abbrev n : ℕ
  n = vars_in bytes

  abbrev words : Order
  words = renumbered_words m n o

  well_formed : WellFormed n (renumbered_rules m n (rules_in bytes))
  well_formed = formed m n p (rules_in bytes) a.well_formed

  becomes : Becomes m bytes (renumbered_book m bytes) o words
  unfolding renumbered_book renumbered_words
  becomes =
      let holds = written_holds n (renumbered_rules m n (rules_in bytes)) well_formed in
      record { permutes = p; options = holds.vars_are; rules = holds.clauses_are; order = without_standard _ _ }

  admitted : first_row (admit_rows (renumbered_book m bytes) words) ≡ none
  unfolding renumbered_book renumbered_words
  admitted =
      written_admitted n (renumbered_rules m n (rules_in bytes)) words well_formed
      ((none_iff (order_rows n words) (order_conditions n words) (order_decides n words)).1 (ordered m n p (complete o) a.consistent.apart))

pub every_book : EveryBook
every_book m bytes o l p h =
    let passed = ran_passed bytes o 0 l _ (((contract.demands).runs bytes o 0 l (outcome bytes o 0 l)).1 (h, refl)) in
    let a = none_admitted bytes o passed.admitted in
    let bytes' = renumbered_book m bytes in
    let o' = renumbered_words m (vars_in bytes) o in
    let b = becomes m bytes o p a in
    let ran' = admitted_ran bytes' o' 0 l (admitted m bytes o p a) passed.permitted in
    let h' = (((contract.demands).runs bytes' o' 0 l (outcome bytes' o' 0 l)).0 ran').0 in
    record {
      becomes = b;
      not_refused = h';
      same_verdict =
          λ allowance branchings places.
          agreed m bytes bytes' o o' b allowance allowance l l
          (((contract.demands).bound bytes o l h).enough allowance branchings places)
          (((contract.demands).bound bytes' o' l h').enough allowance (rw b.options branchings) (rw b.options places));
    }
