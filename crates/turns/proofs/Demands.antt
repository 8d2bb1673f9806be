-- Each demand, with its proof. That the planner can force it is said by ways of answering, which `Ways` has for every point of the turns; here are the start and the point
-- after the first two options.
use mathlib.Core.Path.{◌≡◌, refl, sym, ap, ap₂, subst, ◌∙◌}
use mathlib.Core.Bool.{Bool, true, false, not, ◌&&◌}
use mathlib.Core.List.Memᴰ
use mathlib.Core.List.{List, [], ◌∷◌, Memᴰ}
use mathlib.Core.Logic.{◌⊎◌, ◌↔◌, ⊎_elim}
use Prim.Native.Nat.{ℕ, suc, ◌^◌, ◌<◌}
use native.Mathlib.Nat.{not-suc-le-zero}
use native.Mathlib.Omega.{arith}
use borrow.Author.Tests.{not-true, lt-ltb}
use lib.Bits.{bit_or}
use lib.ListN.{length}
use Rattle.words.specs.Words.{is_zero, has, minus, meets, first_vars, members, Within}
use Rattle.words.proofs.Truth.{both_ways, refuted, confirmed, iff, and_left, and_right, and_both}
use Rattle.words.proofs.Membership.{ext, has_bit_eq, has_first_vars}
use Rattle.words.proofs.Sets.{within_lt, lt_within, in_or, in_minus, minus_empty, meets_false}
use Rattle.words.proofs.Lowest.{are_members, members_are}
use Rattle.steps.specs.Clause.{Clause}
use Rattle.steps.specs.Meaning.{Builds, obeys}
use Rattle.order.specs.Order.{Order, complete, free}
use Rattle.order.proofs.Completed.{completing}
use Rattle.book.specs.Bytes.{vars_in, rules_in}
use Rattle.book.specs.Conditions.{NoRow}
use Rattle.contract.proofs.Demands as contract
use Rattle.turns.specs.Turns.{Response, Response.Out, Response.Fitted, Response.None, Responses, Player.buyer, settled, wins, forces, given, response, responses}
use Rattle.turns.specs.Handed.{Places, places, response_number, number_of, places_in}
use Rattle.turns.specs.Meaning.{Free, CanForceFrom}
use Rattle.turns.specs.Demands.{free_options, turns_conditions, IsForced, CanForce, EveryPlay, Forces, Forcing, NoneFree, NeverCannot, answer_to, after_two, RightResponse, Responding, NoSecond, BothAnswers, Stands, Hold, Taking, Demands}
use Rattle.turns.proofs.Listing.{is_free, free_options_lem}
use Rattle.turns.proofs.Judging.{forced_now, its_answers, admitted, forced_iff, open_iff, forced_passes, answers_pass, answers_are, refusals, named_refusal}
use Rattle.turns.proofs.Turning.{forces_end, wins_builds, turn_by_turn as turns_hold, some_end, response_some, responses_none, responses_some, right_serving, both_given, given_iff, no_second as none_second}
use Rattle.turns.proofs.Rounds.{turn_at, after_two_lem, at_start}
use Rattle.turns.proofs.Ways.{SoFar, settle, ways}
use Rattle.turns.proofs.Plays.{one_play}
use Rattle.turns.proofs.Examples.{examples}

-- ---- the free options

-- the word of a free option is one of n
free_within : (n : ℕ) (o : Order) (v : ℕ) → Memᴰ v (members (free n o)) → Within v (first_vars n)
free_within n o v m k h =
    let x = members_are (free n o) v m in
    let same = has_bit_eq x.0 k (ap (λ w. has w k) (sym x.1) ∙ h) in
    has_first_vars n k ∙ lt-ltb k n (subst (λ j. j < n) same ((is_free n o x.0).0 x.2).option)

-- a free option is not fitted from the start
not_taken : (n : ℕ) (o : Order) (k : ℕ) → Free n o k → has (complete o).pos k ≡ false
not_taken n o k f =
    refuted (has (complete o).pos k)
    (λ h.
    ⊎_elim (λ w. both_ways (has o.wanted k) w f.not_wanted) (λ s. both_ways (has o.standard k) s.0 f.not_standard) (((completing o).wanted k).0 h))

-- ---- points of the turns

-- the start
start : (n : ℕ) (o : Order) → Within (complete o).pos (first_vars n) → SoFar n o 0 (complete o).pos
start n o h = record { choice = within_lt n (complete o).pos h; fixed = λ k below f. refl; later = λ k low f. not_taken n o k f }

-- before the first option what is settled plays no part
from_start : (n : ℕ) (cs : List Clause) (o : Order) (y z : ℕ) → CanForceFrom n cs o 0 y → CanForceFrom n cs o 0 z
from_start n cs o y z c = (
  c.0,
  λ x p. c.1 x (record { choice = p.choice; so_far = λ k below. absurd (not-suc-le-zero below); fixed = p.fixed; answered = p.answered }),
)

-- ---- forced or open

module _ (bytes : List ℕ) (o : Order) (passes : NoRow (turns_conditions bytes o)) where
  abbrev n : ℕ
  n = vars_in bytes

  abbrev cs : List Clause
  cs = rules_in bytes

  abbrev f : ℕ
  f = free n o

  abbrev won : ℕ → Bool
  won = wins cs (complete o)

  wanted_within : Within (complete o).pos (first_vars n)
  wanted_within = (admitted bytes o passes).input.wanted

  -- from the start on
  by_a_way : (forced_now bytes o ≡ true) ↔ CanForce bytes o
  by_a_way =
      let begin : forced_now bytes o ≡ forces won (turn_at f 0) (members (minus f (first_vars 0))) (complete o).pos =
      ap₂ (λ who vs. forces won who vs (complete o).pos) (sym (at_start f).1) (sym (at_start f).0)
      in
      let way = ways n cs o 0 (complete o).pos (start n o wanted_within) in (
        λ e. from_start n cs o (complete o).pos 0 (way.0 (sym begin ∙ e)),
        λ c. begin ∙ way.1 (from_start n cs o 0 (complete o).pos c),
      )

  by_turns : IsForced bytes o ↔ Forces (Builds n cs (complete o)) buyer (free_options bytes o) (complete o).pos
  by_turns =
      let t = turns_hold n cs (complete o) buyer (free_options bytes o) (complete o).pos (free_within n o) wanted_within in
      let i = forced_iff bytes o passes in
      (λ x. t.0 (i.0 x), λ g. i.1 (t.1 g))

  -- where no option is free
  module _ (none : free_options bytes o ≡ []) where
    no_option : (k : ℕ) → has f k ≡ true → ⊥
    no_option k h = Memᴰ.not-nil (subst (Memᴰ (2 ^ k)) none (are_members f k h))

    named : (k : ℕ) → has (first_vars n) k ≡ true → (has (complete o).pos k ≡ true) ⊎ (has (complete o).neg k ≡ true)
    unfolding free
    named k h =
        in_or (complete o).pos (complete o).neg k
        (confirmed (has (bit_or (complete o).pos (complete o).neg) k) (λ e. no_option k (in_minus (first_vars n) (bit_or (complete o).pos (complete o).neg) k h e)))

    only_choice : (x : ℕ) → x < 2 ^ n → obeys x (complete o) ≡ true → x ≡ (complete o).pos
    unfolding obeys
    only_choice x few e =
        let wanted : Within (complete o).pos x = minus_empty (complete o).pos x (and_left (is_zero (minus (complete o).pos x)) (not (meets (complete o).neg x)) e) in
        let unwanted : (k : ℕ) → has (complete o).neg k ≡ true → has x k ≡ false = meets_false (complete o).neg x (not-true (meets (complete o).neg x) (and_right (is_zero (minus (complete o).pos x)) (not (meets (complete o).neg x)) e)) in
        ext x (complete o).pos
        (λ k.
        iff (has x k) (has (complete o).pos k)
        (λ h. ⊎_elim (λ w. w) (λ u. both_ways (has x k) h (unwanted k u)) (named k (lt_within n x few k h)))
        (wanted k))

    decides : IsForced bytes o ↔ Builds n cs (complete o) (complete o).pos
    decides =
        let e : forced_now bytes o ≡ won (complete o).pos = ap (λ vs. forces won buyer vs (complete o).pos) none ∙ forces_end won buyer (complete o).pos in
        let i = forced_iff bytes o passes in
        let w = wins_builds n cs (complete o) (complete o).pos wanted_within in
        (λ x. w.0 (sym e ∙ i.0 x), λ b. i.1 (e ∙ w.1 b))

every_play : EveryPlay
every_play bytes o passes way says = one_play (vars_in bytes) o way says (start (vars_in bytes) o (wanted_within bytes o passes))

forcing : Forcing
forcing bytes o passes =
    let i = forced_iff bytes o passes in
    let j = open_iff bytes o passes in
    let w = by_a_way bytes o passes in
    record {
      forced = (λ x. w.0 (i.0 x), λ c. i.1 (w.1 c));
      otherwise = (λ x c. both_ways (forced_now bytes o) (w.1 c) (j.0 x), λ no. j.1 (refuted (forced_now bytes o) (λ e. no (w.0 e))));
    }

none_free : NoneFree
none_free bytes o passes none = record { decides = decides bytes o passes none; only = only_choice bytes o passes none }

never_cannot : NeverCannot
never_cannot bytes o x allowance l t e =
    let passes = forced_passes bytes o x in
    let built = some_end (Builds (vars_in bytes) (rules_in bytes) (complete o)) buyer (free_options bytes o) (complete o).pos ((by_turns bytes o passes).0 x) in
    contract.cannot_built bytes o allowance l t e built

-- ---- the planner's answers

module _ (bytes : List ℕ) (o : Order) (passes : NoRow (turns_conditions bytes o)) (j k : ℕ) (vs : List ℕ) (first_two : free_options bytes o ≡ 2 ^ j ∷ 2 ^ k ∷ vs) where
  -- with the two options settled
  still : (first second : Bool) →
      (forces (won bytes o passes) buyer vs (after_two o j first k second) ≡ true) ↔
      CanForceFrom (vars_in bytes) (rules_in bytes) o (suc k) (after_two o j first k second)
  still first second =
      let n = vars_in bytes in
      let after = after_two_lem (free n o) j k vs first_two in
      let y = settled first (2 ^ j) (complete o).pos in
      let one = settle n o 0 j (complete o).pos first (start n o (wanted_within bytes o passes)) ((is_free n o j).0 after.1) (omega arith) in
      let two = settle n o (suc j) k y second one ((is_free n o k).0 after.2) after.0 in
      let way = ways n (rules_in bytes) o (suc k) (after_two o j first k second) two in
      let same = ap₂ (λ who us. forces (won bytes o passes) who us (after_two o j first k second)) after.5 after.4 in
      (λ e. way.0 (same ∙ e), λ c. sym same ∙ way.1 c)

  answer_is : (first : Bool) → answer_to first (its_answers bytes o) ≡ response (won bytes o passes) (2 ^ k ∷ vs) (settled first (2 ^ j) (complete o).pos)
  answer_is first =
      ap (λ us. answer_to first (responses (won bytes o passes) us (complete o).pos)) first_two
      ∙ ap (answer_to first) (responses_some (won bytes o passes) (2 ^ j) (2 ^ k ∷ vs) (complete o).pos)
      ∙ of_each first
    where
      of_each : (b : Bool) →
          answer_to b (record { out = response (won bytes o passes) (2 ^ k ∷ vs) (settled false (2 ^ j) (complete o).pos); fitted = response (won bytes o passes) (2 ^ k ∷ vs) (settled true (2 ^ j) (complete o).pos) })
          ≡ response (won bytes o passes) (2 ^ k ∷ vs) (settled b (2 ^ j) (complete o).pos)
      of_each true = refl
      of_each false = refl

responding : Responding
responding bytes o r are j k vs first_two first =
    let passes = answers_pass bytes o r are in
    let x = still bytes o passes j k vs first_two first in
    subst (RightResponse _)
    (sym
    (ap (answer_to first) (answers_are bytes o r are) ∙ answer_is bytes o passes j k vs first_two first
    ∙ response_some (won bytes o passes) (2 ^ k) vs (settled first (2 ^ j) (complete o).pos)))
    (right_serving _ _ _ (x false) (x true))

no_second : NoSecond
no_second bytes o r are few = answers_are bytes o r are ∙ go (free_options bytes o) few
  where
    go : (us : List ℕ) → length us < 2 → responses (wins (rules_in bytes) (complete o)) us (complete o).pos ≡ record { out = None; fitted = None }
    go [] h = responses_none _ _
    go (v ∷ []) h = none_second _ v _
    go (v ∷ u ∷ us) h = absurd (omega arith)

both_answers : BothAnswers
both_answers bytes o r are two =
    let i = forced_iff bytes o (answers_pass bytes o r are) in
    let same : forced_now bytes o ≡ (given r.out && given r.fitted) =
    go (free_options bytes o) two ∙ ap (λ a. given a.out && given a.fitted) (sym (answers_are bytes o r are))
    in (
      λ x.
          let e = sym same ∙ i.0 x in
          ((given_iff r.out).0 (and_left (given r.out) (given r.fitted) e), (given_iff r.fitted).0 (and_right (given r.out) (given r.fitted) e)),
      λ x. i.1 (same ∙ and_both (given r.out) (given r.fitted) ((given_iff r.out).1 x.0) ((given_iff r.fitted).1 x.1)),
    )
  where
    go : (us : List ℕ) → 1 < length us →
        forces (wins (rules_in bytes) (complete o)) buyer us (complete o).pos ≡
        (given (responses (wins (rules_in bytes) (complete o)) us (complete o).pos).out && given (responses (wins (rules_in bytes) (complete o)) us (complete o).pos).fitted)
    go [] h = absurd (omega arith)
    go (v ∷ []) h = absurd (omega arith)
    go (v ∷ u ∷ us) h = both_given _ v u us _

-- ---- what is handed over

stands : (r : Response) → Stands r (response_number r)
stands None = refl
stands Out = refl
stands Fitted = refl

holds : (forced : ℕ) (a : Responses) (p : Places) → p ≡ places forced (response_number a.out) (response_number a.fitted) → Hold forced a p
holds forced a p e = rw e (record { is_forced = refl; out = stands a.out; fitted = stands a.fitted })

taking : Taking
taking bytes o before r after h =
    record {
      forced = λ a e. (h.number ∙ ap number_of e, holds 1 a after (h.places ∙ ap (places_in before) e));
      otherwise = λ a e. (h.number ∙ ap number_of e, holds 0 a after (h.places ∙ ap (places_in before) e));
      refused = λ k e.
          let number = h.number ∙ ap number_of e in (
            number,
            ⊎_elim (⊎_elim (λ x. omega (arith, number, x.0)) (λ x. omega (arith, number, x))) (λ x. omega (arith, number, x)) (named_refusal bytes o k e),
            h.places ∙ ap (places_in before) e,
          );
    }

-- ---- all of them

pub demands : Demands
demands =
    record {
      free_options = free_options_lem;
      refusals = refusals;
      named_refusal = named_refusal;
      every_play = every_play;
      forcing = forcing;
      turn_by_turn = by_turns;
      none_free = none_free;
      never_cannot = never_cannot;
      responding = responding;
      no_second = no_second;
      both_answers = both_answers;
      taking = taking;
      examples = examples;
    }
