-- The refusals. Each row decides its condition, so the first row that holds is at the first condition that does; where none holds the answer is forced or open.
use mathlib.Core.Path.{◌≡◌, refl, ap}
use mathlib.Core.Bool.{Bool, true, false}
use mathlib.Core.List.{List, [], ◌∷◌}
use mathlib.Core.Logic.{◌⊎◌, ◌↔◌, inl, inr, ⊎_elim}
use mathlib.Core.Option.{Option, some, none}
use Prim.Native.Nat.{ℕ, ◌≤◌, ◌<◌}
use native.Mathlib.Omega.{arith}
use borrow.Author.Tests.{ltb-true, lt-ltb}
use lib.Count.{ones}
use lib.ListN.{length}
use Rattle.words.proofs.Truth.{clash}
use Rattle.order.specs.Order.{Order, complete, free}
use Rattle.book.specs.Bytes.{vars_in, rules_in}
use Rattle.book.specs.Refusals.{first_row, admit_rows}
use Rattle.book.specs.Conditions.{condition, First, NoRow, Decides, book_conditions, order_conditions, admit_conditions}
use Rattle.book.proofs.Refusals.{decides_append, first_iff, none_iff, first_number, append_numbers, book_numbers, no_first}
use Rattle.book.proofs.Conditions.{rows_decide}
use Rattle.book.proofs.Accepted.{Admitted, none_admitted}
use Rattle.turns.specs.Turns.{Responses, Turns.Refused, in_turn, max_free, free_rows, turns_rows, Player.buyer, wins, forces, responses, told, played, answered_by, turns}
use Rattle.turns.specs.Demands.{free_options, turns_conditions, IsForced, IsOpen, RefusedOrPlayed, Refusals, NamedRefusal, AnswersAre}
use Rattle.turns.proofs.Listing.{free_number}

-- ---- 16

free_decides : (n : ℕ) (o : Order) → Decides (free_rows n o) (condition 16 (12 < length (in_turn n o)) ∷ [])
unfolding free_rows
free_decides n o =
    let number = free_number n o in (
      refl,
      (λ h. omega (arith, number, ltb-true max_free (ones (free n o)) h), λ h. lt-ltb max_free (ones (free n o)) (omega (arith, number, h))),
      tt,
    )

-- every row decides its condition
turns_decide : (bytes : List ℕ) (o : Order) → Decides (turns_rows bytes o) (turns_conditions bytes o)
turns_decide bytes o =
    decides_append (admit_rows bytes o) (free_rows (vars_in bytes) o) (admit_conditions bytes o) _ (rows_decide bytes o) (free_decides (vars_in bytes) o)

-- ---- the answer, by the first row

module _ (bytes : List ℕ) (o : Order) where
  -- whether it is forced, and the planner's answers
  abbrev pub forced_now : Bool
  forced_now = forces (wins (rules_in bytes) (complete o)) buyer (free_options bytes o) (complete o).pos

  abbrev pub its_answers : Responses
  its_answers = responses (wins (rules_in bytes) (complete o)) (free_options bytes o) (complete o).pos

  answer_refused : (k : ℕ) → first_row (turns_rows bytes o) ≡ some k → turns bytes o ≡ Refused k
  unfolding turns
  answer_refused k e = ap (answered_by (vars_in bytes) (rules_in bytes) o) e

  answer_played : first_row (turns_rows bytes o) ≡ none → turns bytes o ≡ told forced_now its_answers
  unfolding turns played
  answer_played e = ap (answered_by (vars_in bytes) (rules_in bytes) o) e

  decided : Decides (turns_rows bytes o) (turns_conditions bytes o)
  decided = turns_decide bytes o

  no_row : NoRow (turns_conditions bytes o) → first_row (turns_rows bytes o) ≡ none
  no_row = (none_iff _ _ decided).1

  -- what is told is forced or open
  told_either : (b : Bool) (r : Responses) → turns bytes o ≡ told b r → IsForced bytes o ⊎ IsOpen bytes o
  told_either true r e = inl (r, e)
  told_either false r e = inr (r, e)

  pub judged : RefusedOrPlayed bytes o
  judged = go (first_row (turns_rows bytes o)) refl
    where
      first : (k : ℕ) → (first_row (turns_rows bytes o) ≡ some k) ↔ First (turns_conditions bytes o) k
      first k = first_iff _ _ k decided

      not_refused : (b : Bool) (r : Responses) (k : ℕ) → turns bytes o ≡ told b r → turns bytes o ≡ Refused k → ⊥
      not_refused true r k e f = clash cc
      not_refused false r k e f = clash cc

      go : (x : Option ℕ) → first_row (turns_rows bytes o) ≡ x → RefusedOrPlayed bytes o
      go (some j) e =
          let left = answer_refused j e in
          record {
            refused = λ k. (λ r. (first k).0 (cc (left, e, r)), λ f. cc (left, e, (first k).1 f));
            played = (λ n. let passed = no_row n in clash cc, ⊎_elim (λ x. let r = x.1 in clash cc) (λ x. let r = x.1 in clash cc));
          }
      go none e =
          let left = answer_played e in
          record {
            refused = λ k. (λ r. absurd (not_refused forced_now its_answers k left r), λ f. let found = (first k).1 f in clash cc);
            played = (λ n. told_either forced_now its_answers left, λ x. (none_iff _ _ decided).0 e);
          }

  -- where no row holds
  module _ (passes : NoRow (turns_conditions bytes o)) where
    pub told_is : turns bytes o ≡ told forced_now its_answers
    told_is = answer_played (no_row passes)

    pub admitted : Admitted bytes o (vars_in bytes) (rules_in bytes)
    admitted = none_admitted bytes o ((none_iff _ _ (rows_decide bytes o)).1 (no_first (admit_conditions bytes o) _ passes))

    pub forced_iff : IsForced bytes o ↔ (forced_now ≡ true)
    forced_iff = go forced_now told_is
      where
        go : (b : Bool) → turns bytes o ≡ told b its_answers → IsForced bytes o ↔ (b ≡ true)
        go true e = (λ x. refl, λ x. (its_answers, e))
        go false e = (λ x. let r = x.1 in clash cc, λ x. clash cc)

    pub open_iff : IsOpen bytes o ↔ (forced_now ≡ false)
    open_iff = go forced_now told_is
      where
        go : (b : Bool) → turns bytes o ≡ told b its_answers → IsOpen bytes o ↔ (b ≡ false)
        go false e = (λ x. refl, λ x. (its_answers, e))
        go true e = (λ x. let r = x.1 in clash cc, λ x. clash cc)

  -- no row holds where there is an answer
  pub forced_passes : IsForced bytes o → NoRow (turns_conditions bytes o)
  forced_passes f = judged.played.1 (inl f)

  module _ (r : Responses) (are : AnswersAre bytes o r) where
    pub answers_pass : NoRow (turns_conditions bytes o)
    answers_pass = judged.played.1 (⊎_elim (λ e. inl (r, e)) (λ e. inr (r, e)) are)

    pub answers_are : r ≡ its_answers
    answers_are = go forced_now (told_is answers_pass) are
      where
        go : (b : Bool) → turns bytes o ≡ told b its_answers → AnswersAre bytes o r → r ≡ its_answers
        go true e (inl f) = cc
        go true e (inr f) = clash cc
        go false e (inl f) = clash cc
        go false e (inr f) = cc

pub refusals : Refusals
refusals = judged

-- ---- the numbers of refusals

pub named_refusal : NamedRefusal
named_refusal bytes o k e =
    let P : ℕ → Type 0 = λ j. (((1 ≤ j) × (j ≤ 8)) ⊎ (j ≡ 12)) ⊎ (j ≡ 16) in
    let low : (j : ℕ) → 1 ≤ j → j ≤ 8 → P j = λ j a b. inl (inl (a, b)) in
    first_number P (turns_conditions bytes o) k
    (append_numbers P (admit_conditions bytes o) _
    (append_numbers P (book_conditions bytes) (order_conditions (vars_in bytes) o) (book_numbers P (λ j a b. low j a (omega arith)) bytes)
    (low 7 (omega arith) (omega arith), (low 8 (omega arith) (omega arith), (inl (inr refl), tt))))
    (inr refl, tt))
    (((judged bytes o).refused k).0 e)
