-- The refusals. Each row decides its condition, so the first row that holds is at the first condition that does.
use mathlib.Core.Path.{◌≡◌, refl, sym, ap, ◌∙◌}
use mathlib.Core.Bool.{Bool, true, ◌||◌, or-true}
use mathlib.Core.List.{List, [], ◌∷◌, ◌++◌}
use mathlib.Core.Logic.{◌⊎◌, ◌↔◌, inl, inr, ⊎_elim}
use mathlib.Core.Option.{Option, some, none}
use Prim.Native.Nat.{ℕ, ◌≤◌, ◌<◌}
use native.Mathlib.Omega.{arith}
use borrow.Author.Tests.{ltb-true, lt-ltb}
use lib.Bits.{bit_or}
use lib.Count.{ones}
use lib.Dec.{ltb}
use Rattle.words.specs.Words.{meets}
use Rattle.words.proofs.Truth.{clash, or_either}
use Rattle.words.proofs.Unions.{meets_or}
use Rattle.order.specs.Order.{Order}
use Rattle.book.specs.Bytes.{vars_in}
use Rattle.book.specs.Refusals.{first_row, above, admit_rows}
use Rattle.book.specs.Conditions.{condition, First, NoRow, Decides, HasAbove, InBoth, admit_conditions}
use Rattle.book.proofs.Refusals.{decides_append, first_iff, none_iff, first_split, first_front}
use Rattle.book.proofs.Conditions.{has_above, in_both, rows_decide}
use Rattle.contract.specs.Check.{Lengths, table_rows}
use Rattle.contract.specs.Filled.{Tables, lengths}
use Rattle.contract.specs.Demands.{Permitted}
use Rattle.contract.proofs.Checking.{tables_decide, numbered}
use Rattle.undecided.specs.Settings.{settings}
use Rattle.undecided.specs.Undecided.{max_open, open_rows, undecided_rows, answer_to, tried_to, last_setting, tried_all, left_by, undecided}
use Rattle.undecided.specs.Demands.{open_conditions, undecided_conditions, RefusedOrTried, Refusals, TriedIs}
use Rattle.undecided.specs.Values.{Tried, Reply.Refused, Reply.tried}

-- ---- 19 and 20

nineteen : (n opens : ℕ) → ((ltb max_open (ones opens) || above n opens 0) ≡ true) ↔ ((10 < ones opens) ⊎ HasAbove n opens)
nineteen n opens = (
  λ h. ⊎_elim (λ e. inl (ltb-true max_open (ones opens) e)) (λ e. inr ((has_above n opens).0 e)) (or_either _ _ h),
  ⊎_elim (λ h. rw (lt-ltb max_open (ones opens) h)) (λ h. ap (λ (b : Bool). ltb max_open (ones opens) || b) ((has_above n opens).1 h) ∙ or-true (ltb max_open (ones opens))),
)

twenty : (w p q : ℕ) → (meets w (bit_or p q) ≡ true) ↔ (InBoth w p ⊎ InBoth w q)
twenty w p q = (
  λ h. ⊎_elim (λ e. inl ((in_both w p).0 e)) (λ e. inr ((in_both w q).0 e)) (or_either _ _ (sym (meets_or w p q) ∙ h)),
  ⊎_elim (λ h. rw (meets_or w p q, (in_both w p).1 h)) (λ h. meets_or w p q ∙ ap (λ (b : Bool). meets w p || b) ((in_both w q).1 h) ∙ or-true (meets w p)),
)

open_decides : (n : ℕ) (o : Order) (opens : ℕ) → Decides (open_rows n o opens) (open_conditions n o opens)
unfolding open_rows
open_decides n o opens = (refl, nineteen n opens, (refl, twenty opens o.wanted o.unwanted, tt))

-- every row decides its condition
rows_of : (bytes : List ℕ) (o : Order) (opens : ℕ) (l : Lengths) → Decides (undecided_rows bytes o opens l) (undecided_conditions bytes o opens l)
rows_of bytes o opens l =
    decides_append (admit_rows bytes o ++ open_rows (vars_in bytes) o opens) (table_rows l)
    (admit_conditions bytes o ++ open_conditions (vars_in bytes) o opens)
    (condition 9 (Permitted l → ⊥) ∷ [])
    (decides_append (admit_rows bytes o) (open_rows (vars_in bytes) o opens) (admit_conditions bytes o) (open_conditions (vars_in bytes) o opens) (rows_decide bytes o)
    (open_decides (vars_in bytes) o opens))
    (tables_decide l)

-- ---- what is left, by the first row

module _ (bytes : List ℕ) (o : Order) (opens allowance : ℕ) (t : Tables) where
  pub left_refused : (k : ℕ) → first_row (undecided_rows bytes o opens (lengths t)) ≡ some k → undecided bytes o opens allowance t ≡ record { reply = Refused k; tables = t }
  unfolding undecided
  left_refused k e = ap (left_by bytes o opens allowance t) e

  pub left_tried : first_row (undecided_rows bytes o opens (lengths t)) ≡ none → undecided bytes o opens allowance t ≡ tried_all bytes o opens allowance t
  unfolding undecided
  left_tried e = ap (left_by bytes o opens allowance t) e

  -- what was tried
  abbrev pub outcome_of : Tried
  outcome_of = tried_to (answer_to bytes o opens allowance (lengths t)) (settings opens) (last_setting bytes o opens allowance (lengths t))

  reply_tried : first_row (undecided_rows bytes o opens (lengths t)) ≡ none → (undecided bytes o opens allowance t).reply ≡ tried outcome_of
  unfolding tried_all
  reply_tried e = cc (left_tried e)

  pub judged : RefusedOrTried bytes o opens allowance t
  judged = go (first_row (undecided_rows bytes o opens (lengths t))) refl
    where
      decided : Decides (undecided_rows bytes o opens (lengths t)) (undecided_conditions bytes o opens (lengths t))
      decided = rows_of bytes o opens (lengths t)

      go : (x : Option ℕ) → first_row (undecided_rows bytes o opens (lengths t)) ≡ x → RefusedOrTried bytes o opens allowance t
      go (some j) e =
          let left = left_refused j e in
          let first : (k : ℕ) → (first_row (undecided_rows bytes o opens (lengths t)) ≡ some k) ↔ First (undecided_conditions bytes o opens (lengths t)) k =
          λ k. first_iff _ _ k decided
          in
          record {
            refused = λ k. (λ r. (first k).0 (cc (left, e, r)), λ f. cc (left, e, (first k).1 f));
            untouched = λ k r. cc left;
            tried = (λ n. let passed : first_row (undecided_rows bytes o opens (lengths t)) ≡ none = (none_iff _ _ decided).1 n in clash cc, λ x. let r = x.1 in clash (cc left));
          }
      go none e =
          let reply = reply_tried e in
          record {
            refused = λ k. (λ r. clash cc, λ f. let found : first_row (undecided_rows bytes o opens (lengths t)) ≡ some k = (first_iff _ _ k decided).1 f in clash cc);
            untouched = λ k r. clash cc;
            tried = (λ n. (outcome_of, reply), λ x. (none_iff _ _ decided).0 e);
          }

  -- where something was tried no row holds, and it is that
  pub tried_passed : (x : Tried) → TriedIs bytes o opens allowance t x → NoRow (undecided_conditions bytes o opens (lengths t))
  tried_passed x e = judged.tried.1 (x, e)

  pub no_row : NoRow (undecided_conditions bytes o opens (lengths t)) → first_row (undecided_rows bytes o opens (lengths t)) ≡ none
  no_row h = (none_iff _ _ (rows_of bytes o opens (lengths t))).1 h

  pub tried_is : (x : Tried) → TriedIs bytes o opens allowance t x → x ≡ outcome_of
  tried_is x e =
      let reply = reply_tried (no_row (tried_passed x e)) in
      let same : tried x ≡ tried outcome_of = sym e ∙ reply in
      cc

pub refusals : Refusals
refusals = judged

-- ---- the numbers of refusals

pub refused_number : (bytes : List ℕ) (o : Order) (opens : ℕ) (l : Lengths) (k : ℕ) → First (undecided_conditions bytes o opens l) k →
    (((1 ≤ k) × (k ≤ 9)) ⊎ (k ≡ 12)) ⊎ ((k ≡ 19) ⊎ (k ≡ 20))
refused_number bytes o opens l k f =
    ⊎_elim
    (λ a.
    ⊎_elim (λ b. inl (numbered bytes o l k (first_front (admit_conditions bytes o) (condition 9 (Permitted l → ⊥) ∷ []) k b))) open_number
    (first_split (admit_conditions bytes o) (open_conditions (vars_in bytes) o opens) k a))
    table_number
    (first_split (admit_conditions bytes o ++ open_conditions (vars_in bytes) o opens) (condition 9 (Permitted l → ⊥) ∷ []) k f)
  where
    open_number : First (open_conditions (vars_in bytes) o opens) k → (((1 ≤ k) × (k ≤ 9)) ⊎ (k ≡ 12)) ⊎ ((k ≡ 19) ⊎ (k ≡ 20))
    open_number (inl h) = inr (inl (sym h.1))
    open_number (inr (n, inl h)) = inr (inr (sym h.1))
    open_number (inr (n, inr h)) = absurd h.1

    table_number : First (condition 9 (Permitted l → ⊥) ∷ []) k → (((1 ≤ k) × (k ≤ 9)) ⊎ (k ≡ 12)) ⊎ ((k ≡ 19) ⊎ (k ≡ 20))
    table_number (inl h) = let low : 1 ≤ k = omega (arith, h.1) in let high : k ≤ 9 = omega (arith, h.1) in inl (inl (low, high))
    table_number (inr h) = absurd h.1
