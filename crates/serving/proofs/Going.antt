-- The loop over the orders. After i orders the first i answers are written, and what the orders that are left make of the tables is what all make of them as they
-- were lent.
use mathlib.Core.Path.{◌≡◌, sym, ap, ◌∙◌}
use mathlib.Core.List.{List, [], ◌∷◌, ◌++◌, append-nil}
use Prim.Native.Nat.{ℕ, suc, ◌+◌, ◌-◌, ◌<◌}
use native.Mathlib.Numerals.{add-one}
use native.Mathlib.Omega.{arith}
use lib.ListN.{length, set, drop_of_length-le}
use Rattle.rows.specs.Rows.{from}
use Rattle.rows.proofs.Lists.{from_next, from_length}
use Rattle.order.specs.Order.{Order}
use Rattle.contract.specs.Filled.{Tables, lengths, written}
use Rattle.checker.proofs.Written.{written_more}
use Rattle.morning.specs.Morning.{order_at, word_part, fill_part, fill_parts, served}
use Rattle.serving.specs.Promises.{ServedPart}
use Rattle.morning.proofs.Serving.{fill_lengths, same_word}

-- the words of the answers, by their numbers
abbrev words_of : List ℕ → List ℕ → ℕ → ℕ → Tables → ℕ → ℕ
words_of bytes words allowance k before i = word_part bytes (order_at words i) allowance k i before

pub record Going (bytes words : List ℕ) (allowance k i : ℕ) (lent-answers : List ℕ) (before : Tables) (answers : List ℕ) (t : Tables) : Type 0 where
  pub written_answers : answers ≡ written (from (words_of bytes words allowance k before) 0 i) lent-answers
  pub left_to_do : fill_parts bytes words allowance k i (k - i) t ≡ fill_parts bytes words allowance k 0 k before
  pub same_lengths : lengths t ≡ lengths before

module _ (bytes words : List ℕ) (allowance k : ℕ) (lent-answers : List ℕ) (before : Tables) (as_many : length lent-answers ≡ k) where
  module _ (i : ℕ) (answers : List ℕ) (t : Tables) (going : Going bytes words allowance k i lent-answers before answers t) where
    count : length (from (words_of bytes words allowance k before) 0 i) ≡ i
    count = from_length (words_of bytes words allowance k before) 0 i

    pub going_next :
        (o : Order) (w : ℕ) (t' : Tables) → i < k → o ≡ order_at words i → ServedPart bytes o allowance k i t w t' →
        Going bytes words allowance k (i + 1) lent-answers before (set answers i w) t'
    going_next o w t' h same p =
        let f : ℕ → ℕ = words_of bytes words allowance k before in
        let filled : t' ≡ fill_part bytes (order_at words i) allowance k i t = p.tables ∙ ap (λ (x : Order). fill_part bytes x allowance k i t) same in
        let one_less : k - i ≡ suc (k - (i + 1)) = omega (arith, h) in
        let word : w ≡ f i = p.word ∙ ap (λ (x : Order). word_part bytes x allowance k i t) same ∙ same_word bytes (order_at words i) allowance k i h t before going.same_lengths in
        record {
          written_answers =
              ap (λ (l : List ℕ). set l i w) going.written_answers
              ∙ ap (λ (n : ℕ). set (written (from f 0 i) lent-answers) n w) (sym count)
              ∙ written_more (from f 0 i) lent-answers w (omega (arith, count, as_many, h))
              ∙ ap (λ (x : ℕ). written (from f 0 i ++ (x ∷ [])) lent-answers) word
              ∙ ap (λ (l : List ℕ). written l lent-answers) (sym (from_next f i));
          left_to_do =
              ap (λ (x : Tables). fill_parts bytes words allowance k (i + 1) (k - (i + 1)) x) filled
              ∙ ap (λ (n : ℕ). fill_parts bytes words allowance k n (k - (i + 1)) (fill_part bytes (order_at words i) allowance k i t)) (add-one i)
              ∙ ap (λ (m : ℕ). fill_parts bytes words allowance k i m t) (sym one_less)
              ∙ going.left_to_do;
          same_lengths = ap lengths filled ∙ fill_lengths bytes (order_at words i) allowance k i h t ∙ going.same_lengths;
        }

  -- all orders are served
  pub going_end :
      (i : ℕ) (answers : List ℕ) (t : Tables) → i ≡ k → Going bytes words allowance k i lent-answers before answers t →
      record { number = 0; answers = answers; tables = t } ≡ served bytes words allowance k before
  unfolding served
  going_end i answers t last going =
      let f : ℕ → ℕ = words_of bytes words allowance k before in
      let all : answers ≡ from f 0 k =
      going.written_answers
      ∙ ap (λ (n : ℕ). written (from f 0 n) lent-answers) last
      ∙ ap (λ (l : List ℕ). from f 0 k ++ l) (drop_of_length-le lent-answers {i = length (from f 0 k)} (omega (arith, from_length f 0 k, as_many)))
      ∙ append-nil (from f 0 k)
      in
      let none_left : k - i ≡ 0 = omega (arith, last) in
      let done : t ≡ fill_parts bytes words allowance k 0 k before =
      ap (λ (m : ℕ). fill_parts bytes words allowance k i m t) (sym none_left) ∙ going.left_to_do
      in
      cc
