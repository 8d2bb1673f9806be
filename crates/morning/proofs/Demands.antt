-- The demands on a morning. Where it is served, what is left is the check of every order on its part (`Serving`), and the demands on a single check (crate
-- `contract`) are those on each order.
use mathlib.Core.Path.{◌≡◌, refl, sym, ap, ap₂, subst, ◌∙◌}
use mathlib.Core.Bool.{Bool, true, false}
use mathlib.Core.List.{List, [], ◌∷◌, ◌++◌}
use Prim.Native.Nat.{ℕ, zero, suc, ◌+◌, ◌*◌, ◌^◌, ◌<◌}
use native.Mathlib.Nat.{zero-add, add-zero}
use native.Mathlib.Omega.{arith}
use lib.ListN.{length, get_or}
use Rattle.words.proofs.Truth.{both_ways, confirmed}
use Rattle.rows.specs.Rows.{from}
use Rattle.rows.proofs.Lists.{from_length}
use Rattle.order.specs.Order.{Order}
use Rattle.answer.specs.Answer.{tally_in}
use Rattle.answer.specs.Packed.{packed, unpacked}
use Rattle.answer.specs.declared.Tally.{Tally}
use Rattle.answer.proofs.Demands.{inverse}
use Rattle.contract.specs.Check.{Lengths, check}
use Rattle.contract.specs.Filled.{Tables, lengths, answer_of, filled, Checked}
use Rattle.contract.specs.Demands.{answer, first_places}
use Rattle.contract.proofs.Asked.{counted_same, refused_first, demanded}
use Rattle.contract.proofs.Demands as contract
use Rattle.morning.specs.Parts.{part_of, remainder_of}
use Rattle.morning.specs.Morning.{order_at, orders_fault, word_part, fill_parts, Left, served, morning}
use Rattle.morning.specs.Demands.{OneToSixteen, Turned, Thirteen, word_of, EachByItself, OthersNoPart, OrdersRefused, CarryOver, words_of, OrdersRead, Demands}
use Rattle.morning.proofs.Parts.{cutting}
use Rattle.morning.proofs.Examples.{three_orders, longest}
use Rattle.morning.proofs.Judging.{passing, passes, morning_turned, morning_passed}
use Rattle.morning.proofs.Serving.{part_lengths_lem, fills_lengths, fills_remainder, fills_part}

-- ---- 13

module _ (bytes words : List ℕ) (allowance : ℕ) (answers : List ℕ) (t : Tables) where
  -- the test holds where the orders are not 1 to 16
  turned : (OneToSixteen words answers → ⊥) → orders_fault (length words) (length answers) ≡ true
  turned n = confirmed (orders_fault (length words) (length answers)) (λ e. n (passing words answers e))

  -- a morning of 1 to 16 orders is served
  morning_served : OneToSixteen words answers → morning bytes words allowance answers t ≡ served bytes words allowance (length answers) t
  morning_served m = morning_passed bytes words allowance answers t (passes words answers m)

  number_served : OneToSixteen words answers → (morning bytes words allowance answers t).number ≡ 0
  unfolding served
  number_served m = ap (λ (x : Left). x.number) (morning_served m)

  untouched :
      (OneToSixteen words answers → ⊥) → morning bytes words allowance answers t ≡ record { number = 13; answers = answers; tables = t }
  untouched n = morning_turned bytes words allowance answers t (turned n)

  number_turned : (OneToSixteen words answers → ⊥) → (morning bytes words allowance answers t).number ≡ 13
  number_turned n = ap (λ (x : Left). x.number) (untouched n)

pub thirteen : Thirteen
thirteen bytes words allowance answers t = go (orders_fault (length words) (length answers)) refl
  where
    go : (b : Bool) → orders_fault (length words) (length answers) ≡ b → Turned bytes words allowance answers t
    go true e =
        let none : OneToSixteen words answers → ⊥ = λ m. both_ways _ e (passes words answers m) in
        let number = number_turned bytes words allowance answers t none in
        record {
          served = (λ f. absurd (omega (arith, number, f)), λ m. absurd (none m));
          refused = (λ f. none, λ n. number);
          untouched = untouched bytes words allowance answers t;
        }
    go false e =
        let m = passing words answers e in
        let number = number_served bytes words allowance answers t m in
        record {
          served = (λ f. m, λ x. number);
          refused = (λ f. absurd (omega (arith, number, f)), λ n. absurd (n m));
          untouched = untouched bytes words allowance answers t;
        }

-- ---- the orders

-- after one order's words, the next are those of the order after it
orders_next : (a b c : ℕ) (ws : List ℕ) (i : ℕ) → order_at (a ∷ b ∷ c ∷ ws) (suc i) ≡ order_at ws i
orders_next a b c ws i =
    let first : 3 * suc i ≡ suc (suc (suc (3 * i))) = omega arith in
    let second : 3 * suc i + 1 ≡ suc (suc (suc (3 * i + 1))) = omega arith in
    let third : 3 * suc i + 2 ≡ suc (suc (suc (3 * i + 2))) = omega arith in
    let at : ℕ → ℕ = λ n. get_or (a ∷ b ∷ c ∷ ws) n 0 in
    λ j. record { wanted = at (first j); unwanted = at (second j); standard = at (third j) }

pub orders_read : OrdersRead
orders_read [] after o = refl
orders_read (x ∷ before) after o =
    orders_next x.wanted x.unwanted x.standard (words_of (before ++ (o ∷ after))) (length before) ∙ orders_read before after o

-- ---- each order by itself

-- the value at a place
from_at : (f : ℕ → ℕ) (i k j : ℕ) → j < k → get_or (from f i k) j 0 ≡ f (i + j)
from_at f i zero j h = absurd (omega (arith, h))
from_at f i (suc k) zero h = ap f (sym (add-zero i))
from_at f i (suc k) (suc j) h = let same : suc i + j ≡ i + suc j = omega arith in from_at f (suc i) k j (omega (arith, h)) ∙ ap f same

module _ (bytes words : List ℕ) (allowance : ℕ) (answers : List ℕ) (t : Tables) (m : OneToSixteen words answers) where
  abbrev k : ℕ
  k = length answers

  abbrev left : Left
  left = morning bytes words allowance answers t

  left_answers : left.answers ≡ from (λ i. word_part bytes (order_at words i) allowance k i t) 0 k
  unfolding served
  left_answers = ap (λ (x : Left). x.answers) (morning_served bytes words allowance answers t m)

  left_tables : left.tables ≡ fill_parts bytes words allowance k 0 k t
  unfolding served
  left_tables = ap (λ (x : Left). x.tables) (morning_served bytes words allowance answers t m)

  module _ (i : ℕ) (h : i < k) where
    -- the word of order i
    word_is : word_of left i ≡ word_part bytes (order_at words i) allowance k i t
    word_is = ap (λ (l : List ℕ). get_or l i 0) left_answers ∙ from_at (λ j. word_part bytes (order_at words j) allowance k j t) 0 k i h ∙ ap (λ (j : ℕ). word_part bytes (order_at words j) allowance k j t) (zero-add i)

    -- its part
    part_is :
        part_of k i left.tables ≡ filled (check bytes (order_at words i) allowance (lengths (part_of k i t))) (part_of k i t)
    part_is = ap (part_of k i) left_tables ∙ fills_part bytes words allowance k 0 k i (omega arith) (omega arith) (omega (arith, h)) t

    -- and its answer
    answer_is : allowance < 2 ^ 32 → unpacked (word_of left i) ≡ answer bytes (order_at words i) allowance (lengths (part_of k i t))
    answer_is small = ap unpacked word_is ∙ inverse _ ((contract.demands).answers_fit bytes (order_at words i) allowance (lengths (part_of k i t)) small)

    -- so it is asked singly
    asked : allowance < 2 ^ 32 → Checked bytes (order_at words i) allowance (part_of k i t) (unpacked (word_of left i)) (part_of k i left.tables)
    asked small = record { answer = answer_is small; tables = part_is }

pub each_by_itself : EachByItself
each_by_itself bytes words allowance answers t small m =
    let k : ℕ = length answers in
    record {
      singly =
          λ i h.
          record {
            checked = asked bytes words allowance answers t m i h small;
            word = word_is bytes words allowance answers t m i h ∙ sym (ap packed (answer_is bytes words allowance answers t m i h small));
          };
      lengths = ap lengths (left_tables bytes words allowance answers t m) ∙ fills_lengths bytes words allowance k 0 k (omega arith) t;
      outside = ap (remainder_of k) (left_tables bytes words allowance answers t m) ∙ fills_remainder bytes words allowance k 0 k (omega arith) t;
      as_many = ap length (left_answers bytes words allowance answers t m) ∙ from_length _ 0 k;
    }

pub others_no_part : OthersNoPart
others_no_part bytes words words' allowance answers answers' t t' small m m' e i h same long =
    let k : ℕ = length answers in
    let h' : i < length answers' = subst (λ (n : ℕ). i < n) e h in
    let o : Order = order_at words i in
    let left : Left = morning bytes words allowance answers t in
    let left' : Left = morning bytes words' allowance answers' t' in
    let there : part_of k i left'.tables ≡ filled (check bytes o allowance (lengths (part_of k i t'))) (part_of k i t') =
    ap (λ (n : ℕ). part_of n i left'.tables) e
    ∙ part_is bytes words' allowance answers' t' m' i h'
    ∙ ap₂ (λ (x : Order) (n : ℕ). filled (check bytes x allowance (lengths (part_of n i t'))) (part_of n i t')) (sym same) (sym e)
    in
    let here : part_of k i left.tables ≡ filled (check bytes o allowance (lengths (part_of k i t))) (part_of k i t) =
    part_is bytes words allowance answers t m i h
    in
    let tally : Tally = tally_in (unpacked (word_of left i)) in
    record {
      word =
          word_is bytes words allowance answers t m i h
          ∙ ap (λ (l : Lengths). packed (answer_of (check bytes o allowance l))) long
          ∙ ap₂ (λ (x : Order) (n : ℕ). packed (answer_of (check bytes x allowance (lengths (part_of n i t'))))) same e
          ∙ sym (word_is bytes words' allowance answers' t' m' i h');
      counted =
          ap (first_places tally) here
          ∙ counted_same bytes o allowance (part_of k i t) (part_of k i t') long tally (ap tally_in (answer_is bytes words allowance answers t m i h small))
          ∙ sym (ap (first_places tally) there);
      all = λ f. here ∙ ap (λ (x : Tables). filled (check bytes o allowance (lengths x)) x) f ∙ sym there;
    }

-- ---- refused orders, and demands 1 to 3

pub orders_refused : OrdersRefused
orders_refused bytes words allowance answers t small m i h =
    refused_first bytes (order_at words i) allowance _ _ _ (asked bytes words allowance answers t m i h small) _ (part_lengths_lem (length answers) i h t)

pub carry_over : CarryOver
carry_over bytes words allowance answers t small m i h =
    demanded bytes (order_at words i) allowance _ _ _ (asked bytes words allowance answers t m i h small) _ (part_lengths_lem (length answers) i h t)

-- ---- all of them

pub demands : Demands
demands =
    record {
      thirteen = thirteen;
      orders_read = orders_read;
      cutting = cutting;
      own_tables = λ k i t. record { parts = refl; remainders = refl };
      each_by_itself = each_by_itself;
      others_no_part = others_no_part;
      orders_refused = orders_refused;
      carry_over = carry_over;
      three_orders = three_orders;
      longest = longest;
    }
