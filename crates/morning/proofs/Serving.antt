-- The orders of a morning, one after the other. A check of a part changes that part alone, as `filled` says, and no length; so an order finds its part as it
-- was before the morning, and no later order changes it again.
use mathlib.Core.Path.{◌≡◌, refl, sym, ap, ◌∙◌}
use mathlib.Core.Bool.{Bool, true, false}
use mathlib.Core.List.{List}
use mathlib.Core.Logic.{◌≢◌}
use Prim.Native.Nat.{ℕ, zero, suc, ◌+◌, ◌≤◌, ◌<◌}
use native.Mathlib.Omega.{arith}
use borrow.Author.Tests.{eqb-true, eqb-false}
use lib.Dec.{eqb}
use Rattle.order.specs.Order.{Order}
use Rattle.contract.specs.Check.{Lengths, check}
use Rattle.contract.specs.Filled.{Tables, lengths, filled}
use Rattle.contract.proofs.Filling.{tables_equal, lengths_equal, checked_lengths}
use Rattle.morning.specs.Parts.{part_of, with_part_of, remainder_of, part_lengths}
use Rattle.morning.specs.Morning.{order_at, check_part, word_part, fill_part, fill_parts}
use Rattle.morning.proofs.Parts.{part_length, with_length, part_with, other_part, remainder_with}

-- ---- the parts of five tables

-- every part has the same lengths
pub part_lengths_lem : (k i : ℕ) → i < k → (t : Tables) → lengths (part_of k i t) ≡ part_lengths k (lengths t)
part_lengths_lem k i h t =
    lengths_equal
    (part_length k i h t.pos)
    (part_length k i h t.neg)
    (part_length k i h t.decided)
    (part_length k i h t.trues)
    (part_length k i h t.redundant)

module _ (k i : ℕ) (h : i < k) (t x : Tables) (e : lengths x ≡ part_lengths k (lengths t)) where
  -- words x in part i leave the lengths
  with_lengths : lengths (with_part_of k i t x) ≡ lengths t
  with_lengths =
      lengths_equal
      (with_length k i h t.pos x.pos (ap (λ (l : Lengths). l.pos) e))
      (with_length k i h t.neg x.neg (ap (λ (l : Lengths). l.neg) e))
      (with_length k i h t.decided x.decided (ap (λ (l : Lengths). l.decided) e))
      (with_length k i h t.trues x.trues (ap (λ (l : Lengths). l.trues) e))
      (with_length k i h t.redundant x.redundant (ap (λ (l : Lengths). l.redundant) e))

  -- they are in part i
  with_here : part_of k i (with_part_of k i t x) ≡ x
  with_here =
      tables_equal
      (part_with k i h t.pos x.pos (ap (λ (l : Lengths). l.pos) e))
      (part_with k i h t.neg x.neg (ap (λ (l : Lengths). l.neg) e))
      (part_with k i h t.decided x.decided (ap (λ (l : Lengths). l.decided) e))
      (part_with k i h t.trues x.trues (ap (λ (l : Lengths). l.trues) e))
      (part_with k i h t.redundant x.redundant (ap (λ (l : Lengths). l.redundant) e))

  -- and leave every other part
  with_other : (j : ℕ) → j < k → j ≢ i → part_of k j (with_part_of k i t x) ≡ part_of k j t
  with_other j l d =
      tables_equal
      (other_part k i h t.pos x.pos (ap (λ (l : Lengths). l.pos) e) j l d)
      (other_part k i h t.neg x.neg (ap (λ (l : Lengths). l.neg) e) j l d)
      (other_part k i h t.decided x.decided (ap (λ (l : Lengths). l.decided) e) j l d)
      (other_part k i h t.trues x.trues (ap (λ (l : Lengths). l.trues) e) j l d)
      (other_part k i h t.redundant x.redundant (ap (λ (l : Lengths). l.redundant) e) j l d)

  -- and the remainder
  with_remainder : remainder_of k (with_part_of k i t x) ≡ remainder_of k t
  with_remainder =
      tables_equal
      (remainder_with k i h t.pos x.pos (ap (λ (l : Lengths). l.pos) e))
      (remainder_with k i h t.neg x.neg (ap (λ (l : Lengths). l.neg) e))
      (remainder_with k i h t.decided x.decided (ap (λ (l : Lengths). l.decided) e))
      (remainder_with k i h t.trues x.trues (ap (λ (l : Lengths). l.trues) e))
      (remainder_with k i h t.redundant x.redundant (ap (λ (l : Lengths). l.redundant) e))

-- ---- a check of a part, in the whole tables

module _ (bytes : List ℕ) (o : Order) (allowance k i : ℕ) (h : i < k) (t : Tables) where
  -- what the check leaves in the part is as long as the part
  left_lengths : lengths (filled (check_part bytes o allowance k i t) (part_of k i t)) ≡ part_lengths k (lengths t)
  left_lengths = checked_lengths bytes o allowance (part_of k i t) ∙ part_lengths_lem k i h t

  pub fill_lengths : lengths (fill_part bytes o allowance k i t) ≡ lengths t
  unfolding fill_part
  fill_lengths = with_lengths k i h t (filled (check_part bytes o allowance k i t) (part_of k i t)) left_lengths

  fill_here : part_of k i (fill_part bytes o allowance k i t) ≡ filled (check_part bytes o allowance k i t) (part_of k i t)
  unfolding fill_part
  fill_here = with_here k i h t (filled (check_part bytes o allowance k i t) (part_of k i t)) left_lengths

  fill_other : (j : ℕ) → j < k → j ≢ i → part_of k j (fill_part bytes o allowance k i t) ≡ part_of k j t
  unfolding fill_part
  fill_other = with_other k i h t (filled (check_part bytes o allowance k i t) (part_of k i t)) left_lengths

  fill_remainder : remainder_of k (fill_part bytes o allowance k i t) ≡ remainder_of k t
  unfolding fill_part
  fill_remainder = with_remainder k i h t (filled (check_part bytes o allowance k i t) (part_of k i t)) left_lengths

-- the answer goes by the lengths of the tables alone
pub same_word :
    (bytes : List ℕ) (o : Order) (allowance k i : ℕ) → i < k → (t t' : Tables) → lengths t ≡ lengths t' →
    word_part bytes o allowance k i t ≡ word_part bytes o allowance k i t'
same_word bytes o allowance k i h t t' e =
    let same : lengths (part_of k i t) ≡ lengths (part_of k i t') = part_lengths_lem k i h t ∙ ap (part_lengths k) e ∙ sym (part_lengths_lem k i h t') in
    rw same refl

-- ---- the orders from order i on

module _ (bytes words : List ℕ) (allowance k : ℕ) where
  pub fills_lengths : (i more : ℕ) → i + more ≤ k → (t : Tables) → lengths (fill_parts bytes words allowance k i more t) ≡ lengths t
  fills_lengths i zero h t = refl
  fills_lengths i (suc more) h t =
      fills_lengths (suc i) more (omega (arith, h)) _ ∙ fill_lengths bytes (order_at words i) allowance k i (omega (arith, h)) t

  pub fills_remainder : (i more : ℕ) → i + more ≤ k → (t : Tables) → remainder_of k (fill_parts bytes words allowance k i more t) ≡ remainder_of k t
  fills_remainder i zero h t = refl
  fills_remainder i (suc more) h t =
      fills_remainder (suc i) more (omega (arith, h)) _ ∙ fill_remainder bytes (order_at words i) allowance k i (omega (arith, h)) t

  -- the part of an earlier order stays
  fills_earlier : (i more j : ℕ) → i + more ≤ k → j < i → (t : Tables) → part_of k j (fill_parts bytes words allowance k i more t) ≡ part_of k j t
  fills_earlier i zero j h l t = refl
  fills_earlier i (suc more) j h l t =
      fills_earlier (suc i) more j (omega (arith, h)) (omega (arith, l)) _
      ∙ fill_other bytes (order_at words i) allowance k i (omega (arith, h)) t j (omega (arith, l, h)) (λ e. omega (arith, l, e))

  -- the part of each order is as its check alone leaves it
  pub fills_part :
      (i more j : ℕ) → i + more ≤ k → i ≤ j → j < i + more → (t : Tables) →
      part_of k j (fill_parts bytes words allowance k i more t) ≡ filled (check bytes (order_at words j) allowance (lengths (part_of k j t))) (part_of k j t)
  fills_part i zero j h l m t = absurd (omega (arith, l, m))
  fills_part i (suc more) j h l m t = go (eqb i j) refl (λ later. fills_part (suc i) more j (omega (arith, h)) later (omega (arith, m)) _)
    where
      alone : Tables → Tables
      alone p = filled (check bytes (order_at words j) allowance (lengths p)) p

      first : Tables
      first = fill_part bytes (order_at words i) allowance k i t

      go :
          (b : Bool) → eqb i j ≡ b →
          (suc i ≤ j → part_of k j (fill_parts bytes words allowance k (suc i) more first) ≡ alone (part_of k j first)) →
          part_of k j (fill_parts bytes words allowance k i (suc more) t) ≡ alone (part_of k j t)
      go true e rest =
          let same : i ≡ j = eqb-true i j e in
          ap (λ (x : ℕ). part_of k x (fill_parts bytes words allowance k (suc i) more first)) (sym same)
          ∙ fills_earlier (suc i) more i (omega (arith, h)) (omega arith) first
          ∙ fill_here bytes (order_at words i) allowance k i (omega (arith, h)) t
          ∙ ap (λ (x : ℕ). filled (check bytes (order_at words x) allowance (lengths (part_of k x t))) (part_of k x t)) same
      go false e rest =
          let d : i ≢ j = eqb-false i j e in
          rest (omega (arith, l, d))
          ∙ ap alone (fill_other bytes (order_at words i) allowance k i (omega (arith, h)) t j (omega (arith, m, h)) (λ f. d (sym f)))
