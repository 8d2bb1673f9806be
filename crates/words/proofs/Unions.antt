-- Unions of words, by membership: what a union meets.
use mathlib.Core.Path.{◌≡◌, refl, ap, ap₂, ◌∙◌}
use mathlib.Core.Bool.{Bool, true, false, not, ◌&&◌, ◌||◌}
use Prim.Native.Nat.{ℕ, zero, suc, ◌^◌}
use lib.Bits.{bit_and, bit_or, and_comm, or_zero_l}
use Rattle.words.specs.Words.{is_zero, has, meets}
use Rattle.words.proofs.Truth.{both_ways, refuted}
use Rattle.words.proofs.Membership.{has_and, has_or, has_bit, has_bit_eq, ext}
use Rattle.words.proofs.Sets.{some_member, member_nonzero, or_within_l, meets_true, meets_intro}

-- a union has a member where one of its words has
pub or_nonzero : (x y : ℕ) → not (is_zero (bit_or x y)) ≡ (not (is_zero x) || not (is_zero y))
or_nonzero zero y = ap (λ (z : ℕ). not (is_zero z)) (or_zero_l y)
or_nonzero (suc x) y =
    let m = some_member (suc x) refl in
    ap not (member_nonzero (bit_or (suc x) y) m.0 (or_within_l (suc x) y m.0 m.1))

-- and none where neither has
pub or_empty : (x y : ℕ) → is_zero (bit_or x y) ≡ (is_zero x && is_zero y)
or_empty zero y = ap is_zero (or_zero_l y)
or_empty (suc x) y = let m = some_member (suc x) refl in member_nonzero (bit_or (suc x) y) m.0 (or_within_l (suc x) y m.0 m.1)

-- a union meets what one of its words meets
pub or_meets : (x y w : ℕ) → meets (bit_or x y) w ≡ (meets x w || meets y w)
unfolding meets
or_meets x y w =
    ap
    (λ (z : ℕ). not (is_zero z))
    (ext
    (bit_and (bit_or x y) w)
    (bit_or (bit_and x w) (bit_and y w))
    (λ k. rw (has_and (bit_or x y) w k, has_or x y k, has_or (bit_and x w) (bit_and y w) k, has_and x w k, has_and y w k) (spread (has x k) (has y k) (has w k))))
    ∙ or_nonzero (bit_and x w) (bit_and y w)
  where
    spread : (p q r : Bool) → ((p || q) && r) ≡ ((p && r) || (q && r))
    spread true true true = refl
    spread true true false = refl
    spread true false true = refl
    spread true false false = refl
    spread false q r = refl

-- each meets the other
pub meets_swap : (x y : ℕ) → meets x y ≡ meets y x
unfolding meets
meets_swap x y = ap (λ (z : ℕ). not (is_zero z)) (and_comm x y)

-- and a union is met by what meets one of its words
pub meets_or : (w x y : ℕ) → meets w (bit_or x y) ≡ (meets w x || meets w y)
meets_or w x y = meets_swap w (bit_or x y) ∙ or_meets x y w ∙ ap₂ (λ (p q : Bool). p || q) (meets_swap x w) (meets_swap y w)

-- a word of one variable meets the words that have it
pub meets_bit : (x k : ℕ) → meets x (2 ^ k) ≡ has x k
meets_bit x k = go (has x k) refl
  where
    go : (p : Bool) → has x k ≡ p → meets x (2 ^ k) ≡ p
    go true h = meets_intro x (2 ^ k) k h (has_bit k)
    go false h =
        refuted
        (meets x (2 ^ k))
        (λ e. let m = meets_true x (2 ^ k) e in both_ways (has x k) (ap (has x) (has_bit_eq k m.0 m.2) ∙ m.1) h)
