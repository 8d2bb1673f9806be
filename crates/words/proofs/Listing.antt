-- A walk through the members of a word by their numbers, lowest first: what an item and what is left after it are.
use mathlib.Core.Path.{◌≡◌, sym, ap, ◌∙◌}
use mathlib.Core.Logic.{◌≢◌}
use mathlib.Core.Bool.{Bool, false, not, ◌&&◌, ◌||◌, and-true, and-false}
use mathlib.Core.List.{◌∷◌, map}
use Prim.Native.Nat.{ℕ, suc, ◌^◌, ◌<◌}
use lib.Bits.{bit_or}
use lib.Count.{ones, count_trailing_zeros}
use Rattle.words.specs.Words.{is_zero, has, minus, meets, lowest, members, numbers, Taken, Within}
use Rattle.words.proofs.Membership.{has_bit, has_bit_other, has_minus}
use Rattle.words.proofs.Sets.{minus_within, with_rest, bit_within}
use Rattle.words.proofs.Unions.{meets_or, meets_bit}
use Rattle.words.proofs.Lowest.{members_step}
use Rattle.words.proofs.Count.{lowest_trailing, trailing_lt, trailing_bit, trailing_member, ones_remove}

-- the numbers are that of the lowest member and those of what is left
pub numbers_step : (x : ℕ) → is_zero x ≡ false → x < 2 ^ 64 → numbers x ≡ count_trailing_zeros 64 x ∷ numbers (minus x (lowest x))
unfolding numbers
numbers_step x n h =
    ap (map (count_trailing_zeros 64)) (members_step x n)
    ∙ ap (λ (k : ℕ). k ∷ map (count_trailing_zeros 64) (members (minus x (lowest x))))
    (ap (count_trailing_zeros 64) (lowest_trailing 64 x n h) ∙ trailing_bit 64 _ (trailing_lt 64 x n h))

-- what is given of a word that is not empty, and what is left of it
pub taken : (x : ℕ) → is_zero x ≡ false → x < 2 ^ 64 → Taken x (count_trailing_zeros 64 x) (minus x (lowest x))
taken x n h =
    let m = trailing_member 64 x n h in
    record { below = trailing_lt 64 x n h; member = m.0; none_below = m.1; rest = ap (minus x) (lowest_trailing 64 x n h); listed = numbers_step x n h }

-- ---- a turn of a walk

module _ {x k y : ℕ} (t : Taken x k y) where
  -- with all but the lowest member a word has every other member
  pub left_other : (j : ℕ) → j ≢ k → has y j ≡ has x j
  left_other j other =
      ap (λ (z : ℕ). has z j) t.rest
      ∙ has_minus x (2 ^ k) j
      ∙ ap (λ (p : Bool). has x j && not p) (has_bit_other k j (λ e. other (sym e)))
      ∙ and-true (has x j)

  -- and not that one
  pub left_here : has y k ≡ false
  left_here = ap (λ (z : ℕ). has z k) t.rest ∙ has_minus x (2 ^ k) k ∙ ap (λ (p : Bool). has x k && not p) (has_bit k) ∙ and-false (has x k)

  -- what is left is within the word
  pub left_within : Within y x
  left_within = rw t.rest (minus_within x (2 ^ k))

  -- and with the lowest member it is the word
  pub left_with : bit_or (2 ^ k) y ≡ x
  left_with = rw t.rest (with_rest x (2 ^ k) (bit_within x k t.member))

  -- to meet the word is to have its lowest member, or to meet what is left
  pub meets_taken : (z : ℕ) → meets z x ≡ (has z k || meets z y)
  meets_taken z = ap (meets z) (sym left_with) ∙ meets_or z (2 ^ k) y ∙ ap (λ (p : Bool). p || meets z y) (meets_bit z k)
