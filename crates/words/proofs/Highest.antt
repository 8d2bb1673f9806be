-- The highest member of a word, by its leading zeros: a word of 2 ^ k or more, and below 2 ^ (k + 1), has k and nothing above it.
use mathlib.Core.Path.{◌≡◌, refl, sym, ap, ◌∙◌}
use mathlib.Core.Bool.{Bool, true, false}
use Prim.Native.Nat.{ℕ, suc, ◌-◌, ◌^◌, ◌≤◌, ◌<◌}
use native.Mathlib.Omega.{arith}
use borrow.Author.Tests.{ltb-true, ltb-false, lt-ltb}
use lib.Count.{count_leading_zeros, leading_top}
use lib.Dec.{ltb}
use Rattle.words.specs.Words.{has, Highest}
use Rattle.words.proofs.Truth.{both_ways, refuted, confirmed}
use Rattle.words.proofs.Membership.{has_first_vars}
use Rattle.words.proofs.Sets.{within_lt, lt_within}

highest_between : (x k : ℕ) → 2 ^ k ≤ x → x < 2 ^ suc k → Highest x k
highest_between x k low high =
    let below : (j : ℕ) → has x j ≡ true → j < suc k = λ j h. ltb-true j (suc k) (sym (has_first_vars (suc k) j) ∙ lt_within (suc k) x high j h) in
    record {
      member = confirmed (has x k) (λ e. let less = within_lt k x (λ j h. has_first_vars k j ∙ lt-ltb j k (other j (below j h) h e)) in absurd (omega (arith, less)));
      none_above = λ j above. refuted (has x j) (λ h. omega (arith, below j h, above));
    }
  where
    other : (j : ℕ) → j < suc k → has x j ≡ true → has x k ≡ false → j < k
    other j few h e = go (ltb j k) refl
      where
        go : (b : Bool) → ltb j k ≡ b → j < k
        go true l = ltb-true j k l
        go false l = let same : j ≡ k = omega (arith, ltb-false j k l) in both_ways (has x j) h (ap (has x) same ∙ e)

-- as the code works it out
pub highest_leading : (x r : ℕ) → 0 < x → x < 2 ^ 64 → r ≡ 63 - count_leading_zeros 64 x → Highest x r
highest_leading x r some few e =
    let top = leading_top 64 x some few in
    let same : r ≡ top.0 = omega (arith, e, top.1) in
    rw same (highest_between x top.0 top.2 top.3)
