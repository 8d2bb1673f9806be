use mathlib.Core.Path.{◌≡◌, refl, sym, ap, ◌∙◌}
use mathlib.Core.Bool.{Bool, true, false, not}
use Prim.Native.Nat.{ℕ, ◌^◌, ◌≤◌, ◌<◌, min}
use native.Mathlib.Nat.{min-eq_left, min-eq_right, lt_of_lt_of_le}
use native.Mathlib.Omega.{arith}
use borrow.Author.Tests.{ltb-true, ltb-false}
use lib.Bits.{or_lt}
use lib.Dec.{ltb}
use lib.Pow.{pow_mono}
use Rattle.words.specs.Words.{is_zero, minus, first_vars}
use Rattle.words.proofs.Sets.{is_zero_test, within_minus, lt_within}
use Rattle.book.specs.Refusals.{above}
use Rattle.book.proofs.judge.names_above.Goals as goal

-- what a word of 64 bits names above n, it names above the lesser of n and 64
above-least : (n x : ℕ) → x < 2 ^ 64 → is_zero (minus x (first_vars (min n 64))) ≡ is_zero (minus x (first_vars n))
above-least n x h = go (ltb 64 n) refl
  where
    go : (b : Bool) → ltb 64 n ≡ b → is_zero (minus x (first_vars (min n 64))) ≡ is_zero (minus x (first_vars n))
    go false e = ap (λ k. is_zero (minus x (first_vars k))) (min-eq_left (ltb-false 64 n e))
    go true e =
        let more : 64 ≤ n = omega (arith, ltb-true 64 n e) in
        ap (λ k. is_zero (minus x (first_vars k))) (min-eq_right more) ∙ within_minus x (first_vars 64) (lt_within 64 x h)
        ∙ sym (within_minus x (first_vars n) (lt_within n x (lt_of_lt_of_le h (pow_mono more))))

pub returns : goal.returns
unfolding above
returns c =
    ap not
    (is_zero_test c.minus.result ∙ ap is_zero (c.minus.ensures ∙ ap (minus _) c.first_of.ensures)
    ∙ above-least _ _ (or_lt 64 _ _ c.ranges.pos.fits c.ranges.neg.fits))
