-- A permutation of the first n gives each of the n numbers to an option. No two options share a number, so n options have n numbers, by induction on n; they are among the
-- first n, and no fewer than all of these are n.
use mathlib.Core.Path.{◌≡◌, refl, sym, ap, ◌∙◌}
use mathlib.Core.Bool.{Bool, true, false}
use Prim.Native.Nat.{ℕ, zero, suc, ◌^◌, ◌<◌}
use native.Mathlib.Omega.{arith}
use borrow.Author.Tests.{eqb-true, eqb-false}
use lib.Count.{ones}
use lib.Dec.{eqb}
use Rattle.words.specs.Words.{has, meets, first_vars}
use Rattle.words.proofs.Truth.{refuted}
use Rattle.words.proofs.Membership.{has_bit_eq}
use Rattle.words.proofs.Sets.{meets_false_intro}
use Rattle.words.proofs.Count.{ones_zero, ones_bit, ones_first_of, ones_disjoint, ones_strict}
use Rattle.renaming.specs.Renaming.{image, Apart}
use Rattle.renaming.proofs.Images.{image_in, image_named, image_within, in_first}
use Rattle.renumbering.specs.Renumbering.{Permutes}
use Rattle.renumbering.specs.Demands.{EveryNumber}

-- n options have n numbers
numbers : (f : ℕ → ℕ) (n w : ℕ) → Apart f n → ((k : ℕ) → k < n → has w k ≡ true) → ones (image f n w) ≡ n
unfolding image
numbers f zero w apart all = ones_zero
numbers f (suc n) w apart all =
    let new : meets (image f n w) (2 ^ f n) ≡ false =
    meets_false_intro (image f n w) (2 ^ f n)
    (λ j h.
    refuted (has (2 ^ f n) j)
    (λ g.
    let i = image_named f n w j h in
    let same : i.var ≡ n = apart i.var n (omega (arith, i.below)) (omega arith) (i.number ∙ sym (has_bit_eq (f n) j g)) in
    absurd (omega (arith, i.below, same))))
    in
    let before = numbers f n w (λ j k g h. apart j k (omega arith) (omega arith)) (λ k h. all k (omega arith)) in
    ap ones (image_in f n w (all n (omega arith))) ∙ omega (arith, ones_disjoint (image f n w) (2 ^ f n) new, ones_bit (f n), before)

-- so they are the first n
all_numbers : (f : ℕ → ℕ) (n : ℕ) → Permutes f n → image f n (first_vars n) ≡ first_vars n
all_numbers f n p = go (eqb (image f n (first_vars n)) (first_vars n)) refl
  where
    go : (b : Bool) → eqb (image f n (first_vars n)) (first_vars n) ≡ b → image f n (first_vars n) ≡ first_vars n
    go true e = eqb-true _ _ e
    go false e =
        absurd
        (omega (
          arith,
          ones_strict (image f n (first_vars n)) (first_vars n) (image_within f n n (first_vars n) p.into) (eqb-false _ _ e),
          numbers f n (first_vars n) p.apart (in_first n),
          ones_first_of n,
        ))

pub every_number : EveryNumber
every_number f n j p h =
    let i = image_named f n (first_vars n) j (ap (λ w. has w j) (all_numbers f n p) ∙ in_first n j h) in
    (i.var, i.below, i.number)
