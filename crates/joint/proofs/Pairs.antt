-- One side of the pairs, pair by pair. An option that is not at fault is one of the n, and no earlier pair has it: so the options of the pairs are as many as the pairs,
-- and a pair is known by its option.
use mathlib.Core.Path.{◌≡◌, refl, sym, ap, subst, ◌∙◌}
use mathlib.Core.Bool.{Bool, true, false, ◌||◌, or-true}
use mathlib.Core.List.{List}
use mathlib.Core.Logic.{⊎_elim}
use Prim.Native.Nat.{ℕ, zero, suc, ◌-◌, ◌^◌, ◌≤◌, ◌<◌}
use native.Mathlib.Omega.{arith}
use borrow.Author.Tests.{ltb-true, ltb-false}
use lib.Count.{ones}
use lib.Dec.{ltb}
use Rattle.words.specs.Words.{has, first_vars, Within}
use Rattle.words.proofs.Truth.{both_ways, or_neither, or_either}
use Rattle.words.proofs.Membership.{has_zero, has_bit, has_bit_eq}
use Rattle.words.proofs.Sets.{in_or, or_within_l, or_within_r}
use Rattle.words.proofs.Unions.{meets_bit}
use Rattle.words.proofs.Count.{ones_zero, ones_bit, ones_disjoint}
use Rattle.renaming.proofs.Images.{below_suc, in_first}
use Rattle.joint.specs.Pairs.{option, options_of, at_fault, side_fault}

-- an option that is not at fault
pub record Fit (n taken k : ℕ) : Type 0 where
  pub low : 0 < k
  pub high : k ≤ n
  pub new : has taken (k - 1) ≡ false

pub fit : (n taken k : ℕ) → at_fault n taken k ≡ false → Fit n taken k
fit n taken zero e = both_ways true refl e
fit n taken (suc k) e =
    let p = or_neither (ltb n (suc k)) (has taken (suc k - 1)) e in
    record { low = omega arith; high = ltb-false n (suc k) p.0; new = p.1 }

module _ (side : ℕ) (bytes : List ℕ) where
  -- a member is the option of a pair
  pub options_are : (m k : ℕ) → has (options_of side bytes m) k ≡ true → (i : ℕ) × (i < m) × (option side bytes i - 1 ≡ k)
  unfolding options_of
  options_are zero k h = both_ways (has 0 k) h (has_zero k)
  options_are (suc m) k h =
      ⊎_elim
      (λ e. let i = options_are m k e in (i.0, omega (arith, i.1), i.2))
      (λ e. (m, omega arith, has_bit_eq (option side bytes m - 1) k e))
      (in_or (options_of side bytes m) (2 ^ (option side bytes m - 1)) k h)

  -- and the option of a pair is a member
  pub are_options : (m i : ℕ) → i < m → has (options_of side bytes m) (option side bytes i - 1) ≡ true
  unfolding options_of
  are_options zero i h = absurd (omega arith)
  are_options (suc m) i h =
      let one = 2 ^ (option side bytes m - 1) in
      below_suc (λ j. has (options_of side bytes (suc m)) (option side bytes j - 1) ≡ true) i m h
      (λ less. or_within_l (options_of side bytes m) one (option side bytes i - 1) (are_options m i less))
      (or_within_r (options_of side bytes m) one (option side bytes m - 1) (has_bit (option side bytes m - 1)))

  module _ (n : ℕ) where
    -- a fault among the first pairs is one among all
    pub fault_stays : (m i : ℕ) → i < m → at_fault n (options_of side bytes i) (option side bytes i) ≡ true → side_fault n side bytes m ≡ true
    unfolding side_fault
    fault_stays zero i h e = absurd (omega arith)
    fault_stays (suc m) i h e =
        below_suc (λ j. at_fault n (options_of side bytes j) (option side bytes j) ≡ true → side_fault n side bytes (suc m) ≡ true) i m h
        (λ less e'. rw (fault_stays m i less e'))
        (λ e'. ap (λ p. side_fault n side bytes m || p) e' ∙ or-true (side_fault n side bytes m))
        e

    -- and a fault is that of a pair
    pub fault_somewhere :
        (m : ℕ) → side_fault n side bytes m ≡ true → (i : ℕ) × (i < m) × (at_fault n (options_of side bytes i) (option side bytes i) ≡ true)
    unfolding side_fault
    fault_somewhere zero e = both_ways false e refl
    fault_somewhere (suc m) e =
        ⊎_elim (λ f. let i = fault_somewhere m f in (i.0, omega (arith, i.1), i.2)) (λ f. (m, omega arith, f)) (or_either _ _ e)

    -- without a fault
    pub fits : (m : ℕ) → side_fault n side bytes m ≡ false → (i : ℕ) → i < m → Fit n (options_of side bytes i) (option side bytes i)
    unfolding side_fault
    fits zero e i h = absurd (omega arith)
    fits (suc m) e i h =
        let p = or_neither (side_fault n side bytes m) (at_fault n (options_of side bytes m) (option side bytes m)) e in
        below_suc (λ j. Fit n (options_of side bytes j) (option side bytes j)) i m h (fits m p.0 i) (fit n _ _ p.1)

    module _ (m : ℕ) (e : side_fault n side bytes m ≡ false) where
      -- no option stands in two pairs
      pub distinct : (i j : ℕ) → i < j → j < m → option side bytes i ≡ option side bytes j → ⊥
      distinct i j h below same =
          both_ways (has (options_of side bytes j) (option side bytes j - 1))
          (subst (λ k. has (options_of side bytes j) (k - 1) ≡ true) same (are_options j i h))
          (fits m e j below).new

      -- a pair is known by its option
      pub known_by : (i j : ℕ) → i < m → j < m → option side bytes i ≡ option side bytes j → i ≡ j
      known_by i j hi hj same = go (ltb i j) refl (ltb j i) refl
        where
          go : (p : Bool) → ltb i j ≡ p → (q : Bool) → ltb j i ≡ q → i ≡ j
          go true p q f = absurd (distinct i j (ltb-true i j p) hj same)
          go false p true f = absurd (distinct j i (ltb-true j i f) hi (sym same))
          go false p false f = omega (arith, ltb-false i j p, ltb-false j i f)

    -- as many options as pairs
    pub options_count : (m : ℕ) → side_fault n side bytes m ≡ false → ones (options_of side bytes m) ≡ m
    unfolding options_of side_fault
    options_count zero e = ones_zero
    options_count (suc m) e =
        let k = option side bytes m - 1 in
        let p = or_neither (side_fault n side bytes m) (at_fault n (options_of side bytes m) (option side bytes m)) e in
        let apart = meets_bit (options_of side bytes m) k ∙ (fit n _ _ p.1).new in
        omega (arith, ones_disjoint (options_of side bytes m) (2 ^ k) apart, ones_bit k, options_count m p.0)

    -- all of them among the n
    pub options_within : (m : ℕ) → side_fault n side bytes m ≡ false → Within (options_of side bytes m) (first_vars n)
    options_within m e k h =
        let i = options_are m k h in
        let f = fits m e i.0 i.1 in
        in_first n k (omega (arith, i.2, f.low, f.high))
