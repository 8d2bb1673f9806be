-- The places of the second book's options. A paired option has its partner's, which is one of the first book's n; of the unpaired ones each has the place after the
-- one before it, from n on. So no two share a place.
use mathlib.Core.Path.{◌≡◌, refl, sym, ap, subst, ◌∙◌}
use mathlib.Core.Bool.{Bool, true, false}
use mathlib.Core.List.{List}
use mathlib.Core.Logic.{◌⊎◌, inl, inr, ⊎_elim}
use Prim.Native.Nat.{ℕ, zero, suc, ◌+◌, ◌-◌, ◌^◌, ◌≤◌, ◌<◌}
use native.Mathlib.Omega.{arith}
use borrow.Author.Tests.{ltb-true, ltb-false, eqb-true, eqb-false, eq-eqb, ne_eqb}
use lib.Bits.{bit_or}
use lib.Count.{ones}
use lib.Dec.{ltb, eqb}
use Rattle.words.specs.Words.{has, minus, first_vars}
use Rattle.words.proofs.Truth.{both_ways, refuted}
use Rattle.words.proofs.Membership.{has_bit}
use Rattle.words.proofs.Sets.{within_antisym, in_minus, minus_within, minus_out, or_within, or_within_l, or_within_r, with_rest, meets_false_intro, bit_within}
use Rattle.words.proofs.Unions.{meets_bit}
use Rattle.words.proofs.Count.{ones_bit, ones_disjoint, ones_within, ones_first_of}
use Rattle.renaming.specs.Renaming.{Apart, Into}
use Rattle.renaming.proofs.Images.{below_suc, in_first, first_below}
use Rattle.joint.specs.Pairs.{pair_count, option, side_fault, partner_or, paired, unpaired_below, place}
use Rattle.joint.proofs.Pairs.{options_are, are_options, fits, known_by, options_count, options_within}

-- ---- a partner, or none

-- pair i, of the first m, has the second book's option k + 1, and p is its partner's place
pub record Partner (bytes : List ℕ) (m k p : ℕ) : Type 0 where
  pub pair : ℕ
  pub below : pair < m
  pub second : option 1 bytes pair ≡ suc k
  pub first : p ≡ option 0 bytes pair - 1

-- no pair has it
abbrev pub NoPartner : List ℕ → ℕ → ℕ → Type 0
NoPartner bytes m k = (i : ℕ) → i < m → option 1 bytes i ≡ suc k → ⊥

module _ (d : ℕ) (bytes : List ℕ) (m k : ℕ) where
  -- the last pair has it
  pub partner_last : option 1 bytes m ≡ suc k → partner_or d bytes (suc m) k ≡ option 0 bytes m - 1
  unfolding partner_or
  partner_last e = rw (eq-eqb (option 1 bytes m) (suc k) e, partner_or)

  -- it does not, and the pairs before it decide
  pub partner_before : (option 1 bytes m ≡ suc k → ⊥) → partner_or d bytes (suc m) k ≡ partner_or d bytes m k
  unfolding partner_or
  partner_before other = rw (ne_eqb (option 1 bytes m) (suc k) other, partner_or)

-- a partner, or none
abbrev Cases : ℕ → List ℕ → ℕ → ℕ → Type 0
Cases d bytes m k = Partner bytes m k (partner_or d bytes m k) ⊎ (NoPartner bytes m k × (partner_or d bytes m k ≡ d))

pub partner_cases : (d : ℕ) (bytes : List ℕ) (m k : ℕ) → Cases d bytes m k
unfolding partner_or
partner_cases d bytes zero k = inr (λ i h e. absurd (omega arith), refl)
partner_cases d bytes (suc m) k = go (partner_cases d bytes m k) (eqb (option 1 bytes m) (suc k)) refl
  where
    go : Cases d bytes m k → (b : Bool) → eqb (option 1 bytes m) (suc k) ≡ b → Cases d bytes (suc m) k
    go before true e =
        let here = eqb-true (option 1 bytes m) (suc k) e in
        inl (record { pair = m; below = omega arith; second = here; first = partner_last d bytes m k here })
    go (inl p) false e =
        inl
        (record {
          pair = p.pair;
          below = omega (arith, p.below);
          second = p.second;
          first = partner_before d bytes m k (eqb-false _ _ e) ∙ p.first;
        })
    go (inr n) false e =
        inr (
          λ i h same. below_suc (λ j. option 1 bytes j ≡ suc k → ⊥) i m h (λ less. n.0 i less) (eqb-false _ _ e) same,
          partner_before d bytes m k (eqb-false _ _ e) ∙ n.1,
        )

-- ---- how many are unpaired

module _ (bytes : List ℕ) where
  abbrev q : ℕ
  q = paired bytes

  -- none below the first
  pub below_zero : unpaired_below bytes 0 ≡ 0
  unfolding unpaired_below
  below_zero = omega (arith, ones_within (minus (first_vars 0) q) (first_vars 0) (minus_within (first_vars 0) q), ones_first_of 0)

  -- a paired option adds none
  pub below_paired : (k : ℕ) → has q k ≡ true → unpaired_below bytes (suc k) ≡ unpaired_below bytes k
  unfolding unpaired_below
  below_paired k h =
      ap ones
      (within_antisym (minus (first_vars (suc k)) q) (minus (first_vars k) q)
      (λ j m.
      let out = minus_out (first_vars (suc k)) q j m in
      below_suc (λ i. has q i ≡ false → has (minus (first_vars k) q) i ≡ true) j k (first_below (suc k) j (minus_within (first_vars (suc k)) q j m))
      (λ less o. in_minus (first_vars k) q j (in_first k j less) o)
      (λ o. both_ways (has q k) h o)
      out)
      (λ j m. in_minus (first_vars (suc k)) q j (in_first (suc k) j (omega (arith, first_below k j (minus_within (first_vars k) q j m)))) (minus_out (first_vars k) q j m)))

  -- an unpaired one adds itself
  pub below_unpaired : (k : ℕ) → has q k ≡ false → unpaired_below bytes (suc k) ≡ suc (unpaired_below bytes k)
  unfolding unpaired_below
  below_unpaired k h =
      let before = minus (first_vars k) q in
      let whole : minus (first_vars (suc k)) q ≡ bit_or before (2 ^ k) =
      within_antisym (minus (first_vars (suc k)) q) (bit_or before (2 ^ k))
      (λ j m.
      let out = minus_out (first_vars (suc k)) q j m in
      below_suc (λ i. has q i ≡ false → has (bit_or before (2 ^ k)) i ≡ true) j k (first_below (suc k) j (minus_within (first_vars (suc k)) q j m))
      (λ less o. or_within_l before (2 ^ k) j (in_minus (first_vars k) q j (in_first k j less) o))
      (λ o. or_within_r before (2 ^ k) k (has_bit k))
      out)
      (or_within before (2 ^ k) (minus (first_vars (suc k)) q)
      (λ j m. in_minus (first_vars (suc k)) q j (in_first (suc k) j (omega (arith, first_below k j (minus_within (first_vars k) q j m)))) (minus_out (first_vars k) q j m))
      (bit_within (minus (first_vars (suc k)) q) k (in_minus (first_vars (suc k)) q k (in_first (suc k) k (omega arith)) h)))
      in
      let apart = meets_bit before k ∙ refuted (has before k) (λ m. omega (arith, first_below k k (minus_within (first_vars k) q k m))) in
      omega (arith, ap ones whole, ones_disjoint before (2 ^ k) apart, ones_bit k)

  -- more below a higher one
  pub below_grows : (j k : ℕ) → j ≤ k → unpaired_below bytes j ≤ unpaired_below bytes k
  unfolding unpaired_below
  below_grows j k h =
      ones_within (minus (first_vars j) q) (minus (first_vars k) q)
      (λ i m. in_minus (first_vars k) q i (in_first k i (omega (arith, first_below j i (minus_within (first_vars j) q i m)))) (minus_out (first_vars j) q i m))

-- ---- places

-- pairs without a fault, of books of n and m options
module _ (n m : ℕ) (bytes : List ℕ) (e₀ : side_fault n 0 bytes (pair_count bytes) ≡ false) (e₁ : side_fault m 1 bytes (pair_count bytes) ≡ false) where
  abbrev count : ℕ
  count = pair_count bytes

  -- all but the paired ones are unpaired
  pub below_all : unpaired_below bytes m ≡ m - count
  unfolding unpaired_below
  below_all =
      let within = options_within 1 bytes m count e₁ in
      let apart = meets_false_intro (paired bytes) (minus (first_vars m) (paired bytes)) (λ k h. refuted _ (λ g. both_ways (has (paired bytes) k) h (minus_out (first_vars m) (paired bytes) k g))) in
      omega (
        arith,
        ones_disjoint (paired bytes) (minus (first_vars m) (paired bytes)) apart,
        ap ones (with_rest (first_vars m) (paired bytes) within),
        ones_first_of m,
        options_count 1 bytes m count e₁,
      )

  -- an option with a partner is paired
  pub partner_paired : (k p : ℕ) → Partner bytes count k p → has (paired bytes) k ≡ true
  partner_paired k p f =
      let same : option 1 bytes f.pair - 1 ≡ k = omega (arith, f.second) in
      subst (λ i. has (paired bytes) i ≡ true) same (are_options 1 bytes count f.pair f.below)

  -- and a paired one has a partner
  pub unpaired_free : (k : ℕ) → NoPartner bytes count k → has (paired bytes) k ≡ false
  unpaired_free k none =
      refuted (has (paired bytes) k)
      (λ h.
      let i = options_are 1 bytes count k h in
      let f = fits 1 bytes m count e₁ i.0 i.1 in
      none i.0 i.1 (omega (arith, i.2, f.low)))

  -- the partner's place, or one after the first book's
  abbrev pub Placing : ℕ → Type 0
  Placing k = Partner bytes count k (place n bytes k) ⊎ (NoPartner bytes count k × (place n bytes k ≡ n + unpaired_below bytes k))

  pub place_cases : (k : ℕ) → Placing k
  unfolding place
  place_cases k = partner_cases (n + unpaired_below bytes k) bytes count k

  -- a partner is the one that the pair has
  pub place_partner : (i k : ℕ) → i < count → option 1 bytes i ≡ suc k → option 0 bytes i ≡ suc (place n bytes k)
  place_partner i k h s =
      ⊎_elim
      (λ p.
      let same : p.pair ≡ i = known_by 1 bytes m count e₁ p.pair i p.below h (p.second ∙ sym s) in
      let f = fits 0 bytes n count e₀ i h in
      omega (arith, p.first, ap (option 0 bytes) same, f.low))
      (λ u. absurd (u.0 i h s))
      (place_cases k)

  -- it is one of the first book's
  pub partner_low : (k p : ℕ) → Partner bytes count k p → p < n
  partner_low k p f = let g = fits 0 bytes n count e₀ f.pair f.below in omega (arith, f.first, g.low, g.high)

  -- of two unpaired options the lower has the lower place
  unpaired_less : (j k : ℕ) → j < k → NoPartner bytes count j → unpaired_below bytes j < unpaired_below bytes k
  unpaired_less j k h none = omega (arith, below_unpaired bytes j (unpaired_free j none), below_grows bytes (suc j) k h)

  pub places_apart : Apart (place n bytes) m
  places_apart j k hj hk same = go (place_cases j) (place_cases k)
    where
      go : Placing j → Placing k → j ≡ k
      go (inl a) (inl b) =
          let fa = fits 0 bytes n count e₀ a.pair a.below in
          let fb = fits 0 bytes n count e₀ b.pair b.below in
          let one = known_by 0 bytes n count e₀ a.pair b.pair a.below b.below (omega (arith, a.first, b.first, fa.low, fb.low)) in
          omega (arith, a.second, b.second, ap (option 1 bytes) one)
      go (inl a) (inr b) = absurd (omega (arith, partner_low j _ a, b.1))
      go (inr a) (inl b) = absurd (omega (arith, partner_low k _ b, a.1))
      go (inr a) (inr b) = three (ltb j k) refl (ltb k j) refl
        where
          three : (p : Bool) → ltb j k ≡ p → (r : Bool) → ltb k j ≡ r → j ≡ k
          three true p r f = absurd (omega (arith, a.1, b.1, unpaired_less j k (ltb-true j k p) a.0))
          three false p true f = absurd (omega (arith, a.1, b.1, unpaired_less k j (ltb-true k j f) b.0))
          three false p false f = omega (arith, ltb-false j k p, ltb-false k j f)

  pub places_into : Into (place n bytes) m (n + (m - count))
  places_into k h =
      ⊎_elim (λ p. omega (arith, partner_low k _ p)) (λ u. omega (arith, u.1, unpaired_less k m h u.0, below_all)) (place_cases k)
