-- The subsets of a word, by induction on its digits: a word is within another where its half is within the other's half and its lowest digit is no more than the
-- other's. So the subsets of a word are those of its half with a lowest digit, 0 or 1 where the word is odd, and 0 where it is even.
use mathlib.Core.Path.{◌≡◌, refl, sym, ap, subst, ◌∙◌}
use mathlib.Core.Bool.{Bool, true, false}
use mathlib.Core.List.Memᴰ
use mathlib.Core.List.{List, [], ◌∷◌, Memᴰ}
use mathlib.Core.Logic.{◌⊎◌, inl, inr}
use Prim.Native.Nat.{ℕ, zero, suc, ◌+◌, ◌*◌, ◌/◌, ◌^◌, ◌<◌}
use native.Mathlib.Nat.{pow-suc}
use native.Mathlib.Numerals.{add-one}
use native.Mathlib.Omega.{arith}
use lib.Arith.{lt-one}
use lib.Count.{ones, ones_step}
use lib.ListN.{length}
use lib.Pow.{shr_lt}
use Rattle.words.specs.Words.{odd, digit, has, Within}
use Rattle.words.specs.Demands.{Ascending}
use Rattle.words.proofs.Truth.{both_ways, refuted}
use Rattle.words.proofs.Membership.{lowest_digit, halves, halves_at, half_of, odd_of, has_first, has_next}
use Rattle.words.proofs.Sets.{within_antisym, within_zero}
use Rattle.words.proofs.Count.{ones_zero}
use Rattle.undecided.specs.Settings.{with_zero, with_both, subsets}
use Rattle.undecided.specs.Demands.{AllSettings}

-- ---- the list by the word's lowest digit

pub subsets_odd : (k w : ℕ) → odd w ≡ true → subsets (suc k) w ≡ with_both (subsets k (w / 2))
unfolding subsets
subsets_odd k w e = rw (e, subsets)

pub subsets_even : (k w : ℕ) → odd w ≡ false → subsets (suc k) w ≡ with_zero (subsets k (w / 2))
unfolding subsets
subsets_even k w e = rw (e, subsets)

-- there is one at least
pub some_subset : (k w : ℕ) → (s : ℕ) × (rest : List ℕ) × (subsets k w ≡ s ∷ rest)
unfolding subsets
some_subset zero w = (0, [], refl)
some_subset (suc k) w = go (some_subset k (w / 2)) (odd w) refl
  where
    go : (s : ℕ) × (rest : List ℕ) × (subsets k (w / 2) ≡ s ∷ rest) → (p : Bool) → odd w ≡ p → (s : ℕ) × (rest : List ℕ) × (subsets (suc k) w ≡ s ∷ rest)
    go h true o = (h.0 * 2, (h.0 * 2 + 1) ∷ with_both h.1, subsets_odd k w o ∙ ap with_both h.2)
    go h false o = (h.0 * 2, with_zero h.1, subsets_even k w o ∙ ap with_zero h.2)

-- the half of a word has one digit less
pub half_lt : (k w : ℕ) → w < 2 ^ suc k → w / 2 < 2 ^ k
half_lt k w h = shr_lt k 1 (subst (λ (d : ℕ). w < 2 ^ d) (sym (add-one k)) h)

-- ---- one more digit

-- a word with the lowest digit 0
even_is : (u s : ℕ) → s ≡ u * 2 → s ≡ u * 2 + digit false
even_is u s e = omega (arith, e)

in_both : (ss : List ℕ) (s : ℕ) → Memᴰ s (with_both ss) → Memᴰ (s / 2) ss
in_both [] s m = absurd (Memᴰ.not-nil m)
in_both (u ∷ ss) s m = go (in_both ss s) (Memᴰ.cases_cons m)
  where
    last : (Memᴰ s (with_both ss) → Memᴰ (s / 2) ss) → (s ≡ u * 2 + 1) ⊎ Memᴰ s (with_both ss) → Memᴰ (s / 2) (u ∷ ss)
    last rest (inl e) = Memᴰ.head (half_of u true e)
    last rest (inr n) = Memᴰ.tail (rest n)

    go : (Memᴰ s (with_both ss) → Memᴰ (s / 2) ss) → (s ≡ u * 2) ⊎ Memᴰ s ((u * 2 + 1) ∷ with_both ss) → Memᴰ (s / 2) (u ∷ ss)
    go rest (inl e) = Memᴰ.head (half_of u false (even_is u s e))
    go rest (inr n) = last rest (Memᴰ.cases_cons n)

both_in : (ss : List ℕ) (s : ℕ) → Memᴰ (s / 2) ss → Memᴰ s (with_both ss)
both_in [] s m = absurd (Memᴰ.not-nil m)
both_in (u ∷ ss) s m = go (both_in ss s) (Memᴰ.cases_cons m)
  where
    at : (p : Bool) → odd s ≡ p → s / 2 ≡ u → Memᴰ s (with_both (u ∷ ss))
    at true o e = Memᴰ.tail (Memᴰ.head (halves_at s o ∙ ap (λ (q : ℕ). q * 2 + 1) e))
    at false o e = let even : s ≡ u * 2 = omega (arith, halves_at s o, e) in Memᴰ.head even

    go : (Memᴰ (s / 2) ss → Memᴰ s (with_both ss)) → (s / 2 ≡ u) ⊎ Memᴰ (s / 2) ss → Memᴰ s (with_both (u ∷ ss))
    go rest (inl e) = at (odd s) refl e
    go rest (inr n) = Memᴰ.tail (Memᴰ.tail (rest n))

in_zero : (ss : List ℕ) (s : ℕ) → Memᴰ s (with_zero ss) → Memᴰ (s / 2) ss × (odd s ≡ false)
in_zero [] s m = absurd (Memᴰ.not-nil m)
in_zero (u ∷ ss) s m = go (in_zero ss s) (Memᴰ.cases_cons m)
  where
    go : (Memᴰ s (with_zero ss) → Memᴰ (s / 2) ss × (odd s ≡ false)) → (s ≡ u * 2) ⊎ Memᴰ s (with_zero ss) →
        Memᴰ (s / 2) (u ∷ ss) × (odd s ≡ false)
    go rest (inl e) = (Memᴰ.head (half_of u false (even_is u s e)), odd_of u false (even_is u s e))
    go rest (inr n) = let m = rest n in (Memᴰ.tail m.0, m.1)

zero_in : (ss : List ℕ) (s : ℕ) → Memᴰ (s / 2) ss → odd s ≡ false → Memᴰ s (with_zero ss)
zero_in [] s m o = absurd (Memᴰ.not-nil m)
zero_in (u ∷ ss) s m o = go (λ n. zero_in ss s n o) (Memᴰ.cases_cons m)
  where
    go : (Memᴰ (s / 2) ss → Memᴰ s (with_zero ss)) → (s / 2 ≡ u) ⊎ Memᴰ (s / 2) ss → Memᴰ s (with_zero (u ∷ ss))
    go rest (inl e) = let even : s ≡ u * 2 = omega (arith, halves_at s o, e) in Memᴰ.head even
    go rest (inr n) = Memᴰ.tail (rest n)

-- ---- the subsets are those within

within_half : (s w : ℕ) → Within s w → Within (s / 2) (w / 2)
within_half s w f k h = sym (has_next w k) ∙ f (suc k) (has_next s k ∙ h)

within_odd : (s w : ℕ) → Within s w → odd s ≡ true → odd w ≡ true
within_odd s w f h = sym (has_first w) ∙ f zero (has_first s ∙ h)

within_of : (s w : ℕ) → Within (s / 2) (w / 2) → (odd s ≡ true → odd w ≡ true) → Within s w
within_of s w f g zero h = has_first w ∙ g (sym (has_first s) ∙ h)
within_of s w f g (suc k) h = has_next w k ∙ f k (sym (has_next s k) ∙ h)

are_within : (k w s : ℕ) → w < 2 ^ k → Memᴰ s (subsets k w) → Within s w
unfolding subsets
are_within zero w s h m = go (Memᴰ.cases_cons m)
  where
    go : (s ≡ 0) ⊎ Memᴰ s [] → Within s w
    go (inl e) = subst (λ (x : ℕ). Within x w) (sym e) (within_zero w)
    go (inr n) = absurd (Memᴰ.not-nil n)
are_within (suc k) w s h m = go (are_within k (w / 2) (s / 2) (half_lt k w h)) (odd w) refl
  where
    go : (Memᴰ (s / 2) (subsets k (w / 2)) → Within (s / 2) (w / 2)) → (p : Bool) → odd w ≡ p → Within s w
    go rest true o = within_of s w (rest (in_both _ s (subst (λ (l : List ℕ). Memᴰ s l) (subsets_odd k w o) m))) (λ e. o)
    go rest false o =
        let n = in_zero _ s (subst (λ (l : List ℕ). Memᴰ s l) (subsets_even k w o) m) in
        within_of s w (rest n.0) (λ e. both_ways (odd s) e n.1)

are_listed : (k w s : ℕ) → w < 2 ^ k → Within s w → Memᴰ s (subsets k w)
unfolding subsets
are_listed zero w s h f =
    Memᴰ.head (within_antisym s 0 (λ k m. ap (λ (x : ℕ). has x k) (sym (lt-one h)) ∙ f k m) (within_zero s))
are_listed (suc k) w s h f = go (are_listed k (w / 2) (s / 2) (half_lt k w h) (within_half s w f)) (odd w) refl
  where
    go : Memᴰ (s / 2) (subsets k (w / 2)) → (p : Bool) → odd w ≡ p → Memᴰ s (subsets (suc k) w)
    go m true o = subst (λ (l : List ℕ). Memᴰ s l) (sym (subsets_odd k w o)) (both_in _ s m)
    go m false o =
        let even = refuted (odd s) (λ e. both_ways (odd w) (within_odd s w f e) o) in
        subst (λ (l : List ℕ). Memᴰ s l) (sym (subsets_even k w o)) (zero_in _ s m even)

-- ---- ascending

ascending_both : (ss : List ℕ) → Ascending ss → Ascending (with_both ss)
ascending_both [] a = tt
ascending_both (s ∷ ss) a = (
  λ v m. first v (Memᴰ.cases_cons m),
  (λ v m. later v m, ascending_both ss a.1),
)
  where
    later : (v : ℕ) → Memᴰ v (with_both ss) → s * 2 + 1 < v
    later v m = omega (arith, a.0 (v / 2) (in_both ss v m), halves v)

    first : (v : ℕ) → (v ≡ s * 2 + 1) ⊎ Memᴰ v (with_both ss) → s * 2 < v
    first v (inl e) = omega (arith, e)
    first v (inr m) = omega (arith, later v m)

ascending_zero : (ss : List ℕ) → Ascending ss → Ascending (with_zero ss)
ascending_zero [] a = tt
ascending_zero (s ∷ ss) a = (λ v m. omega (arith, a.0 (v / 2) (in_zero ss v m).0, halves v), ascending_zero ss a.1)

subsets_ascending : (k w : ℕ) → Ascending (subsets k w)
unfolding subsets
subsets_ascending zero w = (λ v m. absurd (Memᴰ.not-nil m), tt)
subsets_ascending (suc k) w = go (subsets_ascending k (w / 2)) (odd w) refl
  where
    go : Ascending (subsets k (w / 2)) → (p : Bool) → odd w ≡ p → Ascending (subsets (suc k) w)
    go a true o = subst Ascending (sym (subsets_odd k w o)) (ascending_both (subsets k (w / 2)) a)
    go a false o = subst Ascending (sym (subsets_even k w o)) (ascending_zero (subsets k (w / 2)) a)

-- ---- how many

length_both : (ss : List ℕ) → length (with_both ss) ≡ length ss * 2
length_both [] = refl
length_both (s ∷ ss) = omega (arith, length_both ss)

length_zero : (ss : List ℕ) → length (with_zero ss) ≡ length ss
length_zero [] = refl
length_zero (s ∷ ss) = ap suc (length_zero ss)

count : (k w : ℕ) → w < 2 ^ k → length (subsets k w) ≡ 2 ^ ones w
unfolding subsets
count zero w h = sym (ap (λ (n : ℕ). 2 ^ n) (ap ones (lt-one h) ∙ ones_zero))
count (suc k) w h = go (count k (w / 2) (half_lt k w h)) (odd w) refl
  where
    go : length (subsets k (w / 2)) ≡ 2 ^ ones (w / 2) → (p : Bool) → odd w ≡ p → length (subsets (suc k) w) ≡ 2 ^ ones w
    go e true o =
        ap length (subsets_odd k w o)
        ∙ length_both (subsets k (w / 2))
        ∙ ap (λ (n : ℕ). n * 2) e
        ∙ sym (pow-suc 2 (ones (w / 2)))
        ∙ sym (ap (λ (n : ℕ). 2 ^ n) (ones_step w ∙ ap (λ (d : ℕ). d + ones (w / 2)) (lowest_digit w ∙ ap digit o) ∙ omega arith))
    go e false o =
        ap length (subsets_even k w o)
        ∙ length_zero (subsets k (w / 2))
        ∙ e
        ∙ sym (ap (λ (n : ℕ). 2 ^ n) (ones_step w ∙ ap (λ (d : ℕ). d + ones (w / 2)) (lowest_digit w ∙ ap digit o) ∙ omega arith))

pub all_settings : AllSettings
all_settings opens h =
    record { subsets = λ s. (are_within 64 opens s h, are_listed 64 opens s h); ascending = subsets_ascending 64 opens; number = count 64 opens h }
