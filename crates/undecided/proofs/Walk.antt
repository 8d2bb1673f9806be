-- The walk from one subset of a word to the next: s less the word, in k digits, and of that what the word has. By induction on the digits: where the word is
-- even, the next subset is that of the halves with a 0 below. Where it is odd, the lowest digit goes from 0 to 1 with all else as it was, and from 1 to 0 with
-- the halves going on.
use mathlib.Core.Path.{◌≡◌, refl, sym, ap, ◌∙◌}
use mathlib.Core.Bool.{Bool, true, false, ◌&&◌}
use mathlib.Core.List.{List, [], ◌∷◌, ◌++◌}
use Prim.Native.Nat.{ℕ, zero, suc, ◌+◌, ◌-◌, ◌*◌, ◌/◌, ◌^◌, ◌≤◌, ◌<◌}
use native.Mathlib.Nat.{pow-suc}
use native.Mathlib.Omega.{arith}
use lib.Arith.{lt-one}
use lib.Bits.{bit_and, and_zero_r}
use Rattle.words.specs.Words.{odd, digit}
use Rattle.words.proofs.Truth.{clash}
use Rattle.words.proofs.Membership.{halves_at, half_of, odd_of, and_halves}
use Rattle.undecided.specs.Settings.{with_zero, with_both, subsets, next_setting}
use Rattle.undecided.specs.Demands.{Visiting}
use Rattle.undecided.proofs.Subsets.{subsets_odd, subsets_even, half_lt}

-- the subset after s, of a word of k digits
abbrev pub next : ℕ → ℕ → ℕ → ℕ
next k w s = bit_and (s + (2 ^ k - w)) w

-- s with all that the word lacks is, of that what the word has, s
abbrev Kept : ℕ → ℕ → ℕ → Type 0
Kept k w s = bit_and (s + (2 ^ k - 1 - w)) w ≡ s

-- each is followed by the one after it, which is larger, and the last is the word
abbrev pub Walk : ℕ → ℕ → ℕ → List ℕ → Type 0
Walk k w s [] = Kept k w s × (s ≡ w)
Walk k w s (t ∷ rest) = Kept k w s × (s < t) × (t ≡ next k w s) × Walk k w t rest

-- none of them is above the word
pub walk_below : (k w s : ℕ) (rest : List ℕ) → Walk k w s rest → s ≤ w
walk_below k w s [] h = omega (arith, h.1)
walk_below k w s (t ∷ rest) h = omega (arith, h.1, walk_below k w t rest h.3)

-- an intersection of words whose halves and lowest digits are known
and_of : {a b : ℕ} (q r : ℕ) (s t : Bool) → a ≡ q * 2 + digit s → b ≡ r * 2 + digit t → bit_and a b ≡ bit_and q r * 2 + digit (s && t)
and_of {a} {b} q r s t e f = and_halves a b ∙ rw (half_of q s e, half_of r t f, odd_of q s e, odd_of r t f)

module _ (k h w : ℕ) (small : h < 2 ^ k) where
  -- the word is odd
  module _ (is : w ≡ h * 2 + digit true) (s : ℕ) where
    kept_first : Kept k h s → Kept (suc k) w (s * 2)
    kept_first e =
        let sum : s * 2 + (2 ^ suc k - 1 - w) ≡ (s + (2 ^ k - 1 - h)) * 2 + digit false = omega (arith, pow-suc 2 k, is, small) in
        omega (arith, and_of (s + (2 ^ k - 1 - h)) h false true sum is, e)

    kept_second : Kept k h s → Kept (suc k) w (s * 2 + 1)
    kept_second e =
        let sum : s * 2 + 1 + (2 ^ suc k - 1 - w) ≡ (s + (2 ^ k - 1 - h)) * 2 + digit true = omega (arith, pow-suc 2 k, is, small) in
        omega (arith, and_of (s + (2 ^ k - 1 - h)) h true true sum is, e)

    to_second : Kept k h s → s * 2 + 1 ≡ next (suc k) w (s * 2)
    to_second e =
        let sum : s * 2 + (2 ^ suc k - w) ≡ (s + (2 ^ k - 1 - h)) * 2 + digit true = omega (arith, pow-suc 2 k, is, small) in
        omega (arith, and_of (s + (2 ^ k - 1 - h)) h true true sum is, e)

    to_next : {t : ℕ} → t ≡ next k h s → t * 2 ≡ next (suc k) w (s * 2 + 1)
    to_next {t} e =
        let sum : s * 2 + 1 + (2 ^ suc k - w) ≡ (s + (2 ^ k - h)) * 2 + digit false = omega (arith, pow-suc 2 k, is, small) in
        omega (arith, and_of (s + (2 ^ k - h)) h false true sum is, e)

  -- the word is even
  module _ (is : w ≡ h * 2 + digit false) (s : ℕ) where
    kept_even : Kept k h s → Kept (suc k) w (s * 2)
    kept_even e =
        let sum : s * 2 + (2 ^ suc k - 1 - w) ≡ (s + (2 ^ k - 1 - h)) * 2 + digit true = omega (arith, pow-suc 2 k, is, small) in
        omega (arith, and_of (s + (2 ^ k - 1 - h)) h true false sum is, e)

    to_even : {t : ℕ} → t ≡ next k h s → t * 2 ≡ next (suc k) w (s * 2)
    to_even {t} e =
        let sum : s * 2 + (2 ^ suc k - w) ≡ (s + (2 ^ k - h)) * 2 + digit false = omega (arith, pow-suc 2 k, is, small) in
        omega (arith, and_of (s + (2 ^ k - h)) h false false sum is, e)

  walk_odd : w ≡ h * 2 + digit true → (s : ℕ) (rest : List ℕ) → Walk k h s rest → Walk (suc k) w (s * 2) ((s * 2 + 1) ∷ with_both rest)
  walk_odd is s [] p = (
    kept_first is s p.0,
    omega arith,
    to_second is s p.0,
    (kept_second is s p.0, omega (arith, is, p.1)),
  )
  walk_odd is s (t ∷ rest) p = (
    kept_first is s p.0,
    omega arith,
    to_second is s p.0,
    (kept_second is s p.0, omega (arith, p.1), to_next is s p.2, walk_odd is t rest p.3),
  )

  walk_even : w ≡ h * 2 + digit false → (s : ℕ) (rest : List ℕ) → Walk k h s rest → Walk (suc k) w (s * 2) (with_zero rest)
  walk_even is s [] p = (kept_even is s p.0, omega (arith, is, p.1))
  walk_even is s (t ∷ rest) p = (kept_even is s p.0, omega (arith, p.1), to_even is s p.2, walk_even is t rest p.3)

-- ---- the list

-- each is followed by the next one
followed : (k w s a b : ℕ) (rest before after : List ℕ) → Walk k w s rest → s ∷ rest ≡ before ++ (a ∷ b ∷ after) → b ≡ next k w a
followed k w s a b [] [] after p e = clash cc
followed k w s a b [] (c ∷ []) after p e = clash cc
followed k w s a b [] (c ∷ d ∷ before) after p e = clash cc
followed k w s a b (t ∷ rest) [] after p e = cc p.2
followed k w s a b (t ∷ rest) (c ∷ before) after p e = followed k w t a b rest before after p.3 cc

-- the last of all is the word
pub walk_ends : (k w s x : ℕ) (rest before : List ℕ) → Walk k w s rest → s ∷ rest ≡ before ++ (x ∷ []) → x ≡ w
walk_ends k w s x [] [] p e = let same : s ≡ x = cc in sym same ∙ p.1
walk_ends k w s x [] (b ∷ []) p e = clash cc
walk_ends k w s x [] (b ∷ c ∷ before) p e = clash cc
walk_ends k w s x (t ∷ rest) [] p e = clash cc
walk_ends k w s x (t ∷ rest) (b ∷ before) p e = walk_ends k w t x rest before p.3 cc

-- the list of subsets begins with 0, and is such a walk
pub walked : (k w : ℕ) → w < 2 ^ k → (rest : List ℕ) × (subsets k w ≡ 0 ∷ rest) × Walk k w 0 rest
unfolding subsets
walked zero w h = ([], refl, (ap (bit_and (0 + (2 ^ 0 - 1 - w))) (lt-one h) ∙ and_zero_r (0 + (2 ^ 0 - 1 - w)), sym (lt-one h)))
walked (suc k) w h = go (walked k (w / 2) (half_lt k w h)) (odd w) refl
  where
    go : (rest : List ℕ) × (subsets k (w / 2) ≡ 0 ∷ rest) × Walk k (w / 2) 0 rest → (p : Bool) → odd w ≡ p →
        (rest : List ℕ) × (subsets (suc k) w ≡ 0 ∷ rest) × Walk (suc k) w 0 rest
    go below true o = (
      1 ∷ with_both below.0,
      subsets_odd k w o ∙ ap with_both below.1,
      walk_odd k (w / 2) w (half_lt k w h) (halves_at w o) 0 below.0 below.2,
    )
    go below false o = (
      with_zero below.0,
      subsets_even k w o ∙ ap with_zero below.1,
      walk_even k (w / 2) w (half_lt k w h) (halves_at w o) 0 below.0 below.2,
    )

pub visiting : Visiting
unfolding next_setting
visiting opens h =
    let w = walked 64 opens h in
    record {
      first = (w.0, w.1);
      next = λ before after s u e. followed 64 opens 0 s u w.0 before after w.2 (sym w.1 ∙ e);
      last = λ before s e. walk_ends 64 opens 0 s w.0 before w.2 (sym w.1 ∙ e);
    }
