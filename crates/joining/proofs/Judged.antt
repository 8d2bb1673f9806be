-- Judging the pairs, turn by turn: one option more is judged, and joins those that are taken. And the places, each worked out by itself.
use mathlib.Core.Path.{◌≡◌, refl, sym, ap, ap₂, subst, ◌∙◌}
use mathlib.Core.Bool.{Bool, true, false, not, or-true}
use mathlib.Core.List.{List, [], ◌∷◌}
use Prim.Native.Nat.{ℕ, zero, suc, ◌+◌, ◌-◌, ◌*◌, ◌%◌, ◌^◌, min, ◌≤◌, ◌<◌}
use native.Mathlib.Nat.{add-zero, le_of_lt, min-eq_left}
use native.Mathlib.Numerals.{add-one}
use native.Mathlib.Omega.{arith}
use borrow.Author.Tests.{lt-ltb, le-ltb}
use lib.Bits.{bit_or}
use lib.Count.{ones}
use lib.ListN.{length, get_or, set, drop, replicate}
use lib.Seq.{get_or-set_same, get_or-set_other}
use Rattle.std.proofs.Common.{Some, None}
use Rattle.std.proofs.lemmas.List.{get_or-take, get_or-drop}
use Rattle.std.specs.Simd.{first_chunks}
use Rattle.words.specs.Words.{is_zero, odd, minus, meets, first_vars}
use Rattle.words.proofs.Unions.{meets_bit}
use Rattle.joint.specs.Pairs.{pair_count, option, options_of, at_fault, side_fault, partner_or, paired, unpaired_below, place}
use Rattle.joint.specs.Join.{pairs_fault}
use Rattle.renaming.proofs.Images.{below_suc}
use Rattle.joint.proofs.Pairs.{fault_stays}
use Rattle.joint.proofs.Places.{partner_last, partner_before}
use Rattle.joining.specs.Promises.{judged_as}

-- ---- verdicts

pub judged_true : (b : Bool) (x : ℕ) → b ≡ true → None ≡ judged_as b x
unfolding judged_as
judged_true b x e = rw (e, judged_as)

pub judged_false : (b : Bool) (x y : ℕ) → b ≡ false → y ≡ x → Some y ≡ judged_as b x
unfolding judged_as
judged_false b x y e same = rw (e, judged_as) (ap Some same)

-- what a verdict says
pub judged_fault : (b : Bool) (x : ℕ) → None ≡ judged_as b x → b ≡ true
unfolding judged_as
judged_fault true x e = refl
judged_fault false x e = cc

pub judged_options : (b : Bool) (x y : ℕ) → Some y ≡ judged_as b x → (b ≡ false) × (y ≡ x)
unfolding judged_as
judged_options true x y e = (cc, cc)
judged_options false x y e = (refl, cc)

-- ---- one option

pub fault_zero : (n taken k : ℕ) → k ≡ 0 → at_fault n taken k ≡ true
fault_zero n taken k e = rw e

pub fault_above : (n taken k : ℕ) → (k ≡ 0 → ⊥) → n < k → at_fault n taken k ≡ true
fault_above n taken zero h less = absurd (h refl)
fault_above n taken (suc k) h less = rw (lt-ltb n (suc k) less)

pub fault_taken : (n taken k w : ℕ) → (k ≡ 0 → ⊥) → k ≤ n → w ≡ 2 ^ (k - 1) → at_fault n taken k ≡ meets taken w
fault_taken n taken zero w h few ew = absurd (h refl)
fault_taken n taken (suc k) w h few ew = sym (ap (meets taken) ew ∙ meets_bit taken (suc k - 1) ∙ rw (le-ltb n (suc k) few))

-- ---- the bytes of a pair

pair_at : (count : ℕ) (bytes : List ℕ) (i : ℕ) (pair : List ℕ) → i < count
    → (get_or (get_or (first_chunks 2 count bytes) i pair) 0 0 ≡ get_or bytes (2 * i) 0) × (get_or (get_or (first_chunks 2 count bytes) i pair) 1 0 ≡ get_or bytes (2 * i + 1) 0)
pair_at zero bytes i pair h = absurd (omega arith)
pair_at (suc count) bytes zero pair h = (get_or-take 2 bytes 0 0 (omega arith), get_or-take 2 bytes 1 0 (omega arith))
pair_at (suc count) bytes (suc i) pair h =
    let later = pair_at count (drop 2 bytes) i pair (omega arith) in
    let first : 2 + 2 * i ≡ 2 * suc i = omega arith in
    let second : 2 + (2 * i + 1) ≡ 2 * suc i + 1 = omega arith in
    (later.0 ∙ get_or-drop 2 bytes (2 * i) 0 ∙ ap (λ j. get_or bytes j 0) first, later.1 ∙ get_or-drop 2 bytes (2 * i + 1) 0 ∙ ap (λ j. get_or bytes j 0) second)

-- they are the pair's options
module _ (bytes : List ℕ) (pairs : List (List ℕ)) (are : pairs ≡ first_chunks 2 (pair_count bytes) bytes) (i : ℕ) (less : i < pair_count bytes) (pair : List ℕ) where
  pub first_option : get_or (get_or pairs i pair) 0 0 ≡ option 0 bytes i
  unfolding option
  first_option = rw (are, add-zero) (pair_at (pair_count bytes) bytes i pair less).0

  pub second_option : get_or (get_or pairs i pair) 1 0 ≡ option 1 bytes i
  unfolding option
  second_option = rw are (pair_at (pair_count bytes) bytes i pair less).1

-- ---- the pairs

-- on one side the first i pairs are not at fault, and these options are taken
pub record Passed (n side : ℕ) (bytes : List ℕ) (i taken : ℕ) : Type 0 where
  pub options : taken ≡ options_of side bytes i
  pub fits : side_fault n side bytes i ≡ false

module _ (n side : ℕ) (bytes : List ℕ) where
  -- none is taken yet
  pub none_passed : Passed n side bytes 0 0
  unfolding options_of side_fault
  none_passed = record { options = refl; fits = refl }

  module _ (i taken k : ℕ) (h : Passed n side bytes i taken) (ek : k ≡ option side bytes i) where
    same : at_fault n taken k ≡ at_fault n (options_of side bytes i) (option side bytes i)
    same = ap₂ (at_fault n) h.options ek

    -- an option at fault ends it
    pub fault_ends : (x : ℕ) → i < pair_count bytes → None ≡ judged_as (at_fault n taken k) x → side_fault n side bytes (pair_count bytes) ≡ true
    fault_ends x less e = fault_stays side bytes n (pair_count bytes) i less (sym same ∙ judged_fault _ _ e)

    -- one that is not joins those that are taken
    pub one_passed : (taken' : ℕ) → Some taken' ≡ judged_as (at_fault n taken k) (bit_or taken (2 ^ (k - 1))) → Passed n side bytes (i + 1) taken'
    unfolding options_of side_fault
    one_passed taken' e =
        let j = judged_options _ _ _ e in
        record {
          options = j.1 ∙ rw add-one (ap₂ (λ w v. bit_or w (2 ^ (v - 1))) h.options ek);
          fits = rw (add-one, h.fits) (sym same ∙ j.0);
        }

-- both sides, and that no byte is left over
module _ (n m : ℕ) (bytes : List ℕ) where
  pub left_over : (length bytes % 2 ≡ 0 → ⊥) → pairs_fault n m bytes ≡ true
  unfolding pairs_fault
  left_over h = rw (some (length bytes % 2) h)
    where
      some : (r : ℕ) → (r ≡ 0 → ⊥) → not (is_zero r) ≡ true
      some zero h = absurd (h refl)
      some (suc r) h = refl

  pub fault_first : side_fault n 0 bytes (pair_count bytes) ≡ true → pairs_fault n m bytes ≡ true
  unfolding pairs_fault
  fault_first e = rw e (or-true (odd (length bytes)))

  pub fault_second : side_fault m 1 bytes (pair_count bytes) ≡ true → pairs_fault n m bytes ≡ true
  unfolding pairs_fault
  fault_second e = rw (e, or-true (side_fault n 0 bytes (pair_count bytes))) (or-true (odd (length bytes)))

  pub no_fault : length bytes % 2 ≡ 0 → side_fault n 0 bytes (pair_count bytes) ≡ false → side_fault m 1 bytes (pair_count bytes) ≡ false → pairs_fault n m bytes ≡ false
  unfolding pairs_fault
  no_fault whole first second = rw (first, second, ap (λ r. not (is_zero r)) whole)

-- ---- a partner

module _ (d : ℕ) (bytes : List ℕ) (k : ℕ) where
  pub partner_none : d ≡ partner_or d bytes 0 k
  unfolding partner_or
  partner_none = refl

  -- one pair more
  next : (i at : ℕ) → at ≡ partner_or d bytes (suc i) k → at ≡ partner_or d bytes (i + 1) k
  next i at e = e ∙ ap (λ l. partner_or d bytes l k) (sym (add-one i))

  pub partner_here : (i p s : ℕ) → s ≡ option 1 bytes i → p ≡ option 0 bytes i → s ≡ k + 1 → p - 1 ≡ partner_or d bytes (i + 1) k
  partner_here i p s es ep e = next i (p - 1) (ap (λ j. j - 1) ep ∙ sym (partner_last d bytes i k (sym es ∙ e ∙ add-one k)))

  pub partner_later : (i at s : ℕ) → s ≡ option 1 bytes i → (s ≡ k + 1 → ⊥) → at ≡ partner_or d bytes i k → at ≡ partner_or d bytes (i + 1) k
  partner_later i at s es other e = next i at (e ∙ sym (partner_before d bytes i k (λ h. other (es ∙ h ∙ sym (add-one k)))))

-- ---- places

-- the place of one option
pub place_turn : (n : ℕ) (bytes : List ℕ) (k first rest before q p : ℕ) → k < 64 → q ≡ paired bytes → first ≡ first_vars (min k 64) → rest ≡ minus first q → before ≡ ones rest
    → p ≡ partner_or (n + before) bytes (pair_count bytes) k → p ≡ place n bytes k
unfolding place unpaired_below
place_turn n bytes k first rest before q p h eq ef er eb ep =
    let whole : before ≡ ones (minus (first_vars k) (paired bytes)) =
    eb ∙ ap ones (er ∙ ap₂ minus (ef ∙ ap first_vars (min-eq_left (le_of_lt h))) eq)
    in
    ep ∙ ap (λ x. partner_or (n + x) bytes (pair_count bytes) k) whole

-- one place more
pub places_turn : (f : ℕ → ℕ) (places : List ℕ) (k p : ℕ) → k < length places → ((j : ℕ) → j < k → get_or places j 0 ≡ f j) → p ≡ f k
    → (j : ℕ) → j < k + 1 → get_or (set places k p) j 0 ≡ f j
places_turn f places k p h before e j less =
    below_suc (λ i. get_or (set places k p) i 0 ≡ f i) j k (subst (λ i. j < i) (add-one k) less)
    (λ lower. get_or-set_other places k j p 0 (λ same. omega (arith, same)) ∙ before j lower)
    (get_or-set_same places k p 0 h ∙ e)

-- and every place is the number of a bit
pub zeros_below : (n j : ℕ) → get_or (replicate n 0) j 0 < 64
zeros_below zero j = omega arith
zeros_below (suc n) zero = omega arith
zeros_below (suc n) (suc j) = zeros_below n j

pub set_below : (places : List ℕ) (k p : ℕ) → p < 64 → ((j : ℕ) → get_or places j 0 < 64) → (j : ℕ) → get_or (set places k p) j 0 < 64
set_below [] k p less below j = below j
set_below (x ∷ xs) zero p less below zero = less
set_below (x ∷ xs) zero p less below (suc j) = below (suc j)
set_below (x ∷ xs) (suc k) p less below zero = below zero
set_below (x ∷ xs) (suc k) p less below (suc j) = set_below xs k p less (λ i. below (suc i)) j
