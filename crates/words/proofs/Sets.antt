-- Words as sets: members, inclusion, meeting, difference and the empty word, each read by membership. A word is empty exactly where it has no member, since 0 is the only word that has none;
-- a member of a word that is not empty is found by induction on halves. Every law then follows from the members of an intersection, a union and a difference, by cases on the two memberships.
use mathlib.Core.Path.{◌≡◌, refl, sym, ap, ◌∙◌, subst}
use mathlib.Core.Bool.{Bool, true, false, not, ◌&&◌, ◌||◌, true≢false, false≢true}
use mathlib.Core.Logic.{◌⊎◌, ⊎_elim}
use Prim.Native.Nat.{ℕ, zero, suc, ◌+◌, ◌*◌, ◌/◌, ◌^◌, ◌<◌}
use native.Mathlib.Nat.{mod-eq_of_lt}
use borrow.Author.Tests.{not-true}
use lib.Arith.{bin_ind}
use lib.Dec.{eqb, eqb-suc-zero}
use lib.Bits.{bit_and, bit_or, and_mask, mask_lt, and_zero_r}
use Rattle.words.specs.Words.{is_zero, odd, digit, has, minus, meets, first_vars, Within}
use Rattle.words.proofs.Truth.{both_ways, refuted, confirmed, and_left, and_right, and_both, or_either, iff}
use Rattle.words.proofs.Membership.{halves_at, has_first, has_next, has_and, has_or, has_minus, has_zero, has_bit_eq, ext}

-- ---- the empty word

-- the test for the empty word
pub is_zero_lem : (x : ℕ) → is_zero x ≡ true → x ≡ 0
is_zero_lem zero e = refl
is_zero_lem (suc x) e = absurd (false≢true e)

-- the code's test against 0 is the test for the empty word
pub is_zero_test : (x : ℕ) → eqb x 0 ≡ is_zero x
is_zero_test zero = refl
is_zero_test (suc x) = eqb-suc-zero x

-- a word that is not 0 is not empty
pub nonzero : (x : ℕ) → (x ≡ 0 → ⊥) → is_zero x ≡ false
nonzero zero n = absurd (n refl)
nonzero (suc x) n = refl

-- a word with a member is not empty
pub member_nonzero : (x k : ℕ) → has x k ≡ true → is_zero x ≡ false
member_nonzero zero k h = absurd (false≢true (sym (has_zero k) ∙ h))
member_nonzero (suc x) k h = refl

-- an even word that is not empty has a half that is not empty
pub half_nonzero : (x : ℕ) → is_zero x ≡ false → odd x ≡ false → is_zero (x / 2) ≡ false
half_nonzero x n o = go (is_zero (x / 2)) refl
  where
    go : (z : Bool) → is_zero (x / 2) ≡ z → z ≡ false
    go false e = refl
    go true e = sym (ap is_zero (halves_at x o ∙ ap (λ (q : ℕ). q * 2 + digit false) (is_zero_lem (x / 2) e))) ∙ n

-- a word that is not empty has a member
pub some_member : (x : ℕ) → is_zero x ≡ false → (k : ℕ) × (has x k ≡ true)
some_member =
    bin_ind (λ (x : ℕ). is_zero x ≡ false → (k : ℕ) × (has x k ≡ true)) (λ e. absurd (true≢false e)) (λ x ih e. go x ih e (odd x) refl)
  where
    go : (x : ℕ) → (is_zero (x / 2) ≡ false → (k : ℕ) × (has (x / 2) k ≡ true)) → is_zero x ≡ false → (p : Bool) → odd x ≡ p → (k : ℕ) × (has x k ≡ true)
    go x ih e true o = (zero, has_first x ∙ o)
    go x ih e false o = let m = ih (half_nonzero x e o) in (suc m.0, has_next x m.0 ∙ m.1)

-- ---- members

-- a member of both is one of the intersection
pub in_and : (a b k : ℕ) → has a k ≡ true → has b k ≡ true → has (bit_and a b) k ≡ true
in_and a b k p q = has_and a b k ∙ and_both (has a k) (has b k) p q

-- a member of r is in the intersection where it is in x
pub restricted : (r x k : ℕ) → has r k ≡ true → has (bit_and r x) k ≡ has x k
restricted r x k h = rw (has_and r x k, h)

-- a member of a union is one of either
pub in_or : (a b k : ℕ) → has (bit_or a b) k ≡ true → (has a k ≡ true) ⊎ (has b k ≡ true)
in_or a b k h = or_either (has a k) (has b k) (sym (has_or a b k) ∙ h)

-- a member of a that is none of b is one of the difference
pub in_minus : (a b k : ℕ) → has a k ≡ true → has b k ≡ false → has (minus a b) k ≡ true
in_minus a b k p q = has_minus a b k ∙ and_both (has a k) (not (has b k)) p (ap not q)

-- and a member of the difference is none of b
pub minus_out : (a b k : ℕ) → has (minus a b) k ≡ true → has b k ≡ false
minus_out a b k h = not-true (has b k) (and_right (has a k) (not (has b k)) (sym (has_minus a b k) ∙ h))

-- ---- inclusion

-- every word is within itself
pub within_refl : (a : ℕ) → Within a a
within_refl a k h = h

-- what is within a word is within every word around it
pub within_trans : (a b c : ℕ) → Within a b → Within b c → Within a c
within_trans a b c f g k h = g k (f k h)

-- words within each other are equal
pub within_antisym : (a b : ℕ) → Within a b → Within b a → a ≡ b
within_antisym a b f g = ext a b (λ k. iff (has a k) (has b k) (f k) (g k))

-- the empty word is within every word
pub within_zero : (a : ℕ) → Within 0 a
within_zero a k h = absurd (false≢true (sym (has_zero k) ∙ h))

-- an intersection is within the first word
pub and_within_l : (a b : ℕ) → Within (bit_and a b) a
and_within_l a b k h = and_left (has a k) (has b k) (sym (has_and a b k) ∙ h)

-- and within the second
pub and_within_r : (a b : ℕ) → Within (bit_and a b) b
and_within_r a b k h = and_right (has a k) (has b k) (sym (has_and a b k) ∙ h)

-- a word within another is what they share
pub and_whole : (a b : ℕ) → Within a b → bit_and a b ≡ a
and_whole a b f =
    within_antisym (bit_and a b) a (and_within_l a b) (λ k h. in_and a b k h (f k h))

-- a member, as a word of one variable, is within
pub bit_within : (x k : ℕ) → has x k ≡ true → Within (2 ^ k) x
bit_within x k h j m = ap (has x) (sym (has_bit_eq k j m)) ∙ h

-- the first word is within a union
pub or_within_l : (a b : ℕ) → Within a (bit_or a b)
or_within_l a b k h = has_or a b k ∙ ap (λ (p : Bool). p || has b k) h

-- and so is the second
pub or_within_r : (a b : ℕ) → Within b (bit_or a b)
or_within_r a b k h = has_or a b k ∙ or_true (has a k) (has b k) h
  where
    or_true : (p q : Bool) → q ≡ true → (p || q) ≡ true
    or_true true q e = refl
    or_true false q e = e

-- a union is within what both words are within
pub or_within : (a b c : ℕ) → Within a c → Within b c → Within (bit_or a b) c
or_within a b c f g k h = ⊎_elim (f k) (g k) (in_or a b k h)

-- a difference is within the first word
pub minus_within : (a b : ℕ) → Within (minus a b) a
minus_within a b k h = and_left (has a k) (not (has b k)) (sym (has_minus a b k) ∙ h)

-- ---- meeting

-- words with a member in common meet
pub meets_intro : (a b k : ℕ) → has a k ≡ true → has b k ≡ true → meets a b ≡ true
unfolding meets
meets_intro a b k h l = ap not (member_nonzero (bit_and a b) k (in_and a b k h l))

-- words that meet have a member in common
pub meets_true : (a b : ℕ) → meets a b ≡ true → (k : ℕ) × (has a k ≡ true) × (has b k ≡ true)
unfolding meets
meets_true a b e = let m = some_member (bit_and a b) (not-true (is_zero (bit_and a b)) e) in (m.0, and_within_l a b m.0 m.1, and_within_r a b m.0 m.1)

-- of words that do not meet, a member of the one is not in the other
pub meets_false : (a b : ℕ) → meets a b ≡ false → (k : ℕ) → has a k ≡ true → has b k ≡ false
meets_false a b e k h = refuted (has b k) (λ l. both_ways (meets a b) (meets_intro a b k h l) e)

-- words without a member in common do not meet
pub meets_false_intro : (a b : ℕ) → ((k : ℕ) → has a k ≡ true → has b k ≡ false) → meets a b ≡ false
meets_false_intro a b f = refuted (meets a b) (λ e. let m = meets_true a b e in both_ways (has b m.0) m.2 (f m.0 m.1))

-- nothing meets the empty word
pub meets_zero : (a : ℕ) → meets a 0 ≡ false
unfolding meets
meets_zero a = ap (λ (x : ℕ). not (is_zero x)) (and_zero_r a)

-- nor does the empty word meet anything
pub zero_meets : (a : ℕ) → meets 0 a ≡ false
zero_meets a = meets_false_intro 0 a (λ k h. both_ways (has 0 k) h (has_zero k))

-- ---- difference

-- a difference that is not empty has a member of the first word that the second lacks
pub minus_nonempty : (a b : ℕ) → is_zero (minus a b) ≡ false → (k : ℕ) × (has a k ≡ true) × (has b k ≡ false)
minus_nonempty a b e =
    let m = some_member (minus a b) e in
    (m.0, minus_within a b m.0 m.1, minus_out a b m.0 m.1)

-- where the difference is empty the first word is within the second
pub minus_empty : (a b : ℕ) → is_zero (minus a b) ≡ true → Within a b
minus_empty a b e k h =
    confirmed (has b k) (λ n. both_ways (is_zero (minus a b)) e (member_nonzero (minus a b) k (in_minus a b k h n)))

-- and the other way round
pub within_minus : (a b : ℕ) → Within a b → is_zero (minus a b) ≡ true
within_minus a b f =
    confirmed (is_zero (minus a b)) (λ e. let m = minus_nonempty a b e in both_ways (has b m.0) (f m.0 m.1) m.2)

-- a difference of a union is the union of the differences
pub minus_or : (a b c : ℕ) → minus (bit_or a b) c ≡ bit_or (minus a c) (minus b c)
minus_or a b c =
    ext
    (minus (bit_or a b) c)
    (bit_or (minus a c) (minus b c))
    (λ k. rw (has_minus (bit_or a b) c k, has_or a b k, has_or (minus a c) (minus b c) k, has_minus a c k, has_minus b c k) (spread (has a k) (has b k) (has c k)))
  where
    spread : (p q r : Bool) → ((p || q) && not r) ≡ ((p && not r) || (q && not r))
    spread true true true = refl
    spread true false true = refl
    spread true q false = refl
    spread false q r = refl

-- a difference from a union takes away the one and then the other
pub minus_both : (a b c : ℕ) → minus a (bit_or b c) ≡ minus (minus a b) c
minus_both a b c =
    ext
    (minus a (bit_or b c))
    (minus (minus a b) c)
    (λ k. rw (has_minus a (bit_or b c) k, has_or b c k, has_minus (minus a b) c k, has_minus a b k) (fewer (has a k) (has b k) (has c k)))
  where
    fewer : (p q r : Bool) → (p && not (q || r)) ≡ ((p && not q) && not r)
    fewer true true r = refl
    fewer true false r = refl
    fewer false q r = refl

-- a word without what it lacks of another is what the two share
pub minus_minus : (a b : ℕ) → minus a (minus a b) ≡ bit_and a b
minus_minus a b =
    ext
    (minus a (minus a b))
    (bit_and a b)
    (λ k. rw (has_minus a (minus a b) k, has_minus a b k, has_and a b k) (shared (has a k) (has b k)))
  where
    shared : (p q : Bool) → (p && not (p && not q)) ≡ (p && q)
    shared true true = refl
    shared true false = refl
    shared false q = refl

-- a word within another and what the other has besides
pub with_rest : (a b : ℕ) → Within b a → bit_or b (minus a b) ≡ a
with_rest a b f =
    ext
    (bit_or b (minus a b))
    a
    (λ k. rw (has_or b (minus a b) k, has_minus a b k) (split (has a k) (has b k) (f k)))
  where
    split : (p q : Bool) → (q ≡ true → p ≡ true) → (q || (p && not q)) ≡ p
    split true true h = refl
    split true false h = refl
    split false true h = sym (h refl)
    split false false h = refl

-- ---- the first n variables: the words of n digits

-- a word of the first n variables is below 2 to the power n
pub within_lt : (n a : ℕ) → Within a (first_vars n) → a < 2 ^ n
unfolding first_vars
within_lt n a f = subst (λ (x : ℕ). x < 2 ^ n) (and_whole a (first_vars n) f) (mask_lt a n)

-- and the other way round
pub lt_within : (n a : ℕ) → a < 2 ^ n → Within a (first_vars n)
unfolding first_vars
lt_within n a h k m = and_within_r a (first_vars n) k (ap (λ (x : ℕ). has x k) (and_mask a n ∙ mod-eq_of_lt h) ∙ m)
