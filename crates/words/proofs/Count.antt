-- How many members a word has. A word counts its lowest digit and the members of its half, so by induction on halves the members of a are those that b has and those that b lacks, and a union and an
-- intersection together count the members of both words. The order on counts follows: a word within another leaves what it lacks, which is empty only where the two are equal.
-- The number of zeros below a word's lowest set digit is the number of its lowest member, by induction on the digits.
use mathlib.Core.Path.{◌≡◌, refl, sym, ap, ap₂, ◌∙◌, subst}
use mathlib.Core.Logic.{◌≢◌}
use mathlib.Core.Bool.{Bool, true, false, not, ◌&&◌, ◌||◌, true≢false, and-true, and-false}
use Prim.Native.Nat.{ℕ, zero, suc, ◌+◌, ◌*◌, ◌/◌, ◌%◌, ◌^◌, ◌≤◌, ◌<◌}
use native.Mathlib.Nat.{pow-suc}
use native.Mathlib.Numerals.{add-one}
use native.Mathlib.Omega.{arith}
use borrow.Author.Tests.{ltb-true, not-false}
use lib.Arith.{bin_ind, lt-one}
use lib.Bits.{bit_and, bit_or, and_comm}
use lib.Count.{ones, ones_in, ones_step, ones-ones, count_trailing_zeros, under}
use lib.Pow.{pow-lt, shr_lt}
use Rattle.words.specs.Words.{is_zero, odd, digit, has, minus, meets, first_vars, lowest, Within}
use Rattle.words.proofs.Membership.{lowest_digit, halves, halves_at, odd_of, half_of, has_bit, has_bit_other, has_bit_eq, has_minus, has_first_vars, bit_halves, digit_minus, and_halves, or_halves, minus_halves}
use Rattle.words.proofs.Sets.{is_zero_lem, nonzero, member_nonzero, half_nonzero, some_member, within_antisym, and_whole, bit_within, minus_empty, with_rest, lt_within}
use Rattle.words.proofs.Unions.{meets_or, meets_bit}
use Rattle.words.proofs.Lowest.{lowest_odd, lowest_even, lowest_is, lowest_within}

-- the empty word has none
pub ones_zero : ones 0 ≡ 0
unfolding ones ones_in
ones_zero = refl

-- the count of a word whose half and lowest digit are known
ones_of : {x : ℕ} (q : ℕ) (p : Bool) → x ≡ q * 2 + digit p → ones x ≡ digit p + ones q
ones_of {x} q p e = ones_step x ∙ ap₂ (λ (d h : ℕ). d + ones h) (lowest_digit x ∙ ap digit (odd_of q p e)) (half_of q p e)

-- a word of one variable has one
pub ones_bit : (k : ℕ) → ones (2 ^ k) ≡ 1
unfolding ones ones_in
ones_bit zero = refl
ones_bit (suc k) = ones_of (2 ^ k) false (bit_halves k) ∙ ap (λ (n : ℕ). 0 + n) (ones_bit k)

-- the first n variables are n
pub ones_first_of : (n : ℕ) → ones (first_vars n) ≡ n
unfolding first_vars
ones_first_of n = ones-ones n

-- ---- two words

-- a union and an intersection together, at one digit
digit_or_and : (p q : Bool) → digit (p || q) + digit (p && q) ≡ digit p + digit q
digit_or_and true true = refl
digit_or_and true false = refl
digit_or_and false true = refl
digit_or_and false false = refl

-- a union and an intersection together
ones_or_and : (a b : ℕ) → ones (bit_or a b) + ones (bit_and a b) ≡ ones a + ones b
ones_or_and =
    bin_ind (λ (a : ℕ). (b : ℕ) → ones (bit_or a b) + ones (bit_and a b) ≡ ones a + ones b) (λ b. omega (arith, ones_zero))
    (λ a ih b. omega (
      arith,
      ih (b / 2),
      digit_or_and (odd a) (odd b),
      ones_of (bit_or (a / 2) (b / 2)) (odd a || odd b) (or_halves a b),
      ones_of (bit_and (a / 2) (b / 2)) (odd a && odd b) (and_halves a b),
      ones_of (a / 2) (odd a) (halves a),
      ones_of (b / 2) (odd b) (halves b),
    ))

-- words without a member in common
pub ones_disjoint : (a b : ℕ) → meets a b ≡ false → ones (bit_or a b) ≡ ones a + ones b
unfolding meets
ones_disjoint a b e = omega (arith, ones_or_and a b, ones_zero, ap ones (is_zero_lem (bit_and a b) (not-false (is_zero (bit_and a b)) e)))

-- the members of a that b has, and those that it lacks
ones_and_minus : (a b : ℕ) → ones a ≡ ones (bit_and a b) + ones (minus a b)
unfolding minus
ones_and_minus =
    bin_ind (λ (a : ℕ). (b : ℕ) → ones a ≡ ones (bit_and a b) + ones (minus a b)) (λ b. omega (arith, ones_zero))
    (λ a ih b. omega (
      arith,
      ih (b / 2),
      digit_minus (odd a) (odd b),
      ones_of (minus (a / 2) (b / 2)) (odd a && not (odd b)) (minus_halves a b),
      ones_of (bit_and (a / 2) (b / 2)) (odd a && odd b) (and_halves a b),
      ones_of (a / 2) (odd a) (halves a),
    ))

-- of a word and another within it
ones_rest : (a b : ℕ) → Within a b → ones b ≡ ones a + ones (minus b a)
ones_rest a b f = ones_and_minus b a ∙ ap (λ (x : ℕ). ones x + ones (minus b a)) (and_comm b a ∙ and_whole a b f)

-- a word is one more than it is without one of its members
pub ones_remove : (x k : ℕ) → has x k ≡ true → ones x ≡ suc (ones (minus x (2 ^ k)))
ones_remove x k h = omega (arith, ones_rest (2 ^ k) x (bit_within x k h), ones_bit k)

-- a word that is not empty counts
ones_pos : (x : ℕ) → is_zero x ≡ false → 0 < ones x
ones_pos x n = let m = some_member x n in omega (arith, ones_remove x m.0 m.1)

-- a word has no members to count exactly if it is empty
pub zero_ones : (x : ℕ) → is_zero (ones x) ≡ is_zero x
zero_ones x = go (is_zero x) refl
  where
    go : (b : Bool) → is_zero x ≡ b → is_zero (ones x) ≡ b
    go true e = ap (λ (y : ℕ). is_zero (ones y)) (is_zero_lem x e) ∙ ap is_zero ones_zero
    go false e = nonzero (ones x) (λ z. omega (arith, ones_pos x e, z))

-- a word that counts nothing is empty
ones_none : (x : ℕ) → ones x ≡ 0 → is_zero x ≡ true
ones_none x e = go (is_zero x) refl
  where
    go : (z : Bool) → is_zero x ≡ z → z ≡ true
    go true n = refl
    go false n = absurd (omega (arith, ones_pos x n))

-- a word has no more members than a word around it
pub ones_within : (a b : ℕ) → Within a b → ones a ≤ ones b
ones_within a b f = omega (arith, ones_rest a b f)

-- and fewer, unless the two are equal
pub ones_strict : (a b : ℕ) → Within a b → a ≢ b → ones a < ones b
ones_strict a b f n = go (is_zero (minus b a)) refl
  where
    go : (z : Bool) → is_zero (minus b a) ≡ z → ones a < ones b
    go true e = absurd (n (within_antisym a b f (minus_empty b a e)))
    go false e = omega (arith, ones_rest a b f, ones_pos (minus b a) e)

-- a word with one member is a word of one variable
pub ones_one : (x : ℕ) → ones x ≡ 1 → (k : ℕ) × (x ≡ 2 ^ k)
ones_one x e = go (is_zero x) refl
  where
    go : (z : Bool) → is_zero x ≡ z → (k : ℕ) × (x ≡ 2 ^ k)
    go true n = absurd (omega (arith, ap ones (is_zero_lem x n), ones_zero))
    go false n =
        let m = some_member x n in (
          m.0,
          within_antisym x (2 ^ m.0) (minus_empty x (2 ^ m.0) (ones_none (minus x (2 ^ m.0)) (omega (arith, ones_remove x m.0 m.1)))) (bit_within x m.0 m.1),
        )

-- ---- the lowest member by its number

-- the lowest member of a word of w digits is at the first set digit
pub lowest_trailing : (w x : ℕ) → is_zero x ≡ false → x < 2 ^ w → lowest x ≡ 2 ^ count_trailing_zeros w x
unfolding count_trailing_zeros
lowest_trailing zero x n h = absurd (true≢false (sym (ap is_zero (lt-one h)) ∙ n))
lowest_trailing (suc w) x n h = go (λ z. lowest_trailing w (x / 2) z (shr_lt w 1 (subst (λ (d : ℕ). x < 2 ^ d) (sym (add-one w)) h))) (odd x) refl
  where
    -- the digit x % 2 is that of p
    at : {p : Bool} → odd x ≡ p → 2 ^ under (digit p) (count_trailing_zeros w (x / 2)) ≡ 2 ^ under (x % 2) (count_trailing_zeros w (x / 2))
    at o = ap (λ (d : ℕ). 2 ^ under d (count_trailing_zeros w (x / 2))) (sym (lowest_digit x ∙ ap digit o))

    go : (is_zero (x / 2) ≡ false → lowest (x / 2) ≡ 2 ^ count_trailing_zeros w (x / 2)) → (p : Bool) → odd x ≡ p → lowest x ≡ 2 ^ under (x % 2) (count_trailing_zeros w (x / 2))
    go ih true o = lowest_odd x (x / 2) (halves_at x o) ∙ at o
    go ih false o =
        let z = half_nonzero x n o in
        lowest_even x (x / 2) z (halves_at x o) ∙ ap (λ (y : ℕ). y * 2) (ih z) ∙ sym (pow-suc 2 (count_trailing_zeros w (x / 2))) ∙ at o

-- the number of zeros below the first set digit is a member, and no number below it is
pub trailing_member : (w x : ℕ) → is_zero x ≡ false → x < 2 ^ w → (has x (count_trailing_zeros w x) ≡ true) × ((j : ℕ) → j < count_trailing_zeros w x → has x j ≡ false)
trailing_member w x n h =
    let m = lowest_is x n in
    let t = count_trailing_zeros w x in
    let e : m.0 ≡ t = has_bit_eq m.0 t (ap (λ (y : ℕ). has y t) (sym m.1 ∙ lowest_trailing w x n h) ∙ has_bit t) in
    (ap (has x) (sym e) ∙ m.2, λ j l. m.3 j (subst (λ (k : ℕ). j < k) (sym e) l))

-- that number is below the number of digits
pub trailing_lt : (w x : ℕ) → is_zero x ≡ false → x < 2 ^ w → count_trailing_zeros w x < w
trailing_lt w x n h =
    let t = count_trailing_zeros w x in ltb-true t w (sym (has_first_vars w t) ∙ lt_within w x h t (trailing_member w x n h).0)

-- of a word of one variable it is the variable's number
pub trailing_bit : (w k : ℕ) → k < w → count_trailing_zeros w (2 ^ k) ≡ k
trailing_bit w k h =
    let n = member_nonzero (2 ^ k) k (has_bit k) in
    let t = count_trailing_zeros w (2 ^ k) in
    sym (has_bit_eq k t (trailing_member w (2 ^ k) n (pow-lt h)).0)

-- without its lowest member a word has every other member
pub rest_other : (w x : ℕ) → is_zero x ≡ false → x < 2 ^ w → (k : ℕ) → k ≢ count_trailing_zeros w x → has (minus x (lowest x)) k ≡ has x k
rest_other w x n h k other =
    let t = count_trailing_zeros w x in
    has_minus x (lowest x) k
    ∙ ap (λ (p : Bool). has x k && not p) (ap (λ (y : ℕ). has y k) (lowest_trailing w x n h) ∙ has_bit_other t k (λ e. other (sym e)))
    ∙ and-true (has x k)

-- and not that one
pub rest_lowest : (w x : ℕ) → is_zero x ≡ false → x < 2 ^ w → has (minus x (lowest x)) (count_trailing_zeros w x) ≡ false
rest_lowest w x n h =
    let t = count_trailing_zeros w x in
    has_minus x (lowest x) t
    ∙ ap (λ (p : Bool). has x t && not p) (ap (λ (y : ℕ). has y t) (lowest_trailing w x n h) ∙ has_bit t)
    ∙ and-false (has x t)

-- to meet a word is to have its lowest member, or to meet what is left without it
pub meets_lowest : (w x y : ℕ) → is_zero y ≡ false → y < 2 ^ w → meets x y ≡ (has x (count_trailing_zeros w y) || meets x (minus y (lowest y)))
meets_lowest w x y n h =
    ap (meets x) (sym (with_rest y (lowest y) (lowest_within y)))
    ∙ meets_or x (lowest y) (minus y (lowest y))
    ∙ ap (λ (p : Bool). p || meets x (minus y (lowest y))) (ap (meets x) (lowest_trailing w y n h) ∙ meets_bit x (count_trailing_zeros w y))

-- of one variable a word has one member or none
pub ones_bit_and : (x k : ℕ) → ones (bit_and x (2 ^ k)) ≡ digit (has x k)
unfolding meets
ones_bit_and x k = go (has x k) refl
  where
    go : (p : Bool) → has x k ≡ p → ones (bit_and x (2 ^ k)) ≡ digit p
    go true h = ap ones (and_comm x (2 ^ k) ∙ and_whole (2 ^ k) x (bit_within x k h)) ∙ ones_bit k
    go false h = ap ones (is_zero_lem (bit_and x (2 ^ k)) (not-false _ (meets_bit x k ∙ h))) ∙ ones_zero
