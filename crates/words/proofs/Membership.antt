-- Membership in each word that an operation makes. A word is its lowest binary digit and its half, the word of the digits above: member 0 is read off the lowest digit, and member k + 1 is member k of the half.
-- So an operation that works on each digit by itself acts on members as it acts on digits, by induction on k; union, intersection and difference are three such operations.
-- Two words with the same members are equal, by induction on halves.
use mathlib.Core.Path.{◌≡◌, refl, sym, ap, ap₂, ◌∙◌}
use mathlib.Core.Logic.{◌≢◌}
use mathlib.Core.Bool.{Bool, true, false, not, ◌&&◌, ◌||◌, true≢false}
use Prim.Native.Nat.{ℕ, zero, suc, ◌+◌, ◌-◌, ◌*◌, ◌/◌, ◌%◌, ◌^◌, ◌<◌, min, max}
use native.Mathlib.Nat.{zero-lt-suc, not-suc-le-zero, le_of_suc-le-suc, le_refl, mod-lt, div-add-mod', div-one, add-zero, pow-suc}
use native.Mathlib.Omega.{arith}
use lib.Arith.{bin_ind, digits_div, digits_mod, dbl_pred}
use lib.Bits.{bit_and, bit_or, and_step, or_step, and_le_l}
use borrow.Author.Tests.{eqb-true, eqb-false}
use lib.Dec.{ltb, eqb, leb-zero, leb-suc-zero, leb-suc-suc}
use lib.Pow.{pow_pos, shr-shr}
use Rattle.words.specs.Words.{is_zero, odd, digit, has, minus, first_vars}

-- ---- a word as its half and its lowest digit

-- a digit is 0 or 1
digit_small : (p : Bool) → digit p < 2
digit_small true = le_refl 2
digit_small false = zero-lt-suc 1

-- a number below 2 is the digit that says whether it differs from 0
digit_odd : (d : ℕ) → d < 2 → d ≡ digit (not (is_zero d))
digit_odd zero h = refl
digit_odd (suc zero) h = refl
digit_odd (suc (suc d)) h = absurd (not-suc-le-zero (le_of_suc-le-suc (le_of_suc-le-suc h)))

-- and that digit differs from 0 where p holds
odd_digit : (p : Bool) → not (is_zero (digit p)) ≡ p
odd_digit true = refl
odd_digit false = refl

-- the lowest digit of x
pub lowest_digit : (x : ℕ) → x % 2 ≡ digit (odd x)
lowest_digit x = digit_odd (x % 2) (mod-lt x (zero-lt-suc 1))

-- x is its half and its lowest digit
pub halves : (x : ℕ) → x ≡ x / 2 * 2 + digit (odd x)
halves x = sym (div-add-mod' x 2) ∙ ap (λ (d : ℕ). x / 2 * 2 + d) (lowest_digit x)

-- the same, where the lowest digit is known
pub halves_at : (x : ℕ) {p : Bool} → odd x ≡ p → x ≡ x / 2 * 2 + digit p
halves_at x e = halves x ∙ ap (λ (p : Bool). x / 2 * 2 + digit p) e

-- the lowest digit of a word that is made of a half and a lowest digit
pub odd_of : {x : ℕ} (q : ℕ) (p : Bool) → x ≡ q * 2 + digit p → odd x ≡ p
odd_of q p e = ap odd e ∙ ap (λ (d : ℕ). not (is_zero d)) (digits_mod q (digit_small p)) ∙ odd_digit p

-- and its half
pub half_of : {x : ℕ} (q : ℕ) (p : Bool) → x ≡ q * 2 + digit p → x / 2 ≡ q
half_of q p e = ap (λ (x : ℕ). x / 2) e ∙ digits_div q (digit_small p)

-- member 0 is the lowest digit
pub has_first : (x : ℕ) → has x zero ≡ odd x
unfolding has
has_first x = ap odd (div-one x)

-- member k + 1 is member k of the half
pub has_next : (x k : ℕ) → has x (suc k) ≡ has (x / 2) k
unfolding has
has_next x k = ap odd (ap (λ (j : ℕ). x / 2 ^ j) (omega arith) ∙ sym (shr-shr x 1 k))

-- member 0 of a word that is made of a half and a lowest digit
has_first_var : {x : ℕ} (q : ℕ) (p : Bool) → x ≡ q * 2 + digit p → has x zero ≡ p
has_first_var {x} q p e = has_first x ∙ odd_of q p e

-- member k + 1 of such a word
has_next_of : {x : ℕ} (q : ℕ) (p : Bool) → x ≡ q * 2 + digit p → (k : ℕ) → has x (suc k) ≡ has q k
has_next_of {x} q p e k = has_next x k ∙ ap (λ (y : ℕ). has y k) (half_of q p e)

-- ---- an operation that works on each digit by itself

module _ (op : ℕ → ℕ → ℕ) (f : Bool → Bool → Bool) (step : (a b : ℕ) → op a b ≡ op (a / 2) (b / 2) * 2 + digit (f (odd a) (odd b))) where
  -- acts on members as on digits
  by_digits : (a b k : ℕ) → has (op a b) k ≡ f (has a k) (has b k)
  by_digits a b zero = has_first_var (op (a / 2) (b / 2)) (f (odd a) (odd b)) (step a b) ∙ sym (ap₂ f (has_first a) (has_first b))
  by_digits a b (suc k) =
      has_next_of (op (a / 2) (b / 2)) (f (odd a) (odd b)) (step a b) k ∙ by_digits (a / 2) (b / 2) k ∙ sym (ap₂ f (has_next a k) (has_next b k))

-- the digit of a conjunction
digit_and : (p q : Bool) → min (digit p) (digit q) ≡ digit (p && q)
digit_and true true = refl
digit_and true false = refl
digit_and false true = refl
digit_and false false = refl

-- the digit of a disjunction
digit_or : (p q : Bool) → max (digit p) (digit q) ≡ digit (p || q)
digit_or true true = refl
digit_or true false = refl
digit_or false true = refl
digit_or false false = refl

-- a digit is split by another: where that is set, and where it is not
pub digit_minus : (p q : Bool) → digit p ≡ digit (p && q) + digit (p && not q)
digit_minus true true = refl
digit_minus true false = refl
digit_minus false true = refl
digit_minus false false = refl

-- the half and the lowest digit of an intersection
pub and_halves : (a b : ℕ) → bit_and a b ≡ bit_and (a / 2) (b / 2) * 2 + digit (odd a && odd b)
and_halves a b =
    and_step a b
    ∙ ap (λ (d : ℕ). bit_and (a / 2) (b / 2) * 2 + d) (ap₂ min (lowest_digit a) (lowest_digit b) ∙ digit_and (odd a) (odd b))

-- the half and the lowest digit of a union
pub or_halves : (a b : ℕ) → bit_or a b ≡ bit_or (a / 2) (b / 2) * 2 + digit (odd a || odd b)
or_halves a b =
    or_step a b
    ∙ ap (λ (d : ℕ). bit_or (a / 2) (b / 2) * 2 + d) (ap₂ max (lowest_digit a) (lowest_digit b) ∙ digit_or (odd a) (odd b))

-- the half and the lowest digit of a difference: a digit of the intersection is at most that of a, so no digit borrows
pub minus_halves : (a b : ℕ) → minus a b ≡ minus (a / 2) (b / 2) * 2 + digit (odd a && not (odd b))
unfolding minus
minus_halves a b = omega (arith, halves a, and_halves a b, and_le_l (a / 2) (b / 2), digit_minus (odd a) (odd b))

-- ---- members of an intersection, a union and a difference

-- the members of an intersection are in both
pub has_and : (a b k : ℕ) → has (bit_and a b) k ≡ (has a k && has b k)
has_and = by_digits bit_and ◌&&◌ and_halves

-- the members of a union are in either
pub has_or : (a b k : ℕ) → has (bit_or a b) k ≡ (has a k || has b k)
has_or = by_digits bit_or ◌||◌ or_halves

-- the members of a difference are in the first and not in the second
pub has_minus : (a b k : ℕ) → has (minus a b) k ≡ (has a k && not (has b k))
has_minus = by_digits minus (λ p q. p && not q) minus_halves

-- ---- members of the empty word, of a word of one variable, and of the first n variables

-- the empty word has no member
pub has_zero : (k : ℕ) → has 0 k ≡ false
has_zero zero = has_first 0
has_zero (suc k) = has_next 0 k ∙ has_zero k

-- the half and the lowest digit of a word of one variable, other than variable 0
pub bit_halves : (k : ℕ) → 2 ^ suc k ≡ 2 ^ k * 2 + digit false
bit_halves k = pow-suc 2 k ∙ sym (add-zero (2 ^ k * 2))

-- the word of variable k has k
pub has_bit : (k : ℕ) → has (2 ^ k) k ≡ true
has_bit zero = has_first 1
has_bit (suc k) = has_next_of (2 ^ k) false (bit_halves k) k ∙ has_bit k

-- and no other variable
pub has_bit_other : (j k : ℕ) → j ≢ k → has (2 ^ j) k ≡ false
has_bit_other zero zero n = absurd (n refl)
has_bit_other zero (suc k) n = has_next 1 k ∙ has_zero k
has_bit_other (suc j) zero n = has_first_var (2 ^ j) false (bit_halves j)
has_bit_other (suc j) (suc k) n = has_next_of (2 ^ j) false (bit_halves j) k ∙ has_bit_other j k (λ e. n (ap suc e))

-- so what it has is k
pub has_bit_eq : (j k : ℕ) → has (2 ^ j) k ≡ true → j ≡ k
has_bit_eq j k h = go (eqb j k) refl
  where
    go : (t : Bool) → eqb j k ≡ t → j ≡ k
    go true e = eqb-true j k e
    go false e = absurd (true≢false (sym h ∙ has_bit_other j k (eqb-false j k e)))

-- the half and the lowest digit of the first n + 1 variables
first_of_halves : (n : ℕ) → first_vars (suc n) ≡ first_vars n * 2 + digit true
unfolding first_vars
first_of_halves n = ap (λ (x : ℕ). x - 1) (pow-suc 2 n) ∙ dbl_pred (pow_pos n)

-- the first n variables are those below n
pub has_first_vars : (n k : ℕ) → has (first_vars n) k ≡ ltb k n
unfolding first_vars
has_first_vars zero k = has_zero k ∙ sym (leb-suc-zero k)
has_first_vars (suc n) zero = has_first_var (first_vars n) true (first_of_halves n) ∙ sym (leb-suc-suc zero n ∙ leb-zero n)
has_first_vars (suc n) (suc k) = has_next_of (first_vars n) true (first_of_halves n) k ∙ has_first_vars n k ∙ sym (leb-suc-suc (suc k) n)

-- ---- a word is its members

-- equal halves and equal lowest digits
same : (a b : ℕ) → a / 2 ≡ b / 2 → has a zero ≡ has b zero → a ≡ b
same a b e h = halves a ∙ ap₂ (λ (q : ℕ) (p : Bool). q * 2 + digit p) e (sym (has_first a) ∙ h ∙ has_first b) ∙ sym (halves b)

-- the halves of words with the same members have the same members
half_members : (a b : ℕ) → ((k : ℕ) → has a k ≡ has b k) → (k : ℕ) → has (a / 2) k ≡ has (b / 2) k
half_members a b h k = sym (has_next a k) ∙ h (suc k) ∙ has_next b k

-- the empty word is the only one without a member
ext_zero : (b : ℕ) → ((k : ℕ) → has 0 k ≡ has b k) → 0 ≡ b
ext_zero =
    bin_ind (λ (b : ℕ). ((k : ℕ) → has 0 k ≡ has b k) → 0 ≡ b) (λ h. refl) (λ b ih h. same 0 b (ih (half_members 0 b h)) (h zero))

-- words with the same members are equal
pub ext : (a b : ℕ) → ((k : ℕ) → has a k ≡ has b k) → a ≡ b
ext =
    bin_ind (λ (a : ℕ). (b : ℕ) → ((k : ℕ) → has a k ≡ has b k) → a ≡ b) ext_zero
    (λ a ih b h. same a b (ih (b / 2) (half_members a b h)) (h zero))
