-- The lowest member of a word, and the list of all its members. Of an odd word the lowest member is variable 0, since the words x and x - 1 differ in it alone; an even word x has the lowest member
-- of its half, one place up, since x - 1 is then odd and has the half of x less 1. Taking the lowest member off leaves a smaller word, so a word is itself a bound on how often that can be done,
-- and the list of members is the lowest one followed by the members of what is left.
use mathlib.Core.Path.{◌≡◌, refl, sym, ap, ap₂, ◌∙◌}
use mathlib.Core.Logic.{◌⊎◌, inl, inr}
use mathlib.Core.Bool.{Bool, true, false, not, ◌&&◌, true≢false, false≢true}
use mathlib.Core.List.Memᴰ
use mathlib.Core.List.{List, [], ◌∷◌, Memᴰ}
use Prim.Native.Nat.{ℕ, zero, suc, ◌+◌, ◌-◌, ◌*◌, ◌/◌, ◌^◌, ◌≤◌, ◌<◌}
use native.Mathlib.Nat.{le_refl, le_trans, le_of_suc-le-suc, not-suc-le-zero, sub_self, add-zero, pow-suc}
use native.Mathlib.Decide.{dec_lt, le_ind}
use native.Mathlib.Omega.{arith}
use borrow.Author.Tests.{eqb-true, eqb-false}
use lib.Arith.{bin_ind}
use lib.Bits.{bit_and, and_self, and_le_l}
use lib.Dec.{eqb}
use lib.Pow.{pow-lt}
use Rattle.words.specs.Words.{is_zero, odd, digit, has, minus, meets, lowest, members, members_up_to, Within}
use Rattle.words.specs.Demands.{Ascending, ListedMembers}
use Rattle.words.proofs.Membership.{halves_at, odd_of, half_of, has_first, has_next, has_zero, has_bit, has_bit_other, has_bit_eq, has_minus, minus_halves}
use Rattle.words.proofs.Sets.{member_nonzero, half_nonzero, minus_within, minus_out, meets_intro}

-- ---- the lowest member, by halves

-- a difference whose halves and lowest digits are known
minus_of : {a b : ℕ} (q r : ℕ) (s t : Bool) → a ≡ q * 2 + digit s → b ≡ r * 2 + digit t → minus a b ≡ minus q r * 2 + digit (s && not t)
minus_of {a} {b} q r s t e f = minus_halves a b ∙ rw (half_of q s e, half_of r t f, odd_of q s e, odd_of r t f)

-- nothing is left of a word without itself
minus_self : (a : ℕ) → minus a a ≡ 0
unfolding minus
minus_self a = ap (λ (x : ℕ). a - x) (and_self a) ∙ sub_self a

-- the lowest member of an odd word
pub lowest_odd : (x q : ℕ) → x ≡ q * 2 + digit true → lowest x ≡ 1
unfolding lowest
lowest_odd x q e = minus_of q q true false e (omega arith) ∙ ap (λ (d : ℕ). d * 2 + 1) (minus_self q)

-- the lowest member of an even word that is not empty is that of its half, one place up
pub lowest_even : (x q : ℕ) → is_zero q ≡ false → x ≡ q * 2 + digit false → lowest x ≡ lowest q * 2
unfolding lowest
lowest_even x zero n e = absurd (true≢false n)
lowest_even x (suc q) n e = minus_of (suc q) (suc q - 1) false true e (omega arith) ∙ add-zero (lowest (suc q) * 2)

-- the empty word has none
pub lowest_zero : lowest 0 ≡ 0
unfolding lowest minus
lowest_zero = refl

-- the lowest member is a member, and there is none below it
pub lowest_is : (x : ℕ) → is_zero x ≡ false → (k : ℕ) × (lowest x ≡ 2 ^ k) × (has x k ≡ true) × ((j : ℕ) → j < k → has x j ≡ false)
lowest_is =
    bin_ind (λ (x : ℕ). is_zero x ≡ false → (k : ℕ) × (lowest x ≡ 2 ^ k) × (has x k ≡ true) × ((j : ℕ) → j < k → has x j ≡ false)) (λ n. absurd (true≢false n))
    (λ x ih n. go x ih n (odd x) refl)
  where
    go : (x : ℕ) → (is_zero (x / 2) ≡ false → (k : ℕ) × (lowest (x / 2) ≡ 2 ^ k) × (has (x / 2) k ≡ true) × ((j : ℕ) → j < k → has (x / 2) j ≡ false))
        → is_zero x ≡ false → (p : Bool) → odd x ≡ p → (k : ℕ) × (lowest x ≡ 2 ^ k) × (has x k ≡ true) × ((j : ℕ) → j < k → has x j ≡ false)
    go x ih n true o = (
      zero,
      lowest_odd x (x / 2) (halves_at x o),
      has_first x ∙ o,
      λ j l. absurd (not-suc-le-zero l),
    )
    go x ih n false o =
        let z = half_nonzero x n o in
        let m = ih z in (
          suc m.0,
          lowest_even x (x / 2) z (halves_at x o) ∙ ap (λ (y : ℕ). y * 2) m.1 ∙ sym (pow-suc 2 m.0),
          has_next x m.0 ∙ m.2,
          below x m.0 o m.3,
        )
      where
        below : (x k : ℕ) → odd x ≡ false → ((j : ℕ) → j < k → has (x / 2) j ≡ false) → (j : ℕ) → j < suc k → has x j ≡ false
        below x k o f zero l = has_first x ∙ o
        below x k o f (suc j) l = has_next x j ∙ f j (le_of_suc-le-suc l)

-- of a word of one variable it is that word
pub lowest_bit : (k : ℕ) → lowest (2 ^ k) ≡ 2 ^ k
lowest_bit k =
    let low = lowest_is (2 ^ k) (member_nonzero (2 ^ k) k (has_bit k)) in
    low.1 ∙ ap (λ (j : ℕ). 2 ^ j) (sym (has_bit_eq k low.0 low.2))

-- the lowest member is a member
pub lowest_within : (x : ℕ) → Within (lowest x) x
unfolding lowest
lowest_within x = minus_within x (x - 1)

-- ---- the list of members

-- the empty word has no members
pub members_zero : members 0 ≡ []
unfolding members
members_zero = refl

-- what is left without the lowest member is smaller
pub rest_lt : (x : ℕ) → is_zero x ≡ false → minus x (lowest x) < x
unfolding minus meets
rest_lt x n =
    let m = lowest_is x n in
    let h : meets x (lowest x) ≡ true = meets_intro x (lowest x) m.0 m.2 (ap (λ (y : ℕ). has y m.0) m.1 ∙ has_bit m.0) in
    let p = pos (bit_and x (lowest x)) h in
    omega (arith, and_le_l x (lowest x))
  where
    pos : (y : ℕ) → not (is_zero y) ≡ true → zero < y
    pos zero e = absurd (false≢true e)
    pos (suc y) e = omega arith

-- a bound beyond the word changes nothing
more : (k x : ℕ) → x ≤ k → members_up_to (suc k) x ≡ members_up_to k x
unfolding members_up_to
more zero zero h = refl
more zero (suc x) h = absurd (not-suc-le-zero h)
more (suc k) zero h = refl
more (suc k) (suc x) h =
    ap (λ (l : List ℕ). lowest (suc x) ∷ l) (more k (minus (suc x) (lowest (suc x))) (le_of_suc-le-suc (le_trans (rest_lt (suc x) refl) h)))

-- so the word itself is bound enough
enough : (k x : ℕ) → x ≤ k → members_up_to k x ≡ members x
unfolding members
enough k x h = le_ind (λ (m : ℕ). members_up_to m x ≡ members_up_to x x) refl (λ m l e. more m x l ∙ e) k h

-- the members are the lowest one and those of what is left
pub members_step : (x : ℕ) → is_zero x ≡ false → members x ≡ lowest x ∷ members (minus x (lowest x))
unfolding members
members_step zero n = absurd (true≢false n)
members_step (suc x) n = ap (λ (l : List ℕ). lowest (suc x) ∷ l) (enough x (minus (suc x) (lowest (suc x))) (le_of_suc-le-suc (rest_lt (suc x) n)))

-- each in the list is a member, whatever the bound
listed_are : (n x w : ℕ) → Memᴰ w (members_up_to n x) → (k : ℕ) × (w ≡ 2 ^ k) × (has x k ≡ true)
unfolding members_up_to
listed_are zero x w m = absurd (Memᴰ.not-nil m)
listed_are (suc n) zero w m = absurd (Memᴰ.not-nil m)
listed_are (suc n) (suc x) w m = go (listed_are n (minus (suc x) (lowest (suc x))) w) (Memᴰ.cases_cons m)
  where
    go : (Memᴰ w (members_up_to n (minus (suc x) (lowest (suc x)))) → (k : ℕ) × (w ≡ 2 ^ k) × (has (minus (suc x) (lowest (suc x))) k ≡ true))
        → (w ≡ lowest (suc x)) ⊎ Memᴰ w (members_up_to n (minus (suc x) (lowest (suc x)))) → (k : ℕ) × (w ≡ 2 ^ k) × (has (suc x) k ≡ true)
    go ih (inl e) = let l = lowest_is (suc x) refl in (l.0, e ∙ l.1, l.2)
    go ih (inr t) = let l = ih t in (l.0, l.1, minus_within (suc x) (lowest (suc x)) l.0 l.2)

-- each of the members is a member
pub members_are : (x w : ℕ) → Memᴰ w (members x) → (k : ℕ) × (w ≡ 2 ^ k) × (has x k ≡ true)
unfolding members
members_are x w m = listed_are x x w m

-- each member is in the list, where the word is within the bound
are_listed : (n x k : ℕ) → x ≤ n → has x k ≡ true → Memᴰ (2 ^ k) (members_up_to n x)
unfolding members_up_to
are_listed zero zero k h m = absurd (false≢true (sym (has_zero k) ∙ m))
are_listed zero (suc x) k h m = absurd (not-suc-le-zero h)
are_listed (suc n) zero k h m = absurd (false≢true (sym (has_zero k) ∙ m))
are_listed (suc n) (suc x) k h m = go (are_listed n (minus (suc x) (lowest (suc x))) k (le_of_suc-le-suc (le_trans (rest_lt (suc x) refl) h))) (lowest_is (suc x) refl)
  where
    go : (has (minus (suc x) (lowest (suc x))) k ≡ true → Memᴰ (2 ^ k) (members_up_to n (minus (suc x) (lowest (suc x)))))
        → (j : ℕ) × (lowest (suc x) ≡ 2 ^ j) × (has (suc x) j ≡ true) × ((i : ℕ) → i < j → has (suc x) i ≡ false)
        → Memᴰ (2 ^ k) (lowest (suc x) ∷ members_up_to n (minus (suc x) (lowest (suc x))))
    go ih l = pick (eqb l.0 k) refl
      where
        pick : (t : Bool) → eqb l.0 k ≡ t → Memᴰ (2 ^ k) (lowest (suc x) ∷ members_up_to n (minus (suc x) (lowest (suc x))))
        pick true e = Memᴰ.head (sym (l.1 ∙ ap (λ (i : ℕ). 2 ^ i) (eqb-true l.0 k e)))
        pick false e =
            Memᴰ.tail
            (ih (has_minus (suc x) (lowest (suc x)) k
            ∙ ap₂ (λ (p q : Bool). p && not q) m (ap (λ (y : ℕ). has y k) l.1 ∙ has_bit_other l.0 k (eqb-false l.0 k e))))

-- each member is one of the members
pub are_members : (x k : ℕ) → has x k ≡ true → Memᴰ (2 ^ k) (members x)
unfolding members
are_members x k m = are_listed x x k (le_refl x) m

-- a member of what is left without the lowest one is above it
above_lowest : (x v : ℕ) → is_zero x ≡ false → (k : ℕ) × (v ≡ 2 ^ k) × (has (minus x (lowest x)) k ≡ true) → lowest x < v
above_lowest x v n m =
    let l = lowest_is x n in
    elim (dec_lt l.0 m.0) [
      | yes below ↦ rw (l.1, m.1) (pow-lt below)
      | no not_below ↦ elim (dec_lt m.0 l.0) [
        | yes above ↦ absurd (true≢false (sym (minus_within x (lowest x) m.0 m.2) ∙ l.3 m.0 above))
        | no not_above ↦
            let same : l.0 ≡ m.0 = omega arith in
            absurd (true≢false (sym (ap (λ (y : ℕ). has y m.0) (l.1 ∙ ap (λ (i : ℕ). 2 ^ i) same) ∙ has_bit m.0) ∙ minus_out x (lowest x) m.0 m.2))
      ]
    ]

-- each in the list is below all after it
listed_ascending : (n x : ℕ) → Ascending (members_up_to n x)
unfolding members_up_to
listed_ascending zero x = tt
listed_ascending (suc n) zero = tt
listed_ascending (suc n) (suc x) = (
  λ v m. above_lowest (suc x) v refl (listed_are n (minus (suc x) (lowest (suc x))) v m),
  listed_ascending n (minus (suc x) (lowest (suc x))),
)

-- the members are listed lowest first
pub lowest_first : ListedMembers
unfolding members
lowest_first x = record { each = members_are x; all = are_members x; ascending = listed_ascending x x }
