-- A word as a set of variables: variable k is a member where the word's binary digit k is set. Nothing here depends on how many digits a word has.
use Rattle.std.specs.Prelude.{MatchOption, Option, ◌≡◌, Bool, true, false, not, List, [], ◌∷◌, map, ℕ, zero, suc, ◌-◌, ◌/◌, ◌%◌, ◌^◌, ◌<◌}
use Rattle.std.specs.Int.Bits.{bit_and}
use Rattle.std.specs.Int.Count.{count_trailing_zeros}

abbrev pub is_zero : ℕ → Bool
is_zero zero = true
is_zero (suc k) = false

-- the lowest binary digit is set
abbrev pub odd : ℕ → Bool
odd x = not (is_zero (x % 2))

-- the digit that says whether p holds
abbrev pub digit : Bool → ℕ
digit true = 1
digit false = 0

-- variable k is a member of x
unfoldable pub has : ℕ → ℕ → Bool
has x k = odd (x / 2 ^ k)

-- a without the members of b
unfoldable pub minus : ℕ → ℕ → ℕ
minus a b = a - bit_and a b

-- a and b share a member
unfoldable pub meets : ℕ → ℕ → Bool
meets a b = not (is_zero (bit_and a b))

-- the word of the first n variables
unfoldable pub first_vars : ℕ → ℕ
first_vars n = 2 ^ n - 1

-- the lowest member of x, as a word of one variable; 0 where x is empty. (x - 1 has every member of x but the lowest, and all below it.)
unfoldable pub lowest : ℕ → ℕ
unfolding minus
lowest x = minus x (x - 1)

-- k is the number of the highest member of x: it is a member, and none above it is
pub record Highest (x k : ℕ) : Type 0 where
  pub member : has x k ≡ true
  pub none_above : (j : ℕ) → k < j → has x j ≡ false

-- the members of x, each as a word of one variable, lowest first: at most k of them
unfoldable pub members_up_to : ℕ → ℕ → List ℕ
members_up_to zero x = []
members_up_to (suc k) x = elim (is_zero x) [ true ↦ [] | false ↦ lowest x ∷ members_up_to k (minus x (lowest x)) ]

-- all the members of x, each as a word of one variable, lowest first: x is never below the number of its members
unfoldable pub members : ℕ → List ℕ
unfolding members_up_to
members x = members_up_to x x

-- the numbers of the members of x, a word of 64 digits, lowest first
unfoldable pub numbers : ℕ → List ℕ
unfolding members
numbers x = map (count_trailing_zeros 64) (members x)

-- k is the number of the lowest member of x, and y has the others
pub record Taken (x k y : ℕ) : Type 0 where
  pub below : k < 64
  pub member : has x k ≡ true
  pub none_below : (j : ℕ) → j < k → has x j ≡ false
  pub rest : y ≡ minus x (2 ^ k)
  pub listed : numbers x ≡ k ∷ numbers y

-- a walk through the members that has x to come to gives the lowest one, and y is left; or it gives none, where x is empty
abbrev pub Gives : ℕ → Option ℕ → ℕ → Type 0
Gives x r y = MatchOption r ((x ≡ 0) × (y ≡ 0)) (λ k. Taken x k y)

-- every member of a is one of b
abbrev pub Within : ℕ → ℕ → Type 0
Within a b = (k : ℕ) → has a k ≡ true → has b k ≡ true
