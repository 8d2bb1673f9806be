-- What is demanded of the words, each as a named type that is proved in `proofs/`: the definitions by arithmetic say what a reader takes them to say.
use Rattle.std.specs.Prelude.{◌≡◌, true, false, not, ◌&&◌, ℕ, ◌^◌, ◌<◌, ltb}
use mathlib.Core.List.{List, [], ◌∷◌, Memᴰ}
use Rattle.std.specs.Int.Count.{count_trailing_zeros}
use Rattle.words.specs.Words.{is_zero, has, minus, first_vars, lowest, members}

-- w is the word of the lowest member of x: it is a member, and none below it is
pub record IsLowest (x w : ℕ) : Type 0 where
  pub var : ℕ
  pub word : w ≡ 2 ^ var
  pub member : has x var ≡ true
  pub none_below : (j : ℕ) → j < var → has x j ≡ false

-- `lowest` is the lowest member
abbrev pub LowestMember : Type 0
LowestMember = (x : ℕ) → is_zero x ≡ false → IsLowest x (lowest x)

-- and trailing zeros give its number
abbrev pub TrailingZeros : Type 0
TrailingZeros = (digits x : ℕ) → is_zero x ≡ false → x < 2 ^ digits → lowest x ≡ 2 ^ count_trailing_zeros digits x

-- a difference has what the one word has and the other has not
abbrev pub Difference : Type 0
Difference = (a b k : ℕ) → has (minus a b) k ≡ (has a k && not (has b k))

-- the first n variables are those below n
abbrev pub FirstVariables : Type 0
FirstVariables = (n k : ℕ) → has (first_vars n) k ≡ ltb k n

-- words with the same members are the same
abbrev pub SameMembers : Type 0
SameMembers = (a b : ℕ) → ((k : ℕ) → has a k ≡ has b k) → a ≡ b

-- each number is below all that stand after it
abbrev pub Ascending : List ℕ → Type 0
Ascending [] = Unit {0}
Ascending (w ∷ ws) = ((v : ℕ) → Memᴰ v ws → w < v) × Ascending ws

-- the words of the variables that P is about, of one variable each, lowest first
pub record LowestFirst (P : ℕ → Type 0) (ws : List ℕ) : Type 0 where
  pub each : (w : ℕ) → Memᴰ w ws → (k : ℕ) × (w ≡ 2 ^ k) × P k
  pub all : (k : ℕ) → P k → Memᴰ (2 ^ k) ws
  pub ascending : Ascending ws

-- the listed members are just the members, lowest first
abbrev pub ListedMembers : Type 0
ListedMembers = (x : ℕ) → LowestFirst (λ k. has x k ≡ true) (members x)

pub record Demands : Type 0 where
  pub lowest_member : LowestMember
  pub trailing_zeros : TrailingZeros
  pub difference : Difference
  pub first_variables : FirstVariables
  pub same_members : SameMembers
  pub listed_members : ListedMembers
