-- What a decision changes: only its own variable. And what it tells to be the word of one variable of a set: it has that variable and no other, so it is
-- within the set and every larger one.
use mathlib.Core.Path.{◌≡◌, refl, ◌∙◌}
use mathlib.Core.Bool.{Bool, true, false, ◌||◌}
use mathlib.Core.List.{Memᴰ}
use Prim.Native.Nat.{ℕ}
use lib.Bits.{bit_or}
use Rattle.words.specs.Words.{has, Within, members}
use Rattle.words.proofs.Membership.{has_or, has_bit, has_bit_eq}
use Rattle.words.proofs.Lowest.{members_are}
use Rattle.steps.specs.Clause.{Assignment, decide}
use Rattle.steps.specs.Shape.{OneOf}

-- a decision adds its variable to the decided ones, with either value
pub decided_more : (a : Assignment) (w : ℕ) (b : Bool) → (decide a w b).decided ≡ bit_or a.decided w
decided_more a w true = refl
decided_more a w false = refl

-- and leaves the value of every other variable
pub trues_other : (a : Assignment) (w : ℕ) (b : Bool) (k : ℕ) → has w k ≡ false → has (decide a w b).trues k ≡ has a.trues k
trues_other a w true k h = has_or a.trues w k ∙ go (has a.trues k)
  where
    go : (p : Bool) → (p || has w k) ≡ p
    go true = refl
    go false = h
trues_other a w false k h = refl

-- the word of one variable of a set has that variable, and no other
pub one_has : (w x : ℕ) (one : OneOf w x) → has w one.var ≡ true
one_has w x one = rw one.word (has_bit one.var)

-- a member of the word is that variable
pub one_is : (w x : ℕ) (one : OneOf w x) (k : ℕ) → has w k ≡ true → one.var ≡ k
one_is w x one k h = has_bit_eq one.var k (rw one.word at h)

-- the word is within the set
pub one_within : (w x : ℕ) → OneOf w x → Within w x
one_within w x one k h = rw (one_is w x one k h) at one.member

-- it is one of every larger set
pub one_of_more : (w x y : ℕ) → OneOf w x → Within x y → OneOf w y
one_of_more w x y one f = record { var = one.var; word = one.word; member = f one.var one.member }

-- a word that lists among the members of a set is one of it
pub one_of_members : (x w : ℕ) → Memᴰ w (members x) → OneOf w x
one_of_members x w m = let is = members_are x w m in record { var = is.0; word = is.1; member = is.2 }
