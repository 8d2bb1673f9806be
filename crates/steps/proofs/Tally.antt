-- What a clause's tallies say, and how they change. Deciding a variable that is undecided takes its literals from those that are undecided, and adds it to the decisions
-- that satisfy the clause where it makes a literal true: both are counts of disjoint words.
use mathlib.Core.Path.{◌≡◌, refl, sym, ap, ap₂, ◌∙◌}
use mathlib.Core.Bool.{Bool, true, false, not, ◌&&◌, ◌||◌, and-false, or-false}
use Prim.Native.Nat.{ℕ, zero, suc, ◌+◌, ◌^◌}
use native.Mathlib.Nat.{zero-add}
use native.Mathlib.Omega.{arith}
use lib.Bits.{bit_and, bit_or}
use lib.Count.{ones}
use lib.Dec.{eqb}
use Rattle.words.specs.Words.{is_zero, digit, has, minus, meets}
use Rattle.words.proofs.Truth.{both_ways, refuted, not_not}
use Rattle.words.proofs.Membership.{has_and, has_or, has_minus, has_bit_eq, ext}
use Rattle.words.proofs.Sets.{nonzero, and_within_r, minus_within, meets_false_intro, minus_or, minus_both, within_antisym}
use Rattle.words.proofs.Unions.{or_nonzero, meets_or, meets_bit}
use Rattle.words.proofs.Count.{ones_disjoint, ones_remove, ones_bit_and, zero_ones}
use Rattle.steps.specs.Clause.{Clause, literals, vars, Assignment, decide, keepers, satisfied, falsified, names, inactive, undecided_in}
use Rattle.steps.specs.Enter.{unit}
use Rattle.steps.specs.Tally.{Tally, tally_of, literal, entries, decided, withdrawn, struck_by, unstruck}
use Rattle.steps.proofs.ShapeSweep.{keepers_within}
use Rattle.steps.specs.Demands.{ByTally, Free, Tallying}

-- ---- what they say

-- a sum is not 0 where one of its parts is not
sum_nonzero : (x y : ℕ) → not (is_zero (x + y)) ≡ (not (is_zero x) || not (is_zero y))
sum_nonzero zero y = ap (λ (z : ℕ). not (is_zero z)) (zero-add y)
sum_nonzero (suc x) y = ap not (nonzero (suc x + y) (λ e. omega arith))

-- a union has members to count where one of its words has
union_counted : (x y : ℕ) → is_zero (bit_or x y) ≡ is_zero (ones x + ones y)
union_counted x y =
    not_not
    (is_zero (bit_or x y))
    (is_zero (ones x + ones y))
    (or_nonzero x y ∙ sym (sum_nonzero (ones x) (ones y) ∙ ap₂ (λ (p q : Bool). not p || not q) (zero_ones x) (zero_ones y)))

not_twice : (p : Bool) → not (not p) ≡ p
not_twice true = refl
not_twice false = refl

-- it is kept where a decision keeps it
kept : (a : Assignment) (c : Clause) → satisfied a c ≡ not (is_zero (ones (keepers a c)))
unfolding satisfied
kept a c = ap not (sym (zero_ones (keepers a c)))

-- nothing is undecided where all its variables are decided
none_undecided : (a : Assignment) (c : Clause) → is_zero (minus (vars c) a.decided) ≡ is_zero (undecided_in a c)
unfolding undecided_in vars
none_undecided a c = ap is_zero (minus_or c.pos c.neg a.decided) ∙ union_counted (minus c.pos a.decided) (minus c.neg a.decided)

pub by_tally : ByTally
unfolding tally_of falsified unit inactive
by_tally =
    record {
      kept = λ a k c. kept a c;
      broken = λ a k c. ap₂ ◌&&◌ (none_undecided a c) (ap not (kept a c) ∙ not_twice (is_zero (ones (keepers a c))));
      single = λ a k c. ap (λ (p : Bool). p && (not (names k c) && eqb (undecided_in a c) 1)) (ap not (kept a c) ∙ not_twice (is_zero (ones (keepers a c))));
      out = λ a k c. ap (λ (p : Bool). p || names k c) (kept a c);
    }

-- ---- how they change

-- a variable with the literals x and y of a clause satisfies it, where it is decided (d) and fitted (t)
abbrev keeps : Bool → Bool → Bool → Bool → Bool
keeps x y d t = (x && t) || (y && (d && not t))

has_keepers : (a : Assignment) (c : Clause) (j : ℕ) → has (keepers a c) j ≡ keeps (has c.pos j) (has c.neg j) (has a.decided j) (has a.trues j)
unfolding keepers
has_keepers a c j =
    has_or (bit_and c.pos a.trues) (bit_and c.neg (minus a.decided a.trues)) j
    ∙ ap₂ ◌||◌ (has_and c.pos a.trues j)
    (has_and c.neg (minus a.decided a.trues) j ∙ ap (λ (p : Bool). has c.neg j && p) (has_minus a.decided a.trues j))

-- it is decided now, where p holds, and was not before
now_fitted : (x y d t p : Bool) → (p ≡ true → (d ≡ false) × (t ≡ false)) → keeps x y (d || p) (t || p) ≡ (keeps x y d t || (x && p))
now_fitted x y d t false f = rw (or-false d, or-false t, and-false x, or-false (keeps x y d t))
now_fitted x y d t true f = rw ((f refl).0, (f refl).1) (go x y)
  where
    go : (x y : Bool) → keeps x y true true ≡ (keeps x y false false || (x && true))
    go true true = refl
    go true false = refl
    go false true = refl
    go false false = refl

now_left_out : (x y d t p : Bool) → (p ≡ true → (d ≡ false) × (t ≡ false)) → keeps x y (d || p) t ≡ (keeps x y d t || (y && p))
now_left_out x y d t false f = rw (or-false d, and-false y, or-false (keeps x y d t))
now_left_out x y d t true f = rw ((f refl).0, (f refl).1) (go x y)
  where
    go : (x y : Bool) → keeps x y true false ≡ (keeps x y false false || (y && true))
    go true true = refl
    go true false = refl
    go false true = refl
    go false false = refl

module _ (a : Assignment) (v : ℕ) (free : Free v a) where
  -- of the literals of one sign, those undecided before are those undecided with v decided, and v's
  one_fewer : (x : ℕ) → ones (minus x a.decided) ≡ ones (minus x (bit_or a.decided (2 ^ v))) + digit (has x v)
  one_fewer x = go (has x v) refl
    where
      left : ℕ
      left = minus x a.decided

      go : (p : Bool) → has x v ≡ p → ones left ≡ ones (minus x (bit_or a.decided (2 ^ v))) + digit p
      go true h =
          let m : has left v ≡ true = has_minus x a.decided v ∙ ap₂ (λ (p q : Bool). p && not q) h free.undecided in
          omega (arith, ones_remove left v m, ap ones (minus_both x a.decided (2 ^ v)))
      go false h =
          let same : minus left (2 ^ v) ≡ left =
          within_antisym (minus left (2 ^ v)) left (minus_within left (2 ^ v))
          (λ j m.
          has_minus left (2 ^ v) j
          ∙ ap₂ (λ (p q : Bool). p && not q) m (refuted (has (2 ^ v) j) (λ b. both_ways (has x v) (ap (has x) (has_bit_eq v j b) ∙ minus_within x a.decided j m) h))) in
          omega (arith, ap ones (minus_both x a.decided (2 ^ v)), ap ones same)

  -- so with v decided the clause has fewer undecided literals, by v's
  fewer_undecided : (b : Bool) (c : Clause) → undecided_in a c ≡ undecided_in (decide a (2 ^ v) b) c + entries v c
  unfolding undecided_in
  fewer_undecided true c = omega (arith, one_fewer c.pos, one_fewer c.neg)
  fewer_undecided false c = omega (arith, one_fewer c.pos, one_fewer c.neg)

  -- v is no decision that satisfies the clause before it is made
  not_keeper : (c : Clause) (j : ℕ) → has (keepers a c) j ≡ true → has (2 ^ v) j ≡ false
  not_keeper c j m =
      refuted (has (2 ^ v) j)
      (λ b. both_ways (has a.decided v) (ap (has a.decided) (has_bit_eq v j b) ∙ keepers_within a c free.trues j m) free.undecided)

  -- the decisions that satisfy the clause with v decided: those before, and v where its literal is made true
  more_keepers : (b : Bool) (c : Clause) → keepers (decide a (2 ^ v) b) c ≡ bit_or (keepers a c) (bit_and (literals b c) (2 ^ v))
  more_keepers b c = ext _ _ (λ j. at b j)
    where
      -- where the variable j is v, it was not decided
      before : (j : ℕ) → has (2 ^ v) j ≡ true → (has a.decided j ≡ false) × (has a.trues j ≡ false)
      before j h =
          let d : has a.decided j ≡ false = ap (has a.decided) (sym (has_bit_eq v j h)) ∙ free.undecided in
          (d, refuted (has a.trues j) (λ m. both_ways (has a.decided j) (free.trues j m) d))

      either : (x j : ℕ) → has (bit_or (keepers a c) (bit_and x (2 ^ v))) j ≡ (keeps (has c.pos j) (has c.neg j) (has a.decided j) (has a.trues j) || (has x j && has (2 ^ v) j))
      either x j = has_or (keepers a c) (bit_and x (2 ^ v)) j ∙ ap₂ ◌||◌ (has_keepers a c j) (has_and x (2 ^ v) j)

      at : (b : Bool) (j : ℕ) → has (keepers (decide a (2 ^ v) b) c) j ≡ has (bit_or (keepers a c) (bit_and (literals b c) (2 ^ v))) j
      at true j =
          has_keepers (decide a (2 ^ v) true) c j
          ∙ ap₂ (keeps (has c.pos j) (has c.neg j)) (has_or a.decided (2 ^ v) j) (has_or a.trues (2 ^ v) j)
          ∙ now_fitted (has c.pos j) (has c.neg j) (has a.decided j) (has a.trues j) (has (2 ^ v) j) (before j)
          ∙ sym (either c.pos j)
      at false j =
          has_keepers (decide a (2 ^ v) false) c j
          ∙ ap (λ (d : Bool). keeps (has c.pos j) (has c.neg j) d (has a.trues j)) (has_or a.decided (2 ^ v) j)
          ∙ now_left_out (has c.pos j) (has c.neg j) (has a.decided j) (has a.trues j) (has (2 ^ v) j) (before j)
          ∙ sym (either c.neg j)

  -- so they are more by that one
  keepers_counted : (b : Bool) (c : Clause) → ones (keepers (decide a (2 ^ v) b) c) ≡ ones (keepers a c) + literal v b c
  keepers_counted b c =
      ap ones (more_keepers b c)
      ∙ ones_disjoint (keepers a c) (bit_and (literals b c) (2 ^ v))
      (meets_false_intro (keepers a c) (bit_and (literals b c) (2 ^ v))
      (λ j m. refuted (has (bit_and (literals b c) (2 ^ v)) j) (λ h. both_ways (has (2 ^ v) j) (and_within_r (literals b c) (2 ^ v) j h) (not_keeper c j m))))
      ∙ ap (λ (n : ℕ). ones (keepers a c) + n) (ones_bit_and (literals b c) v)

-- a tally whose three parts are known
tally_is : {u w k l : ℕ} {s r : Bool} → u ≡ w → k ≡ l → s ≡ r → ◌≡◌ {A = Tally} (record { undecided = u; keepers = k; struck = s }) (record { undecided = w; keepers = l; struck = r })
tally_is e f g = cc

pub tallying : Tallying
unfolding tally_of decided withdrawn struck_by unstruck names
tallying =
    record {
      decides = λ a k v b c free. tally_is (omega (arith, fewer_undecided a v free b c)) (keepers_counted a v free b c) refl;
      withdraws = λ a k v b c free. tally_is (fewer_undecided a v free b c) (omega (arith, keepers_counted a v free b c)) refl;
      strikes = λ a k v c. tally_is refl refl (meets_or (vars c) k (2 ^ v) ∙ ap (λ (p : Bool). meets (vars c) k || p) (meets_bit (vars c) v));
      unstrikes = λ a k other c. refl;
    }
