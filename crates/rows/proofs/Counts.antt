-- The word of a clause's counts: how large it is, and how a decision changes it. A clause of the code is two words of 64 digits, so that at most 64 decisions satisfy it, and at
-- most 128 of its literals are undecided. A clause that names a variable, and none with both signs, has exactly one literal of it.
use mathlib.Core.Path.{◌≡◌, refl, sym, ap, ◌∙◌}
use mathlib.Core.Bool.{Bool, true, false, not, ◌||◌}
use mathlib.Core.List.{List}
use Prim.Native.Nat.{ℕ, ◌+◌, ◌*◌, ◌%◌, ◌^◌, ◌≤◌, ◌<◌}
use native.Mathlib.Omega.{arith}
use lib.Arith.{digits_mod}
use lib.Count.{ones, ones-le}
use lib.ListN.{get_or}
use Rattle.words.specs.Words.{digit, has, minus, meets}
use Rattle.words.proofs.Truth.{both_ways}
use Rattle.words.proofs.Membership.{has_or}
use Rattle.words.proofs.Sets.{and_within_l, or_within, minus_within, within_trans, within_lt, lt_within, meets_false}
use Rattle.words.proofs.Count.{ones_within}
use Rattle.steps.specs.Clause.{Clause, literals, vars, Assignment, decide, keepers, undecided_in}
use Rattle.steps.specs.Tally.{Tally, tally_of, literal, entries, decided, withdrawn}
use Rattle.steps.specs.Demands.{Free}
use Rattle.steps.proofs.Tally.{tallying}
use Rattle.rows.specs.Rows.{clause_at}
use Rattle.rows.specs.Index.{masked}
use Rattle.rows.specs.Tally.{word_of, counts_of, pick, changed, deciding_of, withdrawing_of, turning_of}
use Rattle.rows.specs.declared.tally.Delta.{Delta}

-- a digit is 0 or 1
pub digit_small : (p : Bool) → digit p ≤ 1
digit_small true = omega arith
digit_small false = omega arith

-- ---- what the words have below 256, where fewer than 128 decisions satisfy the clause

-- the word of all three tallies has the struck digit and the decisions
pub word_low : (x : Tally) → x.keepers < 128 → word_of x % 256 ≡ digit x.struck + 2 * x.keepers
word_low x few =
    let e : word_of x ≡ x.undecided * 256 + (digit x.struck + 2 * x.keepers) = omega arith in
    ap (λ (n : ℕ). n % 256) e ∙ digits_mod x.undecided (omega (arith, digit_small x.struck))

-- ---- how large they are

module _ (a : Assignment) (c : Clause) (pos : c.pos < 2 ^ 64) (neg : c.neg < 2 ^ 64) where
  -- at most 64 decisions satisfy a clause of the code
  keepers_64 : ones (keepers a c) ≤ 64
  unfolding keepers
  keepers_64 =
      ones-le 64 (keepers a c)
      (within_lt 64 (keepers a c)
      (or_within _ _ _
      (within_trans _ _ _ (and_within_l c.pos a.trues) (lt_within 64 c.pos pos))
      (within_trans _ _ _ (and_within_l c.neg (minus a.decided a.trues)) (lt_within 64 c.neg neg))))

  -- so the decisions have room below the undecided literals
  pub few_keepers : ones (keepers a c) < 128
  few_keepers = omega (arith, keepers_64)

  -- at most 128 of its literals are undecided
  undecided_128 : undecided_in a c ≤ 128
  unfolding undecided_in
  undecided_128 =
      omega (
        arith,
        ones_within _ _ (minus_within c.pos a.decided),
        ones_within _ _ (minus_within c.neg a.decided),
        ones-le 64 c.pos pos,
        ones-le 64 c.neg neg,
      )

  -- so the word is a small number
  pub counts_small : counts_of a c < 65536
  counts_small = omega (arith, keepers_64, undecided_128)

-- nor do more satisfy a clause of a table whose words have 64 digits
pub few_at : (t : List ℕ) → ((i : ℕ) → get_or t i 0 < 2 ^ 64) → (a : Assignment) (i : ℕ) → ones (keepers a (clause_at t i)) < 128
few_at t fits a i = few_keepers a (clause_at t i) (fits (2 * i)) (fits (2 * i + 1))

-- ---- how a decision changes the counts

-- the words before and after a decision on v, as sums: the literal that is made true counts with the decisions, and v's literals are not undecided any more
counts_decided : (a : Assignment) (v : ℕ) (b : Bool) (c : Clause) → Free v a
    → counts_of a c + 2 * literal v b c ≡ counts_of (decide a (2 ^ v) b) c + 256 * entries v c
unfolding tally_of decided withdrawn
counts_decided a v b c free =
    omega (
      arith,
      ap (λ (x : Tally). x.undecided) (tallying.withdraws a 0 v b c free),
      ap (λ (x : Tally). x.keepers) (tallying.decides a 0 v b c free),
    )

-- a clause that names v, and nothing with both signs, has one literal of it, and one that does not has none
entries_are : (v : ℕ) (c : Clause) → meets c.pos c.neg ≡ false → entries v c ≡ digit (has (vars c) v)
unfolding vars
entries_are v c apart =
    one (has c.pos v) (has c.neg v) (meets_false c.pos c.neg apart v) ∙ ap digit (sym (has_or c.pos c.neg v))
  where
    one : (p q : Bool) → (p ≡ true → q ≡ false) → digit p + digit q ≡ digit (p || q)
    one true true f = both_ways true refl (f refl)
    one true false f = refl
    one false true f = refl
    one false false f = refl

-- it is the one of the sign b or the other one
either : (v : ℕ) (b : Bool) (c : Clause) → meets c.pos c.neg ≡ false → literal v b c + literal v (not b) c ≡ digit (has (vars c) v)
either v true c apart = entries_are v c apart
either v false c apart = omega (arith, entries_are v c apart)

-- the word x of a clause becomes y by the change d. It names the variable where n holds, and has the literal of the sign where p does
pub record Step (d : Delta) (n p : Bool) (x y : ℕ) : Type 0 where
  pub leads : y ≡ pick n (changed d p x) x
  pub enough : n ≡ true → d.down ≤ x + d.up + masked p (2 ^ d.shift)

-- of the clause c, with the variable v
abbrev pub StepOf : Delta → ℕ → Clause → ℕ → ℕ → Type 0
StepOf d v c x y = Step d (has (vars c) v) (has (literals d.sign c) v) x y

-- the three changes, in numbers: x is the word where v is undecided, y where it is decided with b, z with the other value; p and q say which literals of v there are
deciding_step : (b n p q : Bool) (x y : ℕ) → digit p + digit q ≡ digit n → x + 2 * digit p ≡ y + 256 * digit n → Step (deciding_of b) n p x y
deciding_step b true true q x y one e = record { leads = omega arith; enough = λ _. omega arith }
deciding_step b true false q x y one e = record { leads = omega arith; enough = λ _. omega arith }
deciding_step b false true q x y one e = absurd (omega arith)
deciding_step b false false q x y one e = record { leads = omega arith; enough = λ n. both_ways false n refl }

withdrawing_step : (b n p q : Bool) (x y : ℕ) → digit p + digit q ≡ digit n → x + 2 * digit p ≡ y + 256 * digit n → Step (withdrawing_of b) n q y x
withdrawing_step b true p true x y one e = record { leads = omega arith; enough = λ _. omega arith }
withdrawing_step b true p false x y one e = record { leads = omega arith; enough = λ _. omega arith }
withdrawing_step b false p true x y one e = absurd (omega arith)
withdrawing_step b false p false x y one e = record { leads = omega arith; enough = λ _. omega arith }

turning_step : (b n p q : Bool) (x y z : ℕ) → digit p + digit q ≡ digit n → x + 2 * digit p ≡ y + 256 * digit n → x + 2 * digit q ≡ z + 256 * digit n
    → Step (turning_of b) n q y z
turning_step b true p true x y z one e f = record { leads = omega arith; enough = λ _. omega arith }
turning_step b true p false x y z one e f = record { leads = omega arith; enough = λ _. omega arith }
turning_step b false p true x y z one e f = absurd (omega arith)
turning_step b false p false x y z one e f = record { leads = omega arith; enough = λ n. both_ways false n refl }

module _ (a : Assignment) (v : ℕ) (b : Bool) (c : Clause) (free : Free v a) (apart : meets c.pos c.neg ≡ false) where
  -- the words before and after, where the clause has one literal of v or none
  by_one : (b : Bool) → counts_of a c + 2 * literal v b c ≡ counts_of (decide a (2 ^ v) b) c + 256 * digit (has (vars c) v)
  by_one b = omega (arith, counts_decided a v b c free, entries_are v c apart)

  -- v is decided with the value b
  pub step_deciding : StepOf (deciding_of b) v c (counts_of a c) (counts_of (decide a (2 ^ v) b) c)
  step_deciding = deciding_step b _ _ (has (literals (not b) c) v) _ _ (either v b c apart) (by_one b)

  -- that decision is withdrawn
  pub step_withdrawing : StepOf (withdrawing_of b) v c (counts_of (decide a (2 ^ v) b) c) (counts_of a c)
  step_withdrawing = withdrawing_step b _ (has (literals b c) v) _ _ _ (either v b c apart) (by_one b)

  -- it is withdrawn, and the other one made
  pub step_turning : StepOf (turning_of b) v c (counts_of (decide a (2 ^ v) b) c) (counts_of (decide a (2 ^ v) (not b)) c)
  step_turning = turning_step b _ (has (literals b c) v) _ (counts_of a c) _ _ (either v b c apart) (by_one b) (by_one (not b))
