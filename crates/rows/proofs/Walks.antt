-- A walk over the blocks of the tallies, each of which a turn makes right. P q j says that block j of q is right, and that rests on the words of that block alone.
use mathlib.Core.Path.{◌≡◌, refl, sym, ap, ◌∙◌, subst⁻¹}
use mathlib.Core.Bool.{Bool, true, false}
use mathlib.Core.Logic.{◌≢◌, inl, inr}
use mathlib.Core.List.{List}
use Prim.Native.Nat.{ℕ, ◌+◌, ◌*◌, ◌^◌, ◌≤◌, ◌<◌}
use native.Mathlib.Omega.{arith}
use borrow.Author.Count.{below_none, below_more}
use borrow.Author.Tests.{ltb-true, ltb-false}
use lib.Count.{count_trailing_zeros}
use lib.Dec.{ltb}
use lib.ListN.{length, get_or}
use Rattle.words.specs.Words.{has}
use Rattle.words.proofs.Membership.{has_bit, has_bit_eq}
use Rattle.words.proofs.Count.{trailing_bit}
use Rattle.steps.specs.Clause.{Assignment}
use Rattle.steps.specs.State.{State, redundant}
use Rattle.rows.specs.Rows.{clauses, state_of}
use Rattle.rows.specs.Index.{count_at, row_at, Only}
use Rattle.rows.specs.Tally.{Block, Tallied, TalliedAt, Variable}
use Rattle.rows.specs.declared.state.Counts.{Counts}
use Rattle.rows.proofs.Tables.{as_many}

-- ---- one block

-- the words of block j are the same
abbrev pub SameBlock : List ℕ → List ℕ → ℕ → Type 0
SameBlock q q' j = (p : ℕ) → 131 * j ≤ p → p < 131 * j + 131 → get_or q' p 0 ≡ get_or q p 0

-- so it is right still
pub block_same : {t q q' : List ℕ} {m j : ℕ} {a : Assignment} {k : ℕ} → SameBlock q q' j → Block t q m j a k → Block t q' m j a k
block_same {t} {q} {q'} {m} {j} same x =
    record {
      counted = λ b h below. rw (count b h) (x.counted b h below);
      named = λ v b l h. rw (row (3 + v) (omega arith)) (x.named v b l h);
      marked = λ b h. rw (row 2 (omega arith)) (x.marked b h);
      unkept = λ b h. rw (row 1 (omega arith), count b h) (x.unkept b h);
      active = rw (row 0 (omega arith), row 1 (omega arith), row 2 (omega arith)) x.active;
    }
  where
    count : (b : ℕ) → b < 64 → count_at q' j b ≡ count_at q j b
    count b h = same (131 * j + b) (omega arith) (omega arith)

    row : (u : ℕ) → u < 67 → row_at q' j u ≡ row_at q j u
    row u h = same (131 * j + 64 + u) (omega arith) (omega arith)

-- a change of block j alone leaves every other block the same
pub other_block : {q q' : List ℕ} {i : ℕ} (j : ℕ) → j ≢ i → Only q q' i → SameBlock q q' j
other_block {q} {q'} {i} j apart only p h l = go (ltb j i) refl
  where
    go : (b : Bool) → ltb j i ≡ b → get_or q' p 0 ≡ get_or q p 0
    go true e = only.outside p (inl (omega (arith, ltb-true j i e)))
    go false e = only.outside p (inr (omega (arith, ltb-false j i e, apart)))

-- ---- the walk

-- the blocks below n are right, and the words of the others as they were
pub record Walked (P : List ℕ → ℕ → Type 0) (before now : List ℕ) (n : ℕ) : Type 0 where
  pub same : length now ≡ length before
  pub done : (j : ℕ) → j < n → P now j
  pub left : (p : ℕ) → 131 * n ≤ p → get_or now p 0 ≡ get_or before p 0

module _ {P : List ℕ → ℕ → Type 0} where
  -- at the start none is
  pub begins : (q : List ℕ) → Walked P q q 0
  begins q = record { same = refl; done = below_none _; left = λ p h. refl }

  -- block n is as it was
  pub untouched : {before now : List ℕ} {n : ℕ} → Walked P before now n → SameBlock before now n
  untouched w p h l = w.left p (omega arith)

  -- a turn makes it right
  pub turned : {before now next : List ℕ} {n : ℕ}
      → ((q q' : List ℕ) (j : ℕ) → SameBlock q q' j → P q j → P q' j)
      → Walked P before now n
      → Only now next n
      → P next n
      → Walked P before next (n + 1)
  turned {before} {now} {next} {n} local w only right =
      record {
        same = only.same ∙ w.same;
        done = below_more _ n (λ j h. local now next j (other_block j (λ e. omega arith) only) (w.done j h)) right;
        left = λ p h. only.outside p (inr (omega arith)) ∙ w.left p (omega arith);
      }

  -- at the end the table is tallied, where P leads from the tallies before to those after
  pub ends : {before now : List ℕ} {n : ℕ} (t : List ℕ) (m : ℕ) (a b : Assignment) (k l : ℕ)
      → Walked P before now n
      → m ≤ 64 * n
      → ((j : ℕ) → 64 * j < m → P now j → Block t before m j a k → Block t now m j b l)
      → Tallied t before m a k
      → Tallied t now m b l
  ends t m a b k l w h leads x =
      record {
        room = omega (arith, x.room, w.same);
        block = λ j below. leads j below (w.done j (omega arith)) (x.block j below);
      }

-- ---- a variable by its number

-- the trailing zeros of a variable's word are its number
variable_is : {w v u : ℕ} → v ≡ count_trailing_zeros 64 w → w ≡ 2 ^ u → u < 64 → v ≡ u
variable_is {w} {v} {u} e f h = e ∙ ap (count_trailing_zeros 64) f ∙ trailing_bit 64 u h

-- of a variable that is known by another number it is that one
pub number_is : {w v u : ℕ} → v ≡ count_trailing_zeros 64 w → Variable w → w ≡ 2 ^ u → v ≡ u
number_is {w} {v} {u} e x f =
    let same : x.var ≡ u = has_bit_eq x.var u (ap (λ (z : ℕ). has z u) (sym x.word ∙ f) ∙ has_bit u) in
    variable_is e f (rw (← same) x.below)

-- and it is below 64
pub variable_below : {w v : ℕ} → v ≡ count_trailing_zeros 64 w → Variable w → v < 64
variable_below e x = omega (arith, variable_is e x.word x.below, x.below)

-- ---- the tallies at a state

-- it has come to x, with m clauses and the struck set k
pub tallied_at : {t q : List ℕ} (rs : List ℕ) (s : Counts) {m k : ℕ} (a : Assignment) (x : State)
    → state_of t rs s ≡ x
    → x.table ≡ clauses t m
    → redundant x ≡ k
    → Tallied t q m a k
    → TalliedAt t q rs a s
tallied_at {t} {q} rs s {m} {k} a x is table struck =
    subst⁻¹ (λ (n : ℕ). Tallied t q n a k → TalliedAt t q rs a s) (as_many t m s.clauses (sym (ap (λ (y : State). y.table) is ∙ table)))
    (subst⁻¹ (λ (n : ℕ). Tallied t q s.clauses a n → TalliedAt t q rs a s) (sym (ap redundant is ∙ struck)) (λ h. h))
