-- A new struck set in the block j of the tallies: the row of the struck clauses is put anew, and with it that of those in play. All else of the block stays.
-- And what the walk that strikes a variable finds of the clauses that leave play.
use mathlib.Core.Path.{◌≡◌, refl, sym, ap, ap₂, ◌∙◌}
use mathlib.Core.Bool.{Bool, true, false, ◌&&◌, ◌||◌, and-or_distrib_left}
use mathlib.Core.List.{List}
use Prim.Native.Nat.{ℕ, ◌+◌, ◌*◌, ◌/◌, ◌%◌, ◌^◌, ◌<◌}
use native.Mathlib.Omega.{arith}
use borrow.Author.Tests.{ltb-true, ltb-false}
use lib.Bits.{bit_and, bit_or}
use lib.Dec.{ltb}
use Rattle.words.specs.Words.{is_zero, has, meets}
use Rattle.words.proofs.Truth.{and_left, and_right}
use Rattle.words.proofs.Membership.{has_and, has_or, has_zero}
use Rattle.words.proofs.Sets.{is_zero_lem, zero_meets}
use Rattle.words.proofs.Unions.{or_empty, meets_or, meets_bit}
use Rattle.steps.specs.Clause.{vars, Assignment, names}
use Rattle.rows.specs.Rows.{clause_at}
use Rattle.rows.specs.Index.{row_at, is_in, playing, unsatisfied, struck, naming}
use Rattle.rows.specs.Tally.{Block, Put}
use Rattle.rows.proofs.Blocks.{put_active}
use Rattle.rows.proofs.Walks.{block_same, Walked, untouched, turned}

-- ---- one block

-- y are those of its clauses that name one of k
abbrev Naming : List ℕ → ℕ → ℕ → ℕ → ℕ → Type 0
Naming t m j k y = (b : ℕ) → b < 64 → has y b ≡ (ltb (64 * j + b) m && names k (clause_at t (64 * j + b)))

-- with the row y the struck set is k
restruck : {t q q' : List ℕ} {m j : ℕ} {a : Assignment} {before k y : ℕ}
    → Put q q' j (row_at q j unsatisfied) y
    → Naming t m j k y
    → Block t q m j a before
    → Block t q' m j a k
restruck p is x =
    record {
      counted = λ b h below. p.counts b h ∙ x.counted b h below;
      named = λ v b l h. rw (p.named v l) (x.named v b l h);
      marked = λ b h. rw p.marked (is b h);
      unkept = λ b h. rw (p.unkept, p.counts b h) (x.unkept b h);
      active = put_active p;
    }

-- v is struck too: those that name it are added
named_too : {t q : List ℕ} {m j : ℕ} {a : Assignment} {k : ℕ} (v : ℕ) → v < 64 → Block t q m j a k → Naming t m j (bit_or k (2 ^ v)) (bit_or (row_at q j struck) (row_at q j (naming v)))
unfolding names
named_too {t} {q} {m} {j} {a} {k} v l x b h =
    let c = clause_at t (64 * j + b) in
    has_or (row_at q j struck) (row_at q j (naming v)) b
    ∙ ap₂ (λ (y z : Bool). y || z) (x.marked b h) (x.named v b l h)
    ∙ sym (and-or_distrib_left (ltb (64 * j + b) m) (names k c) (has (vars c) v))
    ∙ ap (λ (y : Bool). ltb (64 * j + b) m && y) (sym (meets_or (vars c) k (2 ^ v) ∙ ap (λ (y : Bool). names k c || y) (meets_bit (vars c) v)))

-- the struck set is k, whatever it was: those that the rows of its variables have
named_all : {t q : List ℕ} {m j : ℕ} {a : Assignment} {before : ℕ} (k r : ℕ)
    → ((b x : ℕ) → ((v : ℕ) → v < 64 → has (row_at q j (naming v)) b ≡ has x v) → has r b ≡ meets x k)
    → Block t q m j a before
    → Naming t m j k r
unfolding names
named_all {t} {q} {m} {j} k r found x b h = go (ltb (64 * j + b) m) refl
  where
    go : (z : Bool) → ltb (64 * j + b) m ≡ z → has r b ≡ (z && names k (clause_at t (64 * j + b)))
    go true e = found b (vars (clause_at t (64 * j + b))) (λ v l. x.named v b l h ∙ rw e refl)
    go false e = found b 0 (λ v l. x.named v b l h ∙ rw e (sym (has_zero v))) ∙ zero_meets k

-- ---- the walks

-- block j of q is that of q₀ with the struck set f k, where it was k
abbrev pub Restruck : (ℕ → ℕ) → List ℕ → ℕ → List ℕ → ℕ → Type 0
Restruck f q₀ m q j = (t : List ℕ) (a : Assignment) (k : ℕ) → Block t q₀ m j a k → Block t q m j a (f k)

module _ {q₀ q q' : List ℕ} {m j : ℕ} where
  -- a turn, in which the row y is put
  turn : (f : ℕ → ℕ) (y : ℕ)
      → Walked (Restruck f q₀ m) q₀ q j
      → Put q q' j (row_at q j unsatisfied) y
      → ((t : List ℕ) (a : Assignment) (k : ℕ) → Block t q m j a k → Naming t m j (f k) y)
      → Walked (Restruck f q₀ m) q₀ q' (j + 1)
  turn f y w p is =
      turned
      (λ r r' i same right t a k x. block_same same (right t a k x))
      w
      p.only
      (λ t a k x. let here = block_same (untouched w) x in restruck p (is t a k here) here)

  -- which strikes v
  pub strikes : (w v : ℕ)
      → w ≡ 2 ^ v
      → v < 64
      → Walked (Restruck (λ k. bit_or k w) q₀ m) q₀ q j
      → Put q q' j (row_at q j unsatisfied) (bit_or (row_at q j struck) (row_at q j (naming v)))
      → Walked (Restruck (λ k. bit_or k w) q₀ m) q₀ q' (j + 1)
  strikes w v word below walk p = turn (λ k. bit_or k w) _ walk p (λ t a k x. rw word (named_too v below x))

  -- which makes k the struck set
  pub restrikes : (k r : ℕ)
      → Walked (Restruck (λ before. k) q₀ m) q₀ q j
      → Put q q' j (row_at q j unsatisfied) r
      → ((b x : ℕ) → ((v : ℕ) → v < 64 → has (row_at q j (naming v)) b ≡ has x v) → has r b ≡ meets x k)
      → Walked (Restruck (λ before. k) q₀ m) q₀ q' (j + 1)
  restrikes k r walk p found = turn (λ before. k) r walk p (λ t a before x. named_all k r found x)

-- ---- the clauses that leave play

-- no clause before number n is in play and in row u
abbrev pub Apart : List ℕ → ℕ → ℕ → Type 0
Apart q u n = (i : ℕ) → i < n → (is_in q playing i && is_in q u i) ≡ false

-- where none was found before block j, and none in it, there is none before the next
pub apart_more : {P : List ℕ → ℕ → Type 0} {q₀ q : List ℕ} {j : ℕ} (u gone : ℕ)
    → u < 67
    → Walked P q₀ q j
    → (gone ≡ 0 → Apart q₀ u (64 * j))
    → bit_or gone (bit_and (row_at q j playing) (row_at q j u)) ≡ 0
    → Apart q₀ u (64 * (j + 1))
apart_more {P} {q₀} {q} {j} u gone small walk before none i below = go (ltb i (64 * j)) refl
  where
    x : ℕ
    x = bit_and (row_at q j playing) (row_at q j u)

    neither : (is_zero gone && is_zero x) ≡ true
    neither = sym (or_empty gone x) ∙ ap is_zero none

    row : (o : ℕ) → o < 67 → row_at q j o ≡ row_at q₀ j o
    row o h = untouched walk (131 * j + 64 + o) (omega arith) (omega arith)

    go : (p : Bool) → ltb i (64 * j) ≡ p → (is_in q₀ playing i && is_in q₀ u i) ≡ false
    go true e = before (is_zero_lem gone (and_left (is_zero gone) (is_zero x) neither)) i (ltb-true i (64 * j) e)
    go false e =
        let here : i / 64 ≡ j = omega (arith, ltb-false i (64 * j) e) in
        rw (
          here,
          ← row playing (omega arith),
          ← row u small,
          ← has_and (row_at q j playing) (row_at q j u) (i % 64),
          is_zero_lem x (and_right (is_zero gone) (is_zero x) neither),
        )
        (has_zero (i % 64))
