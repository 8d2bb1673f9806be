-- One clause more in the tallies. The clause c of number i stands at place i % 64 of block i / 64, the last one. Its counts are put, and its digit enters the rows where
-- it belongs, after those of the block's earlier clauses, of which there are none where it is the first. The blocks before are full and stay.
use mathlib.Core.Path.{◌≡◌, refl, sym, ap, ◌∙◌}
use mathlib.Core.Bool.{Bool, true, false, ◌&&◌, ◌||◌, or-false}
use mathlib.Core.Logic.{◌≢◌}
use mathlib.Core.List.{List}
use Prim.Native.Nat.{ℕ, ◌+◌, ◌*◌, ◌/◌, ◌%◌, ◌^◌, ◌≤◌, ◌<◌}
use native.Mathlib.Omega.{arith}
use borrow.Author.Tests.{eqb-true, eqb-false, ltb-true, ltb-false, lt-ltb, le-ltb}
use lib.Bits.{bit_or}
use lib.Dec.{eqb, ltb}
use lib.ListN.{length, set}
use Rattle.words.specs.Words.{has, minus}
use Rattle.words.proofs.Membership.{has_or, has_zero}
use Rattle.steps.specs.Clause.{Clause, vars, Assignment, names}
use Rattle.rows.specs.Rows.{clause_at, put_clause}
use Rattle.rows.specs.Index.{tally_words, count_at, row_at, playing, unsatisfied, struck, naming, masked, Only, Entered}
use Rattle.rows.specs.Tally.{counts_of, is_unsatisfied, pick, Block, Tallied, Opened, Put}
use Rattle.rows.proofs.Tables.{put_clause_other}
use Rattle.rows.proofs.Blocks.{put_count_here, put_count_other, put_count_row, put_count_only, only_trans, put_active, mark_here, mark_other}
use Rattle.rows.proofs.Walks.{block_same, other_block}

-- the word of a row once clause i has entered it, where p holds: the digits that it had, none where the clause is the first of its block, and that of the clause
abbrev pub entered : ℕ → ℕ → Bool → ℕ
entered i r p = bit_or (pick (eqb (i % 64) 0) 0 r) (masked p (2 ^ (i % 64)))

-- what the stores of `put` do to the table
pub record Added (q q' : List ℕ) (i : ℕ) (c : Clause) (a : Assignment) (k : ℕ) : Type 0 where
  pub room : tally_words (i + 1) ≤ length q
  pub only : Only q q' (i / 64)
  pub here : count_at q' (i / 64) (i % 64) ≡ counts_of a c
  pub others : (b : ℕ) → b < 64 → b ≢ i % 64 → count_at q' (i / 64) b ≡ count_at q (i / 64) b
  pub named : (v : ℕ) → v < 64 → row_at q' (i / 64) (naming v) ≡ entered i (row_at q (i / 64) (naming v)) (has (vars c) v)
  pub marked : row_at q' (i / 64) struck ≡ entered i (row_at q (i / 64) struck) (names k c)
  pub unkept : row_at q' (i / 64) unsatisfied ≡ entered i (row_at q (i / 64) unsatisfied) (is_unsatisfied (counts_of a c))
  pub active : row_at q' (i / 64) playing ≡ minus (row_at q' (i / 64) unsatisfied) (row_at q' (i / 64) struck)

-- ---- the stores

module _ {q q₁ q₂ q₃ : List ℕ} {i : ℕ} {c : Clause} {a : Assignment} {k : ℕ} where
  -- the block is opened, the counts are put, the clause enters the rows of its variables, and then the others
  pub added : tally_words (i + 1) ≤ length q
      → Opened q q₁ i
      → Entered (set q₁ (131 * (i / 64) + i % 64) (counts_of a c)) q₂ (i / 64) (2 ^ (i % 64)) (vars c)
      → Put q₂ q₃ (i / 64) (bit_or (row_at q₂ (i / 64) unsatisfied) (masked (is_unsatisfied (counts_of a c)) (2 ^ (i % 64)))) (bit_or (row_at q₂ (i / 64) struck) (masked (names k c) (2 ^ (i % 64))))
      → Added q q₃ i c a k
  added room o e p =
      record {
        room = room;
        only = only_trans o.only (only_trans (put_count_only q₁ j b x small) (only_trans e.only p.only));
        here = p.counts b small ∙ e.counts b small ∙ put_count_here q₁ j b x (omega (arith, o.only.same));
        others = λ b' h other. p.counts b' h ∙ e.counts b' h ∙ put_count_other q₁ j b x b' other ∙ o.counts b' h;
        named = λ v h. p.named v h ∙ e.rows v h ∙ ap (λ (r : ℕ). bit_or r (masked (has (vars c) v) (2 ^ b))) (row (naming v) (omega arith));
        marked = p.marked ∙ ap (λ (r : ℕ). bit_or r (masked (names k c) (2 ^ b))) (e.others struck (omega arith) ∙ row struck (omega arith));
        unkept = p.unkept ∙ ap (λ (r : ℕ). bit_or r (masked (is_unsatisfied x) (2 ^ b))) (e.others unsatisfied (omega arith) ∙ row unsatisfied (omega arith));
        active = put_active p;
      }
    where
      j : ℕ
      j = i / 64

      b : ℕ
      b = i % 64

      x : ℕ
      x = counts_of a c

      small : b < 64
      small = omega arith

      row : (u : ℕ) → u < 67 → row_at (set q₁ (131 * j + b) x) j u ≡ pick (eqb b 0) 0 (row_at q j u)
      row u h = put_count_row q₁ j b x u small ∙ o.rows u h

-- ---- the tallies after them

-- a number other than i is below i exactly if it is below the next
ltb_next : (x i : ℕ) → x ≢ i → ltb x i ≡ ltb x (i + 1)
ltb_next x i other = go (ltb x i) refl
  where
    go : (p : Bool) → ltb x i ≡ p → ltb x i ≡ ltb x (i + 1)
    go true e = e ∙ sym (lt-ltb x (i + 1) (omega (arith, ltb-true x i e)))
    go false e = e ∙ sym (le-ltb x (i + 1) (omega (arith, ltb-false x i e, other)))

-- a block that is full stays right
full : {t q : List ℕ} {i j : ℕ} {a : Assignment} {k : ℕ} → 64 * j + 64 ≤ i → Block t q i j a k → Block t q (i + 1) j a k
full {t} {q} {i} {j} whole x =
    record {
      counted = λ b h below. x.counted b h (omega arith);
      named = λ v b l h. rw (← next b h) (x.named v b l h);
      marked = λ b h. rw (← next b h) (x.marked b h);
      unkept = λ b h. rw (← next b h) (x.unkept b h);
      active = x.active;
    }
  where
    next : (b : ℕ) → b < 64 → ltb (64 * j + b) i ≡ ltb (64 * j + b) (i + 1)
    next b h = ltb_next (64 * j + b) i (λ e. omega arith)

-- a row had the digits of those earlier clauses of the block that P holds of. P' is the same of them, and p of clause i
digits : (i r : ℕ) (p : Bool) (P P' : ℕ → Bool)
    → (64 * (i / 64) < i → (b : ℕ) → b < 64 → has r b ≡ (ltb (64 * (i / 64) + b) i && P b))
    → P' (i % 64) ≡ p
    → ((b : ℕ) → b < 64 → b ≢ i % 64 → P' b ≡ P b)
    → (b : ℕ) → b < 64
    → has (entered i r p) b ≡ (ltb (64 * (i / 64) + b) (i + 1) && P' b)
digits i r p P P' had new old b h =
    has_or (pick (eqb (i % 64) 0) 0 r) (masked p (2 ^ (i % 64))) b
    ∙ ap (λ (y : Bool). y || has (masked p (2 ^ (i % 64))) b) (before (eqb (i % 64) 0) refl)
    ∙ go (eqb b (i % 64)) refl
  where
    before : (z : Bool) → eqb (i % 64) 0 ≡ z → has (pick z 0 r) b ≡ (ltb (64 * (i / 64) + b) i && P b)
    before true e = has_zero b ∙ rw (le-ltb (64 * (i / 64) + b) i (omega (arith, eqb-true (i % 64) 0 e))) refl
    before false e = had (omega (arith, eqb-false (i % 64) 0 e)) b h

    go : (z : Bool) → eqb b (i % 64) ≡ z → ((ltb (64 * (i / 64) + b) i && P b) || has (masked p (2 ^ (i % 64))) b) ≡ (ltb (64 * (i / 64) + b) (i + 1) && P' b)
    go true e =
        rw (eqb-true b (i % 64) e, le-ltb (64 * (i / 64) + i % 64) i (omega arith), lt-ltb (64 * (i / 64) + i % 64) (i + 1) (omega arith))
        (mark_here p (i % 64) ∙ sym new)
    go false e =
        let other = eqb-false b (i % 64) e in
        rw (mark_other p (i % 64) b other, or-false, ltb_next (64 * (i / 64) + b) i (λ f. omega (arith, other)), old b h other) refl

module _ (t : List ℕ) {q q' : List ℕ} {i : ℕ} {c : Clause} {a : Assignment} {k : ℕ} (is : c ≡ clause_at t i) (x : Added q q' i c a k) where
  -- the clause of that place
  at_place : clause_at t (64 * (i / 64) + i % 64) ≡ c
  at_place = ap (clause_at t) (omega arith) ∙ sym is

  -- the block of clause i is right
  last : (64 * (i / 64) < i → Block t q i (i / 64) a k) → Block t q' (i + 1) (i / 64) a k
  last had =
      record {
        counted = λ b h below. count b h below (eqb b (i % 64)) refl;
        named = λ v b l h. rw (x.named v l) (by_clause (λ d. has (vars d) v) _ (λ m n g. (had m).named v n l g) b h);
        marked = λ b h. rw x.marked (by_clause (names k) _ (λ m. (had m).marked) b h);
        unkept =
            λ b h.
            rw x.unkept
            (digits
            i
            _
            _
            (λ n. is_unsatisfied (count_at q (i / 64) n))
            (λ n. is_unsatisfied (count_at q' (i / 64) n))
            (λ m. (had m).unkept)
            (ap is_unsatisfied x.here)
            (λ n g other. ap is_unsatisfied (x.others n g other))
            b
            h);
        active = x.active;
      }
    where
      by_clause : (P : Clause → Bool) (r : ℕ)
          → (64 * (i / 64) < i → (b : ℕ) → b < 64 → has r b ≡ (ltb (64 * (i / 64) + b) i && P (clause_at t (64 * (i / 64) + b))))
          → (b : ℕ) → b < 64
          → has (entered i r (P c)) b ≡ (ltb (64 * (i / 64) + b) (i + 1) && P (clause_at t (64 * (i / 64) + b)))
      by_clause P r h = digits i r (P c) (λ n. P (clause_at t (64 * (i / 64) + n))) _ h (ap P at_place) (λ n g other. refl)

      count : (b : ℕ) → b < 64 → 64 * (i / 64) + b < i + 1 → (z : Bool) → eqb b (i % 64) ≡ z → count_at q' (i / 64) b ≡ counts_of a (clause_at t (64 * (i / 64) + b))
      count b h below true e = rw (eqb-true b (i % 64) e, at_place) x.here
      count b h below false e =
          let other = eqb-false b (i % 64) e in x.others b h other ∙ (had (omega (arith, other))).counted b h (omega (arith, other))

  -- and all others
  pub one_more : Tallied t q i a k → Tallied t q' (i + 1) a k
  one_more y = record { room = omega (arith, x.room, x.only.same); block = λ j below. go j below (eqb j (i / 64)) refl }
    where
      go : (j : ℕ) → 64 * j < i + 1 → (z : Bool) → eqb j (i / 64) ≡ z → Block t q' (i + 1) j a k
      go j below true e = rw (eqb-true j (i / 64) e) (last (y.block (i / 64)))
      go j below false e =
          let other = eqb-false j (i / 64) e in full (omega (arith, other)) (block_same (other_block j other x.only) (y.block j (omega (arith, other))))

-- ---- the clause in the table

-- a store at number m leaves the tallies of the m clauses before it
pub put_stays : (t : List ℕ) {q : List ℕ} {m : ℕ} (c : Clause) {a : Assignment} {k : ℕ} → Tallied t q m a k → Tallied (put_clause t m c) q m a k
put_stays t {q} {m} c {a} {k} y =
    record {
      room = y.room;
      block =
          λ j below.
          let x = y.block j below in
          record {
            counted = λ b h l. rw (put_clause_other t m c (64 * j + b) (λ e. omega arith)) (x.counted b h l);
            named = λ v b l h. x.named v b l h ∙ same (64 * j + b) (λ d. has (vars d) v) (ltb (64 * j + b) m) refl;
            marked = λ b h. x.marked b h ∙ same (64 * j + b) (names k) (ltb (64 * j + b) m) refl;
            unkept = x.unkept;
            active = x.active;
          };
    }
  where
    same : (n : ℕ) (P : Clause → Bool) (z : Bool) → ltb n m ≡ z → (z && P (clause_at t n)) ≡ (z && P (clause_at (put_clause t m c) n))
    same n P true e = ap P (sym (put_clause_other t m c n (λ f. omega (arith, ltb-true n m e))))
    same n P false e = refl
