-- A change of the decisions on one variable v, block by block. In a block that has been changed the clauses that name v have the counts after the change, by its row, and the
-- others the counts they had; the row of those that no decision satisfies is as the counts say then. So the tallies before it become those after it.
use mathlib.Core.Path.{◌≡◌, refl, sym, ap, ◌∙◌}
use mathlib.Core.Bool.{Bool, true, false, not, ◌&&◌, ◌||◌, and-true, and-false, or-false}
use mathlib.Core.List.{List}
use Prim.Native.Nat.{ℕ, ◌+◌, ◌*◌, ◌^◌, ◌≤◌, ◌<◌}
use native.Mathlib.Omega.{arith}
use borrow.Author.Tests.{ltb-true, lt-ltb}
use lib.Dec.{ltb}
use lib.ListN.{length, get_or}
use Rattle.words.specs.Words.{has, meets}
use Rattle.words.proofs.Truth.{and_left, and_right}
use Rattle.steps.specs.Clause.{literals, vars, Assignment, decide}
use Rattle.steps.specs.Demands.{Free}
use Rattle.steps.specs.Shape.{AllProper}
use Rattle.rows.specs.Rows.{clause_words, clause_at, clauses}
use Rattle.rows.specs.Index.{count_at, row_at, naming, unsatisfied}
use Rattle.rows.specs.Tally.{counts_of, is_unsatisfied, deciding_of, withdrawing_of, turning_of, Changeable, Block, Tallied, Shiftable, Changed, Leads}
use Rattle.rows.specs.declared.tally.Delta.{Delta}
use Rattle.rows.proofs.Tables.{clause_among}
use Rattle.rows.proofs.Counts.{StepOf, step_deciding, step_withdrawing, step_turning, counts_small}
use Rattle.rows.proofs.Walks.{SameBlock}

-- ---- one block

-- a block can be changed as long as its words are the same
pub shiftable_same : {t q q' : List ℕ} {m j v : ℕ} {d : Delta} → SameBlock q q' j → length q' ≡ length q → Shiftable t q m j v d → Shiftable t q' m j v d
shiftable_same {t} {q} {q'} {m} {j} {v} {d} same long s =
    record {
      table = s.table;
      room = omega (arith, s.room);
      below = s.below;
      clauses = λ b h is. let x = s.clauses b h (ap (λ (r : ℕ). has r b) (sym row) ∙ is) in (x.0, rw (count b h) x.1);
    }
  where
    row : row_at q' j (naming v) ≡ row_at q j (naming v)
    row = same (131 * j + 64 + (3 + v)) (omega arith) (omega (arith, s.below))

    count : (b : ℕ) → b < 64 → count_at q' j b ≡ count_at q j b
    count b h = same (131 * j + b) (omega arith) (omega arith)

-- once it is changed, it is as the tallies after the change are
pub block_changed : {t q q' : List ℕ} {m j v : ℕ} {d : Delta} {a b : Assignment} {k : ℕ}
    → v < 64
    → Changed t q q' j v d
    → Leads t m v d a b
    → Block t q m j a k
    → Block t q' m j b k
block_changed {t} {q} {q'} {m} {j} {v} {d} {a} {b} small c leads x =
    record {
      counted = counted;
      named = λ w i l h. rw (c.named w l) (x.named w i l h);
      marked = λ i h. rw c.marked (x.marked i h);
      unkept = λ i h. c.unkept i h ∙ open_still i h (has (row_at q j (naming v)) i) refl;
      active = c.active;
    }
  where
    -- the clause at place i names v
    names_it : (i : ℕ) → i < 64 → 64 * j + i < m → has (row_at q j (naming v)) i ≡ has (vars (clause_at t (64 * j + i))) v
    names_it i h below = x.named v i small h ∙ ap (λ (p : Bool). p && has (vars (clause_at t (64 * j + i))) v) (lt-ltb _ _ below)

    counted : (i : ℕ) → i < 64 → 64 * j + i < m → count_at q' j i ≡ counts_of b (clause_at t (64 * j + i))
    counted i h below = c.counts i h ∙ rw (names_it i h below, x.counted i h below) (sym (leads (64 * j + i) below))

    open_still : (i : ℕ) → i < 64 → (p : Bool) → has (row_at q j (naming v)) i ≡ p
        → ((has (row_at q j unsatisfied) i && not p) || (p && is_unsatisfied (count_at q' j i))) ≡ (ltb (64 * j + i) m && is_unsatisfied (count_at q' j i))
    open_still i h true e = rw (and-false (has (row_at q j unsatisfied) i), and_left (ltb (64 * j + i) m) _ (sym (x.named v i small h) ∙ e)) refl
    open_still i h false e =
        let same : count_at q' j i ≡ count_at q j i = c.counts i h ∙ rw e refl in
        rw (and-true (has (row_at q j unsatisfied) i), or-false (has (row_at q j unsatisfied) i)) (x.unkept i h ∙ rw same refl)

-- ---- all clauses

-- the change d on v leads from the counts at a to those at b, and can be made
pub record Steps (t : List ℕ) (m v : ℕ) (d : Delta) (a b : Assignment) : Type 0 where
  pub up : d.up ≤ 256
  pub shift : d.shift ≤ 2
  pub at : (i : ℕ) → i < m → StepOf d v (clause_at t i) (counts_of a (clause_at t i)) (counts_of b (clause_at t i))

-- the three changes, of the variable w, which is undecided at a
module _ (t : List ℕ) (m : ℕ) {n v u w : ℕ} {a : Assignment} (proper : AllProper n (clauses t m)) (is : w ≡ 2 ^ u) (number : v ≡ u) (free : Free u a) (b : Bool) where
  -- none of the clauses names a variable with both signs
  apart : (i : ℕ) → i < m → meets (clause_at t i).pos (clause_at t i).neg ≡ false
  apart i below = (proper (clause_at t i) (clause_among t m i below)).consistent

  -- it is decided with the value b
  pub deciding : {d : Delta} → d ≡ deciding_of b → Steps t m v d a (decide a w b)
  deciding e =
      rw (e, is, number) (record { up = omega arith; shift = omega arith; at = λ i below. step_deciding a u b (clause_at t i) free (apart i below) })

  -- that decision is withdrawn
  pub withdrawing : {d : Delta} → d ≡ withdrawing_of b → Steps t m v d (decide a w b) a
  withdrawing e =
      rw (e, is, number) (record { up = omega arith; shift = omega arith; at = λ i below. step_withdrawing a u b (clause_at t i) free (apart i below) })

  -- it is withdrawn, and the other one made
  pub turning : {d : Delta} → d ≡ turning_of b → Steps t m v d (decide a w b) (decide a w (not b))
  turning e =
      rw (e, is, number) (record { up = omega arith; shift = omega arith; at = λ i below. step_turning a u b (clause_at t i) free (apart i below) })

-- so the counts lead from one to the other
pub leads_by : {t : List ℕ} {m v : ℕ} {d : Delta} {a b : Assignment} → Steps t m v d a b → Leads t m v d a b
leads_by s i below = (s.at i below).leads

-- and where the table is tallied at a, each block can be changed
pub shiftable : {t q : List ℕ} {m v : ℕ} {d : Delta} {a b : Assignment} {k : ℕ}
    → clause_words m ≤ length t
    → ((i : ℕ) → get_or t i 0 < 2 ^ 64)
    → v < 64
    → Tallied t q m a k
    → Steps t m v d a b
    → (j : ℕ)
    → 64 * j < m
    → Shiftable t q m j v d
shiftable {t} {q} {m} {v} {d} {a} table fits small x s j below =
    record { table = table; room = omega (arith, x.room); below = small; clauses = clauses }
  where
    clauses : (b : ℕ) → b < 64 → has (row_at q j (naming v)) b ≡ true
        → (64 * j + b < m) × Changeable d (has (literals d.sign (clause_at t (64 * j + b))) v) (count_at q j b)
    clauses b h is =
        let i = 64 * j + b in
        let both = sym ((x.block j below).named v b small h) ∙ is in
        let before : i < m = ltb-true i m (and_left _ _ both) in (
          before,
          rw ((x.block j below).counted b h before)
              (record {
                small = counts_small a (clause_at t i) (fits (2 * i)) (fits (2 * i + 1));
                up = s.up;
                shift = s.shift;
                enough = (s.at i before).enough (and_right (ltb i m) _ both);
              }),
        )
