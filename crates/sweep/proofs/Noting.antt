-- A clause's turn in the notes: an inactive clause adds nothing, and any other its literals. Where a variable is struck that no clause in play names, every clause is
-- inactive exactly if it was, and the notes stay.
use mathlib.Core.Path.{◌≡◌, refl, ap, ◌∙◌}
use mathlib.Core.Bool.{Bool, true, false, ◌||◌}
use mathlib.Core.List.{List}
use Prim.Native.Nat.{ℕ, zero, suc, ◌+◌, ◌≤◌, ◌<◌}
use native.Mathlib.Omega.{arith}
use lib.Bits.{bit_or}
use Rattle.words.proofs.Unions.{meets_or}
use Rattle.steps.specs.Clause.{Clause, vars, Assignment, satisfied, names, inactive}
use Rattle.steps.specs.Notes.{Notes, note, walk, notes}
use Rattle.rows.specs.Rows.{from, clause_at, clauses}

module _ (a : Assignment) (k : ℕ) (c : Clause) where
  -- an inactive clause leaves the notes as they are
  pub adds_nothing : (x : Notes) → inactive a k c ≡ true → note a k c x ≡ x
  unfolding note
  adds_nothing x h = rw (h, note)

  -- any other adds its literals
  pub adds_literals : (x : Notes) → inactive a k c ≡ false → note a k c x ≡ record { pos = bit_or x.pos c.pos; neg = bit_or x.neg c.neg }
  unfolding note
  adds_literals x h = rw (h, note)

module _ (a : Assignment) (k w : ℕ) where
  -- a third of three adds nothing where it is false with the others
  still : (p q r : Bool) → ((p || q) ≡ false → r ≡ false) → (p || (q || r)) ≡ (p || q)
  still true q r h = refl
  still false true r h = refl
  still false false r h = h refl

  -- the clause is inactive exactly if it was
  inactive_still : (c : Clause) → (inactive a k c ≡ false → names w c ≡ false) → inactive a (bit_or k w) c ≡ inactive a k c
  unfolding inactive names
  inactive_still c h = ap (λ (p : Bool). satisfied a c || p) (meets_or (vars c) k w) ∙ still (satisfied a c) (names k c) (names w c) h

  -- so its turn is the same
  note_still : (c : Clause) (x : Notes) → inactive a (bit_or k w) c ≡ inactive a k c → note a (bit_or k w) c x ≡ note a k c x
  unfolding note
  note_still c x e = rw (e, note)

  module _ (t : List ℕ) where
    -- and the walk, clause by clause
    walk_still : (x : Notes) (i n : ℕ) → ((y : ℕ) → i ≤ y → y < i + n → inactive a k (clause_at t y) ≡ false → names w (clause_at t y) ≡ false)
        → walk a (bit_or k w) x (from (clause_at t) i n) ≡ walk a k x (from (clause_at t) i n)
    unfolding walk
    walk_still x i zero h = refl
    walk_still x i (suc n) h =
        walk_still (note a (bit_or k w) (clause_at t i) x) (suc i) n (λ y l u. h y (omega arith) (omega arith))
        ∙ ap (λ (z : Notes). walk a k z (from (clause_at t) (suc i) n)) (note_still (clause_at t i) x (inactive_still (clause_at t i) (h i (omega arith) (omega arith))))

    -- so the notes stay
    pub notes_still : (m : ℕ) → ((y : ℕ) → y < m → inactive a k (clause_at t y) ≡ false → names w (clause_at t y) ≡ false)
        → notes a (bit_or k w) (clauses t m) ≡ notes a k (clauses t m)
    unfolding notes clauses
    notes_still m h = walk_still _ 0 m (λ y l u. h y (omega arith))
