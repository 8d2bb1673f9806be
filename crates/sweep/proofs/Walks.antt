-- A walk over the work table, from its first clause on: what is noted and what is gathered over the whole table is that over the clauses from i on, with what there
-- is so far. So it is before the first clause; a turn is the clause at i; clauses that add nothing are passed over; and after the last one it is what there is.
use mathlib.Core.Path.{◌≡◌, refl, sym, ap, ◌∙◌}
use mathlib.Core.Bool.{Bool, true, false}
use mathlib.Core.List.{List}
use Prim.Native.Nat.{ℕ, zero, suc, ◌+◌, ◌-◌, ◌≤◌, ◌<◌}
use native.Mathlib.Nat.{add-zero, sub-zero}
use native.Mathlib.Omega.{arith}
use borrow.Author.Tests.{ltb-true, ltb-false}
use lib.Bits.{bit_or, or_zero_r}
use lib.Dec.{ltb}
use Rattle.steps.specs.Clause.{Clause, Assignment, inactive}
use Rattle.steps.specs.Notes.{Notes, note, walk, notes, Literal, keeper, gather}
use Rattle.rows.specs.Rows.{from, clause_at, clauses}
use Rattle.rows.proofs.Lists.{from_step, from_end}
use Rattle.sweep.proofs.Noting.{adds_nothing}

-- what goes on past each of d numbers from i on goes past all of them
goes_on : (P : ℕ → Type 0) (i d : ℕ) → ((y : ℕ) → i ≤ y → y < i + d → P y → P (y + 1)) → P i → P (i + d)
goes_on P i zero step h = rw (add-zero i) h
goes_on P i (suc d) step h =
    let e : i + suc d ≡ i + d + 1 = omega arith in
    rw e (step (i + d) (omega arith) (omega arith) (goes_on P i d (λ y l u. step y l (omega arith)) h))

-- from i on to j
pub skips : (P : ℕ → Type 0) (i j : ℕ) → i ≤ j → ((y : ℕ) → i ≤ y → y < j → P y → P (y + 1)) → P i → P j
skips P i j h step from =
    let e : j ≡ i + (j - i) = omega arith in
    rw e (goes_on P i (j - i) (λ y l u. step y l (omega arith)) from)

module _ (t : List ℕ) (m : ℕ) (a : Assignment) (k : ℕ) where
  -- the clauses from i on
  abbrev rest : ℕ → List Clause
  rest i = from (clause_at t) i (m - i)

  -- what is noted over the whole table is x with what is noted from i on
  abbrev pub Noting : Notes → ℕ → Type 0
  Noting x i = notes a k (clauses t m) ≡ walk a k x (rest i)

  pub noting_begins : Noting (record { pos = 0; neg = 0 }) 0
  unfolding notes clauses
  noting_begins = ap (λ (n : ℕ). walk a k (record { pos = 0; neg = 0 }) (from (clause_at t) 0 n)) (sym (sub-zero m))

  -- the clause at i is c, with which the notes are y
  pub noting_turn : (x y : Notes) (i : ℕ) (c : Clause) → i < m → Noting x i → c ≡ clause_at t i → y ≡ note a k c x → Noting y (i + 1)
  unfolding walk
  noting_turn x y i c less so_far is next =
      so_far
      ∙ ap (walk a k x) (from_step (clause_at t) i m less)
      ∙ ap (λ (z : Notes). walk a k z (rest (i + 1))) (ap (λ (b : Clause). note a k b x) (sym is) ∙ sym next)

  -- clauses that are inactive are passed over, from i on to j
  pub noting_skips : (x : Notes) (i j : ℕ) → i ≤ j → ((y : ℕ) → i ≤ y → y < j → y < m → inactive a k (clause_at t y) ≡ true) → Noting x i → Noting x j
  unfolding walk
  noting_skips x i j h out = skips (Noting x) i j h (λ y l u so_far. go y (out y l u) so_far (ltb y m) refl)
    where
      go : (y : ℕ) → (y < m → inactive a k (clause_at t y) ≡ true) → Noting x y → (b : Bool) → ltb y m ≡ b → Noting x (y + 1)
      go y out so_far true e = let below = ltb-true y m e in noting_turn x x y (clause_at t y) below so_far refl (sym (adds_nothing a k (clause_at t y) x (out below)))
      go y out so_far false e =
          let end = ltb-false y m e in
          so_far ∙ ap (walk a k x) (from_end (clause_at t) y m end ∙ sym (from_end (clause_at t) (y + 1) m (omega (arith, end))))

  pub noting_ends : (x : Notes) (i : ℕ) → m ≤ i → Noting x i → x ≡ notes a k (clauses t m)
  unfolding walk
  noting_ends x i end so_far = sym (so_far ∙ ap (walk a k x) (from_end (clause_at t) i m end))

  module _ (l : Literal) (r : ℕ) where
    -- what is gathered over the whole table is x with what is gathered from i on
    abbrev pub Gathering : ℕ → ℕ → Type 0
    Gathering x i = gather l a k r (clauses t m) ≡ gather l a k x (rest i)

    pub gathering_begins : Gathering r 0
    unfolding clauses
    gathering_begins = ap (λ (n : ℕ). gather l a k r (from (clause_at t) 0 n)) (sym (sub-zero m))

    -- the clause at i is c, and it adds y
    pub gathering_turn : (x y i : ℕ) (c : Clause) → i < m → Gathering x i → c ≡ clause_at t i → y ≡ keeper l a k c → Gathering (bit_or x y) (i + 1)
    unfolding gather
    gathering_turn x y i c less so_far is adds =
        so_far
        ∙ ap (gather l a k x) (from_step (clause_at t) i m less)
        ∙ ap (λ (z : ℕ). gather l a k (bit_or x z) (rest (i + 1))) (ap (keeper l a k) (sym is) ∙ sym adds)

    -- clauses that add nothing are passed over, from i on to j
    pub gathering_skips : (x i j : ℕ) → i ≤ j → ((y : ℕ) → i ≤ y → y < j → y < m → keeper l a k (clause_at t y) ≡ 0) → Gathering x i → Gathering x j
    unfolding gather
    gathering_skips x i j h out = skips (Gathering x) i j h (λ y le u so_far. go y (out y le u) so_far (ltb y m) refl)
      where
        go : (y : ℕ) → (y < m → keeper l a k (clause_at t y) ≡ 0) → Gathering x y → (b : Bool) → ltb y m ≡ b → Gathering x (y + 1)
        go y out so_far true e =
            let below = ltb-true y m e in
            gathering_turn x 0 y (clause_at t y) below so_far refl (sym (out below)) ∙ ap (λ (z : ℕ). gather l a k z (rest (y + 1))) (or_zero_r x)
        go y out so_far false e =
            let end = ltb-false y m e in
            so_far ∙ ap (gather l a k x) (from_end (clause_at t) y m end ∙ sym (from_end (clause_at t) (y + 1) m (omega (arith, end))))

    pub gathering_ends : (x i : ℕ) → m ≤ i → Gathering x i → x ≡ gather l a k r (clauses t m)
    unfolding gather
    gathering_ends x i end so_far = sym (so_far ∙ ap (gather l a k x) (from_end (clause_at t) i m end))
