-- The sweep keeps the shape of a point. The decisions that the test gathers are decisions of the point: the last D-sequent's, and of each clause
-- one that satisfies it. The variable struck is live, so the new set is larger, and all of it undecided.
use mathlib.Core.Path.{◌≡◌, refl}
use mathlib.Core.List.{List, [], ◌∷◌, Memᴰ}
use mathlib.Core.Option.{Option, some, none}
use Prim.Native.Nat.{ℕ, zero, suc}
use lib.Bits.{bit_and, bit_or}
use Rattle.words.specs.Words.{minus, members, Within}
use Rattle.words.proofs.Sets.{or_within, or_within_l, or_within_r, and_within_r, minus_within}
use Rattle.words.proofs.Truth.{clash}
use Rattle.steps.specs.Clause.{Clause, Assignment, keepers, last}
use Rattle.steps.specs.State.{Env, State, undecided, redundant, live}
use Rattle.steps.specs.Sweep.{monotone, Found, Found.nothing, Found.variable, first_monotone, strike, sweep_on, sweep}
use Rattle.steps.specs.Shape.{Shape, OneOf}
use Rattle.steps.proofs.Places.{one_has, one_within, one_of_members}
use Rattle.steps.proofs.ShapeKeep.{last_recorded, live_undecided, live_not_redundant, another, shape_append}
use Rattle.steps.proofs.Monotone.{gathered, monotone_some}

-- the variables that satisfy a clause are decided
pub keepers_within : (a : Assignment) (c : Clause) → Within a.trues a.decided → Within (keepers a c) a.decided
unfolding keepers
keepers_within a c t =
    or_within
    (bit_and c.pos a.trues)
    (bit_and c.neg (minus a.decided a.trues))
    a.decided
    (λ k h. t k (and_within_r c.pos a.trues k h))
    (λ k h. minus_within a.decided a.trues k (and_within_r c.neg (minus a.decided a.trues) k h))

-- so the decisions of a variable that passes, the last D-sequent's and keepers, are decisions of the point
pub monotone_within :
    (e : Env) (a : Assignment) (s : State) (w r : ℕ) → Shape e a s → monotone a s w ≡ some r → Within r a.decided
monotone_within e a s w r h m =
    let by = monotone_some a s w r m in
    (gathered by.0 w a (redundant s) (last s.records).decisions.decided s.table r by.1).only a.decided (λ c. keepers_within a c h.trues) (last_recorded e a s h).on

-- the variable that the sweep takes is one of those listed, and passes
pub first_monotone_is :
    (a : Assignment) (s : State) (ws : List ℕ) (w r : ℕ) → first_monotone a s ws ≡ variable w r → Memᴰ w ws × (monotone a s w ≡ some r)
unfolding first_monotone
first_monotone_is a s [] w r e = clash cc
first_monotone_is a s (x ∷ xs) w r e = go (monotone a s x) refl (first_monotone_is a s xs w r)
  where
    go : (o : Option ℕ) → monotone a s x ≡ o → (first_monotone a s xs ≡ variable w r → Memᴰ w xs × (monotone a s w ≡ some r))
        → Memᴰ w (x ∷ xs) × (monotone a s w ≡ some r)
    go none f below = let h = below (rw (f, first_monotone) at e) in (Memᴰ.tail h.0, h.1)
    go (some y) f below =
        let same : variable x y ≡ variable w r = rw (f, first_monotone) at e in
        let var : w ≡ x = cc in
        let decisions : y ≡ r = cc in
        (Memᴰ.head var, rw (var, f, decisions))

-- a live variable is struck, by decisions of the point
pub shape_strike : (e : Env) (a : Assignment) (w r : ℕ) (s : State) → Shape e a s → OneOf w (live e a s) → Within r a.decided → Shape e a (strike a w r s)
shape_strike e a w r s h one on =
    shape_append
    e
    a
    r
    (bit_or (redundant s) w)
    s
    h
    on
    (or_within (redundant s) w (undecided e a) (last_recorded e a s h).off (λ k m. live_undecided e a s k (one_within w (live e a s) one k m)))
    (or_within_l (redundant s) w)
    (another (redundant s) (bit_or (redundant s) w) one.var (live_not_redundant e a s one.var one.member) (or_within_r (redundant s) w one.var (one_has w (live e a s) one)))

-- step 3 keeps the shape
pub shape_sweep : (e : Env) (a : Assignment) (k : ℕ) (s : State) → Shape e a s → Shape e a (sweep e a k s)
unfolding sweep
shape_sweep e a zero s h = h
shape_sweep e a (suc k) s h = go (first_monotone a s (members (live e a s))) refl (shape_sweep e a k)
  where
    go : (f : Found) → first_monotone a s (members (live e a s)) ≡ f → ((t : State) → Shape e a t → Shape e a (sweep e a k t)) → Shape e a (sweep_on a (sweep e a k) s f)
    go nothing eq below = h
    go (variable w r) eq below =
        let found = first_monotone_is a s (members (live e a s)) w r eq in
        below
        (strike a w r s)
        (shape_strike e a w r s h (one_of_members (live e a s) w found.0) (monotone_within e a s w r h found.1))
