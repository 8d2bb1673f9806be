-- The sweep is step 3. Its test passes exactly where every clause with the literal is inactive: what it gathers has a keeper of each
-- that names nothing redundant, and where it fails one is active. Each round strikes one live variable, and at most n are live, so after n rounds
-- none is live that passes.
use mathlib.Core.Path.{◌≡◌, refl, ap, ◌∙◌}
use mathlib.Core.Bool.{Bool, true, false, or-true}
use mathlib.Core.List.Memᴰ
use mathlib.Core.List.{List, [], ◌∷◌, Memᴰ}
use mathlib.Core.Option.{Option, some, none}
use Prim.Native.Nat.{ℕ, zero, suc, ◌≤◌}
use native.Mathlib.Omega.{arith}
use lib.Count.{ones}
use lib.Bits.{bit_or}
use Rattle.words.specs.Words.{minus, meets, members}
use Rattle.words.proofs.Truth.{both_ways, clash}
use Rattle.words.proofs.Sets.{minus_both}
use Rattle.words.proofs.Lowest.{members_are, are_members}
use Rattle.words.proofs.Count.{ones_remove}
use Rattle.words.proofs.Truth.{both_ways, clash}
use Rattle.steps.specs.Clause.{Clause, literals, Assignment, satisfied, names, inactive, last}
use Rattle.steps.specs.State.{Env, State, undecided, redundant, live}
use Rattle.steps.specs.Sweep.{inactive_by, monotone, Found, Found.nothing, Found.variable, first_monotone, strike, sweep_on, sweep}
use Rattle.steps.specs.Shape.{OneOf}
use Rattle.steps.specs.Demands.{SweepTests, SweepEnds}
use Rattle.steps.proofs.Literals.{keeper_satisfied}
use Rattle.steps.proofs.Monotone.{gathered, active}
use Rattle.steps.proofs.ShapeKeep.{live_undecided, undecided_few, append_redundant}
use Rattle.steps.proofs.ShapeSweep.{first_monotone_is}

-- a clause is inactive where it is satisfied or names a redundant variable
satisfied_inactive : (a : Assignment) (k : ℕ) (c : Clause) → satisfied a c ≡ true → inactive a k c ≡ true
unfolding inactive
satisfied_inactive a k c e = rw e

naming_inactive : (a : Assignment) (k : ℕ) (c : Clause) → names k c ≡ true → inactive a k c ≡ true
unfolding inactive
naming_inactive a k c e = rw e (or-true (satisfied a c))

-- and nowhere else
pub neither_active : (a : Assignment) (k : ℕ) (c : Clause) → satisfied a c ≡ false → names k c ≡ false → inactive a k c ≡ false
unfolding inactive
neither_active a k c e f = rw (e, f)

-- the test is that all clauses with the literal are inactive
pub sweep_tests : SweepTests
sweep_tests a s w b = (all_out, passes (inactive_by a s w b) refl)
  where
    AllOut : Type 0
    AllOut = (c : Clause) → Memᴰ c s.table → meets (literals b c) w ≡ true → inactive a (redundant s) c ≡ true

    all_out : (r : ℕ) × (inactive_by a s w b ≡ some r) → AllOut
    all_out (r, e) c m l = go (names (redundant s) c) refl
      where
        go : (z : Bool) → names (redundant s) c ≡ z → inactive a (redundant s) c ≡ true
        go true n = naming_inactive a (redundant s) c n
        go false n =
            let j = (gathered b w a (redundant s) (last s.records).decisions.decided s.table r e).keeper c m l n in
            satisfied_inactive a (redundant s) c (keeper_satisfied a c j.0 j.2)

    passes : (o : Option ℕ) → inactive_by a s w b ≡ o → AllOut → (r : ℕ) × (inactive_by a s w b ≡ some r)
    passes (some r) e f = (r, e)
    passes none e f =
        let x = active b w a (redundant s) (last s.records).decisions.decided s.table e in
        both_ways (inactive a (redundant s) x.clause) (f x.clause x.member x.literal)
        (neither_active a (redundant s) x.clause x.unsatisfied x.unnamed)

-- ---- until no variable is found

-- where nothing is found, no listed variable passes the test
first_monotone_nothing : (a : Assignment) (s : State) (ws : List ℕ) → first_monotone a s ws ≡ nothing → (w : ℕ) → Memᴰ w ws → monotone a s w ≡ none
unfolding first_monotone
first_monotone_nothing a s [] e w m = absurd (Memᴰ.not-nil m)
first_monotone_nothing a s (x ∷ xs) e w m = go (monotone a s x) refl m (first_monotone_nothing a s xs)
  where
    go : (o : Option ℕ) → monotone a s x ≡ o → Memᴰ w (x ∷ xs)
        → (first_monotone a s xs ≡ nothing → (w : ℕ) → Memᴰ w xs → monotone a s w ≡ none) → monotone a s w ≡ none
    go none f (Memᴰ.head is) below = ap (monotone a s) is ∙ f
    go none f (Memᴰ.tail m) below = below (rw (f, first_monotone) at e) w m
    go (some r) f m below = let some_is : variable x r ≡ nothing = rw (f, first_monotone) at e in clash cc

-- the variable struck is live no more
pub struck_live : (e : Env) (a : Assignment) (w r : ℕ) (s : State) → live e a (strike a w r s) ≡ minus (live e a s) w
unfolding live
struck_live e a w r s =
    ap (minus (undecided e a)) (append_redundant a r (bit_or (redundant s) w) s) ∙ minus_both (undecided e a) (redundant s) w

-- as many rounds as there are live variables leave none that passes
sweep_done :
    (e : Env) (a : Assignment) (k : ℕ) (s : State) → ones (live e a s) ≤ k → (w : ℕ) → OneOf w (live e a (sweep e a k s)) → monotone a (sweep e a k s) w ≡ none
unfolding sweep
sweep_done e a zero s h w one = absurd (omega (arith, ones_remove (live e a s) one.var one.member))
sweep_done e a (suc k) s h w one = go (first_monotone a s (members (live e a s))) refl one (sweep_done e a k)
  where
    go : (f : Found) → first_monotone a s (members (live e a s)) ≡ f → OneOf w (live e a (sweep_on a (sweep e a k) s f))
        → ((t : State) → ones (live e a t) ≤ k → (w : ℕ) → OneOf w (live e a (sweep e a k t)) → monotone a (sweep e a k t) w ≡ none)
        → monotone a (sweep_on a (sweep e a k) s f) w ≡ none
    go nothing eq one below =
        first_monotone_nothing a s (members (live e a s)) eq w (rw one.word (are_members (live e a s) one.var one.member))
    go (variable v r) eq one below =
        let found = members_are (live e a s) v (first_monotone_is a s (members (live e a s)) v r eq).0 in
        below
        (strike a v r s)
        (rw (struck_live e a v r s, found.1) (omega (arith, ones_remove (live e a s) found.0 found.2)))
        w
        one

-- the sweep goes on until no variable passes
pub sweep_ends : SweepEnds
sweep_ends e a s w one =
    sweep_done e a e.n s (undecided_few e a (live e a s) (live_undecided e a s)) w one
