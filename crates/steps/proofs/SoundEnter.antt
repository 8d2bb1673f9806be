-- What is found at a point is right. A falsified clause names only decided variables, so no choice with those decisions keeps it, and every
-- undecided variable may be struck. Where nothing is live, the last D-sequent strikes every undecided variable. If besides no clause is falsified,
-- the decisions keep every clause without undecided variables, and that D-sequent gives a model.
use mathlib.Core.Path.{◌≡◌, refl, sym, ◌∙◌, subst}
use mathlib.Core.Bool.{Bool, true, false}
use mathlib.Core.List.{List, Memᴰ}
use mathlib.Core.Option.{Option, some, none}
use Prim.Native.Nat.{ℕ}
use lib.Bits.{bit_and}
use Rattle.words.specs.Words.{has, is_zero}
use Rattle.words.proofs.Truth.{both_ways, refuted}
use Rattle.words.proofs.Sets.{meets_false_intro, minus_empty, within_antisym, in_and, restricted}
use Rattle.steps.specs.Lists.{find, any}
use Rattle.steps.specs.Clause.{Clause, vars, Assignment, restrict, satisfied, falsified, names, last}
use Rattle.steps.specs.State.{Env, State, undecided, redundant, live, append_falsified}
use Rattle.steps.specs.Sweep.{sweep}
use Rattle.steps.specs.Enter.{Turn, Turn.back, Turn.satisfiable, Turn.branch, unit, choose, swept, falsified_naming, conflict, enter}
use Rattle.steps.specs.Shape.{Shape, Recorded}
use Rattle.steps.proofs.ShapeKeep.{last_recorded, recorded_value, undecided_not_decided, append_redundant}
use Rattle.steps.proofs.ShapeSweep.{shape_sweep}
use Rattle.steps.proofs.ListLaws.{any_false}
use Rattle.steps.proofs.Models.{Satisfied, Agrees}
use Rattle.steps.proofs.Literals.{literal_of_lem, all_decided, keeper_satisfies, satisfied_keeper, unsatisfied_literal, Falsified, falsified_never, true_falsified, naming_some}
use Rattle.steps.proofs.Sound.{Modeled, Gives, SoundState, last_gives, sound_append}
use Rattle.steps.proofs.SoundSweep.{sweep_sound}

-- ---- every undecided variable struck

-- every undecided variable is redundant
abbrev pub Complete : Env → Assignment → State → Type 0
Complete e a s = redundant s ≡ undecided e a

-- where nothing is live
live_complete : (e : Env) (a : Assignment) (s : State) → Shape e a s → is_zero (live e a s) ≡ true → Complete e a s
unfolding live
live_complete e a s h z = within_antisym (redundant s) (undecided e a) (last_recorded e a s h).off (minus_empty (undecided e a) (redundant s) z)

-- ---- a falsified clause

-- it names no undecided variable
falsified_decided : (e : Env) (a : Assignment) (c : Clause) → Falsified a c → names (undecided e a) c ≡ false
unfolding names
falsified_decided e a c f =
    meets_false_intro (vars c) (undecided e a)
    (λ k h.
    refuted (has (undecided e a) k)
    (λ u. let l = literal_of_lem c k h in both_ways (has a.decided k) (f l.0 k l.1).0 (undecided_not_decided e a k u)))

-- every undecided variable is struck by it
pub falsified_sound :
    (t₀ : List Clause) (e : Env) (a : Assignment) (c : Clause) (s : State) → SoundState t₀ s → Memᴰ c s.table → Falsified a c →
    SoundState t₀ (append_falsified e a c s)
falsified_sound t₀ e a c s sound m f = sound_append t₀ s.table s.records sound (record { decisions = restrict a (bit_and (vars c) a.decided); redundant = undecided e a }) gives
  where
    value : (x : ℕ) → Agrees x (restrict a (bit_and (vars c) a.decided)) → (k : ℕ) → has (vars c) k ≡ true → has x k ≡ has a.trues k
    value x agree k h =
        let l = literal_of_lem c k h in
        let d : has (bit_and (vars c) a.decided) k ≡ true = in_and (vars c) a.decided k h (f l.0 k l.1).0 in
        agree k d ∙ restricted (bit_and (vars c) a.decided) a.trues k d

    gives : Gives t₀ s.table (record { decisions = restrict a (bit_and (vars c) a.decided); redundant = undecided e a })
    gives x agree keeps = absurd (falsified_never x a c f (value x agree) (keeps c m (falsified_decided e a c f)))

-- ---- no clause falsified

-- a clause that is not falsified and names no undecided variable is kept by the decisions
decided_satisfied :
    (e : Env) (a : Assignment) (s : State) → Shape e a s → (c : Clause) → Memᴰ c s.table → falsified a c ≡ false → names (undecided e a) c ≡ false →
    Satisfied a.trues c
decided_satisfied e a s shape c m f n = go (satisfied a c) refl
  where
    go : (p : Bool) → satisfied a c ≡ p → Satisfied a.trues c
    go true g = let j = satisfied_keeper a c g in keeper_satisfies a.trues a c j.0 j.1 refl
    go false g =
        both_ways (falsified a c)
        (true_falsified a c (λ b k l. let d = all_decided e a c (shape.clauses c m) n b k l in (d, unsatisfied_literal a c g b k l d)))
        f

-- the last D-sequent gives a model
satisfiable_modeled :
    (t₀ : List Clause) (e : Env) (a : Assignment) (s : State) → Shape e a s → SoundState t₀ s → Complete e a s → any (falsified a) s.table ≡ false → Modeled t₀
satisfiable_modeled t₀ e a s shape sound complete unfalsified =
    last_gives t₀ s.table s.records sound a.trues agree
    (λ c m n. decided_satisfied e a s shape c m (any_false (falsified a) s.table unfalsified c m) (subst (λ (u : ℕ). names u c ≡ false) complete n))
  where
    known : Recorded e a (last s.records)
    known = last_recorded e a s shape

    agree : Agrees a.trues (last s.records).decisions
    agree k h = sym (recorded_value e a (last s.records) known k h)

-- ---- steps 2 to 5

-- what is found is right
abbrev pub TurnSound : List Clause → Env → Assignment → Turn → Type 0
TurnSound t₀ e a (back s) = SoundState t₀ s × Complete e a s
TurnSound t₀ e a (satisfiable s) = SoundState t₀ s × Modeled t₀
TurnSound t₀ e a (branch w b s) = SoundState t₀ s

-- step 5
choose_sound : (t₀ : List Clause) (e : Env) (a : Assignment) (s : State) → SoundState t₀ s → (o : Option Clause) → TurnSound t₀ e a (choose e a s o)
choose_sound t₀ e a s sound none = sound
choose_sound t₀ e a s sound (some c) = sound

-- step 4, and else step 5
swept_sound : (t₀ : List Clause) (e : Env) (a : Assignment) (s : State) → Shape e a s → SoundState t₀ s → TurnSound t₀ e a (swept e a s)
unfolding swept
swept_sound t₀ e a s shape sound = go (is_zero (live e a s)) refl (any (falsified a) s.table) refl
  where
    go : (z : Bool) → is_zero (live e a s) ≡ z → (f : Bool) → any (falsified a) s.table ≡ f → TurnSound t₀ e a (swept e a s)
    go true z true f = rw (z, f, swept) (sound, live_complete e a s shape z)
    go true z false f = rw (z, f, swept) (sound, satisfiable_modeled t₀ e a s shape sound (live_complete e a s shape z) f)
    go false z f g = rw (z, swept) (choose_sound t₀ e a s sound (find (unit a (redundant s)) s.table))

-- steps 2 to 5 are right
pub enter_sound : (t₀ : List Clause) (e : Env) (a : Assignment) (v : ℕ) (s : State) → Shape e a s → SoundState t₀ s → TurnSound t₀ e a (enter e a v s)
unfolding enter
enter_sound t₀ e a v s shape sound = go (falsified_naming v a s.table) refl (is_zero (live e a s)) refl
  where
    go : (o : Option Clause) → falsified_naming v a s.table ≡ o → (z : Bool) → is_zero (live e a s) ≡ z → TurnSound t₀ e a (conflict e a s o)
    go none f z g = swept_sound t₀ e a (sweep e a e.n s) (shape_sweep e a e.n s shape) (sweep_sound t₀ e a e.n s shape sound)
    go (some c) f true g = rw (g, conflict) (sound, live_complete e a s shape g)
    go (some c) f false g =
        let found = naming_some v a s.table c f in
        rw (g, conflict)
        (falsified_sound t₀ e a c s sound found.0 found.1, append_redundant a (bit_and (vars c) a.decided) (undecided e a) s)
