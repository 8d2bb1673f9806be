-- A variable that the sweep strikes may be struck. Let a choice have the gathered decisions and keep the clauses that name neither a redundant
-- variable nor w. Set w in it to the value whose literals remain: a clause that names nothing redundant gets that literal, or has the other one, and
-- then a gathered decision keeps it, or does not name w. So the changed choice keeps them all and has the last D-sequent's decisions, and that
-- D-sequent gives a model.
use mathlib.Core.Path.{◌≡◌, refl, sym, ap, ◌∙◌}
use mathlib.Core.Logic.{⊎_elim}
use mathlib.Core.Bool.{Bool, true, false, not, ◌&&◌, ◌||◌, and-true, and-false, or-false}
use mathlib.Core.List.{List}
use mathlib.Core.Option.{some}
use Prim.Native.Nat.{ℕ, zero, suc}
use lib.Bits.{bit_or}
use Rattle.words.specs.Words.{has, minus, meets, members}
use Rattle.words.proofs.Truth.{both_ways, refuted, same_or_not}
use Rattle.words.proofs.Membership.{has_or, has_minus}
use Rattle.words.proofs.Sets.{meets_true, meets_false, meets_false_intro, or_within_r, in_or, restricted}
use Rattle.steps.specs.Clause.{Clause, literals, vars, Assignment, restrict, names, last}
use Rattle.steps.specs.State.{Env, State, redundant, live}
use Rattle.steps.specs.Sweep.{inactive_by, monotone, Found, Found.nothing, Found.variable, first_monotone, strike, sweep_on, sweep}
use Rattle.steps.specs.Shape.{Shape, Recorded, OneOf}
use Rattle.steps.proofs.Places.{one_of_members}
use Rattle.steps.proofs.Monotone.{Gathered, gathered, monotone_some}
use Rattle.steps.proofs.ShapeKeep.{last_recorded, recorded_value, undecided_free, live_one}
use Rattle.steps.proofs.ShapeSweep.{keepers_within, monotone_within, first_monotone_is, shape_strike}
use Rattle.steps.proofs.Models.{Satisfied, Satisfied.at, Agrees}
use Rattle.steps.proofs.Literals.{literal_of_lem, names_false, keeper_satisfies}
use Rattle.steps.proofs.Sound.{ModelsBut, Gives, SoundState, last_gives, sound_append}

-- ---- a choice changed at w

-- the choice with the variables of w set to b
abbrev assign : ℕ → ℕ → Bool → ℕ
assign x w true = bit_or x w
assign x w false = minus x w

-- their value is b
assign_in : (x w : ℕ) (b : Bool) (k : ℕ) → has w k ≡ true → has (assign x w b) k ≡ b
assign_in x w true k h = or_within_r x w k h
assign_in x w false k h = has_minus x w k ∙ ap (λ (p : Bool). has x k && not p) h ∙ and-false (has x k)

-- and that of the others is as before
assign_out : (x w : ℕ) (b : Bool) (k : ℕ) → has w k ≡ false → has (assign x w b) k ≡ has x k
assign_out x w true k h = has_or x w k ∙ ap (λ (p : Bool). has x k || p) h ∙ or-false (has x k)
assign_out x w false k h = has_minus x w k ∙ ap (λ (p : Bool). has x k && not p) h ∙ and-true (has x k)

-- a clause that names nothing of either set names nothing of both
names_or : (k w : ℕ) (c : Clause) → names k c ≡ false → names w c ≡ false → names (bit_or k w) c ≡ false
unfolding names
names_or k w c f g =
    meets_false_intro (vars c) (bit_or k w)
    (λ j h.
    refuted (has (bit_or k w) j)
    (λ m. ⊎_elim (λ p. both_ways (has k j) p (meets_false (vars c) k f j h)) (λ p. both_ways (has w j) p (meets_false (vars c) w g j h)) (in_or k w j m)))

-- ---- the struck variable

module _
    (t₀ : List Clause)
    (e : Env)
    (a : Assignment)
    (s : State)
    (shape : Shape e a s)
    (sound : SoundState t₀ s)
    (w : ℕ)
    (free : (k : ℕ) → has a.decided k ≡ true → has w k ≡ false)
  where
    -- the D-sequent that strikes w gives
    strike_gives :
        (b : Bool) (r : ℕ) → inactive_by a s w b ≡ some r → Gives t₀ s.table (record { decisions = restrict a r; redundant = bit_or (redundant s) w })
    unfolding names
    strike_gives b r test x agree keeps = last_gives t₀ s.table s.records sound y agree' keeps'
      where
        y : ℕ
        y = assign x w (not b)

        found : Gathered b w a (redundant s) (last s.records).decisions.decided s.table r
        found = gathered b w a (redundant s) (last s.records).decisions.decided s.table r test

        known : Recorded e a (last s.records)
        known = last_recorded e a s shape

        -- at a gathered decision the changed choice has its value
        value : (k : ℕ) → has a.decided k ≡ true → has r k ≡ true → has y k ≡ has a.trues k
        value k d h = assign_out x w (not b) k (free k d) ∙ agree k h ∙ restricted r a.trues k h

        agree' : Agrees y (last s.records).decisions
        agree' k h =
            value k (known.on k h) (found.start k h) ∙ sym (recorded_value e a (last s.records) known k h)

        -- a clause that does not name w is kept as before
        other : (c : Clause) → Satisfied x c → names w c ≡ false → Satisfied y c
        other c (at k σ l h) n = at k σ l (assign_out x w (not b) k (names_false w c n σ k l) ∙ h)

        -- one that names w, without the literal of sign b, gets the other
        gets : (c : Clause) → meets (literals b c) w ≡ false → names w c ≡ true → Satisfied y c
        gets c f n =
            let j = meets_true (vars c) w n in
            let l = literal_of_lem c j.0 j.1 in
            ⊎_elim
            (λ is. both_ways (has w j.0) j.2 (meets_false (literals b c) w f j.0 (rw is at l.1)))
            (λ is. at j.0 l.0 l.1 (assign_in x w (not b) j.0 j.2 ∙ sym is))
            (same_or_not l.0 b)

        keeps' : ModelsBut y (redundant s) s.table
        keeps' c m n = go (meets (literals b c) w) refl (names w c) refl
          where
            go : (p : Bool) → meets (literals b c) w ≡ p → (q : Bool) → names w c ≡ q → Satisfied y c
            go true f q g =
                let j = found.keeper c m f n in
                keeper_satisfies y a c j.0 j.2 (value j.0 (keepers_within a c shape.trues j.0 j.2) j.1)
            go false f true g = gets c f g
            go false f false g = other c (keeps c m (names_or (redundant s) w c n g)) g

    -- so w may be struck
    pub strike_sound : (r : ℕ) → monotone a s w ≡ some r → SoundState t₀ (strike a w r s)
    strike_sound r test =
        let by = monotone_some a s w r test in
        sound_append t₀ s.table s.records sound (record { decisions = restrict a r; redundant = bit_or (redundant s) w }) (strike_gives by.0 r by.1)

-- ---- the sweep

-- the sweep's D-sequents give
pub sweep_sound :
    (t₀ : List Clause) (e : Env) (a : Assignment) (k : ℕ) (s : State) → Shape e a s → SoundState t₀ s → SoundState t₀ (sweep e a k s)
unfolding sweep
sweep_sound t₀ e a zero s h g = g
sweep_sound t₀ e a (suc k) s h g = go (first_monotone a s (members (live e a s))) refl (sweep_sound t₀ e a k)
  where
    go : (f : Found) → first_monotone a s (members (live e a s)) ≡ f
        → ((s : State) → Shape e a s → SoundState t₀ s → SoundState t₀ (sweep e a k s)) → SoundState t₀ (sweep_on a (sweep e a k) s f)
    go nothing eq below = g
    go (variable w r) eq below =
        let found = first_monotone_is a s (members (live e a s)) w r eq in
        let one : OneOf w (live e a s) = one_of_members (live e a s) w found.0 in
        below
        (strike a w r s)
        (shape_strike e a w r s h one (monotone_within e a s w r h found.1))
        (strike_sound t₀ e a s h g w (undecided_free e a w (live_one e a s w one)) r found.1)
