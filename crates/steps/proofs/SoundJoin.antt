-- The join of step 7 is right. A choice that has both sides' last decisions less w has w as on one side. So it has that side's last decisions, and
-- keeps every clause that names no variable undecided there, and that side's last D-sequent gives a model.
use mathlib.Core.Path.{◌≡◌, refl, sym, ap, ◌∙◌, subst}
use mathlib.Core.Logic.{⊎_elim}
use mathlib.Core.Bool.{Bool, true, false, not}
use mathlib.Core.List.{List}
use Prim.Native.Nat.{ℕ}
use lib.Bits.{bit_or}
use lib.Dec.{eqb}
use Rattle.words.specs.Words.{has, minus, Within}
use Rattle.words.proofs.Truth.{both_ways, refuted, same_or_not}
use Rattle.words.proofs.Sets.{or_within_l, or_within_r, restricted, in_minus}
use Rattle.steps.specs.Clause.{Clause, Assignment, restrict, decide, names, last, without}
use Rattle.steps.specs.State.{Env, State, undecided, redundant, recorded}
use Rattle.steps.specs.Merge.{join_on, join}
use Rattle.steps.specs.Shape.{Recorded, Shape, OneOf}
use Rattle.steps.proofs.Places.{trues_other, one_is}
use Rattle.steps.proofs.ShapeKeep.{last_recorded, recorded_value, undecided_free}
use Rattle.steps.proofs.ShapeSides.{undecided_fewer, without_member}
use Rattle.steps.proofs.Models.{Agrees}
use Rattle.steps.proofs.Sound.{Modeled, ModelsBut, Gives, Among, gives_more, SoundState, last_gives, sound_fewer, sound_append}
use Rattle.steps.proofs.SoundEnter.{Complete}

module _ (e : Env) (a : Assignment) (w : ℕ) (one : OneOf w (undecided e a)) (trues : Within a.trues a.decided) where
  -- the side's value of the branching's variable
  pub decided_value : (b : Bool) (k : ℕ) → has w k ≡ true → has (decide a w b).trues k ≡ b
  decided_value true k h = or_within_r a.trues w k h
  decided_value false k h = refuted (has a.trues k) (λ t. both_ways (has w k) h (undecided_free e a w one k (trues k t)))

  -- a choice has one value over w
  pub same_value : (x : ℕ) (b : Bool) → has x one.var ≡ b → (k : ℕ) → has w k ≡ true → has x k ≡ b
  same_value x b f k h = ap (has x) (sym (one_is w (undecided e a) one k h)) ∙ f

  -- a side's last D-sequent gives a model from a choice with the side's value of the variable and the side's decisions less w
  side_gives :
      (t₀ t : List Clause) (b : Bool) (s : State) → Shape e (decide a w b) s → Complete e (decide a w b) s → Gives t₀ t (last s.records) → (r : ℕ) →
      Within (last s.records).decisions.decided r → (x : ℕ) → has x one.var ≡ b → Agrees x (restrict a (minus r w)) →
      ModelsBut x (minus (undecided e a) w) t → Modeled t₀
  side_gives t₀ t b s shape complete gives r within x value agree keeps =
      gives x agree' (λ c m n. keeps c m (subst (λ (u : ℕ). names u c ≡ false) (complete ∙ undecided_fewer e a w b) n))
    where
      known : Recorded e (decide a w b) (last s.records)
      known = last_recorded e (decide a w b) s shape

      side_value : (k : ℕ) → has r k ≡ true → (p : Bool) → has w k ≡ p → has x k ≡ has (decide a w b).trues k
      side_value k h true f = same_value x b value k f ∙ sym (decided_value b k f)
      side_value k h false f =
          let m : has (minus r w) k ≡ true = in_minus r w k h f in
          agree k m ∙ restricted (minus r w) a.trues k m ∙ sym (trues_other a w b k f)

      agree' : Agrees x (last s.records).decisions
      agree' k h =
          side_value k (within k h) (has w k) refl ∙ sym (recorded_value e (decide a w b) (last s.records) known k h)

  module _
      (t₀ : List Clause)
      (b : Bool)
      (first second : State)
      (shape_one : Shape e (decide a w b) first)
      (complete-one : Complete e (decide a w b) first)
      (sound-one : SoundState t₀ first)
      (shape_two : Shape e (decide a w (not b)) second)
      (complete-two : Complete e (decide a w (not b)) second)
      (sound-two : SoundState t₀ second)
      (more : Among first.table second.table)
    where
      -- both sides' last decisions
      abbrev both : ℕ
      both = bit_or (last first.records).decisions.decided (last second.records).decisions.decided

      -- the join gives
      join_gives : Gives t₀ second.table (record { decisions = restrict a (minus both w); redundant = minus (undecided e a) w })
      join_gives x agree keeps =
          ⊎_elim
          (λ is.
          side_gives t₀ second.table b first shape_one complete-one
          (gives_more t₀ first.table second.table (last first.records) more (last_gives t₀ first.table first.records sound-one))
          both
          (or_within_l (last first.records).decisions.decided (last second.records).decisions.decided)
          x is agree keeps)
          (λ is.
          side_gives t₀ second.table (not b) second shape_two complete-two (last_gives t₀ second.table second.records sound-two) both
          (or_within_r (last first.records).decisions.decided (last second.records).decisions.decided)
          x is agree keeps)
          (same_or_not (has x one.var) b)

      -- the join stays sound
      pub join_sound : SoundState t₀ (join e a w (last first.records).decisions.decided second)
      unfolding join
      join_sound = go (eqb (redundant kept) (minus (undecided e a) w)) refl
        where
          kept : State
          kept = recorded (without w second.records) second

          sound : SoundState t₀ kept
          sound =
              sound_fewer t₀ second.table second.records sound-two (without w second.records) (λ d m. (without_member w second.records d m).0)

          go : (p : Bool) → eqb (redundant kept) (minus (undecided e a) w) ≡ p → SoundState t₀ (join_on e a w both kept)
          go true f = rw (f, join_on) sound
          go false f =
              rw (f, join_on)
              (sound_append t₀ second.table (without w second.records) sound (record { decisions = restrict a (minus both w); redundant = minus (undecided e a) w }) join_gives)
