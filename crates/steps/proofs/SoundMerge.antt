-- Step 7 is right: whatever it comes to, the table and the D-sequents stay sound. If the test for the branching's variable passes, that variable is
-- struck as in the sweep. If it fails, both sides have a falsified clause, and their resolvent follows and is falsified here: an empty one shows that
-- there is no model, and any other strikes every undecided variable.
use mathlib.Core.Path.{◌≡◌, refl, ap, ◌∙◌}
use mathlib.Core.Bool.{Bool, true, false, not}
use mathlib.Core.List.Memᴰ
use mathlib.Core.List.{List, Memᴰ}
use mathlib.Core.Option.{Option, some, none}
use Prim.Native.Nat.{ℕ}
use lib.Bits.{bit_and, bit_or}
use lib.Dec.{ltb}
use lib.ListN.{length}
use Rattle.words.specs.Words.{has, minus, is_zero, Within}
use Rattle.words.proofs.Truth.{clash}
use Rattle.words.proofs.Sets.{within_antisym, or_within, or_within_l, or_within_r, minus_within, in_minus}
use Rattle.steps.specs.Clause.{Clause, vars, Assignment, decide, last}
use Rattle.steps.specs.State.{Env, State, Ending, Ending.can, Ending.cannot, Ending.out_of_branchings, Ending.out_of_clauses, Side, Side.up, Side.ended, undecided, redundant, added}
use Rattle.steps.specs.Sweep.{monotone}
use Rattle.steps.specs.Enter.{falsified_naming}
use Rattle.steps.specs.Merge.{cover, resolvent, settle, learn, resolve, merge_on, join, merge}
use Rattle.steps.specs.Search.{is_empty}
use Rattle.steps.specs.Shape.{Shape, OneOf}
use Rattle.steps.proofs.Places.{one_within}
use Rattle.steps.proofs.ShapeKeep.{last_recorded, undecided_free, append_redundant}
use Rattle.steps.proofs.ShapeMerge.{join_redundant, shape_join}
use Rattle.steps.proofs.Models.{Satisfied, Models}
use Rattle.steps.proofs.Literals.{Falsified, naming_some}
use Rattle.steps.proofs.Sound.{Modeled, Among, SoundState, sound_added}
use Rattle.steps.proofs.SoundSweep.{strike_sound}
use Rattle.steps.proofs.SoundEnter.{Complete, falsified_sound}
use Rattle.steps.proofs.SoundJoin.{join_sound}
use Rattle.steps.proofs.Resolvent.{resolvent_falsified}
use Rattle.steps.proofs.Covers.{cover_some, covers_falsified}
use Rattle.steps.proofs.SoundResolve.{resolvent_follows}
use Rattle.steps.proofs.Parents.{parent}

-- ---- what a side comes to

-- back up from a point
pub record Finished (t₀ : List Clause) (e : Env) (a : Assignment) (s : State) : Type 0 where
  pub sound : SoundState t₀ s
  pub complete : Complete e a s

-- the end of the run: "can" with a model, "cannot" with the empty clause
abbrev pub EndSound : List Clause → Ending → State → Type 0
EndSound t₀ can s = SoundState t₀ s × Modeled t₀
EndSound t₀ cannot s = SoundState t₀ s × ((c : Clause) × Memᴰ c s.table × (is_empty c ≡ true))
EndSound t₀ out_of_branchings s = SoundState t₀ s
EndSound t₀ out_of_clauses s = SoundState t₀ s

-- either
abbrev pub SideSound : List Clause → Env → Assignment → Side → Type 0
SideSound t₀ e a (up s) = Finished t₀ e a s
SideSound t₀ e a (ended x d s) = EndSound t₀ x s

-- ---- the clause that falsifies the point

-- such a clause settles the point
settle_sound :
    (t₀ : List Clause) (e : Env) (a : Assignment) (c : Clause) (s : State) → SoundState t₀ s → Memᴰ c s.table → Falsified a c →
    SideSound t₀ e a (settle e a c s)
settle_sound t₀ e a c s sound m f = go (is_zero (vars c)) refl
  where
    go : (z : Bool) → is_zero (vars c) ≡ z → SideSound t₀ e a (settle e a c s)
    go true z = rw (z, settle) (sound, (c, m, z))
    go false z =
        rw (z, settle)
        (record {
          sound = falsified_sound t₀ e a c s sound m f;
          complete = append_redundant a (bit_and (vars c) a.decided) (undecided e a) s;
        })

-- and so does the resolvent: by the clause of the table that covers it, which is falsified too, or added to the table
learn_sound :
    (t₀ : List Clause) (e : Env) (a : Assignment) (s : State) (c : Clause) → SoundState t₀ s → ((x : ℕ) → Models x s.table → Satisfied x c) → Falsified a c →
    (o : Option Clause) → cover c s.table ≡ o → SideSound t₀ e a (learn e a s c o)
learn_sound t₀ e a s c sound follows f (some d) g =
    let found = cover_some c s.table d g in
    settle_sound t₀ e a _ _ sound found.0 (covers_falsified a d c found.1 f)
learn_sound t₀ e a s c sound follows f none g = go (ltb (length s.table) e.capacity) refl
  where
    go : (p : Bool) → ltb (length s.table) e.capacity ≡ p → SideSound t₀ e a (learn e a s c none)
    go false p = rw (p, learn) sound
    go true p =
        rw (p, learn)
        (settle_sound t₀ e a c (added c s)
        (sound_added t₀ s.table s.records sound c follows)
        (Memᴰ.append_right s.table (Memᴰ.head refl))
        f)

-- ---- coming together

-- the branching's variable and all undecided ones but it are all undecided ones
with_removed : (u w : ℕ) → Within w u → bit_or (minus u w) w ≡ u
with_removed u w h = within_antisym (bit_or (minus u w) w) u (or_within (minus u w) w u (minus_within u w) h) (λ k m. go k m (has w k) refl)
  where
    go : (k : ℕ) → has u k ≡ true → (p : Bool) → has w k ≡ p → has (bit_or (minus u w) w) k ≡ true
    go k m true f = or_within_r (minus u w) w k f
    go k m false f = or_within_l (minus u w) w k (in_minus u w k m f)

module _
    (t₀ : List Clause)
    (e : Env)
    (a : Assignment)
    (w : ℕ)
    (one : OneOf w (undecided e a))
    (j : State)
    (shape : Shape e a j)
    (sound : SoundState t₀ j)
    (others : redundant j ≡ minus (undecided e a) w)
  where
    -- where the test fails, the resolvent of what the sides falsify settles the point
    resolve_sound :
        monotone a j w ≡ none → (b : Bool) (c d : Option Clause) → falsified_naming w (decide a w b) j.table ≡ c →
        falsified_naming w (decide a w (not b)) j.table ≡ d → SideSound t₀ e a (resolve e a w j c d)
    resolve_sound test b none d f g =
        let x = parent e a w one j shape others test b in clash cc
    resolve_sound test b (some c) none f g =
        let x = parent e a w one j shape others test (not b) in clash cc
    resolve_sound test b (some c) (some d) f g =
        let x = naming_some w (decide a w b) j.table c f in
        let y = naming_some w (decide a w (not b)) j.table d g in
        learn_sound t₀ e a j (resolvent w c d) sound
        (λ z m. resolvent_follows e a w one shape.trues b c d x.1 y.1 z (m c x.0) (m d y.0))
        (resolvent_falsified a w b c d x.1 y.1)
        _
        refl

    -- by the test, or else by the resolvent
    merge_on_sound : (b : Bool) (o : Option ℕ) → monotone a j w ≡ o → SideSound t₀ e a (merge_on e a w b j o)
    merge_on_sound b (some r) f =
        record {
          sound = strike_sound t₀ e a j shape sound w (undecided_free e a w one) r f;
          complete =
              append_redundant a r (bit_or (redundant j) w) j
              ∙ ap (λ (k : ℕ). bit_or k w) others
              ∙ with_removed (undecided e a) w (one_within w (undecided e a) one);
        }
    merge_on_sound b none f =
        resolve_sound f b (falsified_naming w (decide a w b) j.table) (falsified_naming w (decide a w (not b)) j.table) refl refl

-- step 7, from what the two sides came to
pub merge_sound :
    (t₀ : List Clause) (e : Env) (a : Assignment) (w : ℕ) (b : Bool) → OneOf w (undecided e a) → Within a.trues a.decided → (first second : State) →
    Among first.table second.table → Shape e (decide a w b) first → Finished t₀ e (decide a w b) first → Shape e (decide a w (not b)) second →
    Finished t₀ e (decide a w (not b)) second → SideSound t₀ e a (merge e a w b (last first.records).decisions.decided second)
unfolding merge
merge_sound t₀ e a w b one trues first second more shape_one done-one shape_two done-two =
    let r = (last first.records).decisions.decided in
    merge_on_sound t₀ e a w one (join e a w r second)
    (shape_join e a w b r second shape_two trues (last_recorded e (decide a w b) first shape_one).on)
    (join_sound e a w one trues t₀ b first second shape_one done-one.complete done-one.sound shape_two done-two.complete done-two.sound more)
    (join_redundant e a w r second)
    b
    (monotone a (join e a w r second) w)
    refl
