-- The search is right. A point that finds the empty clause, a model or a stop ends the run rightly, and one that branches comes together rightly from
-- two sides that are right. So if the search one level down is right where fewer variables are undecided, this one is; where none is undecided there is
-- no branching. Back up from the starting point means a model: the last D-sequent has no decisions and strikes every variable, and no clause is empty,
-- so nothing is left to keep.
use mathlib.Core.Path.{◌≡◌, refl, subst}
use mathlib.Core.Bool.{Bool, true, false, not}
use mathlib.Core.List.{List, Memᴰ}
use Prim.Native.Nat.{ℕ, zero, suc, ◌≤◌, ◌<◌}
use native.Mathlib.Omega.{arith}
use lib.Count.{ones}
use lib.Dec.{ltb}
use Rattle.words.specs.Words.{has, first_vars, Within}
use Rattle.words.proofs.Truth.{both_ways}
use Rattle.words.proofs.Membership.{has_zero}
use Rattle.words.proofs.Sets.{some_member, in_minus}
use Rattle.steps.specs.Lists.{any}
use Rattle.steps.specs.Clause.{Clause, vars, Assignment, decide, names, last, without}
use Rattle.steps.specs.State.{Env, State, Side, Side.up, Side.ended, Search, undecided, redundant, recorded, counted}
use Rattle.steps.specs.Enter.{Turn, Turn.back, Turn.satisfiable, Turn.branch, enter}
use Rattle.steps.specs.Search.{after_second, after_first, proceed, is_empty, step, search}
use Rattle.steps.specs.Run.{no_decisions}
use Rattle.steps.specs.Shape.{Shape, OneOf, TurnShape, SideShape}
use Rattle.steps.proofs.ListLaws.{any_true, any_false}
use Rattle.steps.proofs.ShapeKeep.{last_recorded}
use Rattle.steps.proofs.ShapeEnter.{shape_enter}
use Rattle.steps.proofs.ShapeSides.{shape_second, without_member, shape_branch}
use Rattle.steps.proofs.ShapeSearch.{Shapely, shape_search}
use Rattle.steps.proofs.Nesting.{undecided_one_fewer}
use Rattle.steps.proofs.Literals.{literal_of_lem, names_false}
use Rattle.steps.proofs.Sound.{Modeled, Among, begins_among, SoundState, last_gives, sound_fewer}
use Rattle.steps.proofs.SoundEnter.{TurnSound, enter_sound}
use Rattle.steps.proofs.SoundMerge.{Finished, SideSound, merge_sound}
use Rattle.steps.proofs.NoneEmpty.{NoneEmpty}
use Rattle.steps.proofs.LockstepGrows.{at, grows_refl, GrowsAll, grows_search}

-- a search that is right from sound points with fewer than k undecided variables
abbrev pub RightBelow : List Clause → Env → ℕ → Search → Type 0
RightBelow t₀ e k self =
    (a : Assignment) (v : ℕ) (s : State) → ones (undecided e a) < k → Shape e a s → SoundState t₀ s → SideSound t₀ e a (self a v s)

module _ (t₀ : List Clause) (e : Env) (k : ℕ) (self : Search) (shapely : Shapely e self) (grow : GrowsAll self) (right : RightBelow t₀ e k self) where
  -- after the second side
  after_second_sound :
      (a : Assignment) (w : ℕ) (b : Bool) → OneOf w (undecided e a) → Within a.trues a.decided → (first : State) → Shape e (decide a w b) first →
      Finished t₀ e (decide a w b) first → (x : Side) → Among first.table (at x).table → SideShape e (decide a w (not b)) x →
      SideSound t₀ e (decide a w (not b)) x → SideSound t₀ e a (after_second e a w b (last first.records).decisions.decided x)
  after_second_sound a w b one trues first shape done (up s) more h g = merge_sound t₀ e a w b one trues first s more shape done h g
  after_second_sound a w b one trues first shape done (ended x d s) more h g = g

  -- after the first side
  after_first_sound :
      (a : Assignment) (w : ℕ) (b : Bool) → OneOf w (undecided e a) → Within a.trues a.decided → ones (undecided e a) ≤ k → (x : Side) →
      SideShape e (decide a w b) x → SideSound t₀ e (decide a w b) x → SideSound t₀ e a (after_first e self a w b x)
  after_first_sound a w b one trues few (up s) h g =
      let next = recorded (without w s.records) s in
      let shape = shape_second e a w b s h in
      let grown = grow (decide a w (not b)) w next in
      after_second_sound a w b one trues s h g (self (decide a w (not b)) w next)
      (begins_among s.table _ grown.more grown.table)
      (shapely (decide a w (not b)) w next shape)
      (right (decide a w (not b)) w next (omega (arith, undecided_one_fewer e a w (not b) one)) shape
      (sound_fewer t₀ s.table s.records g.sound (without w s.records) (λ d m. (without_member w s.records d m).0)))
  after_first_sound a w b one trues few (ended x d s) h g = g

  -- from what is found at the point
  proceed_sound : (a : Assignment) → ones (undecided e a) ≤ k → (x : Turn) → TurnShape e a x → TurnSound t₀ e a x → SideSound t₀ e a (proceed e self a x)
  proceed_sound a few (back s) h g = record { sound = g.0; complete = g.1 }
  proceed_sound a few (satisfiable s) h g = g
  proceed_sound a few (branch w b s) h g = go (ltb s.branchings e.allowance) refl
    where
      go : (z : Bool) → ltb s.branchings e.allowance ≡ z → SideSound t₀ e a (proceed e self a (branch w b s))
      go false f = rw (f, proceed) g
      go true f =
          let side = shape_branch e a w b s h in
          rw (f, proceed)
          (after_first_sound a w b side.0 h.0.trues few (self (decide a w b) 0 (counted s))
          (shapely (decide a w b) 0 (counted s) side.1)
          (right (decide a w b) 0 (counted s) (omega (arith, undecided_one_fewer e a w b side.0)) side.1 g))

  -- a point is right if the search below it is
  step_sound : (a : Assignment) (v : ℕ) (s : State) → ones (undecided e a) ≤ k → Shape e a s → SoundState t₀ s → SideSound t₀ e a (step e self a v s)
  unfolding step
  step_sound a v s few shape sound = go (any is_empty s.table) refl
    where
      go : (z : Bool) → any is_empty s.table ≡ z → SideSound t₀ e a (step e self a v s)
      go true f = rw (f, step) (sound, any_true is_empty s.table f)
      go false f = rw (f, step) (proceed_sound a few (enter e a v s) (shape_enter e a v s shape) (enter_sound t₀ e a v s shape sound))

-- so the search is right
pub search_sound :
    (t₀ : List Clause) (e : Env) (k : ℕ) (a : Assignment) (v : ℕ) (s : State) → ones (undecided e a) ≤ k → Shape e a s → SoundState t₀ s →
    SideSound t₀ e a (search e k a v s)
unfolding search
search_sound t₀ e zero = step_sound t₀ e zero (λ a v s. up s) (λ a v s h. h) (λ a v s. grows_refl s) (λ a v s few. absurd (omega arith))
search_sound t₀ e (suc k) =
    step_sound t₀ e (suc k) (search e k) (shape_search e k) (grows_search e k) (λ a v s few. search_sound t₀ e k a v s (omega arith))

-- back up from the starting point means a model
pub root_modeled :
    (t₀ : List Clause) (e : Env) (s : State) → Shape e no_decisions s → NoneEmpty s → Finished t₀ e no_decisions s → Modeled t₀
unfolding undecided
root_modeled t₀ e s shape nonempty done =
    last_gives t₀ s.table s.records done.sound 0
    (λ k h. both_ways (has 0 k) ((last_recorded e no_decisions s shape).on k h) (has_zero k))
    (λ c m n. absurd (some_named c m n))
  where
    some_named : (c : Clause) → Memᴰ c s.table → names (redundant s) c ≡ false → ⊥
    some_named c m n =
        let k = some_member (vars c) (any_false is_empty s.table nonempty c m) in
        let l = literal_of_lem c k.0 k.1 in
        both_ways (has (undecided e no_decisions) k.0)
        (in_minus (first_vars e.n) 0 k.0 ((shape.clauses c m).named k.0 k.1) (has_zero k.0))
        (subst (λ (u : ℕ). has u k.0 ≡ false) done.complete (names_false (redundant s) c n l.0 k.0 l.1))
