-- Every point of a run has its shape, and so does the state in which a run ends. A point hands the search below it points, on both sides, and comes
-- together from what that leaves; so if the search one level down keeps shapes, this one does.
use mathlib.Core.Path.{◌≡◌, refl}
use mathlib.Core.Bool.{Bool, true, false, not}
use Prim.Native.Nat.{ℕ, zero, suc}
use lib.Dec.{ltb}
use Rattle.words.specs.Words.{Within}
use Rattle.steps.specs.Lists.{any}
use Rattle.steps.specs.Clause.{Assignment, decide, last, without}
use Rattle.steps.specs.State.{Env, State, Side, Side.up, Side.ended, Search, undecided, recorded, counted}
use Rattle.steps.specs.Enter.{Turn, Turn.back, Turn.satisfiable, Turn.branch, enter}
use Rattle.steps.specs.Search.{after_second, after_first, proceed, is_empty, step, search}
use Rattle.steps.specs.Shape.{Shape, OneOf, TurnShape, SideShape}
use Rattle.steps.proofs.ShapeKeep.{last_recorded}
use Rattle.steps.proofs.ShapeEnter.{shape_enter}
use Rattle.steps.proofs.ShapeSides.{shape_second, shape_branch}
use Rattle.steps.proofs.ShapeMerge.{shape_merge}

-- a search that leaves points where it starts from points
abbrev pub Shapely : Env → Search → Type 0
Shapely e self = (a : Assignment) (v : ℕ) (s : State) → Shape e a s → SideShape e a (self a v s)

module _ (e : Env) (self : Search) (below : Shapely e self) where
  -- step 7, or the end of the run on the second side
  shape_after_second :
      (a : Assignment) (w : ℕ) (b : Bool) (r : ℕ) (x : Side) → Within a.trues a.decided → OneOf w (undecided e a) → Within r (decide a w b).decided →
      SideShape e (decide a w (not b)) x → SideShape e a (after_second e a w b r x)
  shape_after_second a w b r (up s) t one on h = shape_merge e a w b r s h t on one
  shape_after_second a w b r (ended x d s) t one on h = h

  -- step 6, or the end of the run on the first side
  shape_after_first :
      (a : Assignment) (w : ℕ) (b : Bool) (x : Side) → Within a.trues a.decided → OneOf w (undecided e a) → SideShape e (decide a w b) x →
      SideShape e a (after_first e self a w b x)
  shape_after_first a w b (up s) t one h =
      shape_after_second
      a
      w
      b
      (last s.records).decisions.decided
      (self (decide a w (not b)) w (recorded (without w s.records) s))
      t
      one
      (last_recorded e (decide a w b) s h).on
      (below (decide a w (not b)) w (recorded (without w s.records) s) (shape_second e a w b s h))
  shape_after_first a w b (ended x d s) t one h = h

  -- what a turn goes on to
  shape_proceed : (a : Assignment) (x : Turn) → TurnShape e a x → SideShape e a (proceed e self a x)
  shape_proceed a (back s) h = h
  shape_proceed a (satisfiable s) h = h
  shape_proceed a (branch w b s) h = go (ltb s.branchings e.allowance) refl
    where
      go : (z : Bool) → ltb s.branchings e.allowance ≡ z → SideShape e a (proceed e self a (branch w b s))
      go false f = rw (f, proceed) h.0
      go true f =
          let side = shape_branch e a w b s h in
          rw
          (f, proceed)
          (shape_after_first
          a
          w
          b
          (self (decide a w b) 0 (counted s))
          h.0.trues
          side.0
          (below (decide a w b) 0 (counted s) side.1))

  -- a point keeps shapes if the search below it does
  pub shape_step : Shapely e (step e self)
  unfolding step
  shape_step a v s h = go (any is_empty s.table) refl
    where
      go : (z : Bool) → any is_empty s.table ≡ z → SideShape e a (step e self a v s)
      go true f = rw (f, step) h
      go false f = rw (f, step) (shape_proceed a (enter e a v s) (shape_enter e a v s h))

-- a search of any depth keeps shapes
pub shape_search : (e : Env) (k : ℕ) (a : Assignment) (v : ℕ) (s : State) → Shape e a s → SideShape e a (search e k a v s)
unfolding search
shape_search e zero = shape_step e (λ a v s. up s) (λ a v s h. h)
shape_search e (suc k) = shape_step e (search e k) (shape_search e k)
