-- Nesting deepens by one decided variable each time, so it never passes n. A branching decides a variable that was undecided, so both sides have one
-- more decided and one fewer undecided. Two searches that agree on both sides of every branching of a point agree at the point; where nothing is
-- undecided there is no branching. So a search that may go as deep as there are undecided variables agrees with every one that may go deeper.
use mathlib.Core.Path.{◌≡◌, refl, ap, ◌∙◌}
use mathlib.Core.Bool.{Bool, true, false, not}
use Prim.Native.Nat.{ℕ, zero, suc, ◌+◌, ◌≤◌}
use native.Mathlib.Omega.{arith}
use lib.Count.{ones}
use lib.Dec.{ltb}
use Rattle.words.specs.Words.{meets}
use Rattle.words.proofs.Sets.{within_refl, meets_false_intro}
use Rattle.words.proofs.Count.{ones_bit, ones_disjoint, ones_remove}
use Rattle.steps.specs.Lists.{any}
use Rattle.steps.specs.Clause.{Assignment, decide, last, without}
use Rattle.steps.specs.State.{Env, State, Side, Side.up, Side.ended, Search, undecided, recorded, counted}
use Rattle.steps.specs.Enter.{Turn, Turn.back, Turn.satisfiable, Turn.branch, enter}
use Rattle.steps.specs.Search.{after_second, after_first, proceed, is_empty, step, search}
use Rattle.steps.specs.Run.{given, no_decisions, start}
use Rattle.steps.specs.Shape.{Shape, OneOf, TurnShape, SideShape}
use Rattle.steps.specs.Demands.{OneDeeper, NeverPasses}
use Rattle.steps.proofs.Places.{decided_more}
use Rattle.steps.proofs.ShapeKeep.{undecided_free, undecided_few, live_one}
use Rattle.steps.proofs.ShapeEnter.{shape_enter}
use Rattle.steps.proofs.ShapeSides.{undecided_fewer, shape_second, shape_branch}
use Rattle.steps.proofs.ShapeSearch.{Shapely, shape_search}
use Rattle.steps.proofs.ShapeStart.{shape_start}

-- ---- one deeper

-- either side of a branching decides one variable more
decided_one_more : (e : Env) (a : Assignment) (w : ℕ) (b : Bool) → OneOf w (undecided e a) → ones (decide a w b).decided ≡ suc (ones a.decided)
decided_one_more e a w b one =
    let single : ones w ≡ 1 = rw one.word (ones_bit one.var) in
    rw (decided_more a w b) (omega (arith, ones_disjoint a.decided w apart))
  where
    apart : meets a.decided w ≡ false
    apart = meets_false_intro a.decided w (undecided_free e a w one)

-- and leaves one undecided fewer
pub undecided_one_fewer :
    (e : Env) (a : Assignment) (w : ℕ) (b : Bool) → OneOf w (undecided e a) → ones (undecided e a) ≡ suc (ones (undecided e (decide a w b)))
undecided_one_fewer e a w b one = rw (undecided_fewer e a w b, one.word) (ones_remove (undecided e a) one.var one.member)

-- a side of a branching decides one more variable
pub one_deeper : OneDeeper
one_deeper e a v s h w b t f side =
    let turn : TurnShape e a (branch w b t) = rw f at (shape_enter e a v s h) in
    decided_one_more e a w side (live_one e a t w turn.1)

-- ---- never passes n

-- two searches that agree on either side of every branching of a point agree at the point
module _ (e : Env) (self self' : Search) (below : Shapely e self) (a : Assignment)
    (agree : (w : ℕ) (b : Bool) (v : ℕ) (s : State) → OneOf w (undecided e a) → Shape e (decide a w b) s → self (decide a w b) v s ≡ self' (decide a w b) v s) where
  -- after the first side
  after_first_agrees : (w : ℕ) (b : Bool) (x : Side) → OneOf w (undecided e a) → SideShape e (decide a w b) x → after_first e self a w b x ≡ after_first e self' a w b x
  after_first_agrees w b (up s) one h =
      ap
      (after_second e a w b (last s.records).decisions.decided)
      (agree w (not b) w (recorded (without w s.records) s) one (shape_second e a w b s h))
  after_first_agrees w b (ended x d s) one h = refl

  -- after a turn
  proceed_agrees : (x : Turn) → TurnShape e a x → proceed e self a x ≡ proceed e self' a x
  proceed_agrees (back s) h = refl
  proceed_agrees (satisfiable s) h = refl
  proceed_agrees (branch w b s) h = go (ltb s.branchings e.allowance) refl
    where
      go : (z : Bool) → ltb s.branchings e.allowance ≡ z → proceed e self a (branch w b s) ≡ proceed e self' a (branch w b s)
      go false f = rw (f, proceed)
      go true f =
          let side = shape_branch e a w b s h in
          rw
          (f, proceed)
          (after_first_agrees w b (self (decide a w b) 0 (counted s)) side.0 (below (decide a w b) 0 (counted s) side.1) ∙
          ap (after_first e self' a w b) (agree w b 0 (counted s) side.0 side.1))

  -- at the point
  step_agrees : (v : ℕ) (s : State) → Shape e a s → step e self a v s ≡ step e self' a v s
  unfolding step
  step_agrees v s h = go (any is_empty s.table) refl
    where
      go : (z : Bool) → any is_empty s.table ≡ z → step e self a v s ≡ step e self' a v s
      go true f = rw (f, step)
      go false f = rw (f, step) (proceed_agrees (enter e a v s) (shape_enter e a v s h))

-- as deep as there are undecided variables is as deep as any
pub deep_enough :
    (e : Env) (k m : ℕ) → k ≤ m → (a : Assignment) (v : ℕ) (s : State) → Shape e a s → ones (undecided e a) ≤ k → search e m a v s ≡ search e k a v s
unfolding search
deep_enough e zero zero l a v s h u = refl
deep_enough e zero (suc m) l a v s h u =
    step_agrees
    e
    (search e m)
    (λ a v s. up s)
    (shape_search e m)
    a
    (λ w b v' s' one p. absurd (omega (arith, undecided_one_fewer e a w b one)))
    v
    s
    h
deep_enough e (suc k) zero l a v s h u = absurd (omega arith)
deep_enough e (suc k) (suc m) l a v s h u =
    step_agrees
    e
    (search e m)
    (search e k)
    (shape_search e m)
    a
    (λ w b v' s' one p. deep_enough e k m (omega arith) (decide a w b) v' s' p (omega (arith, undecided_one_fewer e a w b one)))
    v
    s
    h

-- at most n variables are undecided
pub undecided_at_most_n : (e : Env) (a : Assignment) → ones (undecided e a) ≤ e.n
undecided_at_most_n e a = undecided_few e a (undecided e a) (within_refl (undecided e a))

-- nesting never passes n
pub never_passes : NeverPasses
never_passes n book o h allowance capacity k =
    let e : Env = record { n = n; allowance = allowance; capacity = capacity } in
    deep_enough e n (n + k) (omega arith) no_decisions 0 (start (given book o)) (shape_start n book o allowance capacity h) (undecided_at_most_n e no_decisions)
