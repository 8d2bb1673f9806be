-- Each way out is the definition once its tests are known (`Turns`); the sweep keeps the shape of the point and touches neither the clauses nor their count. Where a
-- D-sequent is appended, something is live, so there is room for it. The tallies are put at the set of the list that is left.
use Rattle.std.proofs.Common.{refl, ap, sym, ◌∙◌}
use mathlib.Core.Path.{subst⁻¹}
use Rattle.words.specs.Words.{is_zero}
use Rattle.words.proofs.Sets.{nonzero}
use Rattle.steps.specs.Clause.{DSequent}
use Rattle.steps.specs.State.{State}
use Rattle.steps.specs.Enter.{Turn.back, swept}
use Rattle.steps.specs.Sweep.{sweep}
use Rattle.steps.proofs.ShapeKeep.{append_redundant}
use Rattle.steps.proofs.LockstepGrows.{listed_sweep}
use Rattle.steps.proofs.ShapeSweep.{shape_sweep}
use Rattle.rows.specs.Values.{assignment_of, env_of, found_of}
use Rattle.rows.specs.Rows.{state_of}
use Rattle.rows.specs.Tally.{TalliedAt}
use Rattle.rows.specs.declared.state.Counts.{Counts}
use Rattle.rows.proofs.Walks.{tallied_at}
use Rattle.sweep.proofs.Points.{list_fits, next_fits, still_ready}
use Rattle.enter.proofs.Turns.{apart, enter_swept, enter_back, enter_falsified}
use Rattle.enter.proofs.enter.Goals as goal

pub last-d-requires : goal.last-d-requires
last-d-requires c = list_fits c.requires.0

pub sweep-after-requires : goal.sweep-after-requires
sweep-after-requires c =
    let g = c.args in (
      c.requires.0,
      tallied_at g.rs.now g.s (assignment_of g.a) (state_of g.t.now g.rs.now g.s) refl refl (ap (λ (d : DSequent). d.redundant) (sym c.last-d.ensures))
          (c.unstrike.ensures _ _ c.requires.1.tallied),
    )

pub swept-requires : goal.swept-requires
swept-requires c =
    let g = c.args in
    let e = env_of g.e in
    let a = assignment_of g.a in
    let w = c.sweep-after in
    let s = state_of g.t.now g.rs.now g.s in (
      still_ready (sweep e a g.e.vars s) c.requires.0 w.auto.rs w.ensures.0 (listed_sweep e a g.e.vars s).table (shape_sweep e a g.e.vars s c.requires.0.shape),
      w.ensures.1,
    )

pub returns-in_default : goal.returns-in_default
returns-in_default c =
    let g = c.args in
    let e = env_of g.e in
    let a = assignment_of g.a in
    let w = c.sweep-after in
    let naming = c.falsified_naming.ensures _ _ (apart e _ _ c.requires.1.undecided) c.requires.1.tallied in (
      c.swept.ensures.0
          ∙ ap (λ (x : State). swept e a x) w.ensures.0
          ∙ enter_swept e a g.v (state_of g.t.now g.rs.now g.s) (sym naming ∙ ap found_of c.in_default.is),
      subst⁻¹ (λ (n : Counts). TalliedAt g.t.now w.new.q w.new.rs a n) c.swept.ensures.1 w.ensures.1,
    )

pub returns-then-live-eq0 : goal.returns-then-live-eq0
returns-then-live-eq0 c =
    let g = c.args in
    let naming = c.falsified_naming.ensures _ _ (apart (env_of g.e) _ _ c.requires.1.undecided) c.requires.1.tallied in
    let lives = c.live.ensures (state_of g.t.now g.rs.now g.s) c.last-d.ensures in (
      enter_back _ _ _ _ _ (sym naming ∙ ap found_of c.in-Some.is) (ap is_zero (sym lives ∙ c.if-live-eq0.true)),
      tallied_at g.rs.now g.s (assignment_of g.a) (state_of g.t.now g.rs.now g.s) refl refl (ap (λ (d : DSequent). d.redundant) (sym c.last-d.ensures))
          (c.unstrike-then-live-eq0.ensures _ _ c.requires.1.tallied),
    )

pub append_falsified-requires : goal.append_falsified-requires
append_falsified-requires c =
    let g = c.args in
    let lives = c.live.ensures (state_of g.t.now g.rs.now g.s) c.last-d.ensures in
    record { vars = c.requires.0.vars; next = next_fits c.requires.0 (ap is_zero (sym lives) ∙ nonzero c.live.result c.if-live-eq0.false) }

pub returns : goal.returns
returns c =
    let g = c.args in
    let naming = c.falsified_naming.ensures _ _ (apart (env_of g.e) _ _ c.requires.1.undecided) c.requires.1.tallied in
    let lives = c.live.ensures (state_of g.t.now g.rs.now g.s) c.last-d.ensures in
    let put = c.append_falsified in
    let is = put.ensures g.t.now in (
      ap back is ∙ enter_falsified _ _ _ _ _ (sym naming ∙ ap found_of c.in-Some.is) (ap is_zero (sym lives) ∙ nonzero c.live.result c.if-live-eq0.false),
      tallied_at put.new.rs put.result (assignment_of g.a) _ is refl (append_redundant (assignment_of g.a) _ _ (state_of g.t.now g.rs.now g.s) ∙ sym c.undecided.ensures)
          (c.unstrike-2.ensures _ _ c.requires.1.tallied),
    )
