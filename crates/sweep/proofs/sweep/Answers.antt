-- Where nothing is live nothing is found, and the sweep is done. What a turn chooses is what the steps find (`Turns`). If it was the last live variable its strike is all
-- (`sweep_last`); if not the sweep is the same after it (`sweep_turn`), and its walk has taken the notes of the state then. Where nothing is found the sweep is done.
use Rattle.std.proofs.Common.{◌<◌, refl, sym, ap, ◌∙◌, subst}
use Rattle.std.specs.declared.option.Option.{Option}
use lib.Count.{ones}
use Rattle.steps.specs.Clause.{DSequent}
use Rattle.steps.specs.State.{State, redundant, live}
use Rattle.steps.specs.Notes.{notes, gather, found_by}
use Rattle.steps.specs.Sweep.{strike, sweep}
use Rattle.steps.proofs.ShapeKeep.{append_redundant}
use Rattle.rows.specs.Values.{assignment_of, env_of, sequent_of}
use Rattle.rows.specs.Rows.{state_of}
use Rattle.rows.proofs.Walks.{tallied_at}
use Rattle.sweep.specs.declared.Literal.{Literal}
use Rattle.sweep.specs.Sweep.{literal_of, choice_of}
use Rattle.sweep.proofs.Points.{list_fits, still_ready, tallied_last}
use Rattle.sweep.proofs.Strikes.{found_is, shape_found, live_fewer, none_live, reasons, strike_is, notes_after, sweep_ends, sweep_turn, sweep_last}
use Rattle.sweep.proofs.Turns.{turn}
use Rattle.sweep.proofs.sweep.Goals as goal

pub last-first-requires : goal.last-first-requires
last-first-requires c = list_fits c.requires.0

pub returns-then-live-eq0 : goal.returns-then-live-eq0
returns-then-live-eq0 c =
    let g = c.args in
    let e = env_of g.e in
    let a = assignment_of g.a in
    let s = state_of g.t.now g.rs.now g.s in
    (sym (sweep_ends e a g.e.vars s (none_live e a s (sym (c.live.ensures s c.last-first.ensures) ∙ c.if-live-eq0.true))), c.requires.1)

pub last-d-requires : goal.last-d-requires
last-d-requires c = list_fits c.loop-l.invariant.0

pub returns-in_default : goal.returns-in_default
returns-in_default c =
    let g = c.args in
    let e = env_of g.e in
    let a = assignment_of g.a in
    let s = state_of g.t.now c.loop-l.rs c.loop-l.now in
    let inv = c.loop-l.invariant in
    let lives = c.live-live.ensures s c.last-d.ensures in
    let nothing-found = sym (found_is e a s _ _ _ c.choice.ensures lives inv.2) ∙ ap (λ (o : Option Literal). found_by a s (choice_of o)) c.in_default.is in
    (sym (inv.1 ∙ sweep_ends e a g.e.vars s nothing-found), inv.3)

pub strike_by-requires : goal.strike_by-requires
strike_by-requires c =
    let inv = c.loop-l.invariant in
    let now = turn inv.0 inv.2 (c.live-live.ensures _ c.last-d.ensures) c.choice.ensures c.in-Some.is in
    record {
      variable = now.variable;
      table = inv.0.table;
      next = now.next;
      last = c.last-d.ensures;
      tallied = inv.3;
    }

pub returns-then-live-l : goal.returns-then-live-l
returns-then-live-l c =
    let g = c.args in
    let e = env_of g.e in
    let a = assignment_of g.a in
    let s = state_of g.t.now c.loop-l.rs c.loop-l.now in
    let w = c.in-Some.l in
    let inv = c.loop-l.invariant in
    let now = turn inv.0 inv.2 (c.live-live.ensures _ c.last-d.ensures) c.choice.ensures c.in-Some.is in
    let lives = c.live-live.ensures s c.last-d.ensures in (
      c.strike_by.ensures.0
          ∙ ap (λ (d : DSequent). strike a w.var (gather (literal_of w) a d.redundant d.decisions.decided s.table) s) c.last-d.ensures
          ∙ sym (inv.1 ∙ sweep_last e a s _ _ now.found (sym lives ∙ c.if-live-l.true)),
      c.strike_by.ensures.1,
    )

pub gather-on-requires : goal.gather-on-requires
gather-on-requires c =
    let inv = c.loop-l.invariant in
    let now = turn inv.0 inv.2 (c.live-live.ensures _ c.last-d.ensures) c.choice.ensures c.in-Some.is in
    (inv.0.table, inv.3.room, now.variable)

pub strike-seen-requires : goal.strike-seen-requires
strike-seen-requires c =
    let inv = c.loop-l.invariant in
    let now = turn inv.0 inv.2 (c.live-live.ensures _ c.last-d.ensures) c.choice.ensures c.in-Some.is in
    (inv.0.table, inv.3.room, now.variable)

pub append-now-requires : goal.append-now-requires
append-now-requires c =
    let inv = c.loop-l.invariant in
    (turn inv.0 inv.2 (c.live-live.ensures _ c.last-d.ensures) c.choice.ensures c.in-Some.is).next

pub loop-l-smaller : goal.loop-l-smaller
loop-l-smaller c =
    let g = c.args in
    let e = env_of g.e in
    let a = assignment_of g.a in
    let s = state_of g.t.now c.loop-l.rs c.loop-l.now in
    let inv = c.loop-l.invariant in
    let now = turn inv.0 inv.2 (c.live-live.ensures _ c.last-d.ensures) c.choice.ensures c.in-Some.is in
    let strikes =
    c.append-now.ensures g.t.now
    ∙ strike_is a s (literal_of c.in-Some.l) (sequent_of c.last-d.result) _ c.last-d.ensures (c.gather-on.ensures _ (tallied_last c.loop-l.rs c.loop-l.now _ _ c.last-d.ensures inv.3)) in
    subst (λ (x : State). ones (live e a x) < ones (live e a s)) (sym strikes) (live_fewer e a s _ _ now.found)

pub loop-l-preserved : goal.loop-l-preserved
loop-l-preserved c =
    let g = c.args in
    let e = env_of g.e in
    let a = assignment_of g.a in
    let s = state_of g.t.now c.loop-l.rs c.loop-l.now in
    let w = c.in-Some.l in
    let inv = c.loop-l.invariant in
    let now = turn inv.0 inv.2 (c.live-live.ensures _ c.last-d.ensures) c.choice.ensures c.in-Some.is in
    let strikes =
    c.append-now.ensures g.t.now
    ∙ strike_is a s (literal_of w) (sequent_of c.last-d.result) _ c.last-d.ensures (c.gather-on.ensures _ (tallied_last c.loop-l.rs c.loop-l.now _ _ c.last-d.ensures inv.3)) in
    let walk = c.strike-seen.ensures a _ inv.3 in (
      still_ready _ inv.0 c.append-now.auto.rs strikes refl (shape_found e a s _ _ inv.0.shape now.found),
      inv.1 ∙ sweep_turn e a s _ _ now.found ∙ ap (sweep e a g.e.vars) (sym strikes),
      walk.1 inv.2 ∙ sym (notes_after a s w.var (reasons a s (literal_of w))) ∙ ap (λ (x : State). notes a (redundant x) x.table) (sym strikes),
      tallied_at c.append-now.new.rs c.append-now.result a _ strikes refl (append_redundant a _ _ s) walk.0,
    )
