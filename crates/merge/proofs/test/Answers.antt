-- What the look-ups find are the lowest-numbered clauses in play with v's two literals, and what comes of them is the definition's (`passes_negative`, `passes_positive`,
-- `resolves`).
use Rattle.std.proofs.Common.{true, false, sym, ap, ◌∙◌, rules}
use Rattle.steps.specs.Clause.{Clause, falsified, DSequent}
use Rattle.steps.specs.State.{Side.up}
use Rattle.steps.specs.Notes.{gather}
use Rattle.steps.specs.Sweep.{strike}
use Rattle.steps.specs.Merge.{cover, learn}
use Rattle.rows.specs.Values.{assignment_of, env_of, found_of}
use Rattle.rows.specs.Rows.{state_of}
use Rattle.merge.proofs.Joined.{branched_variable, strikes, struck_apart, passes_negative, passes_positive, resolves, resolvent_broken}
use Rattle.merge.proofs.test.Goals as goal

pub in_play-requires : goal.in_play-requires
in_play-requires c =
    let x = c.args in
    let pre = c.requires.others_struck in
    (search rules, search rules, branched_variable x.e x.a x.v pre.vars pre.branched)

pub strike_by-requires : goal.strike_by-requires
strike_by-requires c = strikes c.requires.others_struck c.last-d.ensures

pub returns-in_default : goal.returns-in_default
returns-in_default c =
    let x = c.args in
    let a = assignment_of x.a in
    let s = state_of x.t.now x.rs.now x.s in
    let negative = sym (c.in_play.ensures _ _ c.requires.others_struck.tallied) in (
      λ b.
          ap up c.strike_by.ensures.0
          ∙ ap (λ (l : DSequent). up (strike a x.v (gather (record { var = x.v; sign = false }) a l.redundant l.decisions.decided s.table) s)) c.last-d.ensures
          ∙ passes_negative (env_of x.e) a x.v s b (negative ∙ ap found_of c.in_default.is),
      c.strike_by.ensures.1,
    )

pub in_play-requires-2 : goal.in_play-requires-2
in_play-requires-2 c =
    let x = c.args in
    let pre = c.requires.others_struck in
    (search rules, search rules, branched_variable x.e x.a x.v pre.vars pre.branched)

pub strike_by-requires-in_default-in_play : goal.strike_by-requires-in_default-in_play
strike_by-requires-in_default-in_play c = strikes c.requires.others_struck c.last-d.ensures

pub returns-in_default-in_play : goal.returns-in_default-in_play
returns-in_default-in_play c =
    let x = c.args in
    let a = assignment_of x.a in
    let s = state_of x.t.now x.rs.now x.s in
    let made = c.strike_by-in_default-in_play in
    let negative = sym (c.in_play.ensures _ _ c.requires.others_struck.tallied) in
    let positive = sym (c.in_play-2.ensures _ _ c.requires.others_struck.tallied) in (
      λ b.
          ap up made.ensures.0
          ∙ ap (λ (l : DSequent). up (strike a x.v (gather (record { var = x.v; sign = true }) a l.redundant l.decisions.decided s.table) s)) c.last-d.ensures
          ∙ passes_positive (env_of x.e) a x.v s b _ (negative ∙ ap found_of c.in-Some.is) (positive ∙ ap found_of c.in_default-in_play.is),
      made.ensures.1,
    )

pub learn-requires : goal.learn-requires
learn-requires c =
    let x = c.args in
    let a = assignment_of x.a in
    let pre = c.requires in
    let struck = pre.others_struck in
    let negative = sym (c.in_play.ensures _ _ struck.tallied) ∙ ap found_of c.in-Some.is in
    let positive = sym (c.in_play-2.ensures _ _ struck.tallied) ∙ ap found_of c.in-Some-in_play.is in
    record {
      room = record { vars = struck.vars; next = struck.next };
      capacity = pre.capacity;
      places = pre.places;
      few = pre.clauses;
      apart = struck_apart struck;
      tallied = struck.tallied;
      last = c.last-d.ensures;
      broken =
          ap (falsified a) c.resolvent.ensures
          ∙ resolvent_broken (env_of x.e) a x.v (state_of x.t.now x.rs.now x.s) struck.branched pre.shape struck.others _ _ negative positive;
    }

pub returns : goal.returns
returns c =
    let x = c.args in
    let a = assignment_of x.a in
    let s = state_of x.t.now x.rs.now x.s in
    let struck = c.requires.others_struck in
    let negative = sym (c.in_play.ensures _ _ struck.tallied) ∙ ap found_of c.in-Some.is in
    let positive = sym (c.in_play-2.ensures _ _ struck.tallied) ∙ ap found_of c.in-Some-in_play.is in (
      λ b.
          c.learn.ensures.0
          ∙ ap (λ (l : Clause). learn (env_of x.e) a s l (cover l s.table)) c.resolvent.ensures
          ∙ resolves (env_of x.e) a x.v s struck.branched c.requires.shape struck.others b _ _ negative positive,
      c.learn.ensures.1,
    )
