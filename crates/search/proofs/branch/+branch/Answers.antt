-- Each place of the code where a branching has gone a stage further is a stage of `Sides`, which says what is known there; each way out is what the search comes to from
-- that stage, and each call asks a point of it. x is the branching, o the first side opened and f its result, u that it went up, y the second side opened and z its result.
use Rattle.std.proofs.Common.{◌∙◌}
use Rattle.rows.specs.Values.{sequent_of}
use Rattle.sweep.proofs.Points.{list_fits}
use Rattle.search.proofs.Points.{ready}
use Rattle.search.proofs.Sides.{halted_at, turned_at, deciding, here_fits, spent, opened_at, first_falls, first_point, first_held, first_at, first_ended, FirstUp, one_point, turning}
use Rattle.search.proofs.Seconds.{crossed_at, second_falls, second_point, second_held, second_at, second_ended, mergeable, merging, merged}
use Rattle.search.proofs.branch.+branch.Goals as goal

pub returns-in_default : goal.returns-in_default
returns-in_default t c =
    let turn = c.enter-turn in
    let made = c.not_branching.ensures c.args.t.now turn.new.q turn.new.rs in
    (halted_at c.args.v turn.new.rs turn.result _ c.requires.0 turn.ensures.0 c.in_default.not-Branch made.0, made.1 turn.ensures.1)

pub returns-then-e-here : goal.returns-then-e-here
returns-then-e-here t c =
    let x = turned_at c.args.v c.enter-turn.new.q c.enter-turn.new.rs c.in-Branch.is c.requires.0 c.requires.1 c.decreases c.enter-turn.auto.q c.enter-turn.auto.rs c.enter-turn.ensures.0 c.enter-turn.ensures.1 in
    (spent x c.if-e-here.true, x.tallied)

pub last-struck-requires : goal.last-struck-requires
last-struck-requires t c =
    let x = turned_at c.args.v c.enter-turn.new.q c.enter-turn.new.rs c.in-Branch.is c.requires.0 c.requires.1 c.decreases c.enter-turn.auto.q c.enter-turn.auto.rs c.enter-turn.ensures.0 c.enter-turn.ensures.1 in
    here_fits x

pub decide-requires : goal.decide-requires
decide-requires t c =
    let x = turned_at c.args.v c.enter-turn.new.q c.enter-turn.new.rs c.in-Branch.is c.requires.0 c.requires.1 c.decreases c.enter-turn.auto.q c.enter-turn.auto.rs c.enter-turn.ensures.0 c.enter-turn.ensures.1 in
    deciding x

pub branch-first-requires : goal.branch-first-requires
branch-first-requires t c =
    let x = turned_at c.args.v c.enter-turn.new.q c.enter-turn.new.rs c.in-Branch.is c.requires.0 c.requires.1 c.decreases c.enter-turn.auto.q c.enter-turn.auto.rs c.enter-turn.ensures.0 c.enter-turn.ensures.1 in
    let o = opened_at x c.decide-2.result (sequent_of c.last-struck.result) c.if-e-here.false c.decide-2.ensures c.last-struck.ensures c.decide.auto.q c.decide.ensures in
    (first_falls o, (first_point o, first_held o))

pub returns-in_default-first : goal.returns-in_default-first
returns-in_default-first t c =
    let x = turned_at c.args.v c.enter-turn.new.q c.enter-turn.new.rs c.in-Branch.is c.requires.0 c.requires.1 c.decreases c.enter-turn.auto.q c.enter-turn.auto.rs c.enter-turn.ensures.0 c.enter-turn.ensures.1 in
    let o = opened_at x c.decide-2.result (sequent_of c.last-struck.result) c.if-e-here.false c.decide-2.ensures c.last-struck.ensures c.decide.auto.q c.decide.ensures in
    let f = first_at o c.branch-first.new.t c.branch-first.new.rs c.branch-first.new.q c.branch-first.result c.branch-first.auto.t c.branch-first.auto.rs c.branch-first.auto.q c.branch-first.ensures in
    first_ended f _ _ _ c.in_default-first.is

pub last-last-requires : goal.last-last-requires
last-last-requires t c =
    let x = turned_at c.args.v c.enter-turn.new.q c.enter-turn.new.rs c.in-Branch.is c.requires.0 c.requires.1 c.decreases c.enter-turn.auto.q c.enter-turn.auto.rs c.enter-turn.ensures.0 c.enter-turn.ensures.1 in
    let o = opened_at x c.decide-2.result (sequent_of c.last-struck.result) c.if-e-here.false c.decide-2.ensures c.last-struck.ensures c.decide.auto.q c.decide.ensures in
    let f = first_at o c.branch-first.new.t c.branch-first.new.rs c.branch-first.new.q c.branch-first.result c.branch-first.auto.t c.branch-first.auto.rs c.branch-first.auto.q c.branch-first.ensures in
    let u : FirstUp f = record { one = c.in_Up-first.one; is = c.in_Up-first.is } in
    list_fits (ready (one_point u))

pub without-kept-requires : goal.without-kept-requires
without-kept-requires t c =
    let x = turned_at c.args.v c.enter-turn.new.q c.enter-turn.new.rs c.in-Branch.is c.requires.0 c.requires.1 c.decreases c.enter-turn.auto.q c.enter-turn.auto.rs c.enter-turn.ensures.0 c.enter-turn.ensures.1 in
    let o = opened_at x c.decide-2.result (sequent_of c.last-struck.result) c.if-e-here.false c.decide-2.ensures c.last-struck.ensures c.decide.auto.q c.decide.ensures in
    let f = first_at o c.branch-first.new.t c.branch-first.new.rs c.branch-first.new.q c.branch-first.result c.branch-first.auto.t c.branch-first.auto.rs c.branch-first.auto.q c.branch-first.ensures in
    let u : FirstUp f = record { one = c.in_Up-first.one; is = c.in_Up-first.is } in
    list_fits (ready (one_point u))

pub turn-requires : goal.turn-requires
turn-requires t c =
    let x = turned_at c.args.v c.enter-turn.new.q c.enter-turn.new.rs c.in-Branch.is c.requires.0 c.requires.1 c.decreases c.enter-turn.auto.q c.enter-turn.auto.rs c.enter-turn.ensures.0 c.enter-turn.ensures.1 in
    let o = opened_at x c.decide-2.result (sequent_of c.last-struck.result) c.if-e-here.false c.decide-2.ensures c.last-struck.ensures c.decide.auto.q c.decide.ensures in
    let f = first_at o c.branch-first.new.t c.branch-first.new.rs c.branch-first.new.q c.branch-first.result c.branch-first.auto.t c.branch-first.auto.rs c.branch-first.auto.q c.branch-first.ensures in
    let u : FirstUp f = record { one = c.in_Up-first.one; is = c.in_Up-first.is } in
    turning u

pub branch-second-requires : goal.branch-second-requires
branch-second-requires t c =
    let x = turned_at c.args.v c.enter-turn.new.q c.enter-turn.new.rs c.in-Branch.is c.requires.0 c.requires.1 c.decreases c.enter-turn.auto.q c.enter-turn.auto.rs c.enter-turn.ensures.0 c.enter-turn.ensures.1 in
    let o = opened_at x c.decide-2.result (sequent_of c.last-struck.result) c.if-e-here.false c.decide-2.ensures c.last-struck.ensures c.decide.auto.q c.decide.ensures in
    let f = first_at o c.branch-first.new.t c.branch-first.new.rs c.branch-first.new.q c.branch-first.result c.branch-first.auto.t c.branch-first.auto.rs c.branch-first.auto.q c.branch-first.ensures in
    let u : FirstUp f = record { one = c.in_Up-first.one; is = c.in_Up-first.is } in
    let y = crossed_at u c.decide-3.result (sequent_of c.last-last.result) c.without-kept.auto.rs c.without-kept.ensures c.decide-3.ensures c.last-last.ensures c.turn.auto.q c.turn.ensures in
    (second_falls y, (second_point y, second_held y))

pub returns-in_default-second : goal.returns-in_default-second
returns-in_default-second t c =
    let x = turned_at c.args.v c.enter-turn.new.q c.enter-turn.new.rs c.in-Branch.is c.requires.0 c.requires.1 c.decreases c.enter-turn.auto.q c.enter-turn.auto.rs c.enter-turn.ensures.0 c.enter-turn.ensures.1 in
    let o = opened_at x c.decide-2.result (sequent_of c.last-struck.result) c.if-e-here.false c.decide-2.ensures c.last-struck.ensures c.decide.auto.q c.decide.ensures in
    let f = first_at o c.branch-first.new.t c.branch-first.new.rs c.branch-first.new.q c.branch-first.result c.branch-first.auto.t c.branch-first.auto.rs c.branch-first.auto.q c.branch-first.ensures in
    let u : FirstUp f = record { one = c.in_Up-first.one; is = c.in_Up-first.is } in
    let y = crossed_at u c.decide-3.result (sequent_of c.last-last.result) c.without-kept.auto.rs c.without-kept.ensures c.decide-3.ensures c.last-last.ensures c.turn.auto.q c.turn.ensures in
    let z = second_at y c.branch-second.new.t c.branch-second.new.rs c.branch-second.new.q c.branch-second.result c.branch-second.auto.t c.branch-second.auto.rs c.branch-second.auto.q c.branch-second.ensures in
    second_ended z _ _ _ c.in_default-second.is

pub merge-requires : goal.merge-requires
merge-requires t c =
    let x = turned_at c.args.v c.enter-turn.new.q c.enter-turn.new.rs c.in-Branch.is c.requires.0 c.requires.1 c.decreases c.enter-turn.auto.q c.enter-turn.auto.rs c.enter-turn.ensures.0 c.enter-turn.ensures.1 in
    let o = opened_at x c.decide-2.result (sequent_of c.last-struck.result) c.if-e-here.false c.decide-2.ensures c.last-struck.ensures c.decide.auto.q c.decide.ensures in
    let f = first_at o c.branch-first.new.t c.branch-first.new.rs c.branch-first.new.q c.branch-first.result c.branch-first.auto.t c.branch-first.auto.rs c.branch-first.auto.q c.branch-first.ensures in
    let u : FirstUp f = record { one = c.in_Up-first.one; is = c.in_Up-first.is } in
    let y = crossed_at u c.decide-3.result (sequent_of c.last-last.result) c.without-kept.auto.rs c.without-kept.ensures c.decide-3.ensures c.last-last.ensures c.turn.auto.q c.turn.ensures in
    let z = second_at y c.branch-second.new.t c.branch-second.new.rs c.branch-second.new.q c.branch-second.result c.branch-second.auto.t c.branch-second.auto.rs c.branch-second.auto.q c.branch-second.ensures in
    (mergeable z c.in_Up-second.two c.in_Up-second.is, merging z c.in_Up-second.two c.in_Up-second.is)

pub returns : goal.returns
returns t c =
    let x = turned_at c.args.v c.enter-turn.new.q c.enter-turn.new.rs c.in-Branch.is c.requires.0 c.requires.1 c.decreases c.enter-turn.auto.q c.enter-turn.auto.rs c.enter-turn.ensures.0 c.enter-turn.ensures.1 in
    let o = opened_at x c.decide-2.result (sequent_of c.last-struck.result) c.if-e-here.false c.decide-2.ensures c.last-struck.ensures c.decide.auto.q c.decide.ensures in
    let f = first_at o c.branch-first.new.t c.branch-first.new.rs c.branch-first.new.q c.branch-first.result c.branch-first.auto.t c.branch-first.auto.rs c.branch-first.auto.q c.branch-first.ensures in
    let u : FirstUp f = record { one = c.in_Up-first.one; is = c.in_Up-first.is } in
    let y = crossed_at u c.decide-3.result (sequent_of c.last-last.result) c.without-kept.auto.rs c.without-kept.ensures c.decide-3.ensures c.last-last.ensures c.turn.auto.q c.turn.ensures in
    let z = second_at y c.branch-second.new.t c.branch-second.new.rs c.branch-second.new.q c.branch-second.result c.branch-second.auto.t c.branch-second.auto.rs c.branch-second.auto.q c.branch-second.ensures in
    (c.merge.ensures.0 ∙ merged z c.in_Up-second.two c.in_Up-second.is, c.merge.ensures.1)
