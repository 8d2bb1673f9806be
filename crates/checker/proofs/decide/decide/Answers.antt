use Rattle.std.proofs.Common.{arith, subst}
use Rattle.steps.specs.Run.{Outcome}
use Rattle.answer.specs.Numbers.{by_number}
use Rattle.rows.specs.Rows.{clauses}
use Rattle.order.specs.Values.{assumptions_of}
use Rattle.search.specs.Values.{Handed}
use Rattle.checker.proofs.Working.{book_few, given_count, given_few, given_are_proper, run_is}
use Rattle.checker.proofs.decide.decide.Goals as goal

pub assume-m-requires : goal.assume-m-requires
assume-m-requires c =
    let w = c.requires.workable in
    omega (arith, book_few c.args.b (assumptions_of c.args.o) c.args.t.now w, w.order_few, w.well_formed.vars_few, w.room)

pub overflow_add-e : goal.overflow_add-e
overflow_add-e c =
    let few = given_few c.args.b (assumptions_of c.args.o) c.args.t.now c.requires.workable _ c.assume-m.result c.assume-m.ensures in
    omega (arith, few, c.requires.places_few)

pub run-found-requires : goal.run-found-requires
run-found-requires c =
    let w = c.requires.workable in
    let few = given_few c.args.b (assumptions_of c.args.o) c.args.t.now w _ c.assume-m.result c.assume-m.ensures in
    record {
      vars = w.well_formed.vars_few;
      capacity = omega (arith, few, c.requires.places_few, w.room, c.assume-m.auto.t);
      clauses = omega arith;
      places = omega (arith, few, c.requires.places_few, c.requires.tally_room);
      room = omega (arith, w.well_formed.vars_few, c.requires.list_room);
      proper = given_are_proper c.args.b (assumptions_of c.args.o) c.args.t.now w _ c.assume-m.result c.assume-m.ensures;
    }

pub returns : goal.returns
returns c =
    let x = c.args in
    let a = c.assume-m in
    let r = c.run-found in
    let count = given_count x.b (assumptions_of x.o) x.t.now c.requires.workable a.new.t a.result a.ensures in
    record {
      handed =
          subst
          (λ (y : Outcome). Handed r.new.t r.new.rs a.result (by_number r.result) y)
          (run_is x.b.vars (clauses x.t.now x.b.clauses) (assumptions_of x.o) x.allowance x.places a.result _ count a.ensures)
          r.ensures.0;
      given_is = count;
    }
