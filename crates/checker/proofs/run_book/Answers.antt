use Rattle.std.proofs.Common.{refl, sym, ap, ◌∙◌, arith, rules}
use Rattle.order.specs.Values.{assumptions_of}
use Rattle.contract.specs.Check.{Lengths, tables_fault}
use Rattle.contract.specs.Filled.{answer_of}
use Rattle.contract.proofs.Checking.{passing}
use Rattle.checker.specs.Lent.{tables_of}
use Rattle.checker.proofs.Working.{tables_refused, fitting, handed_out}
use Rattle.checker.proofs.run_book.Goals as goal

pub returns-then-fault-clause-promised : goal.returns-then-fault-clause-promised
unfolding answer_of
returns-then-fault-clause-promised c =
    tables_refused _ _ (assumptions_of c.args.o) c.args.allowance (tables_of c.args.tables.now) _
    (sym (ap tables_fault c.lengths-lengths.ensures) ∙ sym c.fault.ensures ∙ c.if-fault.true)
    refl

pub decide-done-requires : goal.decide-done-requires
decide-done-requires c =
    record {
      workable = c.requires;
      places_few = (passing _ (sym c.fault.ensures ∙ c.if-fault.false)).few;
      tally_room = search rules;
      list_room = search rules;
    }

pub fill-requires : goal.fill-requires
fill-requires c =
    let x = c.args in
    let q = c.decide-done in
    let t = tables_of x.tables.now in
    fitting x.b (assumptions_of x.o) x.t.now c.requires x.allowance t
    (passing _ (sym (ap tables_fault c.lengths-lengths.ensures) ∙ sym c.fault.ensures ∙ c.if-fault.false))
    q.result q.new.t q.new.rs (rw (ap (λ (l : Lengths). l.pos) c.lengths-lengths.ensures) at q.ensures) q.auto.t (omega (arith, q.auto.rs)) _ c.tally_of-tally.ensures

pub returns-clause-promised : goal.returns-clause-promised
returns-clause-promised c =
    let x = c.args in
    let q = c.decide-done in
    let passes = sym (ap tables_fault c.lengths-lengths.ensures) ∙ sym c.fault.ensures ∙ c.if-fault.false in
    handed_out x.b (assumptions_of x.o) x.t.now c.requires x.allowance (tables_of x.tables.now) (passing _ passes)
    q.result q.new.t q.new.rs (rw (ap (λ (l : Lengths). l.pos) c.lengths-lengths.ensures) at q.ensures) _ c.tally_of-tally.ensures _ passes c.fill.ensures.filled
