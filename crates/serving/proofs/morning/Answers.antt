use Rattle.std.proofs.Common.{◌≡◌, sym, refl, ◌∙◌, length, arith, rules}
use Rattle.order.specs.Values.{order_of}
use Rattle.checker.specs.Lent.{tables_of}
use Rattle.morning.proofs.Judging.{passing, morning_turned, morning_passed}
use Rattle.serving.proofs.Going.{going_next, going_end}
use Rattle.serving.proofs.morning.Goals as goal

pub returns-then-fault-clause-serves : goal.returns-then-fault-clause-serves
returns-then-fault-clause-serves c =
    let a = c.args in
    record { left = sym (morning_turned a.book.now a.orders.now a.allowance a.answers.now (tables_of a.tables.now) (sym c.fault.ensures ∙ c.if-fault.true)) }

pub order_at-requires : goal.order_at-requires
order_at-requires c =
    let few = passing c.args.orders.now c.args.answers.now (sym c.fault.ensures ∙ c.if-fault.false) in
    omega (arith, c.loop-i-test.true, few.three_words, c.loop-i.auto.answers)

pub loop-i-preserved : goal.loop-i-preserved
loop-i-preserved c =
    let a = c.args in
    let l = c.loop-i in
    record {
      references = search rules;
      going =
          going_next a.book.now a.orders.now a.allowance _ a.answers.now (tables_of a.tables.now) refl l.i l.answers (tables_of l.tables) l.invariant.going
          (order_of c.order_at.result) c.serve.result (tables_of c.serve.new.tables) (omega (arith, c.loop-i-test.true, l.auto.answers)) c.order_at.ensures
          c.serve.ensures.served;
    }

pub returns-clause-serves : goal.returns-clause-serves
returns-clause-serves c =
    let a = c.args in
    let all : c.loop-i.i ≡ length a.answers.now = omega (arith, c.loop-i-test.false, c.loop-i.auto.answers) in
    record {
      left =
          going_end a.book.now a.orders.now a.allowance _ a.answers.now (tables_of a.tables.now) refl c.loop-i.i c.loop-i.answers _ all c.loop-i.invariant.going
          ∙ sym (morning_passed a.book.now a.orders.now a.allowance a.answers.now (tables_of a.tables.now) (sym c.fault.ensures ∙ c.if-fault.false));
    }
