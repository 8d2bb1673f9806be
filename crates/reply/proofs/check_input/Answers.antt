use native.Mathlib.Omega.{arith}
use Rattle.order.specs.Values.{order_of}
use Rattle.answer.specs.Numbers.{by_number}
use Rattle.checker.specs.Lent.{tables_of}
use Rattle.reply.proofs.Reply.{answered_short, answered_checked}
use Rattle.reply.proofs.check_input.Goals as goal

pub returns-then-input-lt-ORDER_BYTES-clause-answered : goal.returns-then-input-lt-ORDER_BYTES-clause-answered
returns-then-input-lt-ORDER_BYTES-clause-answered c = answered_short c.args.input.now (tables_of c.args.tables.now) (omega (arith, c.if-input-lt-ORDER_BYTES.true))

pub returns-clause-answered : goal.returns-clause-answered
returns-clause-answered c =
    answered_checked c.args.input.now (tables_of c.args.tables.now) (order_of c.order_in.result) (by_number c.check.result) (tables_of c.check.new.tables) (omega (arith, c.if-input-lt-ORDER_BYTES.false)) c.order_in.ensures c.check.ensures.checked
