use Rattle.std.proofs.Common.{◌≡◌, suc, refl, ap, arith}
use Rattle.order.specs.Values.{order_of}
use Rattle.checker.specs.Lent.{tables_of}
use Rattle.sites.specs.Values.{served_of}
use Rattle.sites.proofs.Handing.{serves_none, no_more, serves_next}
use Rattle.terminal.proofs.serve.Goals as goal

pub returns-in-None-clause-serves : goal.returns-in-None-clause-serves
returns-in-None-clause-serves c =
    let none : c.args.t.sites ≡ 0 = omega (arith, c.in-None.ensures) in
    serves_none c.args.book.now c.args.t (order_of c.args.o) (tables_of c.args.tables.now) none _ refl

pub after-requires : goal.after-requires
after-requires c =
    let next : c.args.t.sites ≡ suc c.in-Some.later = omega (arith, c.in-Some.ensures.0, c.in-Some.ensures.1) in
    no_more c.args.book.now c.args.t (order_of c.args.o) (tables_of c.args.tables.now) c.in-Some.later next _ c.allowance.ensures _ _
    c.check-found.ensures.checked

pub returns-in-Some-clause-serves : goal.returns-in-Some-clause-serves
returns-in-Some-clause-serves c =
    let next : c.args.t.sites ≡ suc c.in-Some.later = omega (arith, c.in-Some.ensures.0, c.in-Some.ensures.1) in
    serves_next c.args.book.now c.args.t (order_of c.args.o) (tables_of c.args.tables.now) c.in-Some.later next _ c.allowance.ensures _ _
    c.check-found.ensures.checked _ (ap served_of c.after.ensures)
