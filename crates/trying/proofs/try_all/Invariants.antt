use Rattle.std.proofs.Common.{◌-◌}
use Rattle.order.specs.Values.{order_of}
use Rattle.contract.specs.Filled.{lengths}
use Rattle.checker.specs.Lent.{tables_of, SameReferences}
use Rattle.trying.proofs.Going.{Ahead}
use Rattle.trying.proofs.try_all.Given as goal

abbrev pub invariant-loop-o : goal.invariant-loop-o
invariant-loop-o l = record {
  references : SameReferences l.fn.tables l.tables;
  ahead : Ahead l.book (order_of l.o) l.opens l.allowance (lengths (tables_of l.fn.tables)) l.setting l.known.all l.known.any (tables_of l.tables);
}

abbrev pub decreases-loop-o : goal.decreases-loop-o
decreases-loop-o l = l.opens - l.setting
