use Rattle.checker.specs.Lent.{tables_of, SameReferences}
use Rattle.serving.proofs.Going.{Going}
use Rattle.serving.proofs.morning.Given as goal

abbrev pub invariant-loop-i : goal.invariant-loop-i
invariant-loop-i l = record {
  references : SameReferences l.fn.tables l.tables;
  going : Going l.book l.orders l.allowance l.k l.i l.fn.answers (tables_of l.fn.tables) l.answers (tables_of l.tables);
}
