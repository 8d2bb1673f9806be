use Rattle.narrowing.proofs.Opens.{Through}
use Rattle.narrowing.proofs.narrow.Given as goal

-- of the first i clauses the open ones stand in the table
abbrev pub invariant-loop-i : goal.invariant-loop-i
invariant-loop-i l = Through l.left l.fitted l.t l.initial.u l.u l.i l.count
