use Rattle.steps.specs.Run.{no_decisions}
use Rattle.rows.specs.Tally.{Tallied}
use Rattle.rows.proofs.tallies.start.Given as goal

-- the table is tallied for the first i clauses
abbrev pub invariant-loop-i : goal.invariant-loop-i
invariant-loop-i l = Tallied l.t l.q l.i no_decisions 0
