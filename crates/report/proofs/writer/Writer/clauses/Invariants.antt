use Rattle.report.specs.Text.{clause_lines}
use Rattle.report.proofs.Writing.{Left}
use Rattle.report.proofs.writer.Writer.clauses.Given as goal

-- what is left is the lines of the words that are left
abbrev pub invariant-loop-p : goal.invariant-loop-p
invariant-loop-p l = Left l.fn.self (clause_lines l.pos l.neg) l.self (clause_lines l.p-iterator.a.rest.now l.p-iterator.b.rest.now)
