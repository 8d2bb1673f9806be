use Rattle.report.specs.Text.{record_lines}
use Rattle.report.proofs.Writing.{Left}
use Rattle.report.proofs.writer.Writer.records.Given as goal

-- what is left is the lines of the words that are left
abbrev pub invariant-loop-d : goal.invariant-loop-d
invariant-loop-d l =
    Left l.fn.self (record_lines l.decided l.trues l.redundant) l.self (record_lines l.d-iterator.a.a.rest.now l.d-iterator.a.b.rest.now l.d-iterator.b.rest.now)
