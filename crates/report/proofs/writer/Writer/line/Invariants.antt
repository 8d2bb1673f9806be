use lib.ListN.{drop}
use Rattle.report.specs.Text.{line, fields}
use Rattle.report.proofs.Writing.{Left}
use Rattle.report.proofs.writer.Writer.line.Given as goal

-- what is left is the fields of the numbers from here on
abbrev pub invariant-loop-n : goal.invariant-loop-n
invariant-loop-n l = Left l.fn.self (line l.word l.numbers) l.self (fields (drop l.n-index l.numbers))
