use mathlib.Core.Path.{refl}
use Rattle.report.proofs.Writing.{left_all, left_room, left_next, left_last}
use Rattle.report.proofs.writer.Writer.lines.Goals as goal

pub line-requires : goal.line-requires
line-requires c = left_room _ refl (left_all c.requires)

pub clauses-requires : goal.clauses-requires
clauses-requires c = left_room _ refl (left_next _ refl (left_all c.requires) c.line.ensures)

pub records-requires : goal.records-requires
records-requires c = (left_next _ refl (left_next _ refl (left_all c.requires) c.line.ensures) c.clauses.ensures).room

pub returns : goal.returns
returns c = left_last (left_next _ refl (left_next _ refl (left_all c.requires) c.line.ensures) c.clauses.ensures) c.records.ensures
