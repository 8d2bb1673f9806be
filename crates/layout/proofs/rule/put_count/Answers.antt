use mathlib.Core.Path.{refl}
use Rattle.report.specs.Ascii.{ascii}
use Rattle.report.specs.Decimal.{decimal}
use Rattle.report.proofs.Writing.{left_all, left_room, left_next, left_last}
use Rattle.layout.proofs.rule.put_count.Goals as goal

pub number-requires : goal.number-requires
number-requires c = left_room {s = decimal c.args.count} (ascii " entries)") refl (left_next {s = ascii " ("} _ refl (left_all c.requires) c.text.ensures)

pub text-requires-2 : goal.text-requires-2
text-requires-2 c = (left_next _ refl (left_next {s = ascii " ("} _ refl (left_all c.requires) c.text.ensures) c.number.ensures).room

pub returns : goal.returns
returns c = left_last (left_next _ refl (left_next {s = ascii " ("} _ refl (left_all c.requires) c.text.ensures) c.number.ensures) c.text-2.ensures
