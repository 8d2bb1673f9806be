use mathlib.Core.Path.{refl}
use Rattle.report.specs.Fields.{set_left}
use Rattle.report.proofs.Writing.{left_all, left_room, left_next, left_last}
use Rattle.report.proofs.writer.Writer.left.Goals as goal

pub text-requires : goal.text-requires
unfolding set_left
text-requires c = left_room _ refl (left_all c.requires.room)

pub blanks-requires : goal.blanks-requires
unfolding set_left
blanks-requires c = (left_next _ refl (left_all c.requires.room) c.text.ensures).room

pub returns : goal.returns
unfolding set_left
returns c = left_last (left_next _ refl (left_all c.requires.room) c.text.ensures) c.blanks.ensures
