use mathlib.Core.Path.{refl}
use Rattle.page.specs.Page.{page_text}
use Rattle.report.proofs.Writing.{left_all, left_room, left_next, left_last}
use Rattle.layout.proofs.lines.put_lines.Goals as goal

pub put_first-requires-clause-room : goal.put_first-requires-clause-room
unfolding page_text
put_first-requires-clause-room c = left_room _ refl (left_all c.requires.room)

pub put_rules-requires-clause-room : goal.put_rules-requires-clause-room
unfolding page_text
put_rules-requires-clause-room c = (left_next _ refl (left_all c.requires.room) c.put_first.ensures).room

pub returns : goal.returns
unfolding page_text
returns c = left_last (left_next _ refl (left_all c.requires.room) c.put_first.ensures) c.put_rules.ensures
