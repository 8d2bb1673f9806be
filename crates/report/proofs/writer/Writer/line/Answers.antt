use mathlib.Core.Path.{refl}
use Rattle.report.proofs.Parts.{fields_more, fields_none}
use Rattle.report.proofs.Writing.{left_all, left_as, left_room, left_next, left_last}
use Rattle.report.proofs.writer.Writer.line.Goals as goal

pub text-requires : goal.text-requires
text-requires c = left_room _ refl (left_all c.requires)

pub loop-n-init : goal.loop-n-init
loop-n-init c = left_next _ refl (left_all c.requires) c.text.ensures

pub byte-requires : goal.byte-requires
byte-requires c = left_room _ (fields_more _ _ c.loop-n-test.true) c.loop-n.invariant

pub number-requires : goal.number-requires
number-requires c = left_room _ refl (left_next _ (fields_more _ _ c.loop-n-test.true) c.loop-n.invariant c.byte.ensures)

pub loop-n-preserved : goal.loop-n-preserved
loop-n-preserved c = left_next _ refl (left_next _ (fields_more _ _ c.loop-n-test.true) c.loop-n.invariant c.byte.ensures) c.number.ensures

pub byte-requires-2 : goal.byte-requires-2
byte-requires-2 c = (left_as (fields_none _ _ c.loop-n-test.false) c.loop-n.invariant).room

pub returns : goal.returns
returns c = left_last (left_as (fields_none _ _ c.loop-n-test.false) c.loop-n.invariant) c.byte-2.ensures
