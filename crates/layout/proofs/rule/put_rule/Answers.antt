use mathlib.Core.Path.{refl, ap}
use native.Mathlib.Omega.{arith}
use lib.ListN.{length}
use Rattle.report.proofs.Digits.{decimal_length}
use Rattle.report.proofs.Writing.{left_all, left_room, left_next, left_last}
use Rattle.page.proofs.Lines.{text_fits}
use Rattle.layout.proofs.Shown.{rule_written}
use Rattle.layout.proofs.rule.put_rule.Goals as goal

pub right-requires-clause-n_len_bound : goal.right-requires-clause-n_len_bound
right-requires-clause-n_len_bound c = decimal_length 3 c.args.number c.requires.number_bound

pub right-requires-clause-room : goal.right-requires-clause-room
right-requires-clause-room c = left_room _ (rule_written c.args.number _ _ c.put_shown-size.ensures.first) (left_all c.requires.room)

pub left-requires-clause-text_len_bound : goal.left-requires-clause-text_len_bound
left-requires-clause-text_len_bound c = omega (arith, ap length c.put_shown-size.ensures.first, text_fits c.args.number (record { pos = c.args.pos; neg = c.args.neg }))

pub left-requires-clause-room : goal.left-requires-clause-room
left-requires-clause-room c = left_room _ refl (left_next _ (rule_written c.args.number _ _ c.put_shown-size.ensures.first) (left_all c.requires.room) c.right.ensures)

pub byte-requires : goal.byte-requires
byte-requires c = (left_next _ refl (left_next _ (rule_written c.args.number _ _ c.put_shown-size.ensures.first) (left_all c.requires.room) c.right.ensures) c.left.ensures).room

pub returns : goal.returns
returns c =
    left_last
    (left_next _ refl (left_next _ (rule_written c.args.number _ _ c.put_shown-size.ensures.first) (left_all c.requires.room) c.right.ensures) c.left.ensures)
    c.byte.ensures
