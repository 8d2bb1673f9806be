use mathlib.Core.Path.{sym, ◌∙◌}
use Rattle.report.proofs.Writing.{left_all, left_room, left_next, left_last, left_none}
use Rattle.page.proofs.Text.{entry_fitted, entry_left_out, entry_none}
use Rattle.layout.proofs.rule.put_entry.Goals as goal

pub byte-requires : goal.byte-requires
byte-requires c = left_room _ (entry_fitted c.args.v _ _ (sym c.bit_of.ensures ∙ c.if-bit_of-eq1.true)) (left_all c.requires.room)

pub number-requires : goal.number-requires
number-requires c = (left_next _ (entry_fitted c.args.v _ _ (sym c.bit_of.ensures ∙ c.if-bit_of-eq1.true)) (left_all c.requires.room) c.byte.ensures).room

pub returns-then-bit_of-eq1 : goal.returns-then-bit_of-eq1
returns-then-bit_of-eq1 c = left_last (left_next _ (entry_fitted c.args.v _ _ (sym c.bit_of.ensures ∙ c.if-bit_of-eq1.true)) (left_all c.requires.room) c.byte.ensures) c.number.ensures

pub text-requires : goal.text-requires
text-requires c = left_room _ (entry_left_out c.args.v _ _ (λ e. c.if-bit_of-eq1.false (c.bit_of.ensures ∙ e)) (sym c.bit_of-else-bit_of-eq1.ensures ∙ c.if-bit_of-eq1-2.true)) (left_all c.requires.room)

pub number-requires-then-bit_of-eq1-2 : goal.number-requires-then-bit_of-eq1-2
number-requires-then-bit_of-eq1-2 c =
    (left_next _ (entry_left_out c.args.v _ _ (λ e. c.if-bit_of-eq1.false (c.bit_of.ensures ∙ e)) (sym c.bit_of-else-bit_of-eq1.ensures ∙ c.if-bit_of-eq1-2.true)) (left_all c.requires.room) c.text.ensures).room

pub returns-then-bit_of-eq1-2 : goal.returns-then-bit_of-eq1-2
returns-then-bit_of-eq1-2 c =
    left_last
    (left_next _ (entry_left_out c.args.v _ _ (λ e. c.if-bit_of-eq1.false (c.bit_of.ensures ∙ e)) (sym c.bit_of-else-bit_of-eq1.ensures ∙ c.if-bit_of-eq1-2.true)) (left_all c.requires.room) c.text.ensures)
    c.number-then-bit_of-eq1-2.ensures

pub returns-else-bit_of-eq1-2 : goal.returns-else-bit_of-eq1-2
returns-else-bit_of-eq1-2 c =
    left_none
    (entry_none c.args.v _ _ (λ e. c.if-bit_of-eq1.false (c.bit_of.ensures ∙ e)) (λ e. c.if-bit_of-eq1-2.false (c.bit_of-else-bit_of-eq1.ensures ∙ e)))
    (left_all c.requires.room)
