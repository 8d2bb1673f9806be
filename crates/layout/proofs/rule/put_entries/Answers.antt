use Rattle.report.proofs.Writing.{left_room, left_next, left_none}
use Rattle.page.proofs.Text.{spaced_turn, spaced_end}
use Rattle.layout.proofs.rule.put_entries.Goals as goal

pub put_entry-requires-clause-room : goal.put_entry-requires-clause-room
put_entry-requires-clause-room c = left_room _ (spaced_turn _ _ c.loop-v-test.true) c.loop-v.invariant

pub loop-v-preserved : goal.loop-v-preserved
loop-v-preserved c = left_next _ (spaced_turn _ _ c.loop-v-test.true) c.loop-v.invariant c.put_entry.ensures

pub returns : goal.returns
returns c = left_none (spaced_end _ _ c.loop-v-test.false) c.loop-v.invariant
