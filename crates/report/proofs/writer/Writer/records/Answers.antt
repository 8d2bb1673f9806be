use mathlib.Core.Logic.{inl, inr}
use Rattle.report.proofs.Parts.{records_more, records_none}
use Rattle.report.proofs.Writing.{left_room, left_next, left_none}
use Rattle.report.proofs.writer.Writer.records.Goals as goal

pub line-requires : goal.line-requires
line-requires c = left_room _ (records_more c.in-Some.ensures.steps) c.loop-d.invariant

pub loop-d-preserved : goal.loop-d-preserved
loop-d-preserved c = left_next _ (records_more c.in-Some.ensures.steps) c.loop-d.invariant c.line.ensures

pub returns : goal.returns
returns c = left_none (records_none _ _ _ (elim c.in-None.ensures.steps [
  | inl w ↦ elim w.1 [ inl v ↦ inl (inl v.1.0) | inr v ↦ inl (inr v.1.0) ]
  | inr w ↦ inr w.1.0
])) c.loop-d.invariant
