use mathlib.Core.Logic.{inl, inr}
use Rattle.report.proofs.Parts.{clauses_more, clauses_none}
use Rattle.report.proofs.Writing.{left_room, left_next, left_none}
use Rattle.report.proofs.writer.Writer.clauses.Goals as goal

pub line-requires : goal.line-requires
line-requires c = left_room _ (clauses_more c.in-Some.ensures.steps) c.loop-p.invariant

pub loop-p-preserved : goal.loop-p-preserved
loop-p-preserved c = left_next _ (clauses_more c.in-Some.ensures.steps) c.loop-p.invariant c.line.ensures

pub returns : goal.returns
returns c = left_none (clauses_none _ _ (elim c.in-None.ensures.steps [ inl w ↦ inl w.1.0 | inr w ↦ inr w.1.0 ])) c.loop-p.invariant
