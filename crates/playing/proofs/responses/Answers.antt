use Rattle.playing.proofs.Left.{no_responses, both_responses}
use Rattle.playing.proofs.responses.Goals as goal

pub returns-then-t-eq0 : goal.returns-then-t-eq0
returns-then-t-eq0 c = no_responses _ _ c.if-t-eq0.true

pub returns : goal.returns
returns c = both_responses _ _ c.if-t-eq0.false _ _ c.leave_out.ensures c.fit.ensures _ _ c.respond.ensures c.respond-2.ensures
