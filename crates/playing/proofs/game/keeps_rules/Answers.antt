use Rattle.playing.proofs.Kept.{kept_begin, kept_broken, kept_next, kept_end}
use Rattle.playing.proofs.game.keeps_rules.Goals as goal

pub loop-i-init : goal.loop-i-init
loop-i-init c = kept_begin _ _ _

pub returns-then-breaks : goal.returns-then-breaks
returns-then-breaks c = kept_broken _ _ _ _ c.loop-i-test.true c.loop-i.invariant _ c.clause_at.ensures _ c.breaks.ensures c.if-breaks.true

pub loop-i-preserved : goal.loop-i-preserved
loop-i-preserved c = kept_next _ _ _ _ c.loop-i-test.true c.loop-i.invariant _ c.clause_at.ensures _ c.breaks.ensures c.if-breaks.false

pub returns : goal.returns
returns c = kept_end _ _ _ _ c.loop-i-test.false c.loop-i.invariant
