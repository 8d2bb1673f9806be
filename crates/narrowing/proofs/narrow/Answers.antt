use Rattle.std.proofs.Common.{arith}
use Rattle.narrowing.proofs.Opens.{through_none, through_kept, through_open, through_all}
use Rattle.narrowing.proofs.narrow.Goals.{then-not-is_kept, else-not-is_kept}
use Rattle.narrowing.proofs.narrow.Goals as goal

pub loop-i-init : goal.loop-i-init
loop-i-init c = through_none _ _ _ _

pub loop-i-preserved : goal.loop-i-preserved
loop-i-preserved c =
    let here = c.loop-i.invariant in
    let read = c.clause_at-c.ensures in
    let kept = c.is_kept.ensures in
    elim c.if-not-is_kept.branch [
      | then-not-is_kept w ↦
          rw (w.u-is, w.put.ensures, w.count-is) (through_open _ _ _ _ _ _ _ _ here read _ kept w.if-not-is_kept.true (omega arith))
      | else-not-is_kept w ↦ rw (w.u-is, w.count-is) (through_kept _ _ _ _ _ _ _ _ here read _ kept w.if-not-is_kept.false)
    ]

pub returns : goal.returns
returns c = through_all _ _ _ _ _ _ _ _ (omega arith) (omega arith) c.loop-i.invariant
