use Rattle.std.proofs.Common.{refl}
use Rattle.drafts.specs.Desk.{Call.set, refusal}
use Rattle.desk.proofs.Laws.{refused_by, accepted}
use Rattle.desk.proofs.calls.with_wish.Goals as goal

pub returns-in_err-bit : goal.returns-in_err-bit
unfolding refusal
returns-in_err-bit c = refused_by c.args.d (set c.args.option c.args.fitted) _ _ c.from_residual.ensures.1 c.in_err-bit.ensures.refused

pub returns-then-fitted : goal.returns-then-fitted
unfolding refusal
returns-then-fitted c =
    accepted c.args.d (set c.args.option c.args.fitted) _ c.in_ok-bit.ensures.bit.0
    (rw (c.if-fitted.true, c.minus.ensures, c.in_ok-bit.ensures.bit.1) refl)

pub returns : goal.returns
unfolding refusal
returns c =
    accepted c.args.d (set c.args.option c.args.fitted) _ c.in_ok-bit.ensures.bit.0
    (rw (c.if-fitted.false, c.minus-2.ensures, c.in_ok-bit.ensures.bit.1) refl)
