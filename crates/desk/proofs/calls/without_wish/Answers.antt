use Rattle.std.proofs.Common.{refl}
use Rattle.drafts.specs.Desk.{Call.clear, refusal}
use Rattle.desk.proofs.Laws.{refused_by, accepted}
use Rattle.desk.proofs.calls.without_wish.Goals as goal

pub returns-in_err-bit : goal.returns-in_err-bit
unfolding refusal
returns-in_err-bit c = refused_by c.args.d (clear c.args.option) _ _ c.from_residual.ensures.1 c.in_err-bit.ensures.refused

pub returns : goal.returns
unfolding refusal
returns c =
    accepted c.args.d (clear c.args.option) _ c.in_ok-bit.ensures.bit.0
    (rw (c.minus.ensures, c.minus-2.ensures, c.in_ok-bit.ensures.bit.1) refl)
