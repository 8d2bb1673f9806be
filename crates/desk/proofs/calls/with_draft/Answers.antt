use Rattle.std.proofs.Common.{refl}
use Rattle.drafts.specs.Desk.{Call.keep, refusal}
use Rattle.desk.proofs.Laws.{refused_by, accepted}
use Rattle.desk.proofs.calls.with_draft.Goals as goal

pub returns-in_err-at : goal.returns-in_err-at
unfolding refusal
returns-in_err-at c = refused_by c.args.d (keep c.args.draft) _ _ c.from_residual.ensures.1 c.in_err-at.ensures.refused

pub returns : goal.returns
unfolding refusal
returns c =
    accepted c.args.d (keep c.args.draft) _ c.in_ok-at.ensures.place.0
    (rw (c.word_of.ensures, c.in_ok-at.ensures.place.1) refl)
