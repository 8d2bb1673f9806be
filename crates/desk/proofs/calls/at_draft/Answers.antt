use Rattle.std.proofs.Common.{◌∙◌, sym, refl, arith}
use Rattle.answer.specs.declared.refusal.Refusal.TheVariants.{NeverKept}
use Rattle.drafts.specs.Desk.{Call.return}
use Rattle.desk.proofs.Laws.{refused, refused_by, accepted, return_number, never_kept, was_kept}
use Rattle.desk.proofs.calls.at_draft.Goals as goal

pub returns-in_err-at : goal.returns-in_err-at
returns-in_err-at c =
    let told = c.in_err-at.ensures.refused in
    let same = return_number c.args.d c.args.draft told.1 in
    refused_by c.args.d (return c.args.draft) _ _ c.from_residual.ensures.1 (told.0 ∙ same, λ z. told.1 (same ∙ z))

pub returns-then-bit_of-eq0 : goal.returns-then-bit_of-eq0
returns-then-bit_of-eq0 c =
    let told = never_kept c.args.d c.args.draft _ c.in_ok-at.ensures.place.0 c.bit_of.ensures c.if-bit_of-eq0.true in
    refused c.args.d (return c.args.draft) NeverKept (sym told) (λ z. omega (arith, told, z))

pub returns : goal.returns
returns c =
    accepted c.args.d (return c.args.draft) _
    (was_kept c.args.d c.args.draft _ c.in_ok-at.ensures.place.0 c.bit_of.ensures c.if-bit_of-eq0.false)
    (rw (c.in_ok-at.ensures.place.1) refl)
