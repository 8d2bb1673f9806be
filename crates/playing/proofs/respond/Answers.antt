use Rattle.std.proofs.Common.{true, false, sym, ◌∙◌}
use Rattle.turns.specs.Turns.{Player.buyer}
use Rattle.playing.proofs.Left.{no_response, asked, answers_out, answers_then}
use Rattle.playing.proofs.respond.Goals as goal

pub returns-then-t-eq0 : goal.returns-then-t-eq0
returns-then-t-eq0 c = no_response _ _ c.if-t-eq0.true

pub returns-then-serves : goal.returns-then-serves
returns-then-serves c = answers_out _ _ c.if-t-eq0.false _ (asked _ _ false _ c.leave_out.ensures buyer _ c.serves.ensures) c.if-serves.true

pub returns-then-serves-2 : goal.returns-then-serves-2
returns-then-serves-2 c =
    answers_then _ _ c.if-t-eq0.false _ (asked _ _ false _ c.leave_out.ensures buyer _ c.serves.ensures) c.if-serves.false true
    (sym c.if-serves-2.true ∙ asked _ _ true _ c.fit.ensures buyer _ c.serves-2.ensures)

pub returns : goal.returns
returns c =
    answers_then _ _ c.if-t-eq0.false _ (asked _ _ false _ c.leave_out.ensures buyer _ c.serves.ensures) c.if-serves.false false
    (sym c.if-serves-2.false ∙ asked _ _ true _ c.fit.ensures buyer _ c.serves-2.ensures)
