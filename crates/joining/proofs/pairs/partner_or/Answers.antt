use Rattle.std.proofs.Common.{◌∙◌, ◌<◌, ◌≡◌, arith}
use Rattle.joint.specs.Pairs.{pair_count, option}
use Rattle.joining.proofs.Judged.{first_option, second_option, partner_none, partner_here, partner_later}
use Rattle.joining.proofs.pairs.partner_or.Goals.{then-from-k, else-from-k}
use Rattle.joining.proofs.pairs.partner_or.Goals as goal

pub loop-a-init : goal.loop-a-init
loop-a-init c = partner_none _ _ _

pub overflow_sub-at : goal.overflow_sub-at
overflow_sub-at c =
    let less : c.loop-a.a-index < pair_count c.args.pairs.now = omega arith in
    let first : c.from-at.result ≡ option 0 c.args.pairs.now c.loop-a.a-index = c.from-at.ensures ∙ first_option _ _ c.as_chunks.ensures.front _ less _ in
    omega (arith, c.requires.1 c.loop-a.a-index less)

pub loop-a-preserved : goal.loop-a-preserved
loop-a-preserved c =
    let less : c.loop-a.a-index < pair_count c.args.pairs.now = omega arith in
    let second : c.from.result ≡ option 1 c.args.pairs.now c.loop-a.a-index = c.from.ensures ∙ second_option _ _ c.as_chunks.ensures.front _ less _ in
    elim c.if-from-k.branch [
      | then-from-k w ↦
          w.at-is ∙ partner_here _ _ _ _ _ _ second (w.from-at.ensures ∙ first_option _ _ c.as_chunks.ensures.front _ less _) w.if-from-k.true
      | else-from-k w ↦ w.at-is ∙ partner_later _ _ _ _ _ _ second w.if-from-k.false c.loop-a.invariant
    ]
