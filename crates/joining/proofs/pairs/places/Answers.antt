use Rattle.std.proofs.Common.{◌≡◌, ◌<◌, ◌∙◌, refl, length-set, arith}
use Rattle.joint.specs.Pairs.{place}
use Rattle.joining.proofs.Judged.{place_turn, places_turn, zeros_below, set_below}
use Rattle.joining.proofs.pairs.places.Goals as goal

pub loop-k-init : goal.loop-k-init
loop-k-init c = (refl, λ j h. absurd (omega arith), zeros_below 64)

pub loop-k-preserved : goal.loop-k-preserved
loop-k-preserved c =
    let below : c.loop-k.k < 64 = omega arith in
    let here : c.partner_or.result ≡ place c.args.n c.args.pairs.now c.loop-k.k =
    place_turn _ _ _ _ _ _ _ _ below c.requires.2 c.first_of.ensures c.minus.ensures c.count_of-before.ensures c.partner_or.ensures
    in (
      length-set _ _ _ ∙ c.loop-k.invariant.0,
      places_turn (place c.args.n c.args.pairs.now) _ _ _ (omega arith) c.loop-k.invariant.1 here,
      set_below _ _ _ (omega (arith, here, c.requires.4 c.loop-k.k (omega arith))) c.loop-k.invariant.2,
    )
