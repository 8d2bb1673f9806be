use Rattle.std.proofs.Common.{◌∙◌, arith, rules, ◌<◌, ◌≡◌, length, ◌%◌}
use Rattle.joint.specs.Pairs.{pair_count}
use Rattle.joining.proofs.Judged.{judged_true, judged_false, none_passed, one_passed, fault_ends, first_option, second_option, left_over, fault_first, fault_second, no_fault}
use Rattle.joining.proofs.pairs.judge.Goals as goal

pub returns-then-not-is_empty : goal.returns-then-not-is_empty
returns-then-not-is_empty c = judged_true _ _ (left_over _ _ _ (λ h. search rules))

pub loop-a-init : goal.loop-a-init
loop-a-init c = (none_passed _ _ _, none_passed _ _ _)

pub returns-in_err-first : goal.returns-in_err-first
returns-in_err-first c =
    let less : c.loop-a.a-index < pair_count c.args.pairs.now = omega arith in
    c.from_residual.ensures
    ∙ judged_true _ _
    (fault_first _ _ _
    (fault_ends _ _ _ _ _ c.from.result c.loop-a.invariant.0 (c.from.ensures ∙ first_option _ _ c.as_chunks.ensures.front _ less _) _ less (c.in_err-first.ensures)))

pub returns-in_err-second : goal.returns-in_err-second
returns-in_err-second c =
    let less : c.loop-a.a-index < pair_count c.args.pairs.now = omega arith in
    c.from_residual-in_err-second.ensures
    ∙ judged_true _ _
    (fault_second _ _ _
    (fault_ends _ _ _ _ _ c.from-in-loop-a.result c.loop-a.invariant.1 (c.from-in-loop-a.ensures ∙ second_option _ _ c.as_chunks.ensures.front _ less _) _ less (c.in_err-second.ensures)))

pub loop-a-preserved : goal.loop-a-preserved
loop-a-preserved c =
    let less : c.loop-a.a-index < pair_count c.args.pairs.now = omega arith in (
      one_passed _ _ _ _ _ c.from.result c.loop-a.invariant.0 (c.from.ensures ∙ first_option _ _ c.as_chunks.ensures.front _ less _) _ (c.in_ok-first.ensures),
      one_passed _ _ _ _ _ c.from-in-loop-a.result c.loop-a.invariant.1 (c.from-in-loop-a.ensures ∙ second_option _ _ c.as_chunks.ensures.front _ less _) _ (c.in_ok-second.ensures),
    )

pub returns : goal.returns
returns c =
    let all : c.loop-a.a-index ≡ pair_count c.args.pairs.now = omega arith in
    let first = rw all at c.loop-a.invariant.0 in
    let second = rw all at c.loop-a.invariant.1 in
    let whole : length c.args.pairs.now % 2 ≡ 0 = search rules in
    judged_false _ _ _ (no_fault _ _ _ whole first.fits second.fits) second.options
