use mathlib.Core.Path.{ap}
use mathlib.Core.Logic.{inl, inr}
use native.Mathlib.Omega.{arith}
use borrow.Author.Rules.{rules}
use lib.ListN.{length}
use Rattle.report.proofs.Writing.{left_room, left_next, left_none}
use Rattle.layout.proofs.Shown.{rules_more, rules_none}
use Rattle.layout.proofs.lines.put_rules.Goals as goal

pub put_rule-requires-clause-number_bound : goal.put_rule-requires-clause-number_bound
put_rule-requires-clause-number_bound c = omega (arith, ap length c.in-Some.ensures.steps.0.0, c.in-Some.ensures.steps.1, c.loop-i.invariant.counted, c.requires.few)

pub put_rule-requires-clause-room : goal.put_rule-requires-clause-room
put_rule-requires-clause-room c = rw c.in-Some.ensures.steps.1 (left_room _ (rules_more _ c.in-Some.ensures.steps.0) c.loop-i.invariant.left)

pub loop-i-preserved : goal.loop-i-preserved
loop-i-preserved c =
    let steps = c.in-Some.ensures.steps in
    record {
      can = search rules;
      finite = search rules;
      counted = omega (arith, ap length steps.0.0, steps.2, c.loop-i.invariant.counted);
      left = rw steps.2 (left_next _ (rules_more _ steps.0) c.loop-i.invariant.left (rw steps.1 at c.put_rule.ensures));
    }

pub returns : goal.returns
returns c = left_none (rules_none _ _ _ (elim c.in-None.ensures.steps.0 [ inl w ↦ inl w.1.0 | inr w ↦ inr w.1.0 ])) c.loop-i.invariant.left
