use mathlib.Core.Path.{◌≡◌}
use Prim.Native.Nat.{◌+◌}
use lib.ListN.{length}
use Rattle.contract.specs.Demands.{rules_of}
use Rattle.report.proofs.Writing.{Left}
use Rattle.page.specs.Page.{rule_lines}
use Rattle.layout.proofs.lines.put_rules.Given as goal

-- what is left is the lines of the words that are left, of which the first has the next number
abbrev pub invariant-loop-i : goal.invariant-loop-i
invariant-loop-i l =
    let rest = l.i-iterator.iter in
    record {
      can : (goal.iterator-loop-i).can_next l.i-iterator;
      finite : (goal.iterator-loop-i).is_finite l.i-iterator;
      counted : l.i-iterator.count + length rest.a.rest.now ≡ length l.pos;
      left : Left l.fn.out (rule_lines 1 (rules_of l.pos l.neg)) l.out (rule_lines (l.i-iterator.count + 1) (rules_of rest.a.rest.now rest.b.rest.now));
    }
