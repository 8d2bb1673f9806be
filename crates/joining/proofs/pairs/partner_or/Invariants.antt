use Rattle.std.proofs.Common.{◌≡◌}
use Rattle.joint.specs.Pairs.{partner_or}
use Rattle.joining.proofs.pairs.partner_or.Given as goal

-- what was found so far is what the pairs passed give
abbrev pub invariant-loop-a : goal.invariant-loop-a
invariant-loop-a l = l.at ≡ partner_or l.d l.pairs l.a-index l.k
