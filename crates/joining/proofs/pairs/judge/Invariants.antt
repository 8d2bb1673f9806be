use Rattle.joining.proofs.Judged.{Passed}
use Rattle.joining.proofs.pairs.judge.Given as goal

-- the first pairs are not at fault, and their options are taken
abbrev pub invariant-loop-a : goal.invariant-loop-a
invariant-loop-a l = Passed l.n 0 l.fn.pairs l.a-index l.first × Passed l.m 1 l.fn.pairs l.a-index l.second
