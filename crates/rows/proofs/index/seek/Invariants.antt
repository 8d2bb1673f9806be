use Rattle.std.proofs.Common.{◌*◌}
use Rattle.rows.specs.Index.{coming, NoneIn}
use Rattle.rows.proofs.index.seek.Given as goal

-- none in both rows stands before block j
abbrev pub invariant-loop-j : goal.invariant-loop-j
invariant-loop-j l = NoneIn l.fn.s.q.now l.fn.s.m l.fn.s.u l.fn.s.w (coming l.fn.s) (64 * l.j)
