use Rattle.std.proofs.Common.{◌≡◌, ◌*◌, bit_or}
use Rattle.rows.specs.Index.{naming}
use Rattle.rows.proofs.Walks.{Walked}
use Rattle.rows.proofs.Strikes.{Restruck, Apart}
use Rattle.rows.proofs.tallies.strike.Given as goal

-- the blocks below j have the struck set with w, the others are as they were, and where none is gone no clause below was in play and named w
abbrev pub invariant-loop-j : goal.invariant-loop-j
invariant-loop-j l = Walked (Restruck (λ k. bit_or k l.w) l.fn.q l.m) l.fn.q l.q l.j × (l.gone ≡ 0 → Apart l.fn.q (naming l.v) (64 * l.j))
