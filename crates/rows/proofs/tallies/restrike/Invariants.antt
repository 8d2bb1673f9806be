use Rattle.rows.proofs.Walks.{Walked}
use Rattle.rows.proofs.Strikes.{Restruck}
use Rattle.rows.proofs.tallies.restrike.Given as goal

-- the blocks below j have the struck set k, and the others are as they were
abbrev pub invariant-loop-j : goal.invariant-loop-j
invariant-loop-j l = Walked (Restruck (λ before. l.k) l.fn.q l.m) l.fn.q l.q l.j
