use Rattle.std.proofs.Common.{ℕ}
use Rattle.rows.specs.Index.{naming, Walks, coming}
use Rattle.rows.specs.Tally.{Tallied}
use Rattle.rows.specs.Values.{assignment_of}
use Rattle.sweep.specs.Sweep.{literal_of}
use Rattle.sweep.proofs.Walks.{Gathering}
use Rattle.sweep.proofs.gather.Given as goal

-- what is gathered over the whole table is what there is so far with what is gathered from there on
abbrev pub invariant-loop-i : goal.invariant-loop-i
invariant-loop-i l =
    Walks l.q l.m (naming l.number) (naming l.number) l.i-iterator
    × ((k : ℕ) → Tallied l.t l.q l.m (assignment_of l.a) k → Gathering l.t l.m (assignment_of l.a) k (literal_of l.l) l.r l.reasons (coming l.i-iterator))
