use Rattle.std.proofs.Common.{ℕ}
use Rattle.steps.specs.Clause.{Assignment}
use Rattle.rows.specs.Index.{playing, Walks, coming}
use Rattle.rows.specs.Tally.{Tallied}
use Rattle.sweep.specs.Sweep.{notes_of}
use Rattle.sweep.proofs.Walks.{Noting}
use Rattle.sweep.proofs.notes.Given as goal

-- what is noted over the whole table is the notes so far with what is noted from there on
abbrev pub invariant-loop-i : goal.invariant-loop-i
invariant-loop-i l =
    Walks l.q l.m playing playing l.i-iterator
    × ((a : Assignment) (k : ℕ) → Tallied l.t l.q l.m a k → Noting l.t l.m a k (notes_of l.seen) (coming l.i-iterator))
