-- The loop's invariant: the point is ready, the definition at the state at entry is the definition at the state now, and the notes are those of the state now.
-- The measure is how many variables are live.
use Rattle.std.proofs.Common.{◌≡◌}
use lib.Count.{ones}
use Rattle.steps.specs.State.{redundant, live}
use Rattle.steps.specs.Notes.{notes}
use Rattle.steps.specs.Sweep.{sweep}
use Rattle.rows.specs.Values.{assignment_of, env_of}
use Rattle.rows.specs.Rows.{state_of}
use Rattle.rows.specs.Tally.{TalliedAt}
use Rattle.sweep.specs.Sweep.{notes_of, Ready}
use Rattle.sweep.proofs.sweep.Given as goal

abbrev pub invariant-loop-l : goal.invariant-loop-l
invariant-loop-l l =
    let e = env_of l.e in
    let a = assignment_of l.a in
    let s = state_of l.t l.rs l.now in
    Ready l.t l.rs l.e l.a l.now
    × (sweep e a l.e.vars (state_of l.t l.fn.rs l.fn.s) ≡ sweep e a l.e.vars s)
    × (notes_of l.seen ≡ notes a (redundant s) s.table)
    × TalliedAt l.t l.q l.rs a l.now

abbrev pub decreases-loop-l : goal.decreases-loop-l
decreases-loop-l l = ones (live (env_of l.e) (assignment_of l.a) (state_of l.t l.rs l.now))
