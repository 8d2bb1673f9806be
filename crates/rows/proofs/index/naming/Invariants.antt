use Rattle.std.proofs.Common.{◌≡◌, ℕ, ◌<◌}
use mathlib.Core.Bool.{◌||◌}
use Rattle.words.specs.Words.{has, meets}
use Rattle.rows.specs.Index.{row_at}
use Rattle.rows.specs.Index.{naming as Naming}
use Rattle.rows.proofs.index.naming.Given as goal

-- a clause whose variables are x names one of k where it is among those found or names one that is left
abbrev pub invariant-loop-v : goal.invariant-loop-v
invariant-loop-v l =
    (goal.iterator-loop-v).can_next l.v-iterator × (goal.iterator-loop-v).is_finite l.v-iterator
    × ((b x : ℕ) → ((v : ℕ) → v < 64 → has (row_at l.q l.j (Naming v)) b ≡ has x v) → meets x l.fn.k ≡ (has l.all b || meets x l.v-iterator.left))
