use Rattle.std.proofs.Common.{◌≡◌, List, ℕ, ◌<◌, bit_or}
use mathlib.Core.Bool.{not, ◌&&◌}
use Rattle.words.specs.Words.{has, Within}
use Rattle.rows.specs.Index.{count_at, row_at, naming, masked, Only}
use Rattle.rows.proofs.index.enter.Given as goal

-- the clause of the digit has entered the rows of those of the variables that are not left
pub record Entering (q₀ q : List ℕ) (j digit vars left : ℕ) : Type 0 where
  pub within : Within left vars
  pub only : Only q₀ q j
  pub counts : (b : ℕ) → b < 64 → count_at q j b ≡ count_at q₀ j b
  pub others : (u : ℕ) → u < 3 → row_at q j u ≡ row_at q₀ j u
  pub rows : (v : ℕ) → v < 64 → row_at q j (naming v) ≡ bit_or (row_at q₀ j (naming v)) (masked (has vars v && not (has left v)) digit)

abbrev pub invariant-loop-v : goal.invariant-loop-v
invariant-loop-v l =
    (goal.iterator-loop-v).can_next l.v-iterator × (goal.iterator-loop-v).is_finite l.v-iterator × Entering l.fn.q l.q l.j l.bit l.vars l.v-iterator.left
