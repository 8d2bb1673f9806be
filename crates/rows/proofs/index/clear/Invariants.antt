use Rattle.std.proofs.Common.{◌≡◌, List, ℕ, ◌<◌}
use Rattle.rows.specs.Index.{count_at, row_at, Only}
use Rattle.rows.proofs.index.clear.Given as goal

-- the rows of block j below u are empty, and all else is as it was
pub record Cleared (q₀ q : List ℕ) (j u : ℕ) : Type 0 where
  pub only : Only q₀ q j
  pub counts : (b : ℕ) → b < 64 → count_at q j b ≡ count_at q₀ j b
  pub empty : (v : ℕ) → v < u → row_at q j v ≡ 0

abbrev pub invariant-loop-u : goal.invariant-loop-u
invariant-loop-u l = Cleared l.fn.q l.q l.j l.u
