use Rattle.std.proofs.Common.{◌≡◌, Bool, List, ℕ, ◌+◌, ◌*◌, ◌<◌}
use mathlib.Core.Bool.{not, ◌&&◌}
use Rattle.words.specs.Words.{has, Within}
use Rattle.steps.specs.Clause.{literals}
use Rattle.rows.specs.Rows.{clause_at}
use Rattle.rows.specs.Index.{count_at, row_at, Only}
use Rattle.rows.specs.Tally.{is_unsatisfied, changed, pick}
use Rattle.rows.specs.declared.tally.Delta.{Delta}
use Rattle.rows.proofs.tallies.shift.Given as goal

-- the clause at place b is named and not left
abbrev pub Done : ℕ → ℕ → ℕ → Bool
Done named left b = has named b && not (has left b)

-- its word x after the change
abbrev pub after : List ℕ → ℕ → ℕ → Delta → ℕ → ℕ → ℕ
after t j v d b x = changed d (has (literals d.sign (clause_at t (64 * j + b))) v) x

-- its counts, where they are changed if p holds
abbrev pub picked : List ℕ → List ℕ → ℕ → ℕ → Delta → ℕ → Bool → ℕ
picked t q j v d b p = pick p (after t j v d b (count_at q j b)) (count_at q j b)

-- the clauses named that are not left are changed, and those of them found that no decision satisfies now
pub record Shifting (t q₀ q : List ℕ) (j v : ℕ) (d : Delta) (named found left : ℕ) : Type 0 where
  pub within : Within left named
  pub only : Only q₀ q j
  pub rows : (u : ℕ) → u < 67 → row_at q j u ≡ row_at q₀ j u
  pub counts : (b : ℕ) → b < 64 → count_at q j b ≡ picked t q₀ j v d b (Done named left b)
  pub unkept : (b : ℕ) → b < 64 → has found b ≡ (Done named left b && is_unsatisfied (count_at q j b))

abbrev pub invariant-loop-b : goal.invariant-loop-b
invariant-loop-b l =
    (goal.iterator-loop-b).can_next l.b-iterator × (goal.iterator-loop-b).is_finite l.b-iterator
    × Shifting l.t l.fn.q l.q l.j l.v l.d l.named l.«open» l.b-iterator.left
