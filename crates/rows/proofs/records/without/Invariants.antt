use Rattle.std.proofs.Common.{◌≡◌, List, ℕ, ◌≤◌, length}
use Rattle.steps.specs.Clause.{without}
use Rattle.rows.specs.Rows.{sequent_at, sequents}
use Rattle.rows.proofs.records.without.Given as goal

-- of the first i D-sequents of rs₀ those that do not name v are the first j of rs, and from i on the two are the same
pub record Through (rs₀ : List ℕ) (v : ℕ) (rs : List ℕ) (i j : ℕ) : Type 0 where
  pub few : j ≤ i
  pub long : length rs ≡ length rs₀
  pub kept : sequents rs j ≡ without v (sequents rs₀ i)
  pub ahead : (n : ℕ) → i ≤ n → sequent_at rs n ≡ sequent_at rs₀ n

abbrev pub invariant-loop-i : goal.invariant-loop-i
invariant-loop-i l = Through l.fn.rs l.v l.rs l.i l.j
