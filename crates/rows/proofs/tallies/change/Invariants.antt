use Rattle.std.proofs.Common.{List, ℕ}
use Rattle.steps.specs.Clause.{Assignment}
use Rattle.rows.specs.Tally.{Block, Leads}
use Rattle.rows.specs.declared.tally.Delta.{Delta}
use Rattle.rows.proofs.Walks.{Walked}
use Rattle.rows.proofs.tallies.change.Given as goal

-- block j is right in q: whatever the change leads from and to, the tallies before it have become those after it
abbrev pub Right : List ℕ → List ℕ → ℕ → ℕ → Delta → List ℕ → ℕ → Type 0
Right t q₀ m v d q j = (a b : Assignment) (k : ℕ) → Leads t m v d a b → Block t q₀ m j a k → Block t q m j b k

abbrev pub invariant-loop-j : goal.invariant-loop-j
invariant-loop-j l = Walked (Right l.t l.fn.q l.m l.v l.d) l.fn.q l.q l.j
