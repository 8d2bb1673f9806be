-- `rows::tallies::start` meets its contract: a turn adds one clause.
use Prim.Native.Nat.{ℕ}
use mathlib.Core.Path.{subst}
use native.Mathlib.Omega.{arith}
use Rattle.steps.specs.Run.{no_decisions}
use Rattle.rows.specs.Tally.{Tallied}
use Rattle.rows.proofs.tallies.start.Goals as goal

pub loop-i-init : goal.loop-i-init
loop-i-init c = record { room = omega arith; block = λ j below. absurd (omega arith) }

pub loop-i-preserved : goal.loop-i-preserved
loop-i-preserved c = c.put.ensures _ c.clause_at.ensures c.loop-i.invariant

pub returns : goal.returns
returns c = subst (λ (n : ℕ). Tallied c.args.t.now c.loop-i.q n no_decisions 0) (omega arith) c.loop-i.invariant
