-- A turn of a walk through the clauses in two rows meets its contract: the lowest clause that is left where it goes on comes, and those after it are left then.
use mathlib.Core.Path.{refl}
use native.Mathlib.Omega.{arith}
use Rattle.rows.proofs.Both.{comes}
use Rattle.rows.proofs.index.WalkIterator.next.Goals as goal

pub returns-clause-steps : goal.returns-clause-steps
returns-clause-steps c =
    rw c.lowest_var.ensures
    (comes c.requires c.in_ok-block.ensures (omega arith) (omega (arith, c.lowest_var.ensures)) refl refl refl refl refl c.rest_of-self.ensures)

pub returns-clause-goes : goal.returns-clause-goes
returns-clause-goes c =
    let x = returns-clause-steps c in
    record { on = λ f. (x.goes, tt, omega (arith, x.from, x.to, x.below)); keeps = x.goes; rests = λ f. tt }
