-- `rows::tallies::restrike` meets its contract: a walk over the blocks, a turn of which puts the clauses that name one of k.
use native.Mathlib.Omega.{arith}
use Rattle.rows.proofs.Walks.{begins, ends}
use Rattle.rows.proofs.Strikes.{restrikes}
use Rattle.rows.proofs.tallies.restrike.Goals as goal

pub loop-j-init : goal.loop-j-init
loop-j-init c = begins _

pub loop-j-preserved : goal.loop-j-preserved
loop-j-preserved c = restrikes _ _ c.loop-j.invariant (rw c.word.ensures at c.put_rows.ensures) c.naming.ensures

pub returns : goal.returns
returns c t a before = ends t _ a a before _ c.loop-j.invariant (omega arith) (λ j below right x. right t a before x)
