-- The walk through a word's members meets its contract: it gives the number of the lowest member, and leaves the others.
use mathlib.Core.Path.{ap}
use native.Mathlib.Omega.{arith}
use lib.ListN.{length}
use Rattle.words.proofs.Sets.{nonzero}
use Rattle.words.proofs.Listing.{taken}
use Rattle.words.proofs.NumbersIterator.next.Goals as goal

pub returns-clause-steps : goal.returns-clause-steps
returns-clause-steps c = rw (c.lowest_var.ensures, c.rest_of-self.ensures) (taken _ (nonzero _ c.if-x-eq0.false) (omega arith))

pub returns-clause-goes : goal.returns-clause-goes
returns-clause-goes c =
    let fewer = ap length (taken _ (nonzero _ c.if-x-eq0.false) (omega arith)).listed in
    record { on = λ f. (tt, tt, rw c.rest_of-self.ensures (omega (arith, fewer))); keeps = tt; rests = λ f. tt }
