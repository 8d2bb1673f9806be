-- The answer that tells an outcome, however the run ended: it has the counts it was given, and a stop's number is one of the two.
use mathlib.Core.Path.{◌≡◌, refl}
use Prim.Native.Nat.{◌≤◌}
use native.Mathlib.Omega.{arith}
use Rattle.steps.specs.State.{Ending, Ending.can, Ending.cannot, Ending.out_of_branchings, Ending.out_of_clauses}
use Rattle.answer.specs.Answer.{stop_places, end_of, tally_in, number_in}
use Rattle.answer.specs.declared.Tally.{Tally}

pub tally_told : (e : Ending) (t : Tally) → tally_in (end_of e t) ≡ t
tally_told can t = refl
tally_told cannot t = refl
tally_told out_of_branchings t = refl
tally_told out_of_clauses t = refl

pub number_few : (e : Ending) (t : Tally) → number_in (end_of e t) ≤ stop_places
number_few can t = omega arith
number_few cannot t = omega arith
number_few out_of_branchings t = omega arith
number_few out_of_clauses t = omega arith
