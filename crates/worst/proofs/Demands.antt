-- Each demand, with its proof.
use Rattle.worst.specs.Demands.{Demands}
use Rattle.worst.proofs.Checks.{bound_met, up_to_ten, none_beyond}
use Rattle.worst.proofs.Examples.{examples}

pub demands : Demands
demands = record { bound_met = bound_met; up_to_ten = up_to_ten; none_beyond = none_beyond; examples = examples }
