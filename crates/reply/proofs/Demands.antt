-- Each demand, with its proof.
use Rattle.reply.specs.Demands.{Demands}
use Rattle.reply.proofs.Input.{readable_decides}
use Rattle.reply.proofs.Examples.{examples}

pub demands : Demands
demands = record { readable_decides = readable_decides; examples = examples }
