-- Each demand, with its proof.
use Rattle.report.specs.Demands.{Demands}
use Rattle.report.proofs.Decimals.{decimals}
use Rattle.report.proofs.Unique.{one_decimal, one_field}
use Rattle.report.proofs.Widths.{fields}

pub demands : Demands
demands = record { decimals = decimals; one_decimal = one_decimal; fields = fields; one_field = one_field }
