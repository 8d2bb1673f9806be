-- The demand, with its proof: every answer to a check fits a word (crate `contract`), so it is what is taken out of its word.
use mathlib.Core.Path.{ap, ◌∙◌}
use Rattle.answer.specs.Packed.{unpacked}
use Rattle.answer.proofs.Demands.{inverse}
use Rattle.contract.specs.Filled.{lengths}
use Rattle.contract.proofs.Demands as contract
use Rattle.optcheck_c.specs.Demands.{Whole, Demands}

pub whole : Whole
whole bytes o allowance before after w h e = ap unpacked e.word ∙ inverse _ ((contract.demands).answers_fit bytes o allowance (lengths before) h)

pub demands : Demands
demands = record { whole = whole }
