use mathlib.Core.Path.{◌∙◌}
use Rattle.report.proofs.Printed.{decimal_written}
use Rattle.report.proofs.writer.digits_of.Goals as goal

pub returns : goal.returns
returns c = c.as_bytes.ensures.value ∙ c.format.ensures.text ∙ decimal_written c.args.n c.ranges.n.fits
