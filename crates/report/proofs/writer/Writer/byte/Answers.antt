use mathlib.Core.Path.{refl}
use Rattle.report.proofs.Writing.{wrote_byte}
use Rattle.report.proofs.writer.Writer.byte.Goals as goal

pub returns : goal.returns
returns c = record { wrote = wrote_byte c.args.self.now.out.now c.args.self.now.at c.args.byte c.requires.room; same = refl }
