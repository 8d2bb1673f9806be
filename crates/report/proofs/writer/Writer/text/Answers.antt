use mathlib.Core.Path.{refl}
use Rattle.report.proofs.Writing.{wrote_part}
use Rattle.report.proofs.writer.Writer.text.Goals as goal

pub returns : goal.returns
returns c = record {
  wrote = rw c.copy_from_slice.ensures.after (wrote_part c.args.self.now.out.now c.args.self.now.at _ c.args.text.now refl);
  same = refl;
}
