use mathlib.Core.Path.{refl, ◌∙◌, ap}
use lib.ListN.{length, replicate, length-replicate, length-take}
use Rattle.std.proofs.Common.{ℕ, ◌≡◌, arith, length-drop}
use Rattle.report.specs.Fields.{blanks}
use Rattle.report.proofs.Writing.{wrote_part}
use Rattle.report.proofs.writer.Writer.blanks.Goals as goal

pub returns : goal.returns
returns c =
    let out = c.args.self.now.out.now in
    let many : length (blanks c.args.count) ≡ c.args.count = length-replicate {A = ℕ} c.args.count 32 in
    let filled : c.fill.new.self ≡ blanks c.args.count = c.fill.ensures.after (λ y e. e) ∙ ap (λ (k : ℕ). replicate k 32) (simp (length-take, length-drop) (omega arith)) in
    record { wrote = rw filled (wrote_part out c.args.self.now.at c.args.count (blanks c.args.count) (omega arith)); same = refl }
