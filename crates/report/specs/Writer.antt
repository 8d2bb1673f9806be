-- Writing by a writer, which holds a lent buffer and the place where the next part goes.
use Rattle.std.specs.Prelude.{◌≡◌, List, ℕ}
use Rattle.report.specs.Write.{Room, Wrote}
use Rattle.report.specs.declared.writer.Writer.{Writer}

-- there is room for the text
pub record Free (w : Writer) (text : List ℕ) : Type 0 where
  pub room : Room w.out.now w.at text

-- the text is written, the place is after it, and the buffer is the same one
pub record Writes (before : Writer) (text : List ℕ) (after : Writer) : Type 0 where
  pub wrote : Wrote before.out.now before.at text after.out.now after.at
  pub same : after.out.ghost_name ≡ before.out.ghost_name
