use Rattle.std.proofs.Common.{◌∙◌}
use Rattle.book.proofs.Eight.{eight_placed}
use Rattle.book.proofs.word.put_word.Goals as goal

pub returns : goal.returns
returns c = eight_placed _ _ _ _ (c.copy_from_slice.ensures.after ∙ c.to_le_bytes.ensures)
