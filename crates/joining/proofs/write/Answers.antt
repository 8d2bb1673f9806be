use Rattle.std.proofs.Common.{rules}
use Rattle.joining.proofs.Joined.{written_whole, written_after}
use Rattle.joining.proofs.write.Goals as goal

pub unwrap-requires : goal.unwrap-requires
unwrap-requires c = rw (written_whole _ _ _ c.requires.0.bytes _ c.write_book.ensures.value) (search rules)

pub returns : goal.returns
returns c =
    let ok = written_whole _ _ _ c.requires.0.bytes _ c.write_book.ensures.value in
    record { bytes = cc; out = written_after _ _ _ c.requires.0.bytes _ c.write_book.ensures.out_after }
