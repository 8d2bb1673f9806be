use Rattle.std.proofs.Common.{◌≡◌, ap, ◌∙◌, ◌+◌, ◌-◌, arith, take, drop}
use Rattle.book.specs.Bytes.{number, word_at}
use Rattle.book.proofs.Eight.{number_of_eight}
use Rattle.book.proofs.word.word_at.Goals as goal

pub returns : goal.returns
unfolding word_at
returns c =
    let eight : c.args.at + 8 - c.args.at ≡ 8 = omega arith in
    c.from_le_bytes.ensures ∙ number_of_eight _ c.copy_from_slice.ensures.len
    ∙ ap number (c.copy_from_slice.ensures.after ∙ ap (λ k. take k (drop c.args.at c.args.bytes.now)) eight)
