use Rattle.std.proofs.Common.{arith}
use Rattle.answer.proofs.Passing.{passed_on}
use Rattle.book.proofs.Accepted.{held}
use Rattle.playing.proofs.Played.{refused_whole, played_whole}
use Rattle.playing.proofs.turns.Goals as goal

pub returns-in_err-b : goal.returns-in_err-b
returns-in_err-b c = rw (passed_on c.from_residual.result c.in_err-b.field-0.0 c.from_residual.ensures.1) (refused_whole _ _ _ c.in_err-b.ensures)

pub play-requires : goal.play-requires
play-requires c = held _ _ _ _ (omega arith) c.in_ok-b.ensures

pub returns : goal.returns
returns c = played_whole _ _ _ _ _ c.in_ok-b.ensures c.play.ensures
