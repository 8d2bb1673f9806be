use Rattle.joining.specs.Promises.{place_in}
use Rattle.joining.proofs.Renamed.{word_turn, word_end}
use Rattle.joining.proofs.rename.Places.word.Goals as goal

pub loop-k-preserved : goal.loop-k-preserved
loop-k-preserved c = word_turn _ _ _ c.in-Some.ensures.steps (place_in c.args.self.now.of) _ _ _ c.word_of-out.ensures c.loop-k.invariant

pub returns : goal.returns
returns c = word_end _ _ _ _ c.in-None.ensures.steps.0 c.loop-k.invariant
