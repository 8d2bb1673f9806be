use Rattle.std.proofs.Common.{◌≡◌, bit_or}
use Rattle.renaming.specs.Renaming.{image}
use Rattle.joining.specs.Promises.{place_in}
use Rattle.joining.proofs.rename.Places.word.Given as goal

-- what is in place, with the image of the members that are still to come, is the image of the word
abbrev pub invariant-loop-k : goal.invariant-loop-k
invariant-loop-k l = bit_or l.out (image (place_in l.self.of) 64 l.k-iterator.left) ≡ image (place_in l.self.of) 64 l.word
