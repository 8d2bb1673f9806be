-- The demands on the word of an answer and on the numbers of refusals and stops, each as a named type that is proved in `proofs/Demands.antt`.
use Rattle.std.specs.Prelude.{◌≡◌}
use Rattle.answer.specs.Answer.{stop_branchings, Answer, Answer.Refused, Answer.Stopped}
use Rattle.answer.specs.Numbers.{refusal_number, stop_number, by_number}
use Rattle.answer.specs.Packed.{packed, unpacked, Packable}
use Rattle.answer.specs.declared.Answer as declared
use Rattle.answer.specs.declared.refusal.Refusal.{Refusal}
use Rattle.answer.specs.declared.refusal.Stop.{Stop}

-- what is taken out of a word is what was put in
abbrev pub Inverse : Type 0
Inverse = (a : Answer) → Packable a → unpacked (packed a) ≡ a

-- so no two answers have the same word
abbrev pub Injective : Type 0
Injective = (a b : Answer) → Packable a → Packable b → packed a ≡ packed b → a ≡ b

-- no two refusals of the code have the same number, so that an answer by its number is one answer
abbrev pub NumbersApart : Type 0
NumbersApart = (r s : Refusal) → refusal_number r ≡ refusal_number s → r ≡ s

-- nor have two stops
abbrev pub StopsApart : Type 0
StopsApart = (r s : Stop) → stop_number r ≡ stop_number s → r ≡ s

-- so no two answers of the code have the same word
abbrev pub WordsApart : Type 0
WordsApart = (a b : declared.Answer) → Packable (by_number a) → Packable (by_number b) → packed (by_number a) ≡ packed (by_number b) → a ≡ b

-- stop 10 with the counts that fill their bits
abbrev pub largest : Answer
largest = Stopped stop_branchings (record { branchings = 4294967295; derived = 4095; records = 127 })

-- two words written out, and an answer that is packable, which keeps the demands from being about nothing
pub record Examples : Type 0 where
  pub refused : packed (Refused 9) ≡ 38
  pub stopped : packed largest ≡ 576460752303423275
  pub packable : Packable largest

pub record Demands : Type 0 where
  pub inverse : Inverse
  pub injective : Injective
  pub numbers_apart : NumbersApart
  pub stops_apart : StopsApart
  pub words_apart : WordsApart
  pub examples : Examples
