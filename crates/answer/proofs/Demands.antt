-- Each demand, with its proof. Every part is taken out of the word again, and an answer is its parts; so two answers with one word are both what is taken out of it.
use mathlib.Core.Path.{refl, sym, ap, ◌∙◌}
use native.Mathlib.Omega.{arith}
use Rattle.answer.specs.Packed.{of_kind, unpacked}
use Rattle.answer.specs.Numbers.{by_number}
use Rattle.answer.specs.Demands.{Inverse, Injective, WordsApart, Demands}
use Rattle.answer.proofs.Apart.{numbers_apart, stops_apart, answer_of, found_answer}
use Rattle.answer.proofs.Word.{parts, kind_is, number_is, branchings_is, derived_is, records_is}

pub inverse : Inverse
inverse a p =
    (λ i. of_kind (kind_is a p i) (number_is a p i) (record { branchings = branchings_is a p i; derived = derived_is a p i; records = records_is a p i })) ∙ parts a

pub injective : Injective
injective a b p q e = sym (inverse a p) ∙ ap unpacked e ∙ inverse b q

pub words_apart : WordsApart
words_apart a b p q e = sym (found_answer a) ∙ ap answer_of (injective (by_number a) (by_number b) p q e) ∙ found_answer b

pub demands : Demands
demands =
    record {
      inverse = inverse;
      injective = injective;
      numbers_apart = numbers_apart;
      stops_apart = stops_apart;
      words_apart = words_apart;
      examples =
          record {
            refused = refl;
            stopped = refl;
            packable = record { number = omega arith; branchings = omega arith; derived = omega arith; records = omega arith };
          };
    }
