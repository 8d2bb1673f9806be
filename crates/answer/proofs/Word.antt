-- The parts of an answer in its word. They stand side by side, each below the weight of the next, so dividing by a part's weight and taking the remainder by its
-- size gives the part back, and the whole stays below 2 to the power 64.
use mathlib.Core.Path.{◌≡◌, refl}
use Prim.Native.Nat.{◌/◌, ◌%◌, ◌^◌, ◌<◌}
use native.Mathlib.Omega.{arith}
use Rattle.answer.specs.Answer.{tally_in, number_in, Answer, Answer.Can, Answer.Cannot, Answer.Refused, Answer.Stopped}
use Rattle.answer.specs.Packed.{kind_in, one_number, one_branching, one_derived, one_record, packed, of_kind, Packable}

-- there are four kinds
pub kind_few : (a : Answer) → kind_in a < 2 ^ 2
kind_few (Can t) = omega arith
kind_few (Cannot t) = omega arith
kind_few (Refused k) = omega arith
kind_few (Stopped k t) = omega arith

-- an answer is its parts
pub parts : (a : Answer) → of_kind (kind_in a) (number_in a) (tally_in a) ≡ a
parts (Can t) = refl
parts (Cannot t) = refl
parts (Refused k) = refl
parts (Stopped k t) = refl

module _ (a : Answer) (p : Packable a) where
  -- the word is a word
  pub word_fits : packed a < 2 ^ 64
  word_fits = omega (arith, kind_few a)

  -- each part is taken out again
  pub kind_is : packed a % 2 ^ 2 ≡ kind_in a
  kind_is = omega (arith, kind_few a)

  pub number_is : packed a / one_number % 2 ^ 6 ≡ number_in a
  number_is = omega (arith, kind_few a)

  pub branchings_is : packed a / one_branching % 2 ^ 32 ≡ (tally_in a).branchings
  branchings_is = omega (arith, kind_few a)

  pub derived_is : packed a / one_derived % 2 ^ 12 ≡ (tally_in a).derived
  derived_is = omega (arith, kind_few a)

  pub records_is : packed a / one_record % 2 ^ 7 ≡ (tally_in a).records
  records_is = omega (arith, kind_few a)
