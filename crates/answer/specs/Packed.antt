-- An answer as one word of 64 bits, lowest first: 2 bits for the kind, 6 for the number, 32 for the branchings, 12 for the derived rules, 7 for the records.
use Rattle.std.specs.Prelude.{ℕ, zero, suc, ◌+◌, ◌*◌, ◌/◌, ◌%◌, ◌^◌, ◌<◌}
use Rattle.answer.specs.Answer.{tally_in, number_in, Answer, Answer.Can, Answer.Cannot, Answer.Refused, Answer.Stopped}
use Rattle.answer.specs.declared.Tally.{Tally}

-- 0 can, 1 cannot, 2 refused, 3 stopped
abbrev pub kind_in : Answer → ℕ
kind_in (Can t) = 0
kind_in (Cannot t) = 1
kind_in (Refused k) = 2
kind_in (Stopped k t) = 3

-- what one more of each adds to the word
abbrev pub one_number : ℕ
one_number = 2 ^ 2

abbrev pub one_branching : ℕ
one_branching = 2 ^ 8

abbrev pub one_derived : ℕ
one_derived = 2 ^ 40

abbrev pub one_record : ℕ
one_record = 2 ^ 52

-- the word of a kind, a number and counts
abbrev pub in_word : ℕ → ℕ → Tally → ℕ
in_word kind number t = kind + one_number * number + one_branching * t.branchings + one_derived * t.derived + one_record * t.records

-- the word of an answer
abbrev pub packed : Answer → ℕ
packed a = in_word (kind_in a) (number_in a) (tally_in a)

-- the answer of such a kind, number and counts
abbrev pub of_kind : ℕ → ℕ → Tally → Answer
of_kind zero k t = Can t
of_kind (suc zero) k t = Cannot t
of_kind (suc (suc zero)) k t = Refused k
of_kind (suc (suc (suc n))) k t = Stopped k t

-- the answer in a word, as a caller takes it out
abbrev pub unpacked : ℕ → Answer
unpacked w =
    of_kind (w % 2 ^ 2) (w / one_number % 2 ^ 6)
    (record { branchings = w / one_branching % 2 ^ 32; derived = w / one_derived % 2 ^ 12; records = w / one_record % 2 ^ 7 })

-- each part fits its bits
pub record Packable (a : Answer) : Type 0 where
  pub number : number_in a < 2 ^ 6
  pub branchings : (tally_in a).branchings < 2 ^ 32
  pub derived : (tally_in a).derived < 2 ^ 12
  pub records : (tally_in a).records < 2 ^ 7
