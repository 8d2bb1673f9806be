-- Texts written out, by computation: the example of docs/FORMAT.md, and one text for each other word.
use Rattle.std.specs.Prelude.{◌≡◌, refl, [], ◌∷◌, ◌-◌, ◌^◌}
use Rattle.answer.specs.Answer.{Answer.Can, Answer.Cannot, Answer.Refused, Answer.Stopped}
use Rattle.report.specs.Ascii.{ascii}
use Rattle.report.specs.Decimal.{decimal, decimal_up_to}
use Rattle.report.specs.Text.{outcome_text, fields, clause_lines, record_lines}

pub examples :
    (outcome_text (Cannot (record { branchings = 3; derived = 3; records = 1 })) (1 ∷ 0 ∷ 0 ∷ []) (0 ∷ 1 ∷ 0 ∷ []) (0 ∷ []) (0 ∷ []) (3 ∷ [])
    ≡ ascii "cannot 0 3 3 1\nd 1 0\nd 0 1\nd 0 0\nr 0 0 3\n")
    × (outcome_text (Refused 9) [] [] [] [] [] ≡ ascii "refused 9 0 0 0\n")
    × (outcome_text (Stopped 10 (record { branchings = 1000000; derived = 0; records = 1 })) [] [] (10 ∷ []) (0 ∷ []) ((2 ^ 64 - 1) ∷ [])
    ≡ ascii "stopped 10 1000000 0 1\nr 10 0 18446744073709551615\n")
    × (outcome_text (Can (record { branchings = 0; derived = 0; records = 0 })) [] [] [] [] [] ≡ ascii "can 0 0 0 0\n")
unfolding outcome_text fields clause_lines record_lines decimal decimal_up_to
examples = (refl, refl, refl, refl)
