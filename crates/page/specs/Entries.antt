-- The entries of a rule as text.
use Rattle.std.specs.Prelude.{Bool, true, false, List, [], ◌∷◌, ◌++◌, ℕ, zero, suc, ltb, length}
use Rattle.words.specs.Words.{has}
use Rattle.steps.specs.Clause.{Clause}
use Rattle.report.specs.Ascii.{ascii}
use Rattle.report.specs.Decimal.{decimal}
use Rattle.book.specs.Limits.{max_vars}

-- an entry: the number of an option, from 1 on, and whether it is to be fitted or left out
pub record Entry : Type 0 where
  pub option : ℕ
  pub fitted : Bool

-- the entry of the variable v, whose option is v + 1, by whether the two words have it. No rule that is read or derived has it in both
abbrev pub entry_at : ℕ → Bool → Bool → List Entry
entry_at v true left_out = record { option = suc v; fitted = true } ∷ []
entry_at v false true = record { option = suc v; fitted = false } ∷ []
entry_at v false false = []

-- those of k variables from v on
unfoldable pub entries_from : ℕ → ℕ → Clause → List Entry
entries_from zero v c = []
entries_from (suc k) v c = entry_at v (has c.pos v) (has c.neg v) ++ entries_from k (suc v) c

-- all of a rule
abbrev pub entries : Clause → List Entry
entries c = entries_from max_vars 0 c

-- the sign of an entry: a minus before a left-out one
abbrev pub sign : Bool → List ℕ
sign true = []
sign false = ascii "-"

abbrev pub entry_text : Entry → List ℕ
entry_text e = sign e.fitted ++ decimal e.option

-- a blank before each
unfoldable pub spaced : List Entry → List ℕ
spaced [] = []
spaced (e ∷ es) = ascii " " ++ (entry_text e ++ spaced es)

-- one blank between
abbrev pub joined : List Entry → List ℕ
joined [] = []
joined (e ∷ es) = entry_text e ++ spaced es

-- how many entries there are
abbrev pub counted : ℕ → List ℕ
counted n = ascii "(" ++ (decimal n ++ ascii " entries)")

-- the most characters for a rule
abbrev pub rule_room : ℕ
rule_room = 35

-- the rule's entries, or how many they are where their text is too long, or "none"
unfoldable pub shown : List Entry → List ℕ
shown [] = ascii "none"
shown (e ∷ es) = elim (ltb rule_room (length (joined (e ∷ es)))) [ true ↦ counted (length (e ∷ es)) | false ↦ joined (e ∷ es) ]
