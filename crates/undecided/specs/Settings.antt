-- The settings of open options: the subsets of their word, ascending as words.
use Rattle.std.specs.Prelude.{true, false, List, [], ◌∷◌, ℕ, zero, suc, ◌+◌, ◌-◌, ◌*◌, ◌/◌, ◌^◌}
use Rattle.std.specs.Int.Bits.{bit_and}
use Rattle.words.specs.Words.{odd}

-- each word with one more digit, its lowest: 0
abbrev pub with_zero : List ℕ → List ℕ
with_zero [] = []
with_zero (s ∷ ss) = s * 2 ∷ with_zero ss

-- each word with one more digit, its lowest: 0 and then 1
abbrev pub with_both : List ℕ → List ℕ
with_both [] = []
with_both (s ∷ ss) = s * 2 ∷ (s * 2 + 1) ∷ with_both ss

-- the subsets of a word of k digits: those of its half, with a lowest digit
unfoldable pub subsets : ℕ → ℕ → List ℕ
subsets zero w = 0 ∷ []
subsets (suc k) w = elim (odd w) [ true ↦ with_both (subsets k (w / 2)) | false ↦ with_zero (subsets k (w / 2)) ]

-- the settings of the open options, whose word has 64 digits
abbrev pub settings : ℕ → List ℕ
settings opens = subsets 64 opens

-- the setting after s: s less the word of the open options, in 64 digits, and of that what the word has
unfoldable pub next_setting : ℕ → ℕ → ℕ
next_setting opens s = bit_and (s + (2 ^ 64 - opens)) opens
