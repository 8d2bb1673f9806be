-- Pairs of options that are the same thing, two bytes each: the first book's option, then the second's, each by its number from 1 on. From them each option of the
-- second book has its place among the joint book's. Option k + 1 stands at bit k, so its place is the number of a bit too.
use Rattle.std.specs.Prelude.{Bool, true, false, ◌||◌, List, ℕ, zero, suc, ◌+◌, ◌-◌, ◌*◌, ◌/◌, ◌^◌, eqb, ltb, length, get_or}
use Rattle.std.specs.Int.Bits.{bit_or}
use Rattle.std.specs.Int.Count.{ones}
use Rattle.words.specs.Words.{is_zero, has, minus, first_vars}

-- how many pairs there are. A byte that is left over is none
abbrev pub pair_count : List ℕ → ℕ
pair_count bytes = length bytes / 2

-- the option of pair i on one side: 0 is the first book's side, 1 the second's
unfoldable pub option : ℕ → List ℕ → ℕ → ℕ
option side bytes i = get_or bytes (2 * i + side) 0

-- the options of the first m pairs on one side, as a word
unfoldable pub options_of : ℕ → List ℕ → ℕ → ℕ
options_of side bytes zero = 0
options_of side bytes (suc i) = bit_or (options_of side bytes i) (2 ^ (option side bytes i - 1))

-- an option that is at fault: 0 or above n, or one that is already paired
abbrev pub at_fault : ℕ → ℕ → ℕ → Bool
at_fault n taken k = is_zero k || (ltb n k || has taken (k - 1))

-- one of the first m pairs has an option at fault on this side, whose book has n options
unfoldable pub side_fault : ℕ → ℕ → List ℕ → ℕ → Bool
side_fault n side bytes zero = false
side_fault n side bytes (suc i) = side_fault n side bytes i || at_fault n (options_of side bytes i) (option side bytes i)

-- ---- the places of the second book's options

-- the place of the first book's option that is paired, by one of the first m pairs, with the second book's option k + 1; d where none is
unfoldable pub partner_or : ℕ → List ℕ → ℕ → ℕ → ℕ
partner_or d bytes zero k = d
partner_or d bytes (suc i) k = elim (eqb (option 1 bytes i) (suc k)) [ true ↦ option 0 bytes i - 1 | false ↦ partner_or d bytes i k ]

-- the second book's paired options
abbrev pub paired : List ℕ → ℕ
paired bytes = options_of 1 bytes (pair_count bytes)

-- how many options of the second book below place k are unpaired
unfoldable pub unpaired_below : List ℕ → ℕ → ℕ
unpaired_below bytes k = ones (minus (first_vars k) (paired bytes))

-- the place of the second book's option k + 1: its partner's, or after the first book's n options and the unpaired ones before it
unfoldable pub place : ℕ → List ℕ → ℕ → ℕ
place n bytes k = partner_or (n + unpaired_below bytes k) bytes (pair_count bytes) k
