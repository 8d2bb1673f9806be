-- A number as its decimal digits, in ASCII.
use Rattle.std.specs.Prelude.{true, false, List, [], ◌∷◌, ◌++◌, ℕ, zero, suc, ◌+◌, ◌/◌, ◌%◌, ltb}

-- the digit of a number below 10
abbrev pub digit : ℕ → ℕ
digit d = 48 + d

-- the digits of n, the most significant first: no more than the last k of them
unfoldable pub decimal_up_to : ℕ → ℕ → List ℕ
decimal_up_to zero n = []
decimal_up_to (suc k) n = elim (ltb n 10) [ true ↦ digit n ∷ [] | false ↦ decimal_up_to k (n / 10) ++ (digit (n % 10) ∷ []) ]

-- the digits of n, the most significant first and no leading zeros; "0" for 0. (n has at most n + 1 digits.)
unfoldable pub decimal : ℕ → List ℕ
unfolding decimal_up_to
decimal n = decimal_up_to (suc n) n
