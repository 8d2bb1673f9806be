-- The first n variables under other numbers: variable k becomes variable f k. Nothing here depends on how many digits a word has.
use Rattle.std.specs.Prelude.{◌≡◌, true, false, ℕ, zero, suc, ◌^◌, ◌<◌}
use Rattle.std.specs.Int.Bits.{bit_or}
use Rattle.words.specs.Words.{has}
use Rattle.steps.specs.Clause.{Clause}

-- the variables f k, for the members k of w among the first n
unfoldable pub image : (ℕ → ℕ) → ℕ → ℕ → ℕ
image f zero w = 0
image f (suc n) w = elim (has w n) [ true ↦ bit_or (image f n w) (2 ^ f n) | false ↦ image f n w ]

-- the clause with each literal under its variable's other number
unfoldable pub renamed : (ℕ → ℕ) → ℕ → Clause → Clause
renamed f n c = record { pos = image f n c.pos; neg = image f n c.neg }

-- the variables k among the first n for which f k is a member of x
unfoldable pub preimage : (ℕ → ℕ) → ℕ → ℕ → ℕ
preimage f zero x = 0
preimage f (suc n) x = elim (has x (f n)) [ true ↦ bit_or (preimage f n x) (2 ^ n) | false ↦ preimage f n x ]

-- different variables among the first n have different numbers
abbrev pub Apart : (ℕ → ℕ) → ℕ → Type 0
Apart f n = (j k : ℕ) → j < n → k < n → f j ≡ f k → j ≡ k

-- their numbers are among the first m
abbrev pub Into : (ℕ → ℕ) → ℕ → ℕ → Type 0
Into f n m = (k : ℕ) → k < n → f k < m

-- the choice z says of each of the first n variables what the choice x says of it under its other number
abbrev pub Pulled : (ℕ → ℕ) → ℕ → ℕ → ℕ → Type 0
Pulled f n x z = (k : ℕ) → k < n → has z k ≡ has x (f k)
