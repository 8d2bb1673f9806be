-- The exported check, for callers in C and Rust: the word that it returns, and the lent tables as it leaves them.
use Rattle.std.specs.Prelude.{◌≡◌, List, ℕ}
use Rattle.order.specs.Order.{Order}
use Rattle.answer.specs.Packed.{packed}
use Rattle.contract.specs.Check.{check}
use Rattle.contract.specs.Filled.{Tables, lengths, answer_of, filled}

-- the word is that of the definition's answer, and all five tables are those of the definition
pub record Exported (bytes : List ℕ) (o : Order) (allowance : ℕ) (before : Tables) (w : ℕ) (after : Tables) : Type 0 where
  pub word : w ≡ packed (answer_of (check bytes o allowance (lengths before)))
  pub tables : after ≡ filled (check bytes o allowance (lengths before)) before
