-- The demand on the exported check, as a named type that is proved in `proofs/Demands.antt`. An allowance has 32 bits; bytes, words and tables are any.
use Rattle.std.specs.Prelude.{◌≡◌, List, ℕ, ◌^◌, ◌<◌}
use Rattle.order.specs.Order.{Order}
use Rattle.answer.specs.Packed.{unpacked}
use Rattle.contract.specs.Check.{check}
use Rattle.contract.specs.Filled.{Tables, lengths, answer_of}
use Rattle.optcheck_c.specs.Exported.{Exported}

-- what a caller takes out of the word is the definition's answer: no number and no count is cut off
abbrev pub Whole : Type 0
Whole =
    (bytes : List ℕ) (o : Order) (allowance : ℕ) (before after : Tables) (w : ℕ) → allowance < 2 ^ 32 →
    Exported bytes o allowance before w after → unpacked w ≡ answer_of (check bytes o allowance (lengths before))

pub record Demands : Type 0 where
  pub whole : Whole
