-- An order as a caller gives it, the order that it is completed to, and the options that are free in it.
use Rattle.std.specs.Prelude.{ℕ}
use Rattle.std.specs.Int.Bits.{bit_or}
use Rattle.words.specs.Words.{minus, first_vars}
use Rattle.steps.specs.Run.{Assumptions}

-- the wanted options, the unwanted ones, and the standard ones, which come unless they are unwanted
pub record Order : Type 0 where
  pub wanted : ℕ
  pub unwanted : ℕ
  pub standard : ℕ

-- the completed order: each standard option that is not unwanted is taken as wanted
unfoldable pub complete : Order → Assumptions
complete o = record { pos = bit_or o.wanted (minus o.standard o.unwanted); neg = o.unwanted }

-- the free options among n: neither wanted nor unwanted in the completed order
unfoldable pub free : ℕ → Order → ℕ
free n o = minus (first_vars n) (bit_or (complete o).pos (complete o).neg)
