-- What the functions under the entry point promise.
use Rattle.std.specs.Prelude.{◌≡◌, List, ℕ}
use Rattle.order.specs.Order.{Order}
use Rattle.contract.specs.Filled.{Tables}
use Rattle.undecided.specs.Undecided.{zeroed, tried_all}
use Rattle.undecided.specs.Values.{Tried, Reply.tried}

-- every place is zero
abbrev pub Ready : Tables → Type 0
Ready t = t ≡ zeroed t

-- all settings were tried until one stopped
pub record TriesAll (bytes : List ℕ) (o : Order) (opens allowance : ℕ) (before : Tables) (r : Tried) (after : Tables) : Type 0 where
  pub left : record { reply = tried r; tables = after } ≡ tried_all bytes o opens allowance before
