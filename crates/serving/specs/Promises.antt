-- What the functions of this crate promise.
use Rattle.std.specs.Prelude.{◌≡◌, List, ℕ, ◌+◌, ◌*◌, ◌/◌, ◌≤◌, Result, Ok, Err}
use Rattle.answer.specs.Numbers.{refusal_number}
use Rattle.answer.specs.declared.refusal.Refusal.{Refusal}
use Rattle.order.specs.Order.{Order}
use Rattle.contract.specs.Filled.{Tables}
use Rattle.morning.specs.Morning.{word_part, fill_part}

-- 0, or the number of the refusal
abbrev pub number_of : Result (Unit {0}) Refusal → ℕ
number_of (Ok u) = 0
number_of (Err r) = refusal_number r

-- part i of k has these places, in a table of so many
pub record PartIn (k i places from to : ℕ) : Type 0 where
  pub begins : from ≡ i * (places / k)
  pub ends : to ≡ from + places / k
  pub forward : from ≤ to
  pub fits : to ≤ places

-- order i of k was checked on its part
pub record ServedPart (bytes : List ℕ) (o : Order) (allowance k i : ℕ) (before : Tables) (w : ℕ) (after : Tables) : Type 0 where
  pub word : w ≡ word_part bytes o allowance k i before
  pub tables : after ≡ fill_part bytes o allowance k i before
