-- What judging gives, as a value of the specs.
use Rattle.std.proofs.Math.Option.{Option, some, none}
use Rattle.std.specs.Prelude.{ℕ, Result, Ok, Err}
use Rattle.answer.specs.Numbers.{refusal_number}
use Rattle.answer.specs.declared.refusal.Refusal.{Refusal}

-- the number of a refusal, or none
abbrev pub judged_of : Result (Unit {0}) Refusal → Option ℕ
judged_of (Ok u) = none
judged_of (Err r) = some (refusal_number r)
