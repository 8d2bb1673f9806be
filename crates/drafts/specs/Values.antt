-- What the calls of the code give, as values of the specs.
use Rattle.std.specs.Prelude.{ℕ, Result, Ok, Err}
use Rattle.answer.specs.declared.refusal.Refusal.{Refusal}
use Rattle.answer.specs.Numbers.{refusal_number}
use Rattle.drafts.specs.declared.Desk.{Desk}
use Rattle.drafts.specs.Desk.{Done}

-- 0, or the number of the refusal
abbrev pub answered : Result (Unit {0}) Refusal → ℕ
answered (Ok x) = 0
answered (Err r) = refusal_number r

-- a call on a desk: the altered desk and 0, or the desk as it was and the number of the refusal
abbrev pub done_by : Desk → Result Desk Refusal → Done
done_by before (Ok d) = record { desk = d; answer = 0 }
done_by before (Err r) = record { desk = before; answer = refusal_number r }
