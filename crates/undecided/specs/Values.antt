-- What is answered, with its refusals and stops by number, and the code's results as these values.
use Rattle.std.specs.Prelude.{ℕ, Result, Ok, Err}
use Rattle.answer.specs.Answer.{Answer}
use Rattle.answer.specs.Numbers.{refusal_number, by_number}
use Rattle.answer.specs.declared.refusal.Refusal.{Refusal}
use Rattle.undecided.specs.declared.Verdict.{Verdict}
use Rattle.undecided.specs.declared.Tried as declared

-- the verdict or that there is none, the last setting tried, and the answer to it
pub record Tried : Type 0 where
  pub verdict : Verdict
  pub setting : ℕ
  pub last : Answer

-- a refusal by its number, or what trying the settings gave
pub data Reply : Type 0 where
  Refused : ℕ → Reply
  tried : Tried → Reply

abbrev pub tried_of : declared.Tried → Tried
tried_of x = record { verdict = x.verdict; setting = x.setting; last = by_number x.last }

abbrev pub reply_of : Result declared.Tried Refusal → Reply
reply_of (Ok x) = tried (tried_of x)
reply_of (Err r) = Refused (refusal_number r)
