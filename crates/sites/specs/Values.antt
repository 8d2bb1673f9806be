-- What is answered, with its refusals and stops by number, and the code's results as these values.
use Rattle.std.specs.Prelude.{ℕ, Result, Ok, Err}
use Rattle.answer.specs.Answer.{Answer}
use Rattle.answer.specs.Numbers.{refusal_number, by_number}
use Rattle.answer.specs.declared.refusal.Refusal.{Refusal}
use Rattle.sites.specs.declared.Terminal.{Terminal}
use Rattle.sites.specs.declared.Served as declared

-- a refusal by its number, or a terminal for the first site
pub data Opening : Type 0 where
  Refused : ℕ → Opening
  Opened : Terminal → Opening

-- the answer to a site, and the terminal for the next
pub record Served : Type 0 where
  pub answer : Answer
  pub terminal : Terminal

abbrev pub opening_of : Result Terminal Refusal → Opening
opening_of (Ok t) = Opened t
opening_of (Err r) = Refused (refusal_number r)

abbrev pub served_of : declared.Served → Served
served_of x = record { answer = by_number x.answer; terminal = x.terminal }
