-- What the code gives, as values of the specs.
use Rattle.std.specs.Prelude.{Option, Some, None as nothing, Result, Ok, Err}
use Rattle.answer.specs.Numbers.{refusal_number}
use Rattle.answer.specs.declared.refusal.Refusal.{Refusal}
use Rattle.turns.specs.Turns.{Response, Response.Out, Response.Fitted, Response.None, Responses, Turns, Turns.Refused, told}
use Rattle.turns.specs.declared.Response as declared
use Rattle.turns.specs.declared.Response.TheVariants as code
use Rattle.turns.specs.declared.Responses as both
use Rattle.turns.specs.declared.Outcome as outcome

-- an answer of the planner's
abbrev pub response_of : Option declared.Response → Response
response_of (Some code.Out) = Out
response_of (Some code.Fitted) = Fitted
response_of nothing = None

-- both
abbrev pub responses_of : both.Responses → Responses
responses_of r = record { out = response_of r.out; fitted = response_of r.fitted }

-- an outcome
abbrev pub outcome_of : outcome.Outcome → Turns
outcome_of o = told o.forced (responses_of o.responses)

-- an outcome or a refusal
abbrev pub turns_of : Result outcome.Outcome Refusal → Turns
turns_of (Ok o) = outcome_of o
turns_of (Err r) = Refused (refusal_number r)
