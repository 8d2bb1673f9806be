-- What the exported function hands over: a number, and in the caller's three places whether it is forced, and the planner's two answers.
use Rattle.std.specs.Prelude.{◌≡◌, List, ℕ}
use Rattle.order.specs.Order.{Order}
use Rattle.turns.specs.Turns.{Response, Response.Out, Response.Fitted, Response.None, Turns, Turns.Forced, Turns.Open, Turns.Refused, turns}

-- the three places: forced, the answer to "left out", the answer to "fitted"
pub record Places : Type 0 where
  pub forced : ℕ
  pub out : ℕ
  pub fitted : ℕ

abbrev pub places : ℕ → ℕ → ℕ → Places
places f p q = record { forced = f; out = p; fitted = q }

-- the number of an answer
abbrev pub response_number : Response → ℕ
response_number None = 0
response_number Out = 1
response_number Fitted = 2

-- 0 where the options were played, and else the number of the refusal
abbrev pub number_of : Turns → ℕ
number_of (Forced r) = 0
number_of (Open r) = 0
number_of (Refused k) = k

-- what the places hold then; a refusal leaves them as they were
abbrev pub places_in : Places → Turns → Places
places_in before (Forced r) = places 1 (response_number r.out) (response_number r.fitted)
places_in before (Open r) = places 0 (response_number r.out) (response_number r.fitted)
places_in before (Refused k) = before

-- `before` is what the caller's places held, and `after` what they hold afterwards
pub record Hands (bytes : List ℕ) (o : Order) (before : Places) (r : ℕ) (after : Places) : Type 0 where
  pub number : r ≡ number_of (turns bytes o)
  pub places : after ≡ places_in before (turns bytes o)
