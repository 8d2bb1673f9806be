-- The options that are left, as a word: there is none, or the lowest one and the rest. So a turn goes on with one option fewer.
use mathlib.Core.Path.{◌≡◌, sym, ap, ap₂, ◌∙◌}
use mathlib.Core.Bool.{Bool, true, false, ◌&&◌, ◌||◌}
use mathlib.Core.List.{[], ◌∷◌}
use Prim.Native.Nat.{ℕ, ◌^◌, ◌<◌}
use native.Mathlib.Omega.{arith}
use lib.Count.{ones}
use Rattle.words.specs.Words.{lowest, minus, members}
use Rattle.words.proofs.Sets.{nonzero}
use Rattle.words.proofs.Lowest.{lowest_is, members_zero, members_step}
use Rattle.words.proofs.Count.{ones_remove}
use Rattle.turns.specs.Turns.{Response, Response.Out, Response.None, Player, Player.buyer, Player.planner, settled, serving, forces, response, responses}
use Rattle.playing.specs.Promises.{Settles}
use Rattle.playing.specs.declared.turn.Turn.{Turn}
use Rattle.turns.proofs.Turning.{forces_end, forces_buyer, forces_planner, response_none, response_some, responses_none, responses_some}

-- none is left
module _ (won : ℕ → Bool) (t : Turn) (none : t.left ≡ 0) where
  no_members : members t.left ≡ []
  no_members = ap members none ∙ members_zero

  pub ended : (who : Player) (r : Bool) → r ≡ won t.fitted → r ≡ forces won who (members t.left) t.fitted
  ended who r e = e ∙ sym (ap (λ vs. forces won who vs t.fitted) no_members ∙ forces_end won who t.fitted)

  pub no_response : None ≡ response won (members t.left) t.fitted
  no_response = sym (ap (λ vs. response won vs t.fitted) no_members ∙ response_none won t.fitted)

  pub no_responses : record { out = None; fitted = None } ≡ responses won (members t.left) t.fitted
  no_responses = sym (ap (λ vs. responses won vs t.fitted) no_members ∙ responses_none won t.fitted)

-- the options that are left after the next one
abbrev pub after : Turn → ℕ
after t = minus t.left (lowest t.left)

-- there is one more: the lowest, and the rest
module _ (t : Turn) (some : t.left ≡ 0 → ⊥) where
  step : members t.left ≡ lowest t.left ∷ members (after t)
  step = members_step t.left (nonzero t.left some)

  pub fewer : (b : Bool) (r : Turn) → Settles b t r → ones r.left < ones t.left
  fewer b r s =
      let l = lowest_is t.left (nonzero t.left some) in
      let e : r.left ≡ minus t.left (2 ^ l.0) = s.left ∙ ap (minus t.left) l.1 in
      omega (arith, ap ones e, ones_remove t.left l.0 l.2)

-- what the turn after it comes to
abbrev pub goes : (ℕ → Bool) → Turn → Player → Bool → Bool
goes won t who b = forces won who (members (after t)) (settled b (lowest t.left) t.fitted)

pub asked : (won : ℕ → Bool) (t : Turn) (b : Bool) (r : Turn) → Settles b t r → (who : Player) (p : Bool) → p ≡ forces won who (members r.left) r.fitted → p ≡ goes won t who b
asked won t b r s who p e = e ∙ ap₂ (λ w x. forces won who (members w) x) s.left s.now_fitted

module _ (won : ℕ → Bool) (t : Turn) (some : t.left ≡ 0 → ⊥) where
  -- on the buyer's turn
  module _ (p : Bool) (ep : p ≡ goes won t planner false) where
    buyers : forces won buyer (members t.left) t.fitted ≡ (p && goes won t planner true)
    buyers =
        ap (λ vs. forces won buyer vs t.fitted) (step t some) ∙ forces_buyer won (lowest t.left) (members (after t)) t.fitted
        ∙ ap (λ b. b && goes won t planner true) (sym ep)

    pub not_first : p ≡ false → p ≡ forces won buyer (members t.left) t.fitted
    not_first e = e ∙ sym (buyers ∙ ap (λ b. b && goes won t planner true) e)

    pub then_second : p ≡ true → (q : Bool) → q ≡ goes won t planner true → q ≡ forces won buyer (members t.left) t.fitted
    then_second e q eq = eq ∙ sym (buyers ∙ ap (λ b. b && goes won t planner true) e)

  -- on the planner's
  module _ (p : Bool) (ep : p ≡ goes won t buyer false) where
    planners : forces won planner (members t.left) t.fitted ≡ (p || goes won t buyer true)
    planners =
        ap (λ vs. forces won planner vs t.fitted) (step t some) ∙ forces_planner won (lowest t.left) (members (after t)) t.fitted
        ∙ ap (λ b. b || goes won t buyer true) (sym ep)

    pub first_serves : p ≡ true → p ≡ forces won planner (members t.left) t.fitted
    first_serves e = e ∙ sym (planners ∙ ap (λ b. b || goes won t buyer true) e)

    pub second_serves : p ≡ false → (q : Bool) → q ≡ goes won t buyer true → q ≡ forces won planner (members t.left) t.fitted
    second_serves e q eq = eq ∙ sym (planners ∙ ap (λ b. b || goes won t buyer true) e)

    -- his answer
    answer : response won (members t.left) t.fitted ≡ serving p (goes won t buyer true)
    answer =
        ap (λ vs. response won vs t.fitted) (step t some) ∙ response_some won (lowest t.left) (members (after t)) t.fitted
        ∙ ap (λ b. serving b (goes won t buyer true)) (sym ep)

    pub answers_out : p ≡ true → Out ≡ response won (members t.left) t.fitted
    answers_out e = sym (answer ∙ ap (λ b. serving b (goes won t buyer true)) e)

    pub answers_then : p ≡ false → (q : Bool) → q ≡ goes won t buyer true → serving false q ≡ response won (members t.left) t.fitted
    answers_then e q eq = sym (answer ∙ ap₂ serving e (sym eq))

  -- his two answers
  pub both_responses :
      (o f : Turn) → Settles false t o → Settles true t f → (a b : Response) → a ≡ response won (members o.left) o.fitted →
      b ≡ response won (members f.left) f.fitted → record { out = a; fitted = b } ≡ responses won (members t.left) t.fitted
  both_responses o f out fit a b ea eb =
      ap₂ (λ p q. record { out = p; fitted = q }) (ea ∙ ap₂ (λ w x. response won (members w) x) out.left out.now_fitted)
      (eb ∙ ap₂ (λ w x. response won (members w) x) fit.left fit.now_fitted)
      ∙ sym (ap (λ vs. responses won vs t.fitted) (step t some) ∙ responses_some won (lowest t.left) (members (after t)) t.fitted)
