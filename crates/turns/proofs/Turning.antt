-- Laws of the turns: what `forces` computes is what "for every" and "there is" say, by induction on the options that are left; and the planner's answers are the choices
-- on his first turn that serve.
use mathlib.Core.Path.{◌≡◌, refl, sym, ap, ap₂, ◌∙◌}
use mathlib.Core.Bool.{Bool, true, false, ◌&&◌, ◌||◌, or-true}
use mathlib.Core.List.{List, [], ◌∷◌, Memᴰ}
use mathlib.Core.Logic.{◌↔◌, ⊎_elim}
use Prim.Native.Nat.{ℕ}
use Rattle.words.specs.Words.{first_vars, Within}
use Rattle.words.proofs.Truth.{both_ways, clash, and_left, and_right, and_both, or_either}
use Rattle.words.proofs.Sets.{or_within, within_lt}
use Rattle.steps.specs.Clause.{Clause}
use Rattle.steps.specs.Run.{Assumptions}
use Rattle.steps.specs.Meaning.{Builds, models, obeys}
use Rattle.turns.specs.Turns.{Response, Response.Out, Response.Fitted, Response.None, Player, Player.buyer, Player.planner, settled, wins, forces, serving, given, response, responses}
use Rattle.turns.specs.Demands.{Forces, RightResponse}

-- ---- the definition, step by step

pub forces_end : (won : ℕ → Bool) (who : Player) (x : ℕ) → forces won who [] x ≡ won x
unfolding forces
forces_end won buyer x = refl
forces_end won planner x = refl

pub forces_buyer :
    (won : ℕ → Bool) (v : ℕ) (vs : List ℕ) (x : ℕ) →
    forces won buyer (v ∷ vs) x ≡ (forces won planner vs (settled false v x) && forces won planner vs (settled true v x))
unfolding forces
forces_buyer won v vs x = refl

pub forces_planner :
    (won : ℕ → Bool) (v : ℕ) (vs : List ℕ) (x : ℕ) →
    forces won planner (v ∷ vs) x ≡ (forces won buyer vs (settled false v x) || forces won buyer vs (settled true v x))
unfolding forces
forces_planner won v vs x = refl

-- the choice keeps every wish and every rule
pub wins_iff : (cs : List Clause) (a : Assumptions) (x : ℕ) → (wins cs a x ≡ true) ↔ ((obeys x a ≡ true) × (models x cs ≡ true))
unfolding wins
wins_iff cs a x = (
  λ e. (and_left (obeys x a) (models x cs) e, and_right (obeys x a) (models x cs) e),
  λ h. and_both (obeys x a) (models x cs) h.0 h.1,
)

-- a choice among n options wins exactly if it builds
pub wins_builds : (n : ℕ) (cs : List Clause) (a : Assumptions) (x : ℕ) → Within x (first_vars n) → (wins cs a x ≡ true) ↔ Builds n cs a x
wins_builds n cs a x h = (
  λ e. let w = (wins_iff cs a x).0 e in record { choice = within_lt n x h; rules = w.1; order = w.0 },
  λ b. (wins_iff cs a x).1 (b.order, b.rules),
)

-- ---- for every and there is

-- what holds of both holds of each
each : (P : Bool → Type 0) → P false → P true → (b : Bool) → P b
each P f t true = t
each P f t false = f

pub settled_within : (b : Bool) (v x m : ℕ) → Within v m → Within x m → Within (settled b v x) m
settled_within true v x m hv hx = or_within x v m hx hv
settled_within false v x m hv hx = hx

module _ (n : ℕ) (cs : List Clause) (a : Assumptions) where
  -- all options that are left are among the n
  abbrev Among : List ℕ → Type 0
  Among vs = (v : ℕ) → Memᴰ v vs → Within v (first_vars n)

  pub turn_by_turn :
      (who : Player) (vs : List ℕ) (x : ℕ) → Among vs → Within x (first_vars n) → (forces (wins cs a) who vs x ≡ true) ↔ Forces (Builds n cs a) who vs x
  turn_by_turn buyer [] x m h = let e = forces_end (wins cs a) buyer x in let w = wins_builds n cs a x h in (λ f. w.0 (sym e ∙ f), λ b. e ∙ w.1 b)
  turn_by_turn planner [] x m h = let e = forces_end (wins cs a) planner x in let w = wins_builds n cs a x h in (λ f. w.0 (sym e ∙ f), λ b. e ∙ w.1 b)
  turn_by_turn buyer (v ∷ vs) x m h =
      let e = forces_buyer (wins cs a) v vs x in
      let won : Bool → Bool = λ b. forces (wins cs a) planner vs (settled b v x) in
      let next : (b : Bool) → (forces (wins cs a) planner vs (settled b v x) ≡ true) ↔ Forces (Builds n cs a) planner vs (settled b v x) =
      λ b. turn_by_turn planner vs (settled b v x) (λ u i. m u (Memᴰ.tail i)) (settled_within b v x (first_vars n) (m v (Memᴰ.head refl)) h)
      in (
        λ f. each _ ((next false).0 (and_left (won false) (won true) (sym e ∙ f))) ((next true).0 (and_right (won false) (won true) (sym e ∙ f))),
        λ g. e ∙ and_both (won false) (won true) ((next false).1 (g false)) ((next true).1 (g true)),
      )
  turn_by_turn planner (v ∷ vs) x m h =
      let e = forces_planner (wins cs a) v vs x in
      let won : Bool → Bool = λ b. forces (wins cs a) buyer vs (settled b v x) in
      let next : (b : Bool) → (forces (wins cs a) buyer vs (settled b v x) ≡ true) ↔ Forces (Builds n cs a) buyer vs (settled b v x) =
      λ b. turn_by_turn buyer vs (settled b v x) (λ u i. m u (Memᴰ.tail i)) (settled_within b v x (first_vars n) (m v (Memᴰ.head refl)) h)
      in (
        λ f. ⊎_elim (λ p. (false, (next false).0 p)) (λ p. (true, (next true).0 p)) (or_either (won false) (won true) (sym e ∙ f)),
        λ g. e ∙ one won g.0 ((next g.0).1 g.1),
      )
    where
      one : (won : Bool → Bool) (b : Bool) → won b ≡ true → (won false || won true) ≡ true
      one won true h = ap (λ (r : Bool). won false || r) h ∙ or-true (won false)
      one won false h = rw h

-- where it can be forced there is an end
pub some_end : (P : ℕ → Type 0) (who : Player) (vs : List ℕ) (x : ℕ) → Forces P who vs x → (y : ℕ) × P y
some_end P buyer [] x f = (x, f)
some_end P planner [] x f = (x, f)
some_end P buyer (v ∷ vs) x f = some_end P planner vs (settled false v x) (f false)
some_end P planner (v ∷ vs) x f = some_end P buyer vs (settled f.0 v x) f.1

-- ---- the planner's answers

pub response_none : (won : ℕ → Bool) (x : ℕ) → response won [] x ≡ None
unfolding response
response_none won x = refl

pub response_some :
    (won : ℕ → Bool) (v : ℕ) (vs : List ℕ) (x : ℕ) →
    response won (v ∷ vs) x ≡ serving (forces won buyer vs (settled false v x)) (forces won buyer vs (settled true v x))
unfolding response
response_some won v vs x = refl

pub responses_none : (won : ℕ → Bool) (x : ℕ) → responses won [] x ≡ record { out = None; fitted = None }
unfolding responses
responses_none won x = refl

pub responses_some :
    (won : ℕ → Bool) (v : ℕ) (vs : List ℕ) (x : ℕ) →
    responses won (v ∷ vs) x ≡ record { out = response won vs (settled false v x); fitted = response won vs (settled true v x) }
unfolding responses
responses_some won v vs x = refl

-- the answer that is preferred
pub right_serving : (Still : Bool → Type 0) (p q : Bool) → (p ≡ true) ↔ Still false → (q ≡ true) ↔ Still true → RightResponse Still (serving p q)
right_serving Still true q f t =
    record {
      out = (λ e. f.0 refl, λ s. refl);
      fitted = (λ e. clash cc, λ s. absurd (s.0 (f.0 refl)));
      none = (λ e. clash cc, λ s. absurd (s.0 (f.0 refl)));
    }
right_serving Still false true f t =
    let not_out : Still false → ⊥ = λ s. both_ways false (f.1 s) refl in
    record {
      out = (λ e. clash cc, λ s. absurd (not_out s));
      fitted = (λ e. (not_out, t.0 refl), λ s. refl);
      none = (λ e. clash cc, λ s. absurd (s.1 (t.0 refl)));
    }
right_serving Still false false f t =
    let not_out : Still false → ⊥ = λ s. both_ways false (f.1 s) refl in
    let not_fitted : Still true → ⊥ = λ s. both_ways false (t.1 s) refl in
    record {
      out = (λ e. clash cc, λ s. absurd (not_out s));
      fitted = (λ e. clash cc, λ s. absurd (not_fitted s.1));
      none = (λ e. (not_out, not_fitted), λ s. refl);
    }

given_serving : (p q : Bool) → given (serving p q) ≡ (p || q)
given_serving true q = refl
given_serving false true = refl
given_serving false false = refl

-- the planner can force it on his turn exactly if he has an answer
pub planner_answers : (won : ℕ → Bool) (v : ℕ) (vs : List ℕ) (x : ℕ) → forces won planner (v ∷ vs) x ≡ given (response won (v ∷ vs) x)
planner_answers won v vs x =
    forces_planner won v vs x
    ∙ sym (ap given (response_some won v vs x) ∙ given_serving (forces won buyer vs (settled false v x)) (forces won buyer vs (settled true v x)))

-- so with two options or more it is forced exactly if he has both answers
pub both_given :
    (won : ℕ → Bool) (v u : ℕ) (vs : List ℕ) (x : ℕ) →
    forces won buyer (v ∷ u ∷ vs) x ≡ (given (responses won (v ∷ u ∷ vs) x).out && given (responses won (v ∷ u ∷ vs) x).fitted)
both_given won v u vs x =
    forces_buyer won v (u ∷ vs) x
    ∙ ap₂ ◌&&◌ (planner_answers won u vs (settled false v x)) (planner_answers won u vs (settled true v x))
    ∙ sym (ap (λ r. given r.out && given r.fitted) (responses_some won v (u ∷ vs) x))

pub given_iff : (r : Response) → (given r ≡ true) ↔ (r ≡ None → ⊥)
given_iff Out = (λ e f. clash cc, λ f. refl)
given_iff Fitted = (λ e f. clash cc, λ f. refl)
given_iff None = (λ e. clash cc, λ f. absurd (f refl))

-- without a second option there is no answer
pub no_second : (won : ℕ → Bool) (v x : ℕ) → responses won (v ∷ []) x ≡ record { out = None; fitted = None }
no_second won v x = responses_some won v [] x ∙ ap₂ (λ p q. record { out = p; fitted = q }) (response_none won (settled false v x)) (response_none won (settled true v x))
