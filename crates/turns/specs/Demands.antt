-- The demands on options that are settled in turn, each as a named type that is proved in `proofs/`. The record at the end has them all; docs/STEPS.md says how to read
-- the signs. `turns bytes o` is the definition, for book bytes and an order: forced or open, with the planner's two answers, or a refusal. Bytes and words are any
-- numbers. Option k + 1 stands at bit k. What it is that the planner can force it is said in `Meaning`, what book and order mean in crate `steps`, and what a check is in crate `contract`.
use Rattle.std.specs.Prelude.{◌≡◌, Bool, true, false, List, [], ◌∷◌, ◌++◌, ◌⊎◌, ◌↔◌, ℕ, suc, ◌^◌, ◌≤◌, ◌<◌, length}
use Rattle.std.specs.Int.Count.{ones}
use Rattle.words.specs.Demands.{LowestFirst}
use Rattle.steps.specs.Meaning.{Builds, obeys}
use Rattle.steps.specs.Marked.{clause}
use Rattle.order.specs.Order.{Order, complete, free}
use Rattle.order.specs.Demands.{order}
use Rattle.book.specs.Bytes.{vars_in, rules_in, encode}
use Rattle.book.specs.Conditions.{Condition, condition, First, NoRow, admit_conditions}
use Rattle.answer.specs.declared.Tally.{Tally}
use Rattle.answer.specs.Answer.{Answer.Cannot}
use Rattle.contract.specs.Check.{Lengths}
use Rattle.contract.specs.Demands.{answer}
use Rattle.turns.specs.Turns.{Response, Response.Out, Response.Fitted, Response.None, Responses, Turns.Forced, Turns.Open, Turns.Refused, Player, Player.buyer, Player.planner, settled, in_turn, turns}
use Rattle.turns.specs.Handed.{Places, Hands}
use Rattle.turns.specs.Meaning.{Free, Way, Play, CanForceFrom}

-- ---- the free options

-- the words of the options that are settled, the first one first
abbrev pub free_options : List ℕ → Order → List ℕ
free_options bytes o = in_turn (vars_in bytes) o

-- they are the free options, each once, in ascending number; and how many there are
pub record ListsFree (bytes : List ℕ) (o : Order) : Type 0 where
  pub listed : LowestFirst (Free (vars_in bytes) o) (free_options bytes o)
  pub number : length (free_options bytes o) ≡ ones (free (vars_in bytes) o)

abbrev pub FreeOptions : Type 0
FreeOptions = (bytes : List ℕ) (o : Order) → ListsFree bytes o

-- ---- refusals

-- the table of refusals in docs/FORMAT.md: 1 to 8 and 12 of book and order, then 16
abbrev pub turns_conditions : List ℕ → Order → List Condition
turns_conditions bytes o = admit_conditions bytes o ++ (condition 16 (12 < length (free_options bytes o)) ∷ [])

-- the answer is forced, or open, with these answers of the planner's
abbrev pub IsForced : List ℕ → Order → Type 0
IsForced bytes o = (r : Responses) × (turns bytes o ≡ Forced r)

abbrev pub IsOpen : List ℕ → Order → Type 0
IsOpen bytes o = (r : Responses) × (turns bytes o ≡ Open r)

-- refused by the first condition that holds; forced or open where none holds
pub record RefusedOrPlayed (bytes : List ℕ) (o : Order) : Type 0 where
  pub refused : (k : ℕ) → (turns bytes o ≡ Refused k) ↔ First (turns_conditions bytes o) k
  pub played : NoRow (turns_conditions bytes o) ↔ (IsForced bytes o ⊎ IsOpen bytes o)

abbrev pub Refusals : Type 0
Refusals = (bytes : List ℕ) (o : Order) → RefusedOrPlayed bytes o

-- demand 1: a refusal has its number
abbrev pub NamedRefusal : Type 0
NamedRefusal = (bytes : List ℕ) (o : Order) (k : ℕ) → turns bytes o ≡ Refused k → (((1 ≤ k) × (k ≤ 8)) ⊎ (k ≡ 12)) ⊎ (k ≡ 16)

-- ---- forced or open

-- from the start on: nothing is settled
abbrev pub CanForce : List ℕ → Order → Type 0
CanForce bytes o = CanForceFrom (vars_in bytes) (rules_in bytes) o 0 0

-- whatever way the planner answers and whatever the buyer says, one choice comes out
abbrev pub EveryPlay : Type 0
EveryPlay =
    (bytes : List ℕ) (o : Order) → NoRow (turns_conditions bytes o) → (way : Way) (says : ℕ → Bool) → (x : ℕ) × Play (vars_in bytes) o way says x

-- the answer is forced exactly if the planner can force it, and else open
pub record RightAnswer (bytes : List ℕ) (o : Order) : Type 0 where
  pub forced : IsForced bytes o ↔ CanForce bytes o
  pub otherwise : IsOpen bytes o ↔ (CanForce bytes o → ⊥)

abbrev pub Forcing : Type 0
Forcing = (bytes : List ℕ) (o : Order) → NoRow (turns_conditions bytes o) → RightAnswer bytes o

-- the same turn by turn: for every choice of the buyer's there is one of the planner's such that for every one ... an end of which P holds. vs are the options that are
-- left, the next one first, and x has what is fitted so far
abbrev pub Forces : (ℕ → Type 0) → Player → List ℕ → ℕ → Type 0
Forces P who [] x = P x
Forces P buyer (v ∷ vs) x = (fitted : Bool) → Forces P planner vs (settled fitted v x)
Forces P planner (v ∷ vs) x = (fitted : Bool) × Forces P buyer vs (settled fitted v x)

abbrev pub TurnByTurn : Type 0
TurnByTurn =
    (bytes : List ℕ) (o : Order) → NoRow (turns_conditions bytes o) →
    IsForced bytes o ↔ Forces (Builds (vars_in bytes) (rules_in bytes) (complete o)) buyer (free_options bytes o) (complete o).pos

-- with no free option one choice is left, what the completed order wants, and it decides
pub record OneChoice (bytes : List ℕ) (o : Order) : Type 0 where
  pub decides : IsForced bytes o ↔ Builds (vars_in bytes) (rules_in bytes) (complete o) (complete o).pos
  pub only : (x : ℕ) → x < 2 ^ vars_in bytes → obeys x (complete o) ≡ true → x ≡ (complete o).pos

abbrev pub NoneFree : Type 0
NoneFree = (bytes : List ℕ) (o : Order) → NoRow (turns_conditions bytes o) → free_options bytes o ≡ [] → OneChoice bytes o

-- where the planner can force it, no check of book and order says "cannot", whatever its allowance and its tables
abbrev pub NeverCannot : Type 0
NeverCannot = (bytes : List ℕ) (o : Order) → IsForced bytes o → (allowance : ℕ) (l : Lengths) (t : Tally) → answer bytes o allowance l ≡ Cannot t → ⊥

-- ---- the planner's answers

-- the answers that are handed out
abbrev pub AnswersAre : List ℕ → Order → Responses → Type 0
AnswersAre bytes o r = (turns bytes o ≡ Forced r) ⊎ (turns bytes o ≡ Open r)

-- the answer to the buyer's choice
abbrev pub answer_to : Bool → Responses → Response
answer_to false r = r.out
answer_to true r = r.fitted

-- r is an answer with which the planner can still force it, where `Still b` says that he can with b: left out if both serve, none if neither does
pub record RightResponse (Still : Bool → Type 0) (r : Response) : Type 0 where
  pub out : (r ≡ Out) ↔ Still false
  pub fitted : (r ≡ Fitted) ↔ ((Still false → ⊥) × Still true)
  pub none : (r ≡ None) ↔ ((Still false → ⊥) × (Still true → ⊥))

-- options j + 1 and k + 1 are the first two free ones. The buyer settled the one, and the planner the other: what is fitted then
abbrev pub after_two : Order → ℕ → Bool → ℕ → Bool → ℕ
after_two o j first k second = settled second (2 ^ k) (settled first (2 ^ j) (complete o).pos)

abbrev pub Responding : Type 0
Responding =
    (bytes : List ℕ) (o : Order) (r : Responses) → AnswersAre bytes o r → (j k : ℕ) (vs : List ℕ) → free_options bytes o ≡ 2 ^ j ∷ 2 ^ k ∷ vs → (first : Bool) →
    RightResponse (λ second. CanForceFrom (vars_in bytes) (rules_in bytes) o (suc k) (after_two o j first k second)) (answer_to first r)

-- without a second free option there is no answer
abbrev pub NoSecond : Type 0
NoSecond = (bytes : List ℕ) (o : Order) (r : Responses) → AnswersAre bytes o r → length (free_options bytes o) < 2 → r ≡ record { out = None; fitted = None }

-- with a second one the planner can force it exactly if he has both answers
abbrev pub BothAnswers : Type 0
BothAnswers =
    (bytes : List ℕ) (o : Order) (r : Responses) → AnswersAre bytes o r → 1 < length (free_options bytes o) →
    IsForced bytes o ↔ ((r.out ≡ None → ⊥) × (r.fitted ≡ None → ⊥))

-- ---- what is handed over

-- the number that stands for an answer
abbrev pub Stands : Response → ℕ → Type 0
Stands None k = k ≡ 0
Stands Out k = k ≡ 1
Stands Fitted k = k ≡ 2

-- the places hold whether it is forced, and these answers
pub record Hold (forced : ℕ) (a : Responses) (p : Places) : Type 0 where
  pub is_forced : p.forced ≡ forced
  pub out : Stands a.out p.out
  pub fitted : Stands a.fitted p.fitted

-- a caller takes it so: 0, and the places say forced (1) or open (0) and the two answers; or a number that is not 0, and the places are as they were
pub record Takes (bytes : List ℕ) (o : Order) (before : Places) (r : ℕ) (after : Places) : Type 0 where
  pub forced : (a : Responses) → turns bytes o ≡ Forced a → (r ≡ 0) × Hold 1 a after
  pub otherwise : (a : Responses) → turns bytes o ≡ Open a → (r ≡ 0) × Hold 0 a after
  pub refused : (k : ℕ) → turns bytes o ≡ Refused k → (r ≡ k) × (0 < r) × (after ≡ before)

-- so it is with what the exported function promises (`Hands`)
abbrev pub Taking : Type 0
Taking = (bytes : List ℕ) (o : Order) (before : Places) (r : ℕ) (after : Places) → Hands bytes o before r after → Takes bytes o before r after

-- ---- examples

abbrev pub answers : Response → Response → Responses
answers p q = record { out = p; fitted = q }

-- no wishes and no standard options
abbrev pub no_wishes : Order
no_wishes = order 0 0 0

-- options 1 and 2, and the rules "1 or not 2" and "2 or not 1": both or neither
abbrev pub alike : List ℕ
alike = encode 2 (clause 1 2 ∷ clause 2 1 ∷ [])

pub record Examples : Type 0 where
  -- the planner says what the buyer says
  pub the_same : turns alike no_wishes ≡ Forced (answers Out Fitted)
  -- a rule of option 1 alone: it is the buyer's to keep. A rule of option 2 alone is the planner's
  pub the_buyers : turns (encode 2 (clause 1 0 ∷ [])) no_wishes ≡ Open (answers None Out)
  pub the_planners : turns (encode 2 (clause 2 0 ∷ [])) no_wishes ≡ Forced (answers Fitted Fitted)
  -- the buyer keeps "not 1", and the planner "2"; or both keep "1" and "2"
  pub not_the_buyers : turns (encode 2 (clause 0 1 ∷ [])) no_wishes ≡ Open (answers Out None)
  pub one_of_both : turns (encode 2 (clause 0 1 ∷ clause 2 0 ∷ [])) no_wishes ≡ Open (answers Fitted None)
  pub of_both : turns (encode 2 (clause 1 0 ∷ clause 2 0 ∷ [])) no_wishes ≡ Open (answers None Fitted)
  -- both answers serve
  pub either : turns (encode 2 []) no_wishes ≡ Forced (answers Out Out)
  -- option 1 is wanted, so option 2 is the buyer's and option 3 the planner's: "2 or 3"
  pub wanted : turns (encode 3 (clause 6 0 ∷ [])) (order 1 0 0) ≡ Forced (answers Fitted Out)
  -- option 1 is standard, and unwanted: it is not free, and left out
  pub standard : turns (encode 3 (clause 6 0 ∷ [])) (order 0 1 1) ≡ Forced (answers Fitted Out)
  pub left_out : turns (encode 3 (clause 1 0 ∷ [])) (order 0 1 1) ≡ Open (answers None None)
  -- of three options the buyer settles the last: "3 or not 2"
  pub three : turns (encode 3 (clause 4 2 ∷ [])) no_wishes ≡ Forced (answers Out Out)
  pub three_open : turns (encode 3 (clause 6 0 ∷ clause 0 4 ∷ [])) no_wishes ≡ Open (answers None None)
  -- one free option, which is the buyer's, and none
  pub one : turns (encode 1 []) no_wishes ≡ Forced (answers None None)
  pub one_open : turns (encode 1 (clause 1 0 ∷ [])) no_wishes ≡ Open (answers None None)
  pub kept : turns alike (order 3 0 0) ≡ Forced (answers None None)
  pub broken : turns alike (order 1 2 0) ≡ Open (answers None None)
  -- 12 free options, 13, and 12 before 16
  pub twelve : turns (encode 12 []) no_wishes ≡ Forced (answers Out Out)
  pub thirteen : turns (encode 13 []) no_wishes ≡ Refused 16
  pub twelve_first : turns (encode 13 []) (order 0 0 (2 ^ 13)) ≡ Refused 12

-- ---- all of them

-- every demand, proved in `proofs/Demands.antt`
pub record Demands : Type 0 where
  pub free_options : FreeOptions
  pub refusals : Refusals
  pub named_refusal : NamedRefusal
  pub every_play : EveryPlay
  pub forcing : Forcing
  pub turn_by_turn : TurnByTurn
  pub none_free : NoneFree
  pub never_cannot : NeverCannot
  pub responding : Responding
  pub no_second : NoSecond
  pub both_answers : BothAnswers
  pub taking : Taking
  pub examples : Examples
