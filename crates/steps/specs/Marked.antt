-- The marked cases, the program's example among them, and further cases: contradictions, repeated rules, no options, and allowances too small. A case is
-- a run and, beside it, its outcome.
use Rattle.std.specs.Prelude.{◌≡◌, Bool, List, [], ◌∷◌, map, ℕ}
use Rattle.steps.specs.Clause.{Clause, DSequent}
use Rattle.steps.specs.State.{State, Ending, Ending.can, Ending.cannot, Ending.out_of_branchings, Ending.out_of_clauses}
use Rattle.steps.specs.Tally.{Tally}
use Rattle.steps.specs.Run.{Assumptions, Outcome, run}

-- the options that keep the rule when fitted, and those that keep it when left out
abbrev pub clause : ℕ → ℕ → Clause
clause p q = record { pos = p; neg = q }

-- the decided options, those of them fitted, and the struck ones
abbrev pub sequent : ℕ → ℕ → ℕ → DSequent
sequent r t k = record { decisions = record { decided = r; trues = t }; redundant = k }

-- the wanted options and the unwanted ones
abbrev pub order : ℕ → ℕ → Assumptions
order p q = record { pos = p; neg = q }

-- the undecided entries, the decisions that keep it, and whether it names a struck option
abbrev pub tally : ℕ → ℕ → Bool → Tally
tally u k s = record { undecided = u; keepers = k; struck = s }

-- the ending, the branchings, the derived rules and the records
abbrev out : Ending → ℕ → List Clause → List DSequent → Outcome
out x b d r = record { ending = x; branchings = b; derived = d; records = r }

-- with the program's allowance and places
abbrev ample : ℕ → List Clause → Assumptions → Outcome
ample n book o = run n book o 1000000 2048

-- the table t with the options of the word k struck, without decisions
abbrev pub struck : List Clause → ℕ → State
struck t k = record { table = t; records = sequent 0 0 k ∷ []; branchings = 0 }

-- every run has the outcome beside it
abbrev pub Agree : List (Outcome × Outcome) → Type 0
Agree cases = map (λ c. c.0) cases ≡ map (λ c. c.1) cases

-- rules 1; not 1
abbrev pub C : List Clause
C = clause 1 0 ∷ clause 0 1 ∷ []

-- rules 1 or 2; 3 or not 2; 4 or not 3
abbrev pub N : List Clause
N = clause 3 0 ∷ clause 4 2 ∷ clause 8 4 ∷ []

-- rules 1; not 1; 2; not 2
abbrev pub P : List Clause
P = clause 1 0 ∷ clause 0 1 ∷ clause 2 0 ∷ clause 0 2 ∷ []

-- rules 1 or 2; 3 or not 1; not 2 or not 3
abbrev pub Q : List Clause
Q = clause 3 0 ∷ clause 4 1 ∷ clause 0 6 ∷ []

-- rules 1 or 2; 2 or not 1; 1 or not 2; not 1 or not 2: the program's example (docs/FORMAT.md), and the run by hand in docs/STEPS.md
abbrev pub W : List Clause
W = clause 3 0 ∷ clause 2 1 ∷ clause 1 2 ∷ clause 0 3 ∷ []

-- no options, one option, the joint set, Q with three orders, and W with enough of both allowances and with too few
unfoldable pub marked : List (Outcome × Outcome)
marked =
    (ample 0 [] (order 0 0), out can 0 [] []) ∷
    (ample 0 (clause 0 0 ∷ []) (order 0 0), out cannot 0 [] []) ∷
    (ample 1 (clause 1 0 ∷ []) (order 0 0), out can 0 [] (sequent 0 0 1 ∷ [])) ∷
    (ample 1 C (order 0 0), out cannot 1 (clause 0 0 ∷ []) (sequent 0 0 1 ∷ [])) ∷
    (ample 2 P (order 0 0), out cannot 2 (clause 0 0 ∷ []) (sequent 0 0 3 ∷ [])) ∷
    (ample 3 Q (order 0 0), out can 1 [] (sequent 1 0 4 ∷ sequent 1 0 6 ∷ [])) ∷
    (ample 3 Q (order 1 0), out can 1 [] (sequent 1 1 2 ∷ sequent 1 1 6 ∷ [])) ∷
    (ample 3 Q (order 6 0), out cannot 2 (clause 0 2 ∷ clause 0 0 ∷ []) (sequent 0 0 7 ∷ [])) ∷
    (ample 2 W (order 0 0), out cannot 3 (clause 1 0 ∷ clause 0 1 ∷ clause 0 0 ∷ []) (sequent 0 0 3 ∷ [])) ∷
    (run 2 W (order 0 0) 2 3, out out_of_branchings 2 (clause 1 0 ∷ []) []) ∷
    (run 2 W (order 0 0) 3 0, out out_of_clauses 2 [] []) ∷ []

-- 15 cases that another independent program answered, and then cases as `rust/port` gives them
unfoldable pub further : List (Outcome × Outcome)
further =
    (ample 0 (clause 0 0 ∷ clause 0 0 ∷ clause 0 0 ∷ clause 0 0 ∷ clause 0 0 ∷ []) (order 0 0), out cannot 0 [] []) ∷
    (ample 4 [] (order 0 0), out can 0 [] (sequent 0 0 1 ∷ sequent 0 0 3 ∷ sequent 0 0 7 ∷ sequent 0 0 15 ∷ [])) ∷
    (ample 3 (clause 0 0 ∷ []) (order 1 4), out cannot 0 [] (sequent 0 0 7 ∷ [])) ∷
    (ample 1 (clause 1 0 ∷ []) (order 0 1), out cannot 1 (clause 0 0 ∷ []) (sequent 0 0 1 ∷ [])) ∷
    (ample 2 (clause 2 0 ∷ clause 0 2 ∷ []) (order 2 0), out cannot 1 (clause 0 0 ∷ []) (sequent 0 0 3 ∷ [])) ∷ (
      ample 2 (clause 1 2 ∷ clause 1 2 ∷ clause 2 1 ∷ clause 1 0 ∷ clause 1 2 ∷ clause 0 3 ∷ clause 0 3 ∷ clause 0 1 ∷ []) (order 2 0),
      out cannot 2 (clause 0 0 ∷ []) (sequent 0 0 3 ∷ []),
    ) ∷
    (ample 3 (clause 0 1 ∷ clause 0 2 ∷ clause 2 0 ∷ clause 0 2 ∷ clause 0 1 ∷ []) (order 0 3), out cannot 1 (clause 0 0 ∷ []) (sequent 0 0 7 ∷ [])) ∷
    (ample 5 (clause 8 0 ∷ clause 1 0 ∷ clause 0 2 ∷ clause 2 0 ∷ []) (order 0 0), out cannot 1 (clause 0 0 ∷ []) (sequent 0 0 31 ∷ [])) ∷
    (ample 2 (clause 1 2 ∷ clause 0 3 ∷ clause 3 0 ∷ []) (order 0 0), out can 2 (clause 1 0 ∷ []) (sequent 1 1 2 ∷ [])) ∷
    (ample 3 (clause 6 0 ∷ clause 4 2 ∷ clause 2 4 ∷ []) (order 0 0), out can 2 (clause 2 0 ∷ []) (sequent 0 0 1 ∷ sequent 2 2 5 ∷ [])) ∷ (
      ample 5 (clause 16 8 ∷ clause 4 8 ∷ clause 1 2 ∷ clause 8 4 ∷ clause 6 0 ∷ []) (order 0 2),
      out can 2 [] (sequent 0 0 1 ∷ sequent 0 0 17 ∷ sequent 4 4 25 ∷ []),
    ) ∷ (
      ample 4 (clause 5 0 ∷ clause 2 9 ∷ clause 2 5 ∷ clause 8 3 ∷ clause 11 0 ∷ clause 4 0 ∷ clause 5 8 ∷ clause 11 0 ∷ clause 1 10 ∷ []) (order 0 0),
      out can 3 [] (sequent 7 4 8 ∷ []),
    ) ∷ (
      ample 3 (clause 6 1 ∷ clause 2 5 ∷ clause 1 6 ∷ clause 3 4 ∷ clause 0 7 ∷ clause 5 2 ∷ clause 7 0 ∷ []) (order 0 0),
      out can 6 (clause 3 0 ∷ clause 1 2 ∷ clause 1 0 ∷ clause 2 1 ∷ []) (sequent 3 3 4 ∷ []),
    ) ∷ (
      ample 3 (clause 3 4 ∷ clause 1 6 ∷ clause 7 0 ∷ clause 6 1 ∷ clause 2 5 ∷ clause 4 3 ∷ clause 5 2 ∷ clause 0 7 ∷ []) (order 0 0),
      out cannot 7 (clause 3 0 ∷ clause 1 2 ∷ clause 1 0 ∷ clause 2 1 ∷ clause 0 3 ∷ clause 0 1 ∷ clause 0 0 ∷ []) (sequent 0 0 7 ∷ []),
    ) ∷ (
      ample 4 (clause 1 4 ∷ clause 2 8 ∷ clause 0 3 ∷ clause 4 2 ∷ clause 2 1 ∷ clause 0 12 ∷ clause 12 0 ∷ clause 4 8 ∷ clause 0 3 ∷ clause 0 9 ∷ clause 2 1 ∷ clause 0 3 ∷ clause 6 0 ∷ []) (order 0 0),
      out cannot 6 (clause 4 0 ∷ clause 1 0 ∷ clause 0 1 ∷ clause 0 0 ∷ []) (sequent 0 0 15 ∷ []),
    ) ∷
    (run 1 C (order 0 0) 0 1, out out_of_branchings 0 [] []) ∷
    (run 1 C (order 0 0) 1 0, out out_of_clauses 1 [] []) ∷
    (run 1 C (order 0 0) 1 1, out cannot 1 (clause 0 0 ∷ []) (sequent 0 0 1 ∷ [])) ∷
    (run 2 W (order 0 0) 0 0, out out_of_branchings 0 [] []) ∷
    (run 2 W (order 0 0) 1 0, out out_of_branchings 1 [] []) ∷
    (run 2 W (order 0 0) 2 0, out out_of_clauses 2 [] []) ∷
    (run 2 W (order 0 0) 2 1, out out_of_branchings 2 (clause 1 0 ∷ []) []) ∷
    (run 2 W (order 0 0) 3 1, out out_of_clauses 3 (clause 1 0 ∷ []) []) ∷
    (run 2 W (order 0 0) 3 2, out out_of_clauses 3 (clause 1 0 ∷ clause 0 1 ∷ []) (sequent 0 0 2 ∷ [])) ∷
    (run 2 W (order 0 0) 3 3, out cannot 3 (clause 1 0 ∷ clause 0 1 ∷ clause 0 0 ∷ []) (sequent 0 0 3 ∷ [])) ∷
    (run 0 [] (order 0 0) 0 0, out can 0 [] []) ∷
    (run 0 (clause 0 0 ∷ clause 0 0 ∷ []) (order 0 0) 0 0, out cannot 0 [] []) ∷
    (ample 2 (clause 1 2 ∷ []) (order 2 1), out cannot 2 (clause 0 2 ∷ clause 0 0 ∷ []) (sequent 0 0 3 ∷ [])) ∷
    (run 2 (clause 0 3 ∷ clause 1 0 ∷ []) (order 2 0) 1000000 1, out out_of_clauses 2 (clause 0 1 ∷ []) (sequent 0 0 2 ∷ [])) ∷
    (run 3 (clause 1 6 ∷ clause 4 0 ∷ clause 0 1 ∷ clause 2 0 ∷ []) (order 0 0) 1000000 1, out out_of_clauses 3 (clause 1 4 ∷ []) (sequent 4 4 2 ∷ [])) ∷
    (run 3 (clause 0 6 ∷ clause 5 0 ∷ clause 2 0 ∷ []) (order 0 1) 4 1, out out_of_clauses 3 (clause 4 0 ∷ []) (sequent 2 2 1 ∷ [])) ∷
    (run 3 (clause 1 0 ∷ clause 0 6 ∷ clause 6 0 ∷ clause 0 1 ∷ []) (order 0 0) 3 0, out out_of_clauses 2 [] (sequent 0 0 4 ∷ sequent 0 0 6 ∷ [])) ∷
    (run 4 (clause 2 12 ∷ clause 13 2 ∷ clause 8 3 ∷ []) (order 0 0) 2 0, out can 2 [] (sequent 2 0 4 ∷ sequent 2 0 12 ∷ [])) ∷
    (run 3 (clause 2 5 ∷ clause 6 1 ∷ clause 1 2 ∷ []) (order 0 4) 2 1, out can 2 [] (sequent 1 0 2 ∷ [])) ∷
    (run 3 Q (order 0 0) 0 0, out out_of_branchings 0 [] []) ∷ []

-- rules 2; 3 or not 1 or not 2; not 3; 3; 1. With 2 fitted, 3 left out and 1 undecided again, "3 or not 2" is resolved, and rule "3" covers it
abbrev L : List Clause
L = clause 2 0 ∷ clause 4 3 ∷ clause 0 4 ∷ clause 4 0 ∷ clause 1 0 ∷ []

-- rules 1 or 2 or 3; not 1; 1; not 2; not 3; 2. Both "1" and "2" cover "1 or 2", which is resolved with 1 and 2 left out
abbrev M : List Clause
M = clause 7 0 ∷ clause 0 1 ∷ clause 1 0 ∷ clause 0 2 ∷ clause 0 4 ∷ clause 2 0 ∷ []

-- runs in which a resolved rule is covered, as `rust/port` gives them
unfoldable pub covered : List (Outcome × Outcome)
covered =
    -- it is left out, and one place is enough for the verdict
    (run 3 L (order 0 0) 3 1, out cannot 3 (clause 0 0 ∷ []) (sequent 0 0 7 ∷ [])) ∷
    -- with no place it is no stop either: stop 11 is that of the empty rule. The record has nothing of option 2, which "3 or not 2" names and "3" does not
    (run 3 L (order 0 0) 3 0, out out_of_clauses 3 [] (sequent 0 0 1 ∷ [])) ∷
    -- covered by the order's rule "3"
    (run 3 (clause 2 0 ∷ clause 4 3 ∷ clause 0 4 ∷ clause 1 0 ∷ []) (order 4 0) 3 1, out cannot 3 (clause 0 0 ∷ []) (sequent 0 0 7 ∷ [])) ∷
    -- of two rules that cover, the lowest-numbered has its decisions in the record
    (run 3 M (order 0 0) 3 0, out out_of_clauses 3 [] (sequent 1 0 4 ∷ [])) ∷
    -- "1 or not 4" is covered by the derived rule "1", with every place taken
    (
      run 4 (clause 8 0 ∷ clause 5 8 ∷ clause 1 4 ∷ clause 3 0 ∷ clause 1 2 ∷ clause 0 3 ∷ []) (order 0 0) 4 1,
      out can 4 (clause 1 0 ∷ []) (sequent 1 1 2 ∷ sequent 1 1 6 ∷ []),
    ) ∷ []
