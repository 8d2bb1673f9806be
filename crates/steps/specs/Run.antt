-- A run of a book and a completed order, and its outcome.
use Rattle.std.specs.Prelude.{true, false, List, [], ◌∷◌, ◌++◌, map, ℕ, ◌+◌, length, drop}
use Rattle.words.specs.Words.{is_zero, first_vars, members}
use Rattle.steps.specs.Clause.{Clause, Assignment, DSequent}
use Rattle.steps.specs.State.{State, Ending, Ending.can, Ending.cannot, Ending.out_of_branchings, Ending.out_of_clauses, Side, Side.up, Side.ended}
use Rattle.steps.specs.Search.{search}

-- a completed order (crate `order`): `pos` are the wanted options, `neg` the unwanted ones
pub record Assumptions : Type 0 where
  pub pos : ℕ
  pub neg : ℕ

-- the outcome: how the run ended, how many branchings, the derived rules and the records, in order
pub record Outcome : Type 0 where
  pub ending : Ending
  pub branchings : ℕ
  pub derived : List Clause
  pub records : List DSequent

-- the order's clauses: one for each wanted variable, lowest first, then for each unwanted one
unfoldable pub units : Assumptions → List Clause
units o = map (λ w. record { pos = w; neg = 0 }) (members o.pos) ++ map (λ w. record { pos = 0; neg = w }) (members o.neg)

-- the table at the start
abbrev pub given : List Clause → Assumptions → List Clause
given book o = book ++ units o

abbrev pub no_decisions : Assignment
no_decisions = record { decided = 0; trues = 0 }

abbrev pub start : List Clause → State
start t = record { table = t; records = []; branchings = 0 }

-- step 1's list: no decisions, all variables; none where there is no variable
abbrev pub everything : ℕ → List DSequent
everything n = elim (is_zero n) [ true ↦ [] | false ↦ record { decisions = no_decisions; redundant = first_vars n } ∷ [] ]

-- the first m clauses of the table are book and order
abbrev pub outcome : ℕ → Ending → List DSequent → State → Outcome
outcome m x rs s = record { ending = x; branchings = s.branchings; derived = drop m s.table; records = rs }

-- back up from the starting point means "can"
unfoldable pub finish : ℕ → ℕ → Side → Outcome
finish n m (up s) = outcome m can s.records s
finish n m (ended can a s) = outcome m can s.records s
finish n m (ended cannot a s) = outcome m cannot (everything n) s
finish n m (ended out_of_branchings a s) = outcome m out_of_branchings s.records s
finish n m (ended out_of_clauses a s) = outcome m out_of_clauses s.records s

-- the search from the starting point over the table t
unfoldable pub searched : ℕ → List Clause → ℕ → ℕ → Side
searched n t allowance places = search (record { n = n; allowance = allowance; capacity = length t + places }) n no_decisions 0 (start t)

-- n variables, the book's clauses, the order, how many branchings are allowed, places for derived clauses
unfoldable pub run : ℕ → List Clause → Assumptions → ℕ → ℕ → Outcome
run n book o allowance places = finish n (length (given book o)) (searched n (given book o) allowance places)
