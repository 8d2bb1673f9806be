-- 2^n - 1 branchings and as many places are enough for every run. At the start at most n variables are undecided, so a run makes fewer than 2^n
-- branchings and derives no more clauses than that. A stop would have spent its whole allowance, and yet leaves one of the bound to spare.
use mathlib.Core.Path.{refl}
use mathlib.Core.Logic.{inl, inr}
use mathlib.Core.List.{List}
use Prim.Native.Nat.{ℕ, ◌-◌, ◌≤◌, ◌^◌}
use native.Mathlib.Omega.{arith}
use lib.ListN.{length, length-drop}
use Rattle.steps.specs.Clause.{Clause, DSequent}
use Rattle.steps.specs.State.{State, Ending, Ending.can, Ending.cannot, Ending.out_of_branchings, Ending.out_of_clauses, Side, Side.up, Side.ended}
use Rattle.steps.specs.Run.{Assumptions, Outcome, given, no_decisions, start, everything, outcome, finish, searched, run}
use Rattle.steps.specs.Shape.{Input}
use Rattle.steps.specs.Demands.{Verdict, AlwaysEnough}
use Rattle.steps.proofs.ShapeStart.{shape_start}
use Rattle.steps.proofs.Nesting.{undecided_at_most_n}
use Rattle.steps.proofs.BoundSearch.{Added, Adds, adds_search}
use Rattle.steps.proofs.LockstepSpent.{Kept}
use Rattle.steps.proofs.Allowances.{allowances, searched_kept}

-- the bound on an outcome
abbrev Small : ℕ → Outcome → Type 0
Small n r = (r.branchings ≤ 2 ^ n - 1) × (length r.derived ≤ r.branchings)

-- a state within the bound gives such an outcome
small_outcome : (n : ℕ) (t : List Clause) (x : Ending) (rs : List DSequent) (s : State) → Added n (start t) s → Small n (outcome (length t) x rs s)
small_outcome n t x rs s h = (omega arith, omega (arith, length-drop (length t) s.table))

-- and so does a side
small_finish : (n : ℕ) (t : List Clause) (x : Side) → Adds n (start t) x → Small n (finish n (length t) x)
unfolding finish
small_finish n t (up s) h = small_outcome n t can s.records s h
small_finish n t (ended can d s) h = small_outcome n t can s.records s h
small_finish n t (ended cannot d s) h = small_outcome n t cannot (everything n) s h
small_finish n t (ended out_of_branchings d s) h = small_outcome n t out_of_branchings s.records s h.0
small_finish n t (ended out_of_clauses d s) h = small_outcome n t out_of_clauses s.records s h.0

-- with allowances as large as the bound there is no stop
verdict_finish :
    (n : ℕ) (t : List Clause) (allowance places : ℕ) → 2 ^ n - 1 ≤ allowance → 2 ^ n - 1 ≤ places → (x : Side) → Kept (allowances n (length t) allowance places) x →
    Adds n (start t) x → Verdict (finish n (length t) x).ending
unfolding finish
verdict_finish n t allowance places b p (up s) f h = inl refl
verdict_finish n t allowance places b p (ended can d s) f h = inl refl
verdict_finish n t allowance places b p (ended cannot d s) f h = inr refl
verdict_finish n t allowance places b p (ended out_of_branchings d s) f h = absurd (omega arith)
verdict_finish n t allowance places b p (ended out_of_clauses d s) f h = absurd (omega arith)

-- the search from the start
module _ (n : ℕ) (book : List Clause) (o : Assumptions) (i : Input n book o) (allowance places : ℕ) where
  -- it keeps the bound
  searched_adds : Adds n (start (given book o)) (searched n (given book o) allowance places)
  unfolding searched
  searched_adds =
      let e = allowances n (length (given book o)) allowance places in
      adds_search e n no_decisions 0 (start (given book o)) (shape_start n book o allowance e.capacity i) (undecided_at_most_n e no_decisions)

  -- so the outcome is within the bound
  run_small : Small n (run n book o allowance places)
  unfolding run
  run_small = small_finish n (given book o) (searched n (given book o) allowance places) searched_adds

  -- and with enough of both it is a verdict
  run_verdict : 2 ^ n - 1 ≤ allowance → 2 ^ n - 1 ≤ places → Verdict (run n book o allowance places).ending
  unfolding run
  run_verdict b p =
      verdict_finish n (given book o) allowance places b p (searched n (given book o) allowance places) (searched_kept n (given book o) allowance places) searched_adds

-- 2^n - 1 of both is always enough
pub always_enough : AlwaysEnough
always_enough n book o i =
    record {
      enough = run_verdict n book o i;
      branchings = λ allowance places. (run_small n book o i allowance places).0;
      clauses = λ allowance places. (run_small n book o i allowance places).1;
    }
