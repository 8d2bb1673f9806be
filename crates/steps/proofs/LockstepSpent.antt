-- A search that begins within its allowances never leaves them, and a stop has spent the one that it names. A branching is counted only where fewer
-- than the allowance were made, and a clause added only where the table has room, so both changes keep that; and a stop arises just where that test fails.
use mathlib.Core.Path.{◌≡◌}
use Prim.Native.Nat.{ℕ, ◌≤◌, ◌<◌}
use native.Mathlib.Omega.{arith}
use lib.ListN.{length, length-append}
use Rattle.steps.specs.Clause.{Clause, Assignment}
use Rattle.steps.specs.State.{Env, State, Ending, Ending.can, Ending.cannot, Ending.out_of_branchings, Ending.out_of_clauses, Side, added}
use Rattle.steps.specs.Search.{search}
use Rattle.steps.proofs.Listed.{Listed}
use Rattle.steps.proofs.Keeps.{Leaves, Keeping, keeps_search}

-- within the allowances
pub record Fits (e : Env) (s : State) : Type 0 where
  pub branchings : s.branchings ≤ e.allowance
  pub clauses : length s.table ≤ e.capacity

-- a stop has spent the allowance that it names
abbrev Spends : Env → Ending → State → Type 0
Spends e can s = Fits e s
Spends e cannot s = Fits e s
Spends e out_of_branchings s = Fits e s × (s.branchings ≡ e.allowance)
Spends e out_of_clauses s = Fits e s × (length s.table ≡ e.capacity)

-- a side leaves off within the allowances
abbrev pub Kept : Env → Side → Type 0
Kept e = Leaves (Fits e) (Spends e)

-- another list changes neither count
fits_listed : {e : Env} {s t : State} → Listed s t → Fits e s → Fits e t
fits_listed h f = record { branchings = omega arith; clauses = rw h.table f.clauses }

-- one clause more, where there is room
fits_added : (e : Env) (c : Clause) (s : State) → length s.table < e.capacity → Fits e s → Fits e (added c s)
fits_added e c s l f = record { branchings = f.branchings; clauses = simp length-append (omega arith) }

-- every change keeps within them
fitting : (e : Env) → Keeping e (Fits e) (Spends e)
fitting e =
    record {
      merging =
          record {
            listed = fits_listed;
            relisted = fits_listed;
            none_added = λ f. f;
            clause_added = λ c s new z. fits_added e c s;
            empty_added = λ c s new z. fits_added e c s;
            empty_found = λ s f. f;
            full = λ s l f. (f, omega arith);
          };
      branching = λ s l f. record { branchings = l; clauses = f.clauses };
      spent = λ s l f. (f, omega arith);
      satisfied = λ s f. f;
    }

-- a search stays within its allowances, and its stop has spent the one that it names
pub kept_search : (e : Env) (k : ℕ) (a : Assignment) (v : ℕ) (s : State) → Fits e s → Kept e (search e k a v s)
kept_search e = keeps_search (fitting e)
