-- A search only ever adds: it makes no fewer branchings than it was handed, and the table it was handed begins the one it leaves. Another list of
-- D-sequents, one branching counted and one clause put at the end each keep that, so the search does.
use mathlib.Core.Path.{◌≡◌, refl, sym, ◌∙◌}
use mathlib.Core.Bool.{Bool}
use mathlib.Core.List.{List, [], ◌∷◌, ◌++◌, append-nil, append_assoc}
use Prim.Native.Nat.{ℕ, ◌≤◌}
use native.Mathlib.Omega.{arith}
use lib.ListN.{length, length-append}
use Rattle.steps.specs.Clause.{Clause, Assignment}
use Rattle.steps.specs.State.{Env, State, Side, Side.up, Side.ended, Search, added, counted}
use Rattle.steps.specs.Merge.{settle}
use Rattle.steps.specs.Search.{after_second, after_first, search}
use Rattle.steps.proofs.Listed.{Listed, listed_refl}
use Rattle.steps.proofs.Keeps.{Leaves, Keeping, keeps_settle, keeps_after_second, keeps_after_first, keeps_search}
pub use Rattle.steps.proofs.Listed.{turned, listed_sweep, listed_enter}

-- the state in which a side leaves off
abbrev pub at : Side → State
at (up s) = s
at (ended x d s) = s

-- at least as many branchings, and the table with some clauses more at its end
pub record Grows (s t : State) : Type 0 where
  pub branchings : s.branchings ≤ t.branchings
  pub more : List Clause
  pub table : t.table ≡ s.table ++ more

-- another list
grows_listed : {s t : State} → Listed s t → Grows s t
grows_listed {s} h = record { branchings = omega arith; more = []; table = h.table ∙ sym (append-nil s.table) }

-- the state itself
pub grows_refl : (s : State) → Grows s s
grows_refl s = grows_listed (listed_refl s)

-- one growth after another
pub grows_trans : {s t u : State} → Grows s t → Grows t u → Grows s u
grows_trans {s} g h =
    record { branchings = omega arith; more = g.more ++ h.more; table = rw (h.table, g.table) (append_assoc s.table g.more h.more) }

-- so the table is no shorter
pub longer : {s t : State} → Grows s t → length s.table ≤ length t.table
longer {s} g = rw (g.table, length-append s.table g.more) (omega arith)

-- one clause more
pub grows_added : (c : Clause) (s : State) → Grows s (added c s)
grows_added c s = record { branchings = omega arith; more = c ∷ []; table = refl }

-- one branching more
pub grows_counted : (s : State) → Grows s (counted s)
grows_counted s = record { branchings = omega arith; more = []; table = sym (append-nil s.table) }

-- ---- the search

-- a side that has grown from s
abbrev Grown : State → Side → Type 0
Grown s = Leaves (Grows s) (λ x. Grows s)

-- it is so by the state in which it leaves off
grown : {s : State} (x : Side) → Grows s (at x) → Grown s x
grown (up t) g = g
grown (ended x d t) g = g

-- and only so
grown_at : {s : State} (x : Side) → Grown s x → Grows s (at x)
grown_at (up t) g = g
grown_at (ended x d t) g = g

-- every change adds
growing : (e : Env) (s : State) → Keeping e (Grows s) (λ x. Grows s)
growing e s =
    record {
      merging =
          record {
            listed = λ l g. grows_trans g (grows_listed l);
            relisted = λ l g. grows_trans g (grows_listed l);
            none_added = λ g. g;
            clause_added = λ c t new z l g. grows_trans g (grows_added c t);
            empty_added = λ c t new z l g. grows_trans g (grows_added c t);
            empty_found = λ t g. g;
            full = λ t l g. g;
          };
      branching = λ t l g. grows_trans g (grows_counted t);
      spent = λ t l g. g;
      satisfied = λ t g. g;
    }

-- a falsifying clause
pub grows_settle : (e : Env) (a : Assignment) (c : Clause) (s : State) → Grows s (at (settle e a c s))
grows_settle e a c s = grown_at (settle e a c s) (keeps_settle (growing e s).merging a c s (grows_refl s))

-- step 7, from what the second side left
pub grows_after_second : (e : Env) (a : Assignment) (v : ℕ) (b : Bool) (r : ℕ) (x : Side) → Grows (at x) (at (after_second e a v b r x))
grows_after_second e a v b r x = grown_at (after_second e a v b r x) (keeps_after_second (growing e (at x)) a v b r x (grown x (grows_refl (at x))))

-- the search one level down only adds
abbrev pub GrowsAll : Search → Type 0
GrowsAll self = (a : Assignment) (v : ℕ) (s : State) → Grows s (at (self a v s))

-- steps 6 and 7, from what the first side left
pub grows_after_first : (e : Env) (self : Search) → GrowsAll self → (a : Assignment) (v : ℕ) (b : Bool) (x : Side) → Grows (at x) (at (after_first e self a v b x))
grows_after_first e self h a v b x =
    grown_at (after_first e self a v b x)
    (keeps_after_first (growing e (at x)) self (λ a v s g. grown (self a v s) (grows_trans g (h a v s))) a v b x (grown x (grows_refl (at x))))

-- a search leaves no less of either than it was handed
pub grows_search : (e : Env) (k : ℕ) → GrowsAll (search e k)
grows_search e k a v s = grown_at (search e k a v s) (keeps_search (growing e s) k a v s (grows_refl s))
