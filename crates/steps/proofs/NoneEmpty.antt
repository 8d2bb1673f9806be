-- A search that goes back up leaves a table without the empty clause: step 1 ends the run where the table has it, and step 7 where it would add it. So
-- below the starting point step 1 finds nothing.
use mathlib.Core.Path.{◌≡◌, refl, ap, ◌∙◌}
use mathlib.Core.Bool.{Bool, true, false}
use mathlib.Core.List.{List, [], ◌∷◌, ◌++◌}
use Prim.Native.Nat.{ℕ, zero, suc}
use Rattle.words.proofs.Truth.{or_neither}
use Rattle.steps.specs.Lists.{any}
use Rattle.steps.specs.Clause.{Clause, Assignment}
use Rattle.steps.specs.State.{Env, State, Side}
use Rattle.steps.specs.Search.{is_empty, step, search}
use Rattle.steps.proofs.Keeps.{Leaves, Keeping, keeps_search}

-- no clause of the table is empty
abbrev pub NoneEmpty : State → Type 0
NoneEmpty s = any is_empty s.table ≡ false

-- a side that goes back up does so without an empty clause
abbrev pub Stays : Side → Type 0
Stays = Leaves NoneEmpty (λ x s. Unit {0})

-- one more clause that is not empty
one_more : (t : List Clause) (c : Clause) → any is_empty t ≡ false → is_empty c ≡ false → any is_empty (t ++ (c ∷ [])) ≡ false
one_more [] c f g = rw g refl
one_more (d ∷ ds) c f g = let h = or_neither (is_empty d) (any is_empty ds) f in rw h.0 (one_more ds c h.1 g)

-- no change brings one in
staying : (e : Env) → Keeping e NoneEmpty (λ x s. Unit {0})
staying e =
    record {
      merging =
          record {
            listed = λ l f. ap (any is_empty) l.table ∙ f;
            relisted = λ l f. ap (any is_empty) l.table ∙ f;
            none_added = λ f. f;
            clause_added = λ c s new z l f. one_more s.table c f z;
            empty_added = λ c s new z l f. tt;
            empty_found = λ s f. tt;
            full = λ s l f. tt;
          };
      branching = λ s l f. f;
      spent = λ s l f. tt;
      satisfied = λ s f. tt;
    }

-- from a table without one
pub stays_search : (e : Env) (k : ℕ) (a : Assignment) (v : ℕ) (s : State) → NoneEmpty s → Stays (search e k a v s)
stays_search e = keeps_search (staying e)

-- and from any table
pub stays : (e : Env) (k : ℕ) (a : Assignment) (v : ℕ) (s : State) → Stays (search e k a v s)
unfolding search step
stays e k a v s = go (any is_empty s.table) refl k
  where
    go : (z : Bool) → any is_empty s.table ≡ z → (k : ℕ) → Stays (search e k a v s)
    go false f k = stays_search e k a v s f
    go true f zero = rw (f, step) tt
    go true f (suc k) = rw (f, step) tt
