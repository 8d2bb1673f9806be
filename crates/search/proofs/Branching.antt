-- A point of the search once what its parts come to is known: one law for each way on. `fuel` is how many variables are undecided; a branching leaves
-- one fewer, so the search below it is the definition's.
use mathlib.Core.Path.{◌≡◌, refl, ap, sym, ◌∙◌}
use mathlib.Core.Bool.{Bool, true, false, not}
use Prim.Native.Nat.{ℕ, zero, suc, ◌≤◌, ◌<◌}
use borrow.Author.Tests.{lt-ltb, le-ltb}
use lib.Dec.{ltb}
use Rattle.steps.specs.Lists.{any}
use Rattle.steps.specs.Clause.{Assignment, decide, last, without}
use Rattle.steps.specs.State.{Env, State, Ending, Ending.cannot, Ending.out_of_branchings, Side, Side.up, Side.ended, Search, recorded, counted}
use Rattle.steps.specs.Enter.{Turn, Turn.back, Turn.satisfiable, Turn.branch, enter}
use Rattle.steps.specs.Merge.{merge}
use Rattle.steps.specs.Search.{is_empty, after_first, after_second, proceed, step, search}
use Rattle.search.specs.Values.{halted}
use Rattle.words.proofs.Truth.{when_true}

-- every search is a point with some search below it
below : Env → ℕ → Search
below e zero = λ a v s. up s
below e (suc k) = search e k

search_is : (e : Env) (k : ℕ) (a : Assignment) (v : ℕ) (s : State) → search e k a v s ≡ step e (below e k) a v s
unfolding search below
search_is e zero a v s = refl
search_is e (suc k) a v s = refl

module _ (e : Env) (k : ℕ) (a : Assignment) (v : ℕ) (s : State) where
  -- step 1
  pub search_empty : any is_empty s.table ≡ true → ended cannot a s ≡ search e k a v s
  unfolding step
  search_empty z = sym (search_is e k a v s ∙ (rw (z, step) refl))

  -- what there is to do at the point
  search_turn : any is_empty s.table ≡ false → (x : Turn) → enter e a v s ≡ x → proceed e (below e k) a x ≡ search e k a v s
  unfolding step
  search_turn z x f = sym (search_is e k a v s ∙ (rw (z, step) (ap (proceed e (below e k) a) f)))

  -- steps 2 and 4
  pub search_halted : any is_empty s.table ≡ false → (x : Turn) → enter e a v s ≡ x → ((w : ℕ) (b : Bool) (t : State) → x ≡ branch w b t → ⊥) → halted a x ≡ search e k a v s
  search_halted z (back t) f never = search_turn z (back t) f
  search_halted z (satisfiable t) f never = search_turn z (satisfiable t) f
  search_halted z (branch w b t) f never = absurd (never w b t refl)

  module _ (w : ℕ) (b : Bool) (t : State) (z : any is_empty s.table ≡ false) (f : enter e a v s ≡ branch w b t) where
    -- stop 10
    pub search_spent : e.allowance ≤ t.branchings → ended out_of_branchings a t ≡ search e k a v s
    search_spent l = (let h = le-ltb t.branchings e.allowance l in rw (h, proceed) at (search_turn z (branch w b t) f))

    -- step 5: the first side, with one variable fewer undecided
    module _ (j : ℕ) (fewer : k ≡ suc j) (room : t.branchings < e.allowance) where
      search_first : (x : Side) → search e j (decide a w b) 0 (counted t) ≡ x → after_first e (search e j) a w b x ≡ search e k a v s
      unfolding below
      search_first x g =
          ap (after_first e (search e j) a w b) (sym g)
          ∙ sym (when_true (ltb t.branchings e.allowance) _ _ (lt-ltb t.branchings e.allowance room))
          ∙ ap (λ (i : ℕ). proceed e (below e i) a (branch w b t)) (sym fewer)
          ∙ search_turn z (branch w b t) f

      -- the first side ends the run
      pub first_ended : (y : Ending) (d : Assignment) (u : State) → search e j (decide a w b) 0 (counted t) ≡ ended y d u → ended y d u ≡ search e k a v s
      first_ended y d u g = search_first (ended y d u) g

      -- step 6: the second side
      module _ (u : State) (g : search e j (decide a w b) 0 (counted t) ≡ up u) where
        second : (x : Side) → search e j (decide a w (not b)) w (recorded (without w u.records) u) ≡ x →
            after_second e a w b (last u.records).decisions.decided x ≡ search e k a v s
        second x h = ap (after_second e a w b (last u.records).decisions.decided) (sym h) ∙ search_first (up u) g

        -- the second side ends the run
        pub second_ended :
            (y : Ending) (d : Assignment) (x : State) → search e j (decide a w (not b)) w (recorded (without w u.records) u) ≡ ended y d x →
            ended y d x ≡ search e k a v s
        second_ended y d x h = second (ended y d x) h

        -- step 7
        pub both_up :
            (x : State) → search e j (decide a w (not b)) w (recorded (without w u.records) u) ≡ up x →
            merge e a w b (last u.records).decisions.decided x ≡ search e k a v s
        both_up x h = second (up x) h
