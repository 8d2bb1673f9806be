-- What each change of state keeps, the search keeps. The steps change the state in three ways only: another list of D-sequents, one branching counted
-- while the allowance is not spent, one clause added while there is room. So where P is kept by these, and gives Q at each kind of end, a search from a
-- state with P goes back up with P or ends with Q: one walk over the steps, and one induction over the depth.
use mathlib.Core.Path.{◌≡◌, refl}
use mathlib.Core.Bool.{Bool, true, false, not}
use mathlib.Core.Option.{Option, some, none}
use Prim.Native.Nat.{ℕ, zero, suc, ◌≤◌, ◌<◌}
use borrow.Author.Tests.{ltb-true, ltb-false}
use lib.Dec.{ltb}
use lib.ListN.{length}
use Rattle.steps.specs.Lists.{any}
use Rattle.steps.specs.Clause.{Clause, Assignment, decide, last, without}
use Rattle.steps.specs.State.{Env, State, Ending, Ending.can, Ending.cannot, Ending.out_of_branchings, Ending.out_of_clauses, Side, Side.up, Side.ended, Search, recorded, added, counted}
use Rattle.steps.specs.Sweep.{monotone}
use Rattle.steps.specs.Enter.{Turn, Turn.back, Turn.satisfiable, Turn.branch, falsified_naming, enter}
use Rattle.steps.specs.Merge.{cover, resolvent, settle, learn, resolve, merge_on, join, merge}
use Rattle.steps.specs.Search.{is_empty, after_second, after_first, proceed, step, search}
use Rattle.steps.proofs.Listed.{turned, taken, Listed, listed, listed_enter, listed_join}

-- P where a side goes back up, Q where it ends the run
abbrev pub Leaves : (State → Type 0) → (Ending → State → Type 0) → Side → Type 0
Leaves P Q (up s) = P s
Leaves P Q (ended x d s) = Q x s

-- ---- step 7

-- what step 7 does: P becomes R, by a clause added or as it is, or Q
pub record Merging (e : Env) (P R : State → Type 0) (Q : Ending → State → Type 0) : Type 0 where
  pub listed : {s t : State} → Listed s t → P s → P t
  pub relisted : {s t : State} → Listed s t → R s → R t
  pub none_added : {s : State} → P s → R s
  pub clause_added : (c : Clause) (s : State) → cover c s.table ≡ none → is_empty c ≡ false → length s.table < e.capacity → P s → R (added c s)
  pub empty_added : (c : Clause) (s : State) → cover c s.table ≡ none → is_empty c ≡ true → length s.table < e.capacity → P s → Q cannot (added c s)
  pub empty_found : (s : State) → P s → Q cannot s
  pub full : (s : State) → e.capacity ≤ length s.table → P s → Q out_of_clauses s

module _ {e : Env} {P R : State → Type 0} {Q : Ending → State → Type 0} (m : Merging e P R Q) where
  -- a clause of the table
  pub keeps_settle : (a : Assignment) (c : Clause) (s : State) → P s → Leaves R Q (settle e a c s)
  keeps_settle a c s p = taken (Leaves R Q) (is_empty c) _ _ (λ _. m.empty_found s p) (λ _. m.none_added (m.listed (listed _ s) p))

  -- the resolvent, from the table or added to it
  keeps_learn : (a : Assignment) (s : State) (c : Clause) (d : Option Clause) → cover c s.table ≡ d → P s → Leaves R Q (learn e a s c d)
  keeps_learn a s c none new p =
      taken
      (Leaves R Q)
      (ltb (length s.table) e.capacity)
      _
      _
      (λ l.
      let room = ltb-true _ _ l in
      taken (Leaves R Q) (is_empty c) _ _ (λ z. m.empty_added c s new z room p) (λ z. m.relisted (listed _ (added c s)) (m.clause_added c s new z room p)))
      (λ l. m.full s (ltb-false _ _ l) p)
  keeps_learn a s c (some d) found p = keeps_settle a _ _ p

  -- where both its parents are there
  keeps_resolve : (a : Assignment) (v : ℕ) (s : State) (c d : Option Clause) → P s → Leaves R Q (resolve e a v s c d)
  keeps_resolve a v s none d p = m.none_added p
  keeps_resolve a v s (some c) none p = m.none_added p
  keeps_resolve a v s (some c) (some d) p = keeps_learn a s (resolvent v c d) _ refl p

  -- after the join
  keeps_merge_on : (a : Assignment) (v : ℕ) (b : Bool) (s : State) (o : Option ℕ) → P s → Leaves R Q (merge_on e a v b s o)
  keeps_merge_on a v b s none p = keeps_resolve a v s (falsified_naming v (decide a v b) s.table) (falsified_naming v (decide a v (not b)) s.table) p
  keeps_merge_on a v b s (some r) p = m.none_added (m.listed (listed _ s) p)

  -- as a whole
  pub keeps_merge : (a : Assignment) (v : ℕ) (b : Bool) (r : ℕ) (s : State) → P s → Leaves R Q (merge e a v b r s)
  unfolding merge
  keeps_merge a v b r s p = keeps_merge_on a v b (join e a v r s) (monotone a (join e a v r s) v) (m.listed (listed_join e a v r s) p)

-- ---- the search

-- what a search does: step 7 keeps P, and so does a branching counted; or Q
pub record Keeping (e : Env) (P : State → Type 0) (Q : Ending → State → Type 0) : Type 0 where
  pub merging : Merging e P P Q
  pub branching : (s : State) → s.branchings < e.allowance → P s → P (counted s)
  pub spent : (s : State) → e.allowance ≤ s.branchings → P s → Q out_of_branchings s
  pub satisfied : (s : State) → P s → Q can s

module _ {e : Env} {P : State → Type 0} {Q : Ending → State → Type 0} (k : Keeping e P Q) where
  -- the search one level down keeps P
  abbrev KeepsAll : Search → Type 0
  KeepsAll self = (a : Assignment) (v : ℕ) (s : State) → P s → Leaves P Q (self a v s)

  -- step 7, from what the second side left
  pub keeps_after_second : (a : Assignment) (v : ℕ) (b : Bool) (r : ℕ) (x : Side) → Leaves P Q x → Leaves P Q (after_second e a v b r x)
  keeps_after_second a v b r (up s) p = keeps_merge k.merging a v b r s p
  keeps_after_second a v b r (ended x d s) p = p

  module _ (self : Search) (below : KeepsAll self) where
    -- steps 6 and 7, from what the first side left
    pub keeps_after_first : (a : Assignment) (v : ℕ) (b : Bool) (x : Side) → Leaves P Q x → Leaves P Q (after_first e self a v b x)
    keeps_after_first a v b (up s) p =
        let next = recorded (without v s.records) s in
        keeps_after_second a v b (last s.records).decisions.decided (self (decide a v (not b)) v next)
        (below (decide a v (not b)) v next (k.merging.listed (listed _ s) p))
    keeps_after_first a v b (ended x d s) p = p

    -- a turn, from the state that it hands on
    keeps_proceed : (a : Assignment) (t : Turn) → P (turned t) → Leaves P Q (proceed e self a t)
    keeps_proceed a (back s) p = p
    keeps_proceed a (satisfiable s) p = k.satisfied s p
    keeps_proceed a (branch v b s) p =
        taken
        (Leaves P Q)
        (ltb s.branchings e.allowance)
        _
        _
        (λ l. keeps_after_first a v b (self (decide a v b) 0 (counted s)) (below (decide a v b) 0 (counted s) (k.branching s (ltb-true _ _ l) p)))
        (λ l. k.spent s (ltb-false _ _ l) p)

    -- a point
    keeps_step : KeepsAll (step e self)
    unfolding step
    keeps_step a v s p =
        taken
        (Leaves P Q)
        (any is_empty s.table)
        _
        _
        (λ _. k.merging.empty_found s p)
        (λ _. keeps_proceed a (enter e a v s) (k.merging.listed (listed_enter e a v s) p))

  -- a search
  pub keeps_search : (depth : ℕ) → KeepsAll (search e depth)
  unfolding search
  keeps_search zero = keeps_step (λ a v s. up s) (λ a v s p. p)
  keeps_search (suc depth) = keeps_step (search e depth) (keeps_search depth)
