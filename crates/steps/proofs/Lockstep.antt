-- One search, and the same search with no allowance smaller, go in lockstep: the second does exactly the same, or it goes on from where the first
-- stopped, past the allowance that stopped it. The two look at their allowances only where a branching is counted and where a clause is added. There
-- they part only if the first stops and the second does not; and whatever the second does then only adds to what it has.
use mathlib.Core.Path.{◌≡◌, refl, ap, sym, ◌∙◌}
use mathlib.Core.Bool.{Bool, true, false, not}
use mathlib.Core.Option.{Option, some, none}
use Prim.Native.Nat.{ℕ, zero, suc, ◌≤◌, ◌<◌}
use native.Mathlib.Omega.{arith}
use borrow.Author.Tests.{ltb-true, ltb-false}
use lib.Dec.{ltb}
use lib.ListN.{length, length-append}
use Rattle.words.specs.Words.{is_zero, members}
use Rattle.steps.specs.Lists.{find, any}
use Rattle.steps.specs.Clause.{Clause, Assignment, decide, last, without}
use Rattle.steps.specs.State.{Env, State, Ending.out_of_branchings, Ending.out_of_clauses, Side, Side.up, Side.ended, Search, undecided, live, redundant, recorded, added, counted}
use Rattle.steps.specs.Sweep.{Found, Found.nothing, Found.variable, first_monotone, monotone, strike, sweep_on, sweep}
use Rattle.steps.specs.Enter.{Turn, Turn.back, Turn.satisfiable, Turn.branch, unit, choose, swept, falsified_naming, conflict, enter}
use Rattle.steps.specs.Merge.{cover, resolvent, settle, learn, resolve, merge_on, join, merge}
use Rattle.steps.specs.Search.{after_second, after_first, proceed, is_empty, step, search}
use Rattle.steps.proofs.LockstepGrows.{at, Grows, grows_refl, grows_trans, longer, grows_settle, grows_added, grows_counted, GrowsAll, grows_after_second, grows_after_first, grows_search}

-- e with other allowances
abbrev allowing : ℕ → ℕ → Env → Env
allowing b p e = record { n = e.n; allowance = b; capacity = p }

-- ---- what does not look at the allowances

-- what holds of the first cases and of the second cases of two choices with one test holds of the two choices
abreast :
    {A : Type 0} (P : A → A → Type 0) (b : Bool) (x y x' y' : A) → P x x' → P y y' →
    P (elim b [ true ↦ x | false ↦ y ]) (elim b [ true ↦ x' | false ↦ y' ])
abreast P true x y x' y' p q = p
abreast P false x y x' y' p q = q

module _ (e : Env) (b p : ℕ) where
  -- one turn of the sweep, from the same about the turns after it
  sweep_on_agrees :
      (a : Assignment) (f g : State → State) → ((s : State) → f s ≡ g s) → (s : State) (x : Found) → sweep_on a f s x ≡ sweep_on a g s x
  sweep_on_agrees a f g h s nothing = refl
  sweep_on_agrees a f g h s (variable w r) = h (strike a w r s)

  -- the sweep
  sweep_agrees : (a : Assignment) (k : ℕ) (s : State) → sweep e a k s ≡ sweep (allowing b p e) a k s
  unfolding sweep live undecided
  sweep_agrees a zero s = refl
  sweep_agrees a (suc k) s =
      sweep_on_agrees
      a
      (sweep e a k)
      (sweep (allowing b p e) a k)
      (sweep_agrees a k)
      s
      (first_monotone a s (members (live e a s)))

  -- the choice of step 5
  choose_agrees : (a : Assignment) (s : State) (c : Option Clause) → choose e a s c ≡ choose (allowing b p e) a s c
  unfolding live undecided
  choose_agrees a s none = refl
  choose_agrees a s (some c) = refl

  -- steps 4 and 5
  swept_agrees : (a : Assignment) (s : State) → swept e a s ≡ swept (allowing b p e) a s
  unfolding swept live undecided
  swept_agrees a s = abreast (λ t u. t ≡ u) (is_zero (live e a s)) _ _ _ _ refl (choose_agrees a s (find (unit a (redundant s)) s.table))

  -- steps 2 to 5, by whether step 2 finds a clause
  conflict_agrees : (a : Assignment) (s : State) (c : Option Clause) → conflict e a s c ≡ conflict (allowing b p e) a s c
  unfolding live undecided
  conflict_agrees a s none = ap (swept e a) (sweep_agrees a e.n s) ∙ swept_agrees a (sweep (allowing b p e) a e.n s)
  conflict_agrees a s (some c) = refl

  -- steps 2 to 5
  enter_agrees : (a : Assignment) (v : ℕ) (s : State) → enter e a v s ≡ enter (allowing b p e) a v s
  unfolding enter
  enter_agrees a v s = conflict_agrees a s (falsified_naming v a s.table)

-- ---- lockstep

-- of two sides the second is the first, or the first is a stop and the second has gone past the allowance that it names
pub data Lockstep (e : Env) : Side → Side → Type 0 where
  alike : {x : Side} → Lockstep e x x
  branchings : {d : Assignment} {t : State} {y : Side} → e.allowance < (at y).branchings → Grows t (at y) → Lockstep e (ended out_of_branchings d t) y
  clauses : {d : Assignment} {t : State} {y : Side} → e.capacity < length (at y).table → Grows t (at y) → Lockstep e (ended out_of_clauses d t) y

-- a stop in the state t, and a state u that is past it: the second search goes on from u
past_branchings :
    {e : Env} {d : Assignment} {t u : State} (y : Side) → e.allowance < u.branchings → Grows t u → Grows u (at y) →
    Lockstep e (ended out_of_branchings d t) y
past_branchings y h g k = branchings {y = y} (omega arith) (grows_trans g k)

-- the same for the table
past_clauses :
    {e : Env} {d : Assignment} {t u : State} (y : Side) → e.capacity < length u.table → Grows t u → Grows u (at y) →
    Lockstep e (ended out_of_clauses d t) y
past_clauses y h g k = clauses {y = y} (omega (arith, longer k)) (grows_trans g k)

-- m is compared with two limits, the second no smaller: both let it pass, or only the second does, or neither
compared :
    {A : Type 0} (P : A → A → Type 0) (m l l' : ℕ) → l ≤ l' → (x y x' y' : A) → P x x' → (l ≤ m → P y x') → P y y' →
    P (elim (ltb m l) [ true ↦ x | false ↦ y ]) (elim (ltb m l') [ true ↦ x' | false ↦ y' ])
compared P m l l' h x y x' y' both second neither = go (ltb m l) (ltb m l') refl refl
  where
    go : (b b' : Bool) → ltb m l ≡ b → ltb m l' ≡ b' → P (elim b [ true ↦ x | false ↦ y ]) (elim b' [ true ↦ x' | false ↦ y' ])
    go true true p q = both
    go true false p q = absurd (omega (arith, ltb-true m l p, ltb-false m l' q))
    go false true p q = second (ltb-false m l p)
    go false false p q = neither

module _ (e : Env) (allowance capacity : ℕ) (more : e.allowance ≤ allowance) (room : e.capacity ≤ capacity) where
  -- the same search with no allowance smaller
  abbrev e' : Env
  e' = allowing allowance capacity e

  -- a new clause is added by both, by the second alone, or by neither
  lockstep_learn : (a : Assignment) (s : State) (c : Clause) (d : Option Clause) → Lockstep e (learn e a s c d) (learn e' a s c d)
  unfolding undecided
  lockstep_learn a s c none =
      compared
      (Lockstep e)
      (length s.table)
      e.capacity
      capacity
      room
      _
      _
      _
      _
      alike
      (λ full. past_clauses (settle e' a c (added c s)) (simp length-append (omega arith)) (grows_added c s) (grows_settle e' a c (added c s)))
      alike
  lockstep_learn a s c (some d) = alike

  -- the resolvent, where both clauses are there
  lockstep_resolve : (a : Assignment) (v : ℕ) (s : State) (c d : Option Clause) → Lockstep e (resolve e a v s c d) (resolve e' a v s c d)
  lockstep_resolve a v s none d = alike
  lockstep_resolve a v s (some c) none = alike
  lockstep_resolve a v s (some c) (some d) = lockstep_learn a s (resolvent v c d) (cover (resolvent v c d) s.table)

  -- step 7 after the join
  lockstep_merge_on : (a : Assignment) (v : ℕ) (b : Bool) (s : State) (m : Option ℕ) → Lockstep e (merge_on e a v b s m) (merge_on e' a v b s m)
  lockstep_merge_on a v b s none =
      lockstep_resolve a v s (falsified_naming v (decide a v b) s.table) (falsified_naming v (decide a v (not b)) s.table)
  lockstep_merge_on a v b s (some r) = alike

  -- step 7
  lockstep_merge : (a : Assignment) (v : ℕ) (b : Bool) (r : ℕ) (s : State) → Lockstep e (merge e a v b r s) (merge e' a v b r s)
  unfolding merge join undecided
  lockstep_merge a v b r s = lockstep_merge_on a v b (join e a v r s) (monotone a (join e a v r s) v)

  -- step 7, from what the second sides left
  lockstep_after_second :
      (a : Assignment) (v : ℕ) (b : Bool) (r : ℕ) {x y : Side} → Lockstep e x y → Lockstep e (after_second e a v b r x) (after_second e' a v b r y)
  lockstep_after_second a v b r (alike {x = up s}) = lockstep_merge a v b r s
  lockstep_after_second a v b r (alike {x = ended x d s}) = alike
  lockstep_after_second a v b r (branchings {y} h g) = past_branchings (after_second e' a v b r y) h g (grows_after_second e' a v b r y)
  lockstep_after_second a v b r (clauses {y} h g) = past_clauses (after_second e' a v b r y) h g (grows_after_second e' a v b r y)

  -- the two searches one level down go in lockstep, and the second only adds
  abbrev InStep : Search → Search → Type 0
  InStep self self' = (a : Assignment) (v : ℕ) (s : State) → Lockstep e (self a v s) (self' a v s)

  module _ (self self' : Search) (in_step : InStep self self') (grow : GrowsAll self') where
    -- steps 6 and 7, from what the first sides left
    lockstep_after_first :
        (a : Assignment) (v : ℕ) (b : Bool) {x y : Side} → Lockstep e x y → Lockstep e (after_first e self a v b x) (after_first e' self' a v b y)
    lockstep_after_first a v b (alike {x = up s}) =
        lockstep_after_second a v b (last s.records).decisions.decided (in_step (decide a v (not b)) v (recorded (without v s.records) s))
    lockstep_after_first a v b (alike {x = ended x d s}) = alike
    lockstep_after_first a v b (branchings {y} h g) = past_branchings (after_first e' self' a v b y) h g (grows_after_first e' self' grow a v b y)
    lockstep_after_first a v b (clauses {y} h g) = past_clauses (after_first e' self' a v b y) h g (grows_after_first e' self' grow a v b y)

    -- a branching is counted by both, by the second alone, or by neither
    lockstep_proceed : (a : Assignment) (t : Turn) → Lockstep e (proceed e self a t) (proceed e' self' a t)
    lockstep_proceed a (back s) = alike
    lockstep_proceed a (satisfiable s) = alike
    lockstep_proceed a (branch v b s) =
        compared
        (Lockstep e)
        s.branchings
        e.allowance
        allowance
        more
        _
        _
        _
        _
        (lockstep_after_first a v b (in_step (decide a v b) 0 (counted s)))
        (λ spent.
        past_branchings
        (after_first e' self' a v b (self' (decide a v b) 0 (counted s)))
        (omega arith)
        (grows_counted s)
        (grows_trans
        (grow (decide a v b) 0 (counted s))
        (grows_after_first e' self' grow a v b (self' (decide a v b) 0 (counted s)))))
        alike

    -- a point
    lockstep_step : InStep (step e self) (step e' self')
    unfolding step
    lockstep_step a v s =
        abreast (Lockstep e) (any is_empty s.table) _ _ _ _ alike (rw (sym (enter_agrees e allowance capacity a v s)) (lockstep_proceed a (enter e a v s)))

  -- the search, and the search with no allowance smaller
  pub lockstep : (k : ℕ) → InStep (search e k) (search e' k)
  unfolding search
  lockstep zero = lockstep_step (λ a v s. up s) (λ a v s. up s) (λ a v s. alike) (λ a v s. grows_refl s)
  lockstep (suc k) = lockstep_step (search e k) (search e' k) (lockstep k) (grows_search e' k)
