-- A point with at most k undecided variables makes fewer than 2^k branchings and adds no more clauses than it makes branchings. With none undecided it
-- does not branch. A branching counts one, each side has one undecided variable fewer, and coming together adds at most one clause. A stop
-- on branchings turns down one that is still within the bound, and a stop on clauses one whose branching is counted, so each leaves one to spare.
use mathlib.Core.Path.{ap}
use mathlib.Core.Bool.{Bool, not}
use Prim.Native.Nat.{ℕ, zero, suc, ◌+◌, ◌≤◌, ◌<◌, ◌^◌}
use native.Mathlib.Nat.{two-pow-succ}
use native.Mathlib.Omega.{arith}
use lib.Count.{ones}
use lib.Dec.{ltb}
use lib.ListN.{length, length-append}
use lib.Pow.{pow_pos}
use Rattle.steps.specs.Lists.{any}
use Rattle.steps.specs.Clause.{Assignment, decide, last, without}
use Rattle.steps.specs.State.{Env, State, Ending, Ending.can, Ending.cannot, Ending.out_of_branchings, Ending.out_of_clauses, Side, Side.up, Side.ended, Search, undecided, recorded, counted}
use Rattle.steps.specs.Enter.{Turn, Turn.back, Turn.satisfiable, Turn.branch, enter}
use Rattle.steps.specs.Search.{after_second, after_first, proceed, is_empty, step, search}
use Rattle.steps.specs.Shape.{Shape, OneOf, TurnShape, SideShape}
use Rattle.steps.proofs.ShapeKeep.{live_one}
use Rattle.steps.proofs.ShapeEnter.{shape_enter}
use Rattle.steps.proofs.ShapeSides.{shape_second, shape_branch}
use Rattle.steps.proofs.ShapeSearch.{Shapely, shape_search}
use Rattle.steps.proofs.Nesting.{undecided_one_fewer}
use Rattle.steps.proofs.Listed.{turned, taken, Listed, listed, listed_enter}
use Rattle.steps.proofs.Keeps.{Leaves, Merging, keeps_merge}

-- ---- the bound

-- fewer than 2^k branchings more, and no more clauses than branchings
abbrev pub Added : ℕ → State → State → Type 0
Added k s t = (t.branchings < s.branchings + 2 ^ k) × (length t.table + s.branchings ≤ length s.table + t.branchings)

-- and one clause to spare
abbrev Spare : ℕ → State → State → Type 0
Spare k s t = Added k s t × (length t.table + s.branchings < length s.table + t.branchings)

-- a stop leaves one to spare of what it names
abbrev AddsEnd : ℕ → State → Ending → State → Type 0
AddsEnd k s can t = Added k s t
AddsEnd k s cannot t = Added k s t
AddsEnd k s out_of_branchings t = Added k s t × (suc t.branchings < s.branchings + 2 ^ k)
AddsEnd k s out_of_clauses t = Spare k s t

-- a side within the bound
abbrev pub Adds : ℕ → State → Side → Type 0
Adds k s = Leaves (Added k s) (AddsEnd k s)

-- nothing added is within every bound
added_none : (k : ℕ) (s : State) → Added k s s
added_none k s = (omega (arith, pow_pos k), omega arith)

-- coming together adds at most one clause
adding : (e : Env) (k : ℕ) (s : State) → Merging e (Spare k s) (Added k s) (AddsEnd k s)
adding e k s =
    record {
      listed = λ l p. let same = ap length l.table in ((omega arith, omega arith), omega arith);
      relisted = λ l p. let same = ap length l.table in (omega arith, omega arith);
      none_added = λ p. p.0;
      clause_added = λ c t new z l p. (p.0.0, simp length-append (omega arith));
      empty_added = λ c t new z l p. (p.0.0, simp length-append (omega arith));
      empty_found = λ t p. p.0;
      full = λ t l p. p;
    }

-- the same from a state with another list of D-sequents
adds_listed : (k : ℕ) (s t : State) → Listed s t → (x : Side) → Adds k t x → Adds k s x
adds_listed k s t h (up u) m = let l = ap length h.table in (omega arith, omega arith)
adds_listed k s t h (ended can d u) m = let l = ap length h.table in (omega arith, omega arith)
adds_listed k s t h (ended cannot d u) m = let l = ap length h.table in (omega arith, omega arith)
adds_listed k s t h (ended out_of_branchings d u) m = let l = ap length h.table in ((omega arith, omega arith), omega arith)
adds_listed k s t h (ended out_of_clauses d u) m = let l = ap length h.table in ((omega arith, omega arith), omega arith)

-- from the second side on
adds_after_second :
    (e : Env) (a : Assignment) (w : ℕ) (b : Bool) (r k : ℕ) (s t : State) → Added k (counted s) t → (x : Side) → Adds k t x →
    Adds (suc k) s (after_second e a w b r x)
adds_after_second e a w b r k s t f (up u) g =
    keeps_merge (adding e (suc k) s) a w b r u ((omega (arith, two-pow-succ k), omega arith), omega arith)
adds_after_second e a w b r k s t f (ended can d u) g = (omega (arith, two-pow-succ k), omega arith)
adds_after_second e a w b r k s t f (ended cannot d u) g = (omega (arith, two-pow-succ k), omega arith)
adds_after_second e a w b r k s t f (ended out_of_branchings d u) g = ((omega (arith, two-pow-succ k), omega arith), omega (arith, two-pow-succ k))
adds_after_second e a w b r k s t f (ended out_of_clauses d u) g = ((omega (arith, two-pow-succ k), omega arith), omega arith)

-- a point whose sides add so much
module _ (e : Env) (self : Search) (below : Shapely e self) (k : ℕ) (a : Assignment)
    (sides : (w : ℕ) (b : Bool) (v : ℕ) (s : State) → OneOf w (undecided e a) → Shape e (decide a w b) s → Adds k s (self (decide a w b) v s)) where
  -- from the first side on
  adds_after_first :
      (w : ℕ) (b : Bool) (s : State) (x : Side) → OneOf w (undecided e a) → SideShape e (decide a w b) x → Adds k (counted s) x →
      Adds (suc k) s (after_first e self a w b x)
  adds_after_first w b s (up t) one h f =
      adds_after_second
      e
      a
      w
      b
      (last t.records).decisions.decided
      k
      s
      t
      f
      (self (decide a w (not b)) w (recorded (without w t.records) t))
      (adds_listed
      k
      t
      (recorded (without w t.records) t)
      (listed (without w t.records) t)
      (self (decide a w (not b)) w (recorded (without w t.records) t))
      (sides w (not b) w (recorded (without w t.records) t) one (shape_second e a w b t h)))
  adds_after_first w b s (ended can d t) one h f = (omega (arith, two-pow-succ k, pow_pos k), omega arith)
  adds_after_first w b s (ended cannot d t) one h f = (omega (arith, two-pow-succ k, pow_pos k), omega arith)
  adds_after_first w b s (ended out_of_branchings d t) one h f = ((omega (arith, two-pow-succ k, pow_pos k), omega arith), omega (arith, two-pow-succ k, pow_pos k))
  adds_after_first w b s (ended out_of_clauses d t) one h f = ((omega (arith, two-pow-succ k, pow_pos k), omega arith), omega arith)

  -- from a turn on
  adds_proceed : (x : Turn) → TurnShape e a x → Adds (suc k) (turned x) (proceed e self a x)
  adds_proceed (back s) h = added_none (suc k) s
  adds_proceed (satisfiable s) h = added_none (suc k) s
  adds_proceed (branch w b s) h =
      taken
      (Adds (suc k) s)
      (ltb s.branchings e.allowance)
      _
      _
      (λ _.
      let side = shape_branch e a w b s h in
      adds_after_first w b s (self (decide a w b) 0 (counted s)) side.0 (below (decide a w b) 0 (counted s) side.1) (sides w b 0 (counted s) side.0 side.1))
      (λ _. (added_none (suc k) s, omega (arith, two-pow-succ k, pow_pos k)))

-- a point with nothing undecided
adds_proceed_none : (e : Env) (self : Search) (a : Assignment) → ones (undecided e a) ≤ 0 → (x : Turn) → TurnShape e a x → Adds 0 (turned x) (proceed e self a x)
adds_proceed_none e self a u (back s) h = added_none 0 s
adds_proceed_none e self a u (satisfiable s) h = added_none 0 s
adds_proceed_none e self a u (branch w b s) h =
    let one = live_one e a s w h.1 in
    absurd (omega (arith, undecided_one_fewer e a w b one))

-- at the point
adds_step :
    (e : Env) (self : Search) (k : ℕ) (a : Assignment) (v : ℕ) (s : State) → Adds k (turned (enter e a v s)) (proceed e self a (enter e a v s)) →
    Adds k s (step e self a v s)
unfolding step
adds_step e self k a v s h =
    taken
    (Adds k s)
    (any is_empty s.table)
    _
    _
    (λ _. added_none k s)
    (λ _. adds_listed k s (turned (enter e a v s)) (listed_enter e a v s) (proceed e self a (enter e a v s)) h)

-- the bound of a search
pub adds_search :
    (e : Env) (k : ℕ) (a : Assignment) (v : ℕ) (s : State) → Shape e a s → ones (undecided e a) ≤ k → Adds k s (search e k a v s)
unfolding search
adds_search e zero a v s h u =
    adds_step e (λ a v s. up s) 0 a v s (adds_proceed_none e (λ a v s. up s) a u (enter e a v s) (shape_enter e a v s h))
adds_search e (suc k) a v s h u =
    adds_step
    e
    (search e k)
    (suc k)
    a
    v
    s
    (adds_proceed
    e
    (search e k)
    (shape_search e k)
    k
    a
    (λ w b v' s' one p. adds_search e k (decide a w b) v' s' p (omega (arith, undecided_one_fewer e a w b one)))
    (enter e a v s)
    (shape_enter e a v s h))
