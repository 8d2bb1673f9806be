-- The points that a run reaches, and where it comes together. A point is reached at the start and on the two sides of a branching, each with how much
-- deeper the search may go from there.
use Rattle.std.specs.Prelude.{◌≡◌, Bool, false, not, List, ℕ, suc, ◌<◌}
use Rattle.steps.specs.Lists.{any}
use Rattle.steps.specs.Clause.{Clause, Assignment, decide, without}
use Rattle.steps.specs.State.{Env, State, Side.up, recorded, counted}
use Rattle.steps.specs.Enter.{Turn.branch, enter}
use Rattle.steps.specs.Search.{is_empty, search}
use Rattle.steps.specs.Run.{no_decisions, start}

-- steps 1 to 5 at a point come to a branching over w, b first, in the state u, and it is allowed
pub record Branches (e : Env) (a : Assignment) (v : ℕ) (s : State) (w : ℕ) (b : Bool) (u : State) : Type 0 where
  pub nonempty : any is_empty s.table ≡ false
  pub turn : enter e a v s ≡ branch w b u
  pub allowed : u.branchings < e.allowance

-- a run over the table t reaches the point
pub data Reached (e : Env) (t : List Clause) : ℕ → Assignment → ℕ → State → Type 0 where
  -- the starting point
  starting : Reached e t e.n no_decisions 0 (start t)
  -- step 5: the first side of a branching
  first :
      {k : ℕ} {a : Assignment} {v : ℕ} {s : State} {w : ℕ} {b : Bool} {u : State} → Reached e t (suc k) a v s → Branches e a v s w b u →
      Reached e t k (decide a w b) 0 (counted u)
  -- step 6: the second side, where the first went back up
  second :
      {k : ℕ} {a : Assignment} {v : ℕ} {s : State} {w : ℕ} {b : Bool} {u x : State} → Reached e t (suc k) a v s → Branches e a v s w b u →
      search e k (decide a w b) 0 (counted u) ≡ up x → Reached e t k (decide a w (not b)) w (recorded (without w x.records) x)

-- step 7 at a reached point: it branched over w, b first, and its sides went back up, the first with x and the second with y
pub record Merges (e : Env) (t : List Clause) (a : Assignment) (w : ℕ) (b : Bool) (x y : State) : Type 0 where
  pub depth : ℕ
  pub v : ℕ
  pub s : State
  pub u : State
  pub reached : Reached e t (suc depth) a v s
  pub branches : Branches e a v s w b u
  pub back_first : search e depth (decide a w b) 0 (counted u) ≡ up x
  pub back_second : search e depth (decide a w (not b)) w (recorded (without w x.records) x) ≡ up y
