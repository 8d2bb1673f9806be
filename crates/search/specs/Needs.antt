-- What the engine's functions ask of their callers: room in the work tables, and the shape of a point.
use Rattle.std.specs.Prelude.{◌≡◌, false, List, ℕ, ◌≤◌, length}
use Rattle.steps.specs.Lists.{any}
use Rattle.steps.specs.Search.{is_empty}
use Rattle.steps.specs.Shape.{AllProper, Shape}
use Rattle.rows.specs.Values.{assignment_of, env_of}
use Rattle.rows.specs.Rows.{clause_words, clauses as clauses_in, sequent_words, state_of}
use Rattle.rows.specs.Index.{tally_words}
use Rattle.enter.specs.Turns.{Entering}
use Rattle.rows.specs.declared.clause.Assignment.{Assignment}
use Rattle.rows.specs.declared.state.Counts.{Counts}
use Rattle.rows.specs.declared.state.Env.{Env}

-- a point within the allowances, without the empty clause, and with room for as many clauses as the run may hold
pub record Point (t rs : List ℕ) (e : Env) (a : Assignment) (s : Counts) : Type 0 where
  pub vars : e.vars ≤ 64
  pub capacity : clause_words e.capacity ≤ length t
  pub clauses : s.clauses ≤ e.capacity
  pub branchings : s.branchings ≤ e.allowance
  pub none_empty : any is_empty (clauses_in t s.clauses) ≡ false
  pub room : sequent_words e.vars ≤ length rs
  pub shape : Shape (env_of e) (assignment_of a) (state_of t rs s)

-- the tallies at a point are those of the struck set k, of undecided variables, with room for as many as the run may hold
pub record Held (t q : List ℕ) (e : Env) (a : Assignment) (k : ℕ) (s : Counts) : Type 0 where
  pub places : tally_words e.capacity ≤ length q
  pub entering : Entering t q e a k s

-- the starting point: room in the work tables, and m clauses that name only the variables
pub record Startable (t q rs : List ℕ) (e : Env) (m : ℕ) : Type 0 where
  pub vars : e.vars ≤ 64
  pub capacity : clause_words e.capacity ≤ length t
  pub clauses : m ≤ e.capacity
  pub room : sequent_words e.vars ≤ length rs
  pub places : tally_words e.capacity ≤ length q
  pub proper : AllProper e.vars (clauses_in t m)
