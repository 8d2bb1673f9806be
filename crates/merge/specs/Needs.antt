-- What the functions of step 7 ask of their callers: room in the work tables, and the shape of the second side.
use Rattle.std.specs.Prelude.{◌≡◌, Bool, true, false, not, List, ℕ, ◌+◌, ◌≤◌, ◌<◌, length}
use Rattle.words.specs.Words.{minus, meets, Within}
use Rattle.steps.specs.Clause as clause
use Rattle.steps.specs.Clause.{decide}
use Rattle.steps.specs.State.{undecided, redundant}
use Rattle.steps.specs.Shape.{Shape, OneOf}
use Rattle.rows.specs.Values.{assignment_of, sequent_of, env_of}
use Rattle.rows.specs.Rows.{clause_words, sequent_words, sequents, state_of, Room}
use Rattle.rows.specs.Index.{tally_words}
use Rattle.rows.specs.Tally.{TalliedAt}
use Rattle.rows.specs.declared.clause.Assignment.{Assignment}
use Rattle.rows.specs.declared.records.DSequent.{DSequent}
use Rattle.rows.specs.declared.state.Counts.{Counts}
use Rattle.rows.specs.declared.state.Env.{Env}

-- room for the list and one more D-sequent
pub record Joinable (rs : List ℕ) (e : Env) (s : Counts) : Type 0 where
  pub vars : e.vars ≤ 64
  pub room : sequent_words e.vars ≤ length rs
  pub few : s.records < e.vars

-- every undecided variable but v is struck, the tallies say so, and there is room for one more D-sequent
pub record AllButOne (t q rs : List ℕ) (e : Env) (a : Assignment) (v : ℕ) (s : Counts) : Type 0 where
  pub vars : e.vars ≤ 64
  pub table : clause_words s.clauses ≤ length t
  pub next : sequent_words (s.records + 1) ≤ length rs
  pub branched : OneOf v (undecided (env_of e) (assignment_of a))
  pub others : redundant (state_of t rs s) ≡ minus (undecided (env_of e) (assignment_of a)) v
  pub tallied : TalliedAt t q rs (assignment_of a) s

-- room for one more D-sequent, and for as many clauses as the run may hold. Nothing struck is decided, and the tallies are those of the point. d is the last D-sequent,
-- and c a clause that the decisions falsify
pub record Learning (t q rs : List ℕ) (e : Env) (a : Assignment) (d : DSequent) (c : clause.Clause) (s : Counts) : Type 0 where
  pub room : Room rs e s
  pub capacity : clause_words e.capacity ≤ length t
  pub places : tally_words e.capacity ≤ length q
  pub few : s.clauses ≤ e.capacity
  pub apart : meets (redundant (state_of t rs s)) a.decided ≡ false
  pub tallied : TalliedAt t q rs (assignment_of a) s
  pub last : sequent_of d ≡ clause.last (sequents rs s.records)
  pub broken : clause.falsified (assignment_of a) c ≡ true

-- a joined state, with room for as many clauses as the run may hold
pub record Testing (t q rs : List ℕ) (e : Env) (a : Assignment) (v : ℕ) (s : Counts) : Type 0 where
  pub others_struck : AllButOne t q rs e a v s
  pub capacity : clause_words e.capacity ≤ length t
  pub places : tally_words e.capacity ≤ length q
  pub clauses : s.clauses ≤ e.capacity
  pub shape : Shape (env_of e) (assignment_of a) (state_of t rs s)

-- where both sides of a branching over v have come back: r is the first side's last decisions, the list is the second side's
pub record Mergeable (t rs : List ℕ) (e : Env) (a : Assignment) (v : ℕ) (b : Bool) (r : ℕ) (s : Counts) : Type 0 where
  pub vars : e.vars ≤ 64
  pub capacity : clause_words e.capacity ≤ length t
  pub clauses : s.clauses ≤ e.capacity
  pub room : sequent_words e.vars ≤ length rs
  pub branched : OneOf v (undecided (env_of e) (assignment_of a))
  pub trues : Within a.trues a.decided
  pub first : Within r (decide (assignment_of a) v b).decided
  pub second : Shape (env_of e) (decide (assignment_of a) v (not b)) (state_of t rs s)

-- there, the tallies are those of the second side, with room for as many as the run may hold
pub record Merging (t q rs : List ℕ) (e : Env) (a : Assignment) (v : ℕ) (b : Bool) (s : Counts) : Type 0 where
  pub places : tally_words e.capacity ≤ length q
  pub tallied : TalliedAt t q rs (decide (assignment_of a) v (not b)) s
