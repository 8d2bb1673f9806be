-- The sweep's values as those of `steps`, and what its functions ask.
use Rattle.std.specs.Prelude.{◌≡◌, List, ℕ, ◌+◌, ◌≤◌, length, Some, None}
use Rattle.std.specs.declared.option.Option as rust
use Rattle.std.proofs.Math.Option.{Option, some, none}
use Rattle.steps.specs.Clause as clause
use Rattle.steps.specs.Notes as notes
use Rattle.steps.specs.Shape.{Shape}
use Rattle.rows.specs.Values.{assignment_of, sequent_of, env_of}
use Rattle.rows.specs.Rows.{clause_words, sequent_words, sequents, state_of}
use Rattle.rows.specs.Tally.{TalliedAt, Variable}
use Rattle.rows.specs.declared.clause.Assignment.{Assignment}
use Rattle.rows.specs.declared.records.DSequent.{DSequent}
use Rattle.rows.specs.declared.state.Counts.{Counts}
use Rattle.rows.specs.declared.state.Env.{Env}
use Rattle.sweep.specs.declared.Noted.{Noted}
use Rattle.sweep.specs.declared.Literal.{Literal}

abbrev pub notes_of : Noted → notes.Notes
notes_of x = record { pos = x.pos; neg = x.neg }

abbrev pub literal_of : Literal → notes.Literal
literal_of l = record { var = l.var; sign = l.sign }

abbrev pub choice_of : rust.Option Literal → Option notes.Literal
choice_of (Some l) = some (literal_of l)
choice_of None = none

-- a point whose clauses the work table holds. Its list has room for a D-sequent for each variable
pub record Ready (t rs : List ℕ) (e : Env) (a : Assignment) (s : Counts) : Type 0 where
  pub vars : e.vars ≤ 64
  pub table : clause_words s.clauses ≤ length t
  pub room : sequent_words e.vars ≤ length rs
  pub shape : Shape (env_of e) (assignment_of a) (state_of t rs s)

-- the variable of l can be struck after the last D-sequent, d, for which there is room
pub record Striking (t q rs : List ℕ) (l : Literal) (a : clause.Assignment) (d : DSequent) (s : Counts) : Type 0 where
  pub variable : Variable l.var
  pub table : clause_words s.clauses ≤ length t
  pub next : sequent_words (s.records + 1) ≤ length rs
  pub last : sequent_of d ≡ clause.last (sequents rs s.records)
  pub tallied : TalliedAt t q rs a s
