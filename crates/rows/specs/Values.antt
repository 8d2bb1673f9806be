-- The structs and enums of this crate as the values of `steps`.
use Rattle.std.proofs.Math.Option.{Option, some, none}
use Rattle.std.specs.Prelude.{Some, None}
use Rattle.std.specs.declared.option.Option as rust
use Rattle.steps.specs.Clause as clause
use Rattle.steps.specs.State as state
use Rattle.rows.specs.declared.clause.Clause.{Clause}
use Rattle.rows.specs.declared.clause.Assignment.{Assignment}
use Rattle.rows.specs.declared.records.DSequent.{DSequent}
use Rattle.rows.specs.declared.state.Env.{Env}

abbrev pub clause_of : Clause → clause.Clause
clause_of c = record { pos = c.pos; neg = c.neg }

abbrev pub assignment_of : Assignment → clause.Assignment
assignment_of a = record { decided = a.decided; trues = a.trues }

abbrev pub sequent_of : DSequent → clause.DSequent
sequent_of d = record { decisions = record { decided = d.decided; trues = d.trues }; redundant = d.redundant }

abbrev pub env_of : Env → state.Env
env_of e = record { n = e.vars; allowance = e.allowance; capacity = e.capacity }

abbrev pub found_of : rust.Option Clause → Option clause.Clause
found_of (Some c) = some (clause_of c)
found_of None = none
