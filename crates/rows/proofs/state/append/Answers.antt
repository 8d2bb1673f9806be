-- `rows::state::append` meets its contract: the three words stored after the list's last are the D-sequent that the definition appends.
use mathlib.Core.Path.{ap, ◌∙◌}
use mathlib.Core.List.{List}
use Prim.Native.Nat.{ℕ, ◌+◌}
use Rattle.steps.specs.Clause.{DSequent}
use Rattle.steps.specs.State.{State}
use Rattle.rows.specs.Rows.{clauses, sequents}
use Rattle.rows.proofs.Tables.{put_at_end}
use Rattle.rows.proofs.state.append.Goals as goal

pub returns : goal.returns
returns c t =
    let p = c.put in
    let s = c.args.s in
    let state : List DSequent → State = λ rs. record { table = clauses t s.clauses; records = rs; branchings = s.branchings } in
    ap (λ (l : List ℕ). state (sequents l (s.records + 1))) p.ensures ∙ ap state (put_at_end _ s.records _ c.requires)
