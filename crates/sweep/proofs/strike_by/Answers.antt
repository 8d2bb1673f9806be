-- What is gathered beside the last D-sequent is the strike's, and its set is that of the tallies.
use Rattle.std.proofs.Common.{ℕ, refl, ap, ap₂, ◌∙◌}
use mathlib.Core.Path.{subst⁻¹}
use lib.Bits.{bit_or}
use Rattle.steps.specs.Clause.{DSequent}
use Rattle.steps.specs.State.{append}
use Rattle.steps.proofs.ShapeKeep.{append_redundant}
use Rattle.rows.specs.Values.{assignment_of}
use Rattle.rows.specs.Rows.{state_of}
use Rattle.rows.specs.Tally.{Tallied}
use Rattle.rows.proofs.Walks.{tallied_at}
use Rattle.sweep.proofs.strike_by.Goals as goal

pub returns : goal.returns
returns c =
    let g = c.args in
    let s = state_of g.t.now g.rs.now g.s in
    let set = ap (λ (d : DSequent). d.redundant) c.requires.last in
    let tallied = subst⁻¹ (λ (k : ℕ). Tallied g.t.now g.q.now g.s.clauses (assignment_of g.a) k) set c.requires.tallied in
    let is =
    c.append.ensures g.t.now
    ∙ ap₂ (λ (on k : ℕ). append (assignment_of g.a) on (bit_or k g.l.var) s) (c.gather-on.ensures g.d.redundant tallied) set in (
      is,
      tallied_at c.append.new.rs c.append.result (assignment_of g.a) _ is refl (append_redundant (assignment_of g.a) _ _ s)
          (c.strike.ensures.0 g.t.now _ _ c.requires.tallied),
    )
