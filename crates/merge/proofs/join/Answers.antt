-- `without` leaves the kept list, `last` reads its last set, and the test of that set against the undecided variables but v is the definition's (`join_kept`,
-- `join_one_more`).
use Rattle.std.proofs.Common.{ap, ap₂, sym, ◌∙◌, ℕ}
use lib.Bits.{bit_or}
use Rattle.words.specs.Words.{minus}
use Rattle.steps.specs.Clause.{DSequent}
use Rattle.steps.specs.State.{append, recorded}
use Rattle.rows.specs.Values.{assignment_of}
use Rattle.rows.specs.Rows.{sequents, state_of}
use Rattle.merge.proofs.Joined.{join_kept, join_one_more}
use Rattle.merge.proofs.join.Goals as goal

pub returns-then-d-rest : goal.returns-then-d-rest
returns-then-d-rest c t =
    let x = c.args in
    let w = c.without-k in
    let others = c.minus-rest.ensures ∙ ap (λ (y : ℕ). minus y x.v) c.undecided.ensures in
    join_kept _ _ _ _ _ (sequents w.new.rs w.result) w.ensures.kept (ap (λ (d : DSequent). d.redundant) (sym c.last-d.ensures) ∙ c.if-d-rest.true ∙ others)

pub returns : goal.returns
returns c t =
    let x = c.args in
    let w = c.without-k in
    let s = state_of t x.rs.now x.s in
    let kept = sequents w.new.rs w.result in
    let others = c.minus-rest.ensures ∙ ap (λ (y : ℕ). minus y x.v) c.undecided.ensures in
    let last_set = ap (λ (d : DSequent). d.redundant) c.last-d.ensures in
    let both = c.minus.ensures ∙ ap (λ (d : DSequent). minus (bit_or x.r d.decisions.decided) x.v) c.last-second.ensures in
    c.append.ensures t
    ∙ ap₂ (λ (on k : ℕ). append (assignment_of x.a) on k (recorded kept s)) both others
    ∙ join_one_more _ _ _ _ _ kept w.ensures.kept (λ all. c.if-d-rest.false (last_set ∙ all ∙ sym others))
