-- The test against 0 is the definition's, and the rest is `append_falsified`, whose set has all undecided variables, as the tallies say then.
use Rattle.std.proofs.Common.{refl, sym, ap, ◌∙◌}
use Rattle.words.specs.Words.{is_zero}
use Rattle.words.proofs.Sets.{nonzero}
use Rattle.words.proofs.Truth.{when_false}
use Rattle.steps.specs.Clause.{vars}
use Rattle.steps.specs.State.{Side.up, redundant}
use Rattle.steps.proofs.ShapeKeep.{append_redundant}
use Rattle.rows.specs.Values.{clause_of, assignment_of}
use Rattle.rows.specs.Rows.{state_of}
use Rattle.rows.proofs.Walks.{tallied_at}
use Rattle.merge.proofs.settle.Goals as goal

pub returns : goal.returns
returns c t =
    let x = c.args in
    let made = c.append_falsified in
    let s = state_of t x.rs.now x.s in
    let is = made.ensures t in (
      ap up is ∙ sym (when_false (is_zero (vars (clause_of x.c))) _ _ (ap is_zero (sym c.vars.ensures) ∙ nonzero c.vars.result c.if-vars-eq0.false)),
      λ tallied.
          tallied_at made.new.rs made.result (assignment_of x.a) _ is refl (append_redundant (assignment_of x.a) _ _ s ∙ sym c.undecided.ensures)
          (c.restrike.ensures t (assignment_of x.a) (redundant s) tallied),
    )
