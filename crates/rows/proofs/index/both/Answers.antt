-- `rows::index::both` meets its contract: a walk that begins has all of the first block to come to.
use mathlib.Core.Path.{refl, ◌∙◌}
use native.Mathlib.Omega.{arith}
use Rattle.rows.specs.Index.{row_of}
use Rattle.rows.proofs.Both.{all_zeros, from_whole, none_first}
use Rattle.rows.proofs.index.both.Goals.{then-m-eq0, else-m-eq0}
use Rattle.rows.proofs.index.both.Goals as goal

pub returns : goal.returns
returns c =
    let a = c.args in (
      record {
        table = refl;
        number = refl;
        first = c.number-u.ensures;
        second = c.number-w.ensures;
        room = c.requires.0;
        rows = (c.requires.1, c.requires.2);
        within = omega arith;
        left =
            elim c.if-m-eq0.branch [
              | then-m-eq0 w ↦ λ b h l. absurd (omega (arith, all_zeros w.result-is))
              | else-m-eq0 w ↦ from_whole a.q.now a.m (row_of a.u) (row_of a.w) 0 c.if-m-eq0.result (w.result-is ∙ (rw (c.number-u.ensures, c.number-w.ensures) at w.shared.ensures))
            ];
      },
      elim c.if-m-eq0.branch [
        | then-m-eq0 w ↦ λ x l b below. absurd (omega (arith, w.if-m-eq0.true))
        | else-m-eq0 w ↦ none_first a.q.now a.m (row_of a.u) (row_of a.w) 0 c.if-m-eq0.result (rw w.result-is w.shared.type_inv) (w.result-is ∙ (rw (c.number-u.ensures, c.number-w.ensures) at w.shared.ensures))
      ],
    )
