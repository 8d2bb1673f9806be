-- `rows::index::clear` meets its contract: a turn empties one row more.
use mathlib.Core.Path.{refl, ◌∙◌}
use native.Mathlib.Omega.{arith}
use borrow.Author.Count.{below_none, below_more}
use Rattle.rows.proofs.Blocks.{put_row_here, put_row_other, put_row_count, put_row_only, only_refl, only_trans}
use Rattle.rows.proofs.index.clear.Goals as goal

pub loop-u-init : goal.loop-u-init
loop-u-init c = record { only = only_refl _ _; counts = λ b h. refl; empty = below_none _ }

pub loop-u-preserved : goal.loop-u-preserved
loop-u-preserved c =
    let w = c.loop-u.invariant in
    let q = c.loop-u.q in
    let j = c.args.j in
    let u = c.loop-u.u in
    record {
      only = only_trans w.only (put_row_only q j u 0 c.loop-u-test.true);
      counts = λ b l. put_row_count q j u 0 j b c.loop-u-test.true l ∙ w.counts b l;
      empty = below_more _ u (λ v l. put_row_other q j u 0 j v c.loop-u-test.true (omega arith) (λ e f. omega arith) ∙ w.empty v l) (put_row_here q j u 0 (omega arith));
    }

pub returns : goal.returns
returns c = let w = c.loop-u.invariant in record { only = w.only; counts = w.counts; rows = λ u h. w.empty u (omega arith) }
