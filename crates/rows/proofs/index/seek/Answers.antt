-- `rows::index::seek` meets its contract: a walk goes on in its block while some are left there, and else in the first after it that has some.
use native.Mathlib.Omega.{arith}
use Rattle.rows.proofs.Both.{all_zeros, from_whole, none_first, none_here, none_trans}
use Rattle.rows.proofs.index.seek.Goals as goal

pub loop-j-init : goal.loop-j-init
loop-j-init c x a b below = absurd (omega (arith, all_zeros c.if-s-ne0.false))

pub returns-then-x-ne0 : goal.returns-then-x-ne0
returns-then-x-ne0 c =
    let s = c.args.s in
    let x = c.shared-x.result in
    record {
      within = omega arith;
      some = c.if-x-ne0.true;
      left = from_whole s.q.now s.m s.u s.w c.loop-j.j x c.shared-x.ensures;
      after = omega (arith, all_zeros c.if-s-ne0.false);
      none = none_trans s.q.now s.m s.u s.w c.loop-j.invariant (none_first s.q.now s.m s.u s.w c.loop-j.j x c.shared-x.type_inv c.shared-x.ensures);
    }

pub loop-j-preserved : goal.loop-j-preserved
loop-j-preserved c =
    let s = c.args.s in
    none_trans s.q.now s.m s.u s.w c.loop-j.invariant (none_here s.q.now s.m s.u s.w c.loop-j.j c.shared-x.result c.if-x-ne0.false c.shared-x.ensures)
