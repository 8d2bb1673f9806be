-- `rows::tallies::change` meets its contract: a walk over the blocks, each of which a turn changes.
use native.Mathlib.Omega.{arith}
use Rattle.rows.proofs.Walks.{begins, untouched, turned, ends, block_same}
use Rattle.rows.proofs.Shifts.{shiftable_same, block_changed}
use Rattle.rows.proofs.tallies.change.Goals as goal

pub loop-j-init : goal.loop-j-init
loop-j-init c = begins _

pub change_block-requires : goal.change_block-requires
change_block-requires c =
    let walk = c.loop-j.invariant in shiftable_same (untouched walk) walk.same (c.requires.1 c.loop-j.j (omega arith))

pub loop-j-preserved : goal.loop-j-preserved
loop-j-preserved c =
    let walk = c.loop-j.invariant in
    turned
    (λ q q' j same right a b k leads x. block_same same (right a b k leads x))
    walk
    c.change_block.ensures.only
    (λ a b k leads x. block_changed (c.requires.1 c.loop-j.j (omega arith)).below c.change_block.ensures leads (block_same (untouched walk) x))

pub returns : goal.returns
returns c a b k leads x =
    let g = c.args in ends g.t.now g.m a b k k c.loop-j.invariant (omega arith) (λ j below right. right a b k leads) x
