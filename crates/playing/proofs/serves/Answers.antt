use Rattle.std.proofs.Common.{◌≤◌, arith}
use Rattle.rows.proofs.Tables.{clauses_length}
use Rattle.playing.proofs.Opens.{by_open}
use Rattle.playing.proofs.serves.Goals as goal

pub invariant_of-open : goal.invariant_of-open
invariant_of-open c =
    let fewer : c.narrow-clauses.result ≤ c.args.g.clauses =
    omega (arith, c.narrow-clauses.ensures.few, clauses_length c.args.g.table.now c.args.g.clauses, clauses_length c.narrow-clauses.new.u c.narrow-clauses.result)
    in
    record { in_table = omega (arith, c.args.g.few); few = omega (arith, c.args.g.few) }

pub returns : goal.returns
returns c = by_open _ _ _ _ _ c.narrow-clauses.ensures _ c.buyer-2.ensures
