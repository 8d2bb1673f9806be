use Rattle.std.proofs.Common.{ap, arith}
use Rattle.steps.specs.Clause.{Clause}
use Rattle.rows.specs.Rows.{clause_at}
use Rattle.checker.proofs.Written.{copied}
use Rattle.checker.proofs.tables.copy_clauses.Goals as goal

pub loop-i-preserved : goal.loop-i-preserved
loop-i-preserved c =
    let a = c.args in
    let l = c.loop-i in
    record {
      pos = copied (λ (x : Clause). x.pos) (clause_at a.t.now) a.m a.pos.now l.i _ l.pos (omega arith) l.invariant.pos (ap (λ (x : Clause). x.pos) c.clause_at-c.ensures);
      neg = copied (λ (x : Clause). x.neg) (clause_at a.t.now) a.m a.neg.now l.i _ l.neg (omega arith) l.invariant.neg (ap (λ (x : Clause). x.neg) c.clause_at-c.ensures);
    }
