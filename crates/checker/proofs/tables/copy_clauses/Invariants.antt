use Rattle.std.proofs.Common.{◌≡◌, map}
use Rattle.steps.specs.Clause.{Clause}
use Rattle.rows.specs.Rows.{clauses_from}
use Rattle.contract.specs.Filled.{written}
use Rattle.checker.proofs.tables.copy_clauses.Given as goal

-- the first i places are written
abbrev pub invariant-loop-i : goal.invariant-loop-i
invariant-loop-i l = record {
  pos : l.pos ≡ written (map (λ (c : Clause). c.pos) (clauses_from l.t l.m l.i)) l.fn.pos;
  neg : l.neg ≡ written (map (λ (c : Clause). c.neg) (clauses_from l.t l.m l.i)) l.fn.neg;
}
