use Rattle.std.proofs.Common.{◌≡◌, map}
use Rattle.steps.specs.Clause.{DSequent}
use Rattle.rows.specs.Rows.{from, sequent_at}
use Rattle.contract.specs.Filled.{written}
use Rattle.checker.proofs.tables.copy_records.Given as goal

-- the first i places are written
abbrev pub invariant-loop-i : goal.invariant-loop-i
invariant-loop-i l = record {
  decided : l.decided ≡ written (map (λ (d : DSequent). d.decisions.decided) (from (sequent_at l.rs) 0 l.i)) l.fn.decided;
  trues : l.trues ≡ written (map (λ (d : DSequent). d.decisions.trues) (from (sequent_at l.rs) 0 l.i)) l.fn.trues;
  redundant : l.redundant ≡ written (map (λ (d : DSequent). d.redundant) (from (sequent_at l.rs) 0 l.i)) l.fn.redundant;
}
