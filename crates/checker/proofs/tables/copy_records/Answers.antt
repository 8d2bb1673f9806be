use Rattle.std.proofs.Common.{◌≡◌, ◌+◌, ap, sym, ◌∙◌, arith, zero-add}
use Rattle.steps.specs.Clause.{DSequent}
use Rattle.rows.specs.Rows.{sequent_at}
use Rattle.rows.specs.Values.{sequent_of}
use Rattle.checker.proofs.Written.{copied}
use Rattle.checker.proofs.tables.copy_records.Goals as goal

pub loop-i-preserved : goal.loop-i-preserved
loop-i-preserved c =
    let a = c.args in
    let l = c.loop-i in
    let is : sequent_of c.sequent_at-d.result ≡ sequent_at a.rs.now (0 + l.i) = c.sequent_at-d.ensures ∙ ap (sequent_at a.rs.now) (sym (zero-add l.i)) in
    record {
      decided = copied (λ (d : DSequent). d.decisions.decided) (sequent_at a.rs.now) 0 a.decided.now l.i _ l.decided (omega arith) l.invariant.decided (ap (λ (d : DSequent). d.decisions.decided) is);
      trues = copied (λ (d : DSequent). d.decisions.trues) (sequent_at a.rs.now) 0 a.trues.now l.i _ l.trues (omega arith) l.invariant.trues (ap (λ (d : DSequent). d.decisions.trues) is);
      redundant = copied (λ (d : DSequent). d.redundant) (sequent_at a.rs.now) 0 a.redundant.now l.i _ l.redundant (omega arith) l.invariant.redundant (ap (λ (d : DSequent). d.redundant) is);
    }
