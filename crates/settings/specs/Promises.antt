-- What clearing the counted places asks for, and what it leaves.
use Rattle.std.specs.Prelude.{◌≤◌, length, replicate}
use Rattle.answer.specs.declared.Tally.{Tally}
use Rattle.contract.specs.Filled.{Tables, written}

-- the counts fit the tables
pub record Counted (c : Tally) (t : Tables) : Type 0 where
  pub pos : c.derived ≤ length t.pos
  pub neg : c.derived ≤ length t.neg
  pub decided : c.records ≤ length t.decided
  pub trues : c.records ≤ length t.trues
  pub redundant : c.records ≤ length t.redundant

-- the tables with zeros in the counted places
abbrev pub cleared : Tally → Tables → Tables
cleared c t =
    record {
      pos = written (replicate c.derived 0) t.pos;
      neg = written (replicate c.derived 0) t.neg;
      decided = written (replicate c.records 0) t.decided;
      trues = written (replicate c.records 0) t.trues;
      redundant = written (replicate c.records 0) t.redundant;
    }
