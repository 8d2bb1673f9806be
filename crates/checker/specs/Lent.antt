-- The lent tables as the code passes them: five references in a struct.
use Rattle.std.specs.Prelude.{◌≡◌}
use Rattle.contract.specs.Check.{Lengths}
use Rattle.contract.specs.Filled.{Tables, lent}
use Rattle.checker.specs.declared.tables.Tables.{Tables as References}
use Rattle.checker.specs.declared.tables.Lengths.{Lengths as Sizes}

-- the tables that they point to
abbrev pub tables_of : References → Tables
tables_of t = lent t.pos.now t.neg.now t.decided.now t.trues.now t.redundant.now

-- their lengths
abbrev pub lengths_of : Sizes → Lengths
lengths_of l = record { pos = l.pos; neg = l.neg; decided = l.decided; trues = l.trues; redundant = l.redundant }

-- each is the same reference after a call as before it, so that whoever made the struct learns what its tables hold
pub record SameReferences (before after : References) : Type 0 where
  pub pos : after.pos.ghost_name ≡ before.pos.ghost_name
  pub neg : after.neg.ghost_name ≡ before.neg.ghost_name
  pub decided : after.decided.ghost_name ≡ before.decided.ghost_name
  pub trues : after.trues.ghost_name ≡ before.trues.ghost_name
  pub redundant : after.redundant.ghost_name ≡ before.redundant.ghost_name
