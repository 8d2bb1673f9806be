use Rattle.std.proofs.Common.{◌≡◌, ◌++◌}
use Rattle.rows.specs.Rows.{clauses}
use Rattle.book.specs.Units.{units_of}
use Rattle.book.proofs.units.add_units.Given as goal

-- the clauses in the table, with those for the members still to come after them, are those that were asked for
abbrev pub invariant-loop-k : goal.invariant-loop-k
invariant-loop-k l =
    record {
      goes_on : (goal.iterator-loop-k).can_next l.k-iterator × (goal.iterator-loop-k).is_finite l.k-iterator;
      all : clauses l.t l.count ++ units_of l.positive l.k-iterator.left ≡ clauses l.fn.t l.clauses ++ units_of l.positive l.word;
    }
