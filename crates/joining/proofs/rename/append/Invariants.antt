use Rattle.std.proofs.Common.{◌≡◌, ◌+◌, ◌++◌, length, map}
use Rattle.rows.specs.Rows.{clauses as Clauses}
use Rattle.renaming.specs.Renaming.{renamed}
use Rattle.joining.specs.Promises.{place_in}
use Rattle.joining.proofs.rename.append.Given as goal

-- of the first clauses of u those passed stand in the table, with their options in their places
abbrev pub invariant-loop-i : goal.invariant-loop-i
invariant-loop-i l =
    (length l.t ≡ length l.initial.t)
    × (Clauses l.t (l.clauses + l.i) ≡ Clauses l.initial.t l.clauses ++ map (renamed (place_in l.places.of) 64) (Clauses l.u l.i))
