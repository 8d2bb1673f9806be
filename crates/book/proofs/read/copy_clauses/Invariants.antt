use Rattle.std.proofs.Common.{◌≡◌, ◌++◌}
use Rattle.rows.specs.Rows.{clauses}
use Rattle.book.specs.Bytes.{clauses_in}
use Rattle.book.proofs.Bytes.{clauses_from}
use Rattle.book.proofs.read.copy_clauses.Given as goal

-- the clauses in the table, with those of the bytes from the i-th on, are those of the bytes
abbrev pub invariant-loop-i : goal.invariant-loop-i
invariant-loop-i l = clauses l.t l.i ++ clauses_from l.bytes l.clauses l.i ≡ clauses_in l.clauses l.bytes
