use Rattle.std.proofs.Common.{◌≡◌, ◌+◌, ◌*◌, map}
use Rattle.steps.specs.Clause.{literals}
use Rattle.rows.specs.Rows.{clauses}
use Rattle.book.specs.Bytes.{flat}
use Rattle.book.specs.Written.{placed}
use Rattle.book.proofs.Encoding.{words_from}
use Rattle.book.proofs.encode.put_words.Given as goal

-- with the bytes of the words of the clauses from the i-th on in their places, the buffer is the one that was asked for
abbrev pub invariant-loop-i : goal.invariant-loop-i
invariant-loop-i l = placed l.out (l.at + 8 * l.i) (words_from l.t l.sign l.clauses l.i) ≡ placed l.fn.out l.at (flat (map (literals l.sign) (clauses l.t l.clauses)))
