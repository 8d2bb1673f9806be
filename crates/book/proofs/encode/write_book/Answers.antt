use native.Mathlib.Omega.{arith}
use Rattle.rows.proofs.Tables.{clauses_length}
use Rattle.book.proofs.Encoding.{written_short, written_bytes}
use Rattle.book.proofs.encode.write_book.Goals as goal

pub returns-then-out-size : goal.returns-then-out-size
returns-then-out-size c =
    let w = written_short _ _ _ _ (clauses_length c.args.t.now c.args.b.clauses) (omega arith) in
    record { value = w.0; out_after = w.1 }

pub returns : goal.returns
returns c =
    let w = written_bytes _ _ _ _ (clauses_length c.args.t.now c.args.b.clauses) _ _ _
    c.if-out-size.false c.put_sizes.ensures c.put_words.ensures c.put_words-2.ensures
    in
    record { value = w.0; out_after = w.1 }
