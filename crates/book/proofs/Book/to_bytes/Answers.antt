use mathlib.Core.Path.{ap, ◌∙◌}
use native.Mathlib.Omega.{arith}
use Rattle.rows.specs.Rows.{clauses}
use Rattle.rows.proofs.Tables.{clauses_length, as_many}
use Rattle.book.specs.Written.{written_of, written_by, written_to}
use Rattle.answer.proofs.Passing.{passed_on}
use Rattle.book.specs.declared.encode.WriteError.TheVariants as error
use Rattle.book.proofs.Accepted.{FromTable, table_book}
use Rattle.book.proofs.Book.to_bytes.Goals as goal

pub returns-in_err-b-clause-value : goal.returns-in_err-b-clause-value
unfolding written_of
returns-in_err-b-clause-value c =
    ap written_by (passed_on c.from_residual.result (error.Refused c.in_err-b.field-0.0) c.from_residual.ensures.1)
    ∙ ap (written_of _) c.in_err-b.ensures

pub returns-in_err-b-clause-out_after : goal.returns-in_err-b-clause-out_after
unfolding written_to
returns-in_err-b-clause-out_after c = ap (written_to _) c.in_err-b.ensures

pub write_book-requires : goal.write_book-requires
write_book-requires c =
    let here : FromTable c.args.self.vars c.args.self.clauses c.args.t.now c.in_ok-b.b.vars (clauses c.args.t.now c.in_ok-b.b.clauses) =
    table_book _ _ _ _ _ c.in_ok-b.ensures
    in (
      here.well_formed.vars_few,
      omega (arith, here.well_formed.clauses_few, clauses_length c.args.t.now c.in_ok-b.b.clauses),
      omega (arith, here.length_is, as_many _ _ _ here.clauses_are),
    )
