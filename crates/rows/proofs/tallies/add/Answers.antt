-- `rows::tallies::add` meets its contract: the clause is put into the table, where the tallies of the earlier ones stay (`put_stays`), and then into the tallies (`put`).
use mathlib.Core.Path.{sym}
use Rattle.rows.proofs.Tables.{put_clause_here}
use Rattle.rows.proofs.Additions.{put_stays}
use Rattle.rows.proofs.tallies.add.Goals as goal

pub returns : goal.returns
returns c =
    let x = c.args in
    let table = c.put.ensures in (
      table,
      λ y.
          rw table
          (c.put-2.ensures _ (sym (put_clause_here x.t.now x.m _ c.requires.0)) (put_stays x.t.now _ y)),
    )
