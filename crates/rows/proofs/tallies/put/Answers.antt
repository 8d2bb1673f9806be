-- `rows::tallies::put` meets its contract: the stores add the clause to its block (`added`), and with it the tallies are those of one clause more (`one_more`).
use Rattle.rows.proofs.Additions.{added, one_more}
use Rattle.rows.proofs.tallies.put.Goals as goal

pub returns : goal.returns
returns c t is =
    one_more t is
    (added
    c.requires
    c.open_block.ensures
    (rw (c.vars.ensures, c.word_of.ensures, c.counts_of-x.ensures) at c.enter.ensures)
    (rw (
      c.word-2.ensures,
      c.mark-2.ensures,
      c.names.ensures,
      c.word.ensures,
      c.mark.ensures,
      c.is_unsatisfied.ensures,
      c.counts_of-x.ensures,
    )
    at c.put_rows.ensures))
