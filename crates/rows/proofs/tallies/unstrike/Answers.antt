-- `rows::tallies::unstrike` meets its contract: the struck set is put anew (`restrike`).
use Rattle.rows.proofs.tallies.unstrike.Goals as goal

pub returns-then-k-other : goal.returns-then-k-other
returns-then-k-other c t a = c.restrike.ensures t a c.args.k
