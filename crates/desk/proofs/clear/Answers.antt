use Rattle.desk.proofs.Laws.{clear_stored}
use Rattle.desk.proofs.clear.Goals as goal

pub returns : goal.returns
returns c = clear_stored c.args.desk.now c.in_ok-next.next c.args.option c.in_ok-next.ensures
