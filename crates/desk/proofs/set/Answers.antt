use Rattle.desk.proofs.Laws.{set_stored}
use Rattle.desk.proofs.set.Goals as goal

pub returns : goal.returns
returns c = set_stored c.args.desk.now c.in_ok-next.next c.args.option c.args.fitted c.in_ok-next.ensures
