use Rattle.desk.proofs.Laws.{return_stored}
use Rattle.desk.proofs.return_to.Goals as goal

pub returns : goal.returns
returns c = return_stored c.args.desk.now c.in_ok-next.next c.args.draft c.in_ok-next.ensures
