use Rattle.desk.proofs.Laws.{keep_stored}
use Rattle.desk.proofs.keep.Goals as goal

pub returns : goal.returns
returns c = keep_stored c.args.desk.now c.in_ok-next.next c.args.draft c.in_ok-next.ensures
