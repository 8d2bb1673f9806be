use Rattle.narrowing.proofs.Opens.{kept_by_now}
use Rattle.narrowing.proofs.is_kept.Goals as goal

pub returns : goal.returns
returns c = kept_by_now _ _ _ _ c.minus.ensures
