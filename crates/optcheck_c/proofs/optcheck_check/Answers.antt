use Rattle.contract.proofs.Demands.{checked_fits}
use Rattle.optcheck_c.proofs.optcheck_check.Goals as goal

pub word_of-requires : goal.word_of-requires
word_of-requires c = checked_fits _ _ _ _ _ _ c.check-found.ensures.checked c.ranges.allowance.fits
