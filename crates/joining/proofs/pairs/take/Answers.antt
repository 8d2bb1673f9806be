use Rattle.std.proofs.Common.{ap, sym, ◌∙◌, bit_or}
use Rattle.joining.proofs.Judged.{judged_true, judged_false, fault_zero, fault_above, fault_taken}
use Rattle.joining.proofs.pairs.take.Goals as goal

pub returns-then-k-eq0 : goal.returns-then-k-eq0
returns-then-k-eq0 c = judged_true _ _ (fault_zero _ _ _ c.if-k-eq0.true)

pub returns-then-n-k : goal.returns-then-n-k
returns-then-n-k c = judged_true _ _ (fault_above _ _ _ c.if-k-eq0.false c.if-n-k.true)

pub returns-then-meets : goal.returns-then-meets
returns-then-meets c =
    judged_true _ _ (fault_taken _ _ _ _ c.if-k-eq0.false c.if-n-k.false c.word_of-option.ensures ∙ sym c.meets.ensures ∙ c.if-meets.true)

pub returns : goal.returns
returns c =
    judged_false _ _ _ (fault_taken _ _ _ _ c.if-k-eq0.false c.if-n-k.false c.word_of-option.ensures ∙ sym c.meets.ensures ∙ c.if-meets.false)
    (ap (bit_or c.args.taken) c.word_of-option.ensures)
