use Rattle.std.proofs.Common.{◌∙◌}
use Rattle.playing.proofs.Played.{one_missing, one_given, is_given}
use Rattle.playing.proofs.forced.Goals as goal

pub returns-then-is_some : goal.returns-then-is_some
returns-then-is_some c =
    one_given _ _ c.count_of.result _ c.count_of.ensures c.if-count_of-lt2.false c.requires _ (c.is_some.ensures ∙ is_given _) c.if-is_some.true _
    (c.is_some-then-is_some.ensures ∙ is_given _)

pub returns-else-is_some : goal.returns-else-is_some
returns-else-is_some c =
    one_missing _ _ c.count_of.result _ c.count_of.ensures c.if-count_of-lt2.false c.requires _ (c.is_some.ensures ∙ is_given _) c.if-is_some.false
