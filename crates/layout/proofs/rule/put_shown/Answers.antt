use borrow.Author.Rules.{rules}
use Rattle.layout.proofs.Shown.{begun}
use Rattle.layout.proofs.rule.put_shown.Goals as goal

pub returns : goal.returns
returns c = begun c.show.ensures (λ same. search rules)
