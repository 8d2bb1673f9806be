-- `rows::clause::covers` meets its contract: the union of two words is empty exactly where both are.
use mathlib.Core.Path.{ap₂, ◌∙◌}
use mathlib.Core.Bool.{◌&&◌}
use Prim.Native.Nat.{ℕ}
use lib.Bits.{bit_or}
use Rattle.words.specs.Words.{is_zero}
use Rattle.words.proofs.Sets.{is_zero_test}
use Rattle.words.proofs.Unions.{or_empty}
use Rattle.steps.specs.Merge.{covers}
use Rattle.rows.proofs.clause.covers.Goals as goal

pub returns : goal.returns
unfolding covers
returns c =
    let p = c.minus.result in
    let q = c.minus-2.result in
    is_zero_test (bit_or p q) ∙ or_empty p q ∙ ap₂ (λ (x y : ℕ). is_zero x && is_zero y) c.minus.ensures c.minus-2.ensures
