-- `rows::tally::is_falsified` meets its contract: the word is 0 exactly where no literal is undecided and no decision satisfies the clause.
use mathlib.Core.Path.{◌≡◌, sym, ◌∙◌}
use mathlib.Core.Bool.{◌&&◌}
use Prim.Native.Nat.{ℕ, zero, suc, ◌+◌, ◌*◌}
use native.Mathlib.Omega.{arith}
use borrow.Author.Tests.{eq-eqb, ne_eqb}
use lib.Count.{ones}
use lib.Dec.{eqb}
use Rattle.words.specs.Words.{is_zero}
use Rattle.steps.specs.Clause.{keepers, undecided_in}
use Rattle.steps.specs.Tally.{tally_of}
use Rattle.steps.proofs.Tally.{by_tally}
use Rattle.rows.proofs.tally.is_falsified.Goals as goal

nothing : (undecided kept x : ℕ) → x ≡ 2 * kept + 256 * undecided → eqb x 0 ≡ (is_zero undecided && is_zero kept)
nothing zero zero x e = eq-eqb x 0 (omega arith)
nothing zero (suc n) x e = ne_eqb x 0 (λ z. omega arith)
nothing (suc u) n x e = ne_eqb x 0 (λ z. omega arith)

pub returns : goal.returns
unfolding tally_of
returns c a d counted = nothing (undecided_in a d) (ones (keepers a d)) c.args.x counted ∙ sym (by_tally.broken a 0 d)
