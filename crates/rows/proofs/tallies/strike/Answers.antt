-- `rows::tallies::strike` meets its contract: a walk over the blocks, a turn of which adds the clauses that name w to the struck ones.
use mathlib.Core.Path.{◌≡◌, sym, ap, ◌∙◌}
use Prim.Native.Nat.{ℕ, ◌^◌}
use native.Mathlib.Omega.{arith}
use borrow.Author.Count.{below_none}
use borrow.Author.Tests.{eqb-true, not-false}
use lib.Count.{count_trailing_zeros}
use lib.Dec.{eqb}
use Rattle.rows.specs.Tally.{Variable}
use Rattle.rows.proofs.Walks.{begins, ends, number_is, variable_below}
use Rattle.rows.proofs.Strikes.{strikes, apart_more}
use Rattle.rows.proofs.tallies.strike.Goals as goal

-- w is the word of the variable of its number
word : {w v : ℕ} → v ≡ count_trailing_zeros 64 w → Variable w → w ≡ 2 ^ v
word e x = x.word ∙ ap (λ (v : ℕ). 2 ^ v) (sym (number_is e x x.word))

pub loop-j-init : goal.loop-j-init
loop-j-init c = (begins _, λ e. below_none _)

pub word-named-requires : goal.word-named-requires
word-named-requires c = (omega arith, omega (arith, variable_below c.lowest_var-v.ensures c.requires.1))

pub loop-j-preserved : goal.loop-j-preserved
loop-j-preserved c =
    let walk = c.loop-j.invariant.0 in
    let below = variable_below c.lowest_var-v.ensures c.requires.1 in (
      strikes _ _ (word c.lowest_var-v.ensures c.requires.1) below walk (rw (c.word-in-loop-j.ensures, c.word-in-loop-j-2.ensures, c.word-named.ensures) at c.put_rows.ensures),
      λ e. apart_more _ c.loop-j.gone (omega (arith, below)) walk c.loop-j.invariant.1 (rw (c.word.ensures, c.word-named.ensures) at e),
    )

pub returns : goal.returns
returns c =
    let at = c.loop-j in (
      λ t a k. ends t _ a a k _ at.invariant.0 (omega arith) (λ j below right x. right t a k x),
      record {
        none =
            λ r v is i below.
            rw (← number_is c.lowest_var-v.ensures c.requires.1 is)
            (at.invariant.1 (eqb-true at.gone 0 (not-false (eqb at.gone 0) r)) i (omega arith));
      },
    )
