-- `rows::state::undecided` meets its contract: there are at most 64 variables, so `first_of` gives the word of all of them.
use mathlib.Core.Path.{◌≡◌, ap, ◌∙◌}
use Prim.Native.Nat.{min}
use native.Mathlib.Omega.{arith}
use Rattle.words.specs.Words.{first_vars, minus}
use Rattle.steps.specs.State.{undecided}
use Rattle.rows.proofs.state.undecided.Goals as goal

pub returns : goal.returns
unfolding undecided
returns c =
    let few : min c.args.e.vars 64 ≡ c.args.e.vars = omega (arith, c.requires) in
    c.minus.ensures ∙ ap (λ x. minus x c.args.a.decided) (c.first_of.ensures ∙ ap first_vars few)
