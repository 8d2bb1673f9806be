-- `rows::table::any_falsified` meets its contract. A falsified clause is in play, so the walk passes none.
use Rattle.std.proofs.Common.{rules, tests, refl, ◌≡◌}
use native.Mathlib.Omega.{arith}
use Rattle.steps.specs.Clause.{falsified}
use Rattle.rows.specs.Rows.{clauses, clause_at}
use Rattle.rows.proofs.Chains.{serves, any_is}
use Rattle.rows.proofs.Reading.{falsified_is, falsified_out}
use Rattle.rows.proofs.table.any_falsified.Goals as goal

pub any-requires-clause-callable : goal.any-requires-clause-callable
any-requires-clause-callable c =
    serves _ (λ f. f.0 ≡ c.args.q) (λ f h i is called. search (rules, tests)) (λ f i below is. let room = c.requires in grind (arith, is, room, below)) c.both-playing.ensures.0 refl

pub returns : goal.returns
unfolding clauses
returns c t a k apart tallied =
    any_is (falsified a) (clause_at t) (λ f. f.0 ≡ c.args.q) (falsified_out tallied apart)
    (λ b f h i below here is called. (search (rules, tests), search (rules, tests, falsified_is tallied i below))) c.both-playing.ensures refl c.any.ensures.ran
