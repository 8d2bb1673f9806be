-- `rows::table::cover` meets its contract. A clause that covers one that is falsified is falsified, and so in play: the walk passes none.
use mathlib.Core.Path.{◌≡◌, sym, ap, ◌∙◌}
use mathlib.Core.Bool.{true, false}
use mathlib.Core.Option.{some}
use native.Mathlib.Omega.{arith}
use Rattle.std.proofs.Common.{rules, tests, refl}
use Rattle.std.specs.Prelude.{Some, None}
use Rattle.words.proofs.Truth.{both_ways, refuted}
use Rattle.steps.specs.Clause.{Clause, Assignment, falsified}
use Rattle.steps.specs.Merge.{covers}
use Rattle.steps.proofs.Literals.{falsified_true, true_falsified}
use Rattle.steps.proofs.Covers.{covers_falsified}
use Rattle.rows.specs.Values.{clause_of, found_of}
use Rattle.rows.specs.Rows.{clause_at, clauses}
use Rattle.rows.proofs.Chains.{serves, comes_below, find_is}
use Rattle.rows.proofs.Reading.{falsified_is, falsified_out}
use Rattle.rows.proofs.table.cover.Goals as goal

-- a clause that is not falsified does not cover one that is
whole : (a : Assignment) (c d : Clause) → falsified a c ≡ true → falsified a d ≡ false → covers d c ≡ false
whole a c d f h = refuted (covers d c) (λ o. both_ways (falsified a d) (true_falsified a d (covers_falsified a d c o (falsified_true a c f))) h)

pub find-requires-clause-callable : goal.find-requires-clause-callable
find-requires-clause-callable c =
    serves _ (λ f. (f.0 ≡ c.args.q) × (f.1 ≡ c.args.t) × (f.2.now ≡ c.args.c)) (λ f h i is called. search (rules, tests)) (λ f i below is. let rooms = c.requires in grind (arith, is, rooms, below)) c.both-playing.ensures.0 (refl, refl, refl)

pub clause_at-requires : goal.clause_at-requires
clause_at-requires c =
    let ran = c.in_ok-i.ensures.ran in
    let below = comes_below ran.0 _ ran.2.0 _ _ c.both-playing.ensures.0 ran.2.1 ran.2.2 in
    let room = c.requires.0 in
    omega (arith, below, room)

pub returns-in_err-i : goal.returns-in_err-i
unfolding clauses
returns-in_err-i c a k apart broken tallied =
    let found =
    find_is (λ d. covers d (clause_of c.args.c)) (clause_at c.args.t.now) (λ f. (f.0 ≡ c.args.q) × (f.1 ≡ c.args.t) × (f.2.now ≡ c.args.c)) (λ i h e. whole a _ _ broken (falsified_out tallied apart i h e))
    (λ b f h i below here is called. (search (rules, tests), search (rules, tests, falsified_is tallied i below, whole a (clause_of c.args.c) (clause_at c.args.t.now i) broken))) c.find.new.self None c.both-playing.ensures (refl, refl, refl) c.in_err-i.ensures.ran in
    ap found_of c.from_residual.ensures ∙ sym found

pub returns : goal.returns
unfolding clauses
returns c a k apart broken tallied =
    let found =
    find_is (λ d. covers d (clause_of c.args.c)) (clause_at c.args.t.now) (λ f. (f.0 ≡ c.args.q) × (f.1 ≡ c.args.t) × (f.2.now ≡ c.args.c)) (λ i h e. whole a _ _ broken (falsified_out tallied apart i h e))
    (λ b f h i below here is called. (search (rules, tests), search (rules, tests, falsified_is tallied i below, whole a (clause_of c.args.c) (clause_at c.args.t.now i) broken))) c.find.new.self (Some c.in_ok-i.i) c.both-playing.ensures (refl, refl, refl) c.in_ok-i.ensures.ran in
    ap some c.clause_at.ensures ∙ sym found.1
