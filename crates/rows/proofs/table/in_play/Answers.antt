-- `rows::table::in_play` meets its contract. The row of the clauses in play has those that are not inactive, and a clause with the literal is in the row of its variable: the walk
-- passes none.
use mathlib.Core.Path.{◌≡◌, sym, ap, ◌∙◌}
use mathlib.Core.Bool.{Bool, true, false, not, ◌&&◌}
use mathlib.Core.List.{List}
use mathlib.Core.Option.{some}
use Prim.Native.Nat.{ℕ, ◌<◌}
use Rattle.std.proofs.Common.{rules, tests, refl}
use Rattle.std.specs.Prelude.{Some, None}
use native.Mathlib.Omega.{arith}
use lib.Count.{ones, count_trailing_zeros}
use Rattle.words.specs.Words.{meets}
use Rattle.words.proofs.Truth.{both_ways, refuted, and_both, and_left, and_right}
use Rattle.steps.specs.Clause.{literals, Assignment, keepers, inactive}
use Rattle.steps.specs.Notes.{in_play}
use Rattle.rows.specs.Values.{found_of}
use Rattle.rows.specs.Rows.{clause_at, clauses}
use Rattle.rows.specs.Index.{is_in, playing, naming}
use Rattle.rows.specs.Tally.{Tallied, Variable}
use Rattle.rows.proofs.Chains.{serves, comes_below, find_is}
use Rattle.rows.proofs.Counts.{few_at}
use Rattle.rows.proofs.Reading.{literal_named, named_is, playing_is}
use Rattle.rows.proofs.Walks.{variable_below}
use Rattle.rows.proofs.table.in_play.Goals as goal

-- a clause that the walk passes is not in play with the literal
in-play-out : {t q : List ℕ} {m : ℕ} {a : Assignment} {k : ℕ} (sign : Bool) {w v : ℕ}
    → v ≡ count_trailing_zeros 64 w
    → Variable w
    → Tallied t q m a k
    → ((i : ℕ) → ones (keepers a (clause_at t i)) < 128)
    → (i : ℕ) → i < m → (is_in q playing i && is_in q (naming v) i) ≡ false → in_play (record { var = w; sign = sign }) a k (clause_at t i) ≡ false
in-play-out {t} {q} {m} {a} {k} sign {w} {v} is var x few i h out =
    let c = clause_at t i in
    let test : Bool = in_play (record { var = w; sign = sign }) a k c in
    refuted test
    (λ p.
    both_ways (is_in q playing i && is_in q (naming v) i)
    (and_both _ _
    (playing_is x i h (few i) ∙ and_left (not (inactive a k c)) (meets (literals sign c) w) p)
    (named_is x i h v (variable_below is var) ∙ literal_named sign c is var (and_right (not (inactive a k c)) (meets (literals sign c) w) p)))
    out)

-- in play, the test is that of the literal
is-met : {p r b : Bool} → p ≡ true → r ≡ b → (p && r) ≡ b
is-met e h = rw e h

pub both-naming-requires : goal.both-naming-requires
both-naming-requires c = (c.requires.1, omega arith, omega (arith, variable_below c.lowest_var-number.ensures c.requires.2))

pub find-requires-clause-callable : goal.find-requires-clause-callable
find-requires-clause-callable c =
    serves _ (λ f. (f.0 ≡ c.args.t) × (f.1.now ≡ c.args.sign) × (f.2.now ≡ c.args.v)) (λ f h i is called. search (rules, tests)) (λ f i below is. let rooms = c.requires in grind (arith, is, rooms, below)) c.both-naming.ensures.0 (refl, refl, refl)

pub clause_at-requires : goal.clause_at-requires
clause_at-requires c =
    let ran = c.in_ok-i.ensures.ran in
    let below = comes_below ran.0 _ ran.2.0 _ _ c.both-naming.ensures.0 ran.2.1 ran.2.2 in
    let room = c.requires.0 in
    omega (arith, below, room)

pub returns-in_err-i : goal.returns-in_err-i
unfolding clauses
returns-in_err-i c a k tallied =
    let found =
    find_is (in_play (record { var = c.args.v; sign = c.args.sign }) a k) (clause_at c.args.t.now) (λ f. (f.0 ≡ c.args.t) × (f.1.now ≡ c.args.sign) × (f.2.now ≡ c.args.v)) (in-play-out c.args.sign c.lowest_var-number.ensures c.requires.2 tallied (few_at c.args.t.now (λ j. (c.type_inv.t j).fits) a))
    (λ b f h i below here is called. (search (rules, tests), is-met (sym (playing_is tallied i below (few_at c.args.t.now (λ j. (c.type_inv.t j).fits) a i)) ∙ and_left _ _ here) (search (rules, tests)))) c.find.new.self None c.both-naming.ensures (refl, refl, refl) c.in_err-i.ensures.ran in
    ap found_of c.from_residual.ensures ∙ sym found

pub returns : goal.returns
unfolding clauses
returns c a k tallied =
    let found =
    find_is (in_play (record { var = c.args.v; sign = c.args.sign }) a k) (clause_at c.args.t.now) (λ f. (f.0 ≡ c.args.t) × (f.1.now ≡ c.args.sign) × (f.2.now ≡ c.args.v)) (in-play-out c.args.sign c.lowest_var-number.ensures c.requires.2 tallied (few_at c.args.t.now (λ j. (c.type_inv.t j).fits) a))
    (λ b f h i below here is called. (search (rules, tests), is-met (sym (playing_is tallied i below (few_at c.args.t.now (λ j. (c.type_inv.t j).fits) a i)) ∙ and_left _ _ here) (search (rules, tests)))) c.find.new.self (Some c.in_ok-i.i) c.both-naming.ensures (refl, refl, refl) c.in_ok-i.ensures.ran in
    ap some c.clause_at.ensures ∙ sym found.1
