-- `rows::table::unit_clause` meets its contract. A unit is in play, so the walk passes none, and of a clause in play its counts say whether it is one.
use mathlib.Core.Path.{◌≡◌, sym, ap, ◌∙◌}
use mathlib.Core.Bool.{Bool, ◌&&◌, and_self}
use mathlib.Core.List.{List}
use mathlib.Core.Option.{some}
use Prim.Native.Nat.{ℕ, ◌<◌}
use native.Mathlib.Omega.{arith}
use lib.Count.{ones}
use Rattle.std.proofs.Common.{rules, tests, refl}
use Rattle.std.specs.Prelude.{Some, None}
use Rattle.steps.specs.Clause.{Assignment, keepers}
use Rattle.steps.specs.Enter.{unit}
use Rattle.rows.specs.Values.{found_of}
use Rattle.rows.specs.Rows.{clause_at, clauses}
use Rattle.rows.specs.Index.{count_of, is_in, playing}
use Rattle.rows.specs.Tally.{is_single, Tallied}
use Rattle.rows.proofs.Chains.{serves, comes_below, find_is}
use Rattle.rows.proofs.Counts.{few_at}
use Rattle.rows.proofs.Reading.{single_is}
use Rattle.rows.proofs.table.unit_clause.Goals as goal

-- a clause passes the test where it is in the walk's rows and its counts say so
unit-is : {t q : List ℕ} {m : ℕ} {a : Assignment} {k : ℕ} {b : Bool}
    → Tallied t q m a k
    → ((i : ℕ) → ones (keepers a (clause_at t i)) < 128)
    → (i : ℕ) → i < m → (is_in q playing i && is_in q playing i) ≡ b → unit a k (clause_at t i) ≡ (b && is_single (count_of q i))
unit-is {t} {q} x few i h e =
    sym (single_is x i h (few i)) ∙ ap (λ (p : Bool). p && is_single (count_of q i)) (sym (and_self (is_in q playing i)) ∙ e)

pub find-requires-clause-callable : goal.find-requires-clause-callable
find-requires-clause-callable c =
    serves _ (λ f. f.0 ≡ c.args.q) (λ f h i is called. search (rules, tests)) (λ f i below is. let room = c.requires.1 in grind (arith, is, room, below)) c.both-playing.ensures.0 refl

pub clause_at-requires : goal.clause_at-requires
clause_at-requires c =
    let ran = c.in_ok-i.ensures.ran in
    let below = comes_below ran.0 _ ran.2.0 _ _ c.both-playing.ensures.0 ran.2.1 ran.2.2 in
    let room = c.requires.0 in
    omega (arith, below, room)

pub returns-in_err-i : goal.returns-in_err-i
unfolding clauses
returns-in_err-i c a k tallied =
    let few = few_at c.args.t.now (λ j. (c.type_inv.t j).fits) a in
    let found =
    find_is (unit a k) (clause_at c.args.t.now) (λ f. f.0 ≡ c.args.q) (unit-is tallied few)
    (λ b f h i below here is called. (search (rules, tests), unit-is tallied few i below here ∙ search (rules, tests))) c.find.new.self None c.both-playing.ensures refl c.in_err-i.ensures.ran in
    ap found_of c.from_residual.ensures ∙ sym found

pub returns : goal.returns
unfolding clauses
returns c a k tallied =
    let few = few_at c.args.t.now (λ j. (c.type_inv.t j).fits) a in
    let found =
    find_is (unit a k) (clause_at c.args.t.now) (λ f. f.0 ≡ c.args.q) (unit-is tallied few)
    (λ b f h i below here is called. (search (rules, tests), unit-is tallied few i below here ∙ search (rules, tests))) c.find.new.self (Some c.in_ok-i.i) c.both-playing.ensures refl c.in_ok-i.ensures.ran in
    ap some c.clause_at.ensures ∙ sym found.1
