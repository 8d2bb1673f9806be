-- `rows::table::falsified_naming` meets its contract. A falsified clause is in play, so the walk passes none.
use mathlib.Core.Path.{◌≡◌, sym, ap, ◌∙◌}
use mathlib.Core.Bool.{false, ◌&&◌, and-false}
use mathlib.Core.Option.{some}
use Prim.Native.Nat.{ℕ}
use native.Mathlib.Nat.{le_refl}
use native.Mathlib.Omega.{arith}
use Rattle.std.proofs.Common.{rules, tests, refl}
use Rattle.std.specs.Prelude.{Some, None}
use Rattle.words.proofs.Sets.{meets_zero}
use Rattle.steps.specs.Clause.{Clause, Assignment, vars, falsified, names}
use Rattle.steps.specs.Enter.{falsified_naming}
use Rattle.rows.specs.Values.{found_of}
use Rattle.rows.specs.Rows.{clause_at, clauses}
use Rattle.rows.proofs.Chains.{serves, comes_below, find_is}
use Rattle.rows.proofs.Lists.{find_none}
use Rattle.rows.proofs.Reading.{falsified_is, falsified_out}
use Rattle.rows.proofs.table.falsified_naming.Goals as goal

-- a clause that does not name v fails the two tests
unnamed : (v : ℕ) (a : Assignment) (c : Clause) → names v c ≡ false → (names v c && falsified a c) ≡ false
unnamed v a c h = rw h

-- and so does one that is not falsified
whole : (v : ℕ) (a : Assignment) (c : Clause) → falsified a c ≡ false → (names v c && falsified a c) ≡ false
whole v a c h = rw h (and-false (names v c))

-- no clause names the empty word
names-nothing : (v : ℕ) (c : Clause) → v ≡ 0 → names v c ≡ false
unfolding names
names-nothing v c h = rw h (meets_zero (vars c))

pub returns-then-v-eq0 : goal.returns-then-v-eq0
unfolding clauses falsified_naming
returns-then-v-eq0 c a k apart tallied =
    let g = c.args in
    sym (find_none _ _ g.m g.m (le_refl g.m) (λ j l below. unnamed g.v a (clause_at g.t.now j) (names-nothing g.v (clause_at g.t.now j) c.if-v-eq0.true)))

pub find-requires-clause-callable : goal.find-requires-clause-callable
find-requires-clause-callable c =
    serves _ (λ f. (f.0 ≡ c.args.q) × (f.1.now ≡ c.args.v) × (f.2 ≡ c.args.t)) (λ f h i is called. search (rules, tests)) (λ f i below is. let rooms = c.requires in grind (arith, is, rooms, below)) c.both-playing.ensures.0 (refl, refl, refl)

pub clause_at-requires : goal.clause_at-requires
clause_at-requires c =
    let ran = c.in_ok-i.ensures.ran in
    let below = comes_below ran.0 _ ran.2.0 _ _ c.both-playing.ensures.0 ran.2.1 ran.2.2 in
    let room = c.requires.0 in
    omega (arith, below, room)

pub returns-in_err-i : goal.returns-in_err-i
unfolding clauses falsified_naming
returns-in_err-i c a k apart tallied =
    let found =
    find_is (λ d. names c.args.v d && falsified a d) (clause_at c.args.t.now) (λ f. (f.0 ≡ c.args.q) × (f.1.now ≡ c.args.v) × (f.2 ≡ c.args.t)) (λ i h e. whole _ a _ (falsified_out tallied apart i h e))
    (λ b f h i below here is called. (search (rules, tests), search (rules, tests, falsified_is tallied i below, unnamed c.args.v a (clause_at c.args.t.now i), whole c.args.v a (clause_at c.args.t.now i)))) c.find.new.self None c.both-playing.ensures (refl, refl, refl) c.in_err-i.ensures.ran in
    ap found_of c.from_residual.ensures ∙ sym found

pub returns : goal.returns
unfolding clauses falsified_naming
returns c a k apart tallied =
    let found =
    find_is (λ d. names c.args.v d && falsified a d) (clause_at c.args.t.now) (λ f. (f.0 ≡ c.args.q) × (f.1.now ≡ c.args.v) × (f.2 ≡ c.args.t)) (λ i h e. whole _ a _ (falsified_out tallied apart i h e))
    (λ b f h i below here is called. (search (rules, tests), search (rules, tests, falsified_is tallied i below, unnamed c.args.v a (clause_at c.args.t.now i), whole c.args.v a (clause_at c.args.t.now i)))) c.find.new.self (Some c.in_ok-i.i) c.both-playing.ensures (refl, refl, refl) c.in_ok-i.ensures.ran in
    ap some c.clause_at.ensures ∙ sym found.1
