-- Steps 2 to 5 leave a point with its shape, and branch over a live variable. Where all undecided variables are struck by a falsified clause some
-- were live, so the set grows. A unit clause names no variable with both signs, so its undecided literals are as many as its undecided variables:
-- one, which is not redundant since the clause names no redundant one.
use mathlib.Core.Path.{◌≡◌, refl, ◌∙◌}
use mathlib.Core.Bool.{Bool, true, false, not, ◌&&◌}
use mathlib.Core.Option.{Option, some, none}
use Prim.Native.Nat.{ℕ, ◌^◌}
use lib.Bits.{bit_and}
use lib.Count.{ones}
use lib.Dec.{eqb}
use borrow.Author.Tests.{eqb-true, not-true}
use Rattle.words.specs.Words.{is_zero, has, minus, first_vars}
use Rattle.words.proofs.Truth.{both_ways, refuted, and_left, and_right}
use Rattle.words.proofs.Membership.{has_bit}
use Rattle.words.proofs.Sets.{and_within_r, meets_false, meets_false_intro, minus_within, some_member, within_refl, in_minus, minus_out, minus_or}
use Rattle.words.proofs.Lowest.{lowest_is}
use Rattle.words.proofs.Count.{ones_one, ones_disjoint}
use Rattle.steps.specs.Lists.{find, any}
use Rattle.steps.specs.Clause.{Clause, vars, Assignment, satisfied, falsified, names, undecided_in}
use Rattle.steps.specs.State.{Env, State, undecided, redundant, live, append_falsified}
use Rattle.steps.specs.Sweep.{sweep}
use Rattle.steps.specs.Enter.{unit, choose, swept, falsified_naming, conflict, enter}
use Rattle.steps.specs.Shape.{Proper, Shape, OneOf, TurnShape}
use Rattle.steps.proofs.ListLaws.{find_some}
use Rattle.steps.proofs.ShapeKeep.{last_recorded, live_undecided, live_not_redundant, another, shape_append}
use Rattle.steps.proofs.ShapeSweep.{shape_sweep}

-- where a variable is live, all undecided ones may be struck by a clause
pub shape_falsified : (e : Env) (a : Assignment) (c : Clause) (s : State) (k : ℕ) → has (live e a s) k ≡ true → Shape e a s → Shape e a (append_falsified e a c s)
shape_falsified e a c s k alive h =
    shape_append
    e
    a
    (bit_and (vars c) a.decided)
    (undecided e a)
    s
    h
    (and_within_r (vars c) a.decided)
    (within_refl (undecided e a))
    (last_recorded e a s h).off
    (another (redundant s) (undecided e a) k (live_not_redundant e a s k alive) (live_undecided e a s k alive))

-- a proper clause has as many undecided literals as undecided variables
undecided_vars : (n : ℕ) (a : Assignment) (c : Clause) → Proper n c → ones (minus (vars c) a.decided) ≡ undecided_in a c
unfolding vars undecided_in
undecided_vars n a c p =
    rw
    (minus_or c.pos c.neg a.decided)
    (ones_disjoint
    (minus c.pos a.decided)
    (minus c.neg a.decided)
    (meets_false_intro (minus c.pos a.decided) (minus c.neg a.decided) (λ k h. apart k (minus_within c.pos a.decided k h))))
  where
    apart : (k : ℕ) → has c.pos k ≡ true → has (minus c.neg a.decided) k ≡ false
    apart k h =
        refuted (has (minus c.neg a.decided) k) (λ g. both_ways (has c.neg k) (minus_within c.neg a.decided k g) (meets_false c.pos c.neg p.consistent k h))

-- the one undecided variable of a clause that names no redundant one is live
one_live :
    (e : Env) (a : Assignment) (s : State) (c : Clause) (k : ℕ) → Proper e.n c → names (redundant s) c ≡ false → minus (vars c) a.decided ≡ 2 ^ k →
    OneOf (minus (vars c) a.decided) (live e a s)
unfolding live undecided names
one_live e a s c k p unnamed word =
    let there : has (minus (vars c) a.decided) k ≡ true = rw word (has_bit k) in
    let named = minus_within (vars c) a.decided k there in
    record {
      var = k;
      word = word;
      member =
          in_minus
          (minus (first_vars e.n) a.decided)
          (redundant s)
          k
          (in_minus (first_vars e.n) a.decided k (p.named k named) (minus_out (vars c) a.decided k there))
          (meets_false (vars c) (redundant s) unnamed k named);
    }

-- so the undecided variable of a unit clause is
pub unit_live :
    (e : Env) (a : Assignment) (s : State) (c : Clause) → Proper e.n c → unit a (redundant s) c ≡ true →
    OneOf (minus (vars c) a.decided) (live e a s)
unfolding unit
unit_live e a s c p u =
    let unnamed = not (names (redundant s) c) in
    let single = eqb (undecided_in a c) 1 in
    let two = and_right (not (satisfied a c)) (unnamed && single) u in
    let one = ones_one (minus (vars c) a.decided) (undecided_vars e.n a c p ∙ eqb-true (undecided_in a c) 1 (and_right unnamed single two)) in
    one_live e a s c one.0 p (not-true (names (redundant s) c) (and_left unnamed single two)) one.1

-- step 5 branches over a live variable
shape_choose :
    (e : Env) (a : Assignment) (s : State) → Shape e a s → is_zero (live e a s) ≡ false → (o : Option Clause) → find (unit a (redundant s)) s.table ≡ o →
    TurnShape e a (choose e a s o)
shape_choose e a s h z none f =
    let low = lowest_is (live e a s) z in
    (h, record { var = low.0; word = low.1; member = low.2 })
shape_choose e a s h z (some c) f =
    let found = find_some (unit a (redundant s)) s.table c f in
    (h, unit_live e a s c (h.clauses c found.0) found.1)

-- steps 4 and 5
pub shape_swept : (e : Env) (a : Assignment) (s : State) → Shape e a s → TurnShape e a (swept e a s)
unfolding swept
shape_swept e a s h = go (is_zero (live e a s)) refl (any (falsified a) s.table) refl
  where
    go : (z : Bool) → is_zero (live e a s) ≡ z → (f : Bool) → any (falsified a) s.table ≡ f → TurnShape e a (swept e a s)
    go true z true f = rw (z, f, swept) h
    go true z false f = rw (z, f, swept) h
    go false z f g = rw (z, swept) (shape_choose e a s h z (find (unit a (redundant s)) s.table) refl)

-- steps 2 to 5
pub shape_enter : (e : Env) (a : Assignment) (v : ℕ) (s : State) → Shape e a s → TurnShape e a (enter e a v s)
unfolding enter
shape_enter e a v s h = go (falsified_naming v a s.table) (is_zero (live e a s)) refl
  where
    go : (o : Option Clause) (z : Bool) → is_zero (live e a s) ≡ z → TurnShape e a (conflict e a s o)
    go none z f = shape_swept e a (sweep e a e.n s) (shape_sweep e a e.n s h)
    go (some c) true f = rw (f, conflict) h
    go (some c) false f = rw (f, conflict) (let alive = some_member (live e a s) f in shape_falsified e a c s alive.0 alive.1 h)
