-- Coming together leaves a point with its shape. The D-sequents kept name the variable of the branching nowhere, and the join strikes every other
-- undecided variable, so that one is live again and may be struck, by the test or by the resolvent.
use mathlib.Core.Path.{◌≡◌, refl}
use mathlib.Core.Logic.{⊎_elim}
use mathlib.Core.Bool.{Bool, true, false, not}
use mathlib.Core.Option.{Option, some, none}
use Prim.Native.Nat.{ℕ}
use lib.Bits.{bit_or}
use lib.Dec.{eqb, ltb}
use lib.ListN.{length}
use borrow.Author.Tests.{eqb-true, eqb-false}
use Rattle.words.specs.Words.{is_zero, has, minus, meets, first_vars, Within}
use Rattle.words.proofs.Truth.{both_ways, refuted}
use Rattle.words.proofs.Sets.{within_trans, or_within, or_within_l, meets_false, minus_within, in_or, in_minus, minus_out, zero_meets}
use Rattle.steps.specs.Clause.{Clause, vars, Assignment, decide, DSequent, no_dSequent, last, without}
use Rattle.steps.specs.State.{Env, State, undecided, redundant, live, recorded, added}
use Rattle.steps.specs.Sweep.{monotone}
use Rattle.steps.specs.Enter.{falsified_naming}
use Rattle.steps.specs.Merge.{cover, resolvent, settle, learn, resolve, merge_on, join_on, join, merge}
use Rattle.steps.specs.Shape.{Proper, Shape, OneOf, SideShape}
use Rattle.steps.proofs.Places.{decided_more, one_has}
use Rattle.steps.proofs.ShapeLists.{last_has}
use Rattle.steps.proofs.ShapeKeep.{last_recorded, shape_append, shape_added, append_redundant}
use Rattle.steps.proofs.ShapeSweep.{monotone_within, shape_strike}
use Rattle.steps.proofs.ShapeEnter.{shape_falsified}
use Rattle.steps.proofs.Literals.{naming_some}
use Rattle.steps.proofs.Resolvent.{resolvent_proper}
use Rattle.steps.proofs.ShapeSides.{recorded_up, without_member, without_growing}

-- ---- the join

-- after it every undecided variable but the branching's is redundant
pub join_redundant : (e : Env) (a : Assignment) (w r : ℕ) (s : State) → redundant (join e a w r s) ≡ minus (undecided e a) w
unfolding join
join_redundant e a w r s = go (eqb (redundant t) (minus (undecided e a) w)) refl
  where
    t : State
    t = recorded (without w s.records) s

    go : (b : Bool) → eqb (redundant t) (minus (undecided e a) w) ≡ b → redundant (join_on e a w (bit_or r (last s.records).decisions.decided) t) ≡ minus (undecided e a) w
    go true h = rw (h, join_on) (eqb-true (redundant t) (minus (undecided e a) w) h)
    go false h = rw (h, join_on) (append_redundant a (minus (bit_or r (last s.records).decisions.decided) w) (minus (undecided e a) w) t)

-- so the branching's variable is live
pub join_live : (e : Env) (a : Assignment) (w r : ℕ) (s : State) → OneOf w (undecided e a) → OneOf w (live e a (join e a w r s))
unfolding live
join_live e a w r s one =
    record {
      var = one.var;
      word = one.word;
      member =
          rw
          (join_redundant e a w r s)
          (in_minus
          (undecided e a)
          (minus (undecided e a) w)
          one.var
          one.member
          (refuted
          (has (minus (undecided e a) w) one.var)
          (λ h. both_ways (has w one.var) (one_has w (undecided e a) one) (minus_out (undecided e a) w one.var h))));
    }

-- with the variable undecided again and its D-sequents left out the second side's state is a point
shape_back :
    (e : Env) (a : Assignment) (w : ℕ) (b : Bool) (s : State) → Shape e (decide a w b) s → Within a.trues a.decided →
    Shape e a (recorded (without w s.records) s)
shape_back e a w b s h t =
    record {
      trues = t;
      decided =
          within_trans a.decided (bit_or a.decided w) (first_vars e.n) (or_within_l a.decided w) (rw (decided_more a w b) at h.decided);
      clauses = h.clauses;
      records = λ d m. let left = without_member w s.records d m in (recorded_up e a w b d (h.records d left.0) left.1).0;
      growing = without_growing w s.records h.growing;
    }

-- the join leaves a point
pub shape_join :
    (e : Env) (a : Assignment) (w : ℕ) (b : Bool) (r : ℕ) (s : State) → Shape e (decide a w (not b)) s → Within a.trues a.decided →
    Within r (decide a w b).decided → Shape e a (join e a w r s)
unfolding join
shape_join e a w b r s h t on = go (eqb (redundant below) others) refl
  where
    others : ℕ
    others = minus (undecided e a) w

    below : State
    below = recorded (without w s.records) s

    point : Shape e a below
    point = shape_back e a w (not b) s h t

    both : ℕ
    both = bit_or r (last s.records).decisions.decided

    decided_without : (k : ℕ) → has both k ≡ true → has w k ≡ false → has a.decided k ≡ true
    decided_without k m out =
        let two : Within both (bit_or a.decided w) =
        or_within
        r
        (last s.records).decisions.decided
        (bit_or a.decided w)
        (rw (decided_more a w b) at on)
        (rw (decided_more a w (not b)) at (last_recorded e (decide a w (not b)) s h).on) in
        ⊎_elim (λ p. p) (λ p. both_ways (has w k) p out) (in_or a.decided w k (two k m))

    unnamed : meets (redundant below) w ≡ false
    unnamed =
        last_has
        (λ (d : DSequent). meets d.redundant w ≡ false)
        no_dSequent
        below.records
        (zero_meets w)
        (λ d m. let left = without_member w s.records d m in (recorded_up e a w (not b) d (h.records d left.0) left.1).1)

    go : (c : Bool) → eqb (redundant below) others ≡ c → Shape e a (join_on e a w both below)
    go true f = rw (f, join_on) point
    go false f =
        rw
        (f, join_on)
        (shape_append
        e
        a
        (minus both w)
        others
        below
        point
        (λ k m. decided_without k (minus_within both w k m) (minus_out both w k m))
        (minus_within (undecided e a) w)
        (λ k m. in_minus (undecided e a) w k ((last_recorded e a below point).off k m) (meets_false (redundant below) w unnamed k m))
        (eqb-false (redundant below) others f))

-- ---- step 7

-- a falsifying clause ends the run or strikes all undecided variables
shape_settle : (e : Env) (a : Assignment) (c : Clause) (s : State) (k : ℕ) → has (live e a s) k ≡ true → Shape e a s → SideShape e a (settle e a c s)
shape_settle e a c s k alive h = go (is_zero (vars c)) refl
  where
    go : (z : Bool) → is_zero (vars c) ≡ z → SideShape e a (settle e a c s)
    go true f = rw (f, settle) h
    go false f = rw (f, settle) (shape_falsified e a c s k alive h)

-- the resolvent, found in the table or added to it
shape_learn :
    (e : Env) (a : Assignment) (s : State) (c : Clause) (k : ℕ) → has (live e a s) k ≡ true → Shape e a s → Proper e.n c → (o : Option Clause) →
    SideShape e a (learn e a s c o)
unfolding live
shape_learn e a s c k alive h p (some d) = shape_settle e a _ _ k alive h
shape_learn e a s c k alive h p none = go (ltb (length s.table) e.capacity) refl
  where
    go : (z : Bool) → ltb (length s.table) e.capacity ≡ z → SideShape e a (learn e a s c none)
    go true f = rw (f, learn) (shape_settle e a c (added c s) k alive (shape_added e a c s h p))
    go false f = rw (f, learn) h

-- step 7 leaves a point
pub shape_merge :
    (e : Env) (a : Assignment) (w : ℕ) (b : Bool) (r : ℕ) (s : State) → Shape e (decide a w (not b)) s → Within a.trues a.decided →
    Within r (decide a w b).decided → OneOf w (undecided e a) → SideShape e a (merge e a w b r s)
unfolding merge
shape_merge e a w b r s h t on one = go (monotone a j w) refl
  where
    j : State
    j = join e a w r s

    point : Shape e a j
    point = shape_join e a w b r s h t on

    alive : OneOf w (live e a j)
    alive = join_live e a w r s one

    resolved : (c d : Option Clause) → falsified_naming w (decide a w b) j.table ≡ c → falsified_naming w (decide a w (not b)) j.table ≡ d → SideShape e a (resolve e a w j c d)
    resolved none d f g = point
    resolved (some c) none f g = point
    resolved (some c) (some d) f g =
        let first = naming_some w (decide a w b) j.table c f in
        let second = naming_some w (decide a w (not b)) j.table d g in
        shape_learn
        e
        a
        j
        (resolvent w c d)
        alive.var
        alive.member
        point
        (resolvent_proper a w b c d first.1 second.1 e.n (point.clauses c first.0) (point.clauses d second.0))
        (cover (resolvent w c d) j.table)

    go : (o : Option ℕ) → monotone a j w ≡ o → SideShape e a (merge_on e a w b j o)
    go (some x) f = shape_strike e a w x j point alive (monotone_within e a j w x point f)
    go none f = resolved (falsified_naming w (decide a w b) j.table) (falsified_naming w (decide a w (not b)) j.table) refl refl
