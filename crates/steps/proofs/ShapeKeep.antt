-- What keeps the shape of a point: one more D-sequent with a larger set, and one more proper clause.
-- The list's last D-sequent is recorded at the point too, as what the empty list stands for is. So there are never more D-sequents than undecided
-- variables, since each set has a variable more than the one before it.
use mathlib.Core.Path.{◌≡◌, refl, ap}
use mathlib.Core.Logic.{◌≢◌, ⊎_elim}
use mathlib.Core.Bool.{true, false}
use mathlib.Core.List.Memᴰ
use mathlib.Core.List.{List, [], ◌∷◌, ◌++◌}
use Prim.Native.Nat.{ℕ, ◌+◌, ◌≤◌, ◌<◌}
use native.Mathlib.Omega.{arith}
use lib.Count.{ones}
use lib.ListN.{length}
use Rattle.words.specs.Words.{has, minus, first_vars, Within}
use Rattle.words.proofs.Truth.{both_ways, refuted, confirmed}
use Rattle.words.proofs.Sets.{within_zero, within_trans, minus_within, restricted, in_minus, minus_out}
use Rattle.words.proofs.Count.{ones_zero, ones_within, ones_strict, ones_first_of}
use Rattle.steps.specs.Clause.{Clause, Assignment, restrict, DSequent, no_dSequent, last_or, last}
use Rattle.steps.specs.State.{Env, State, undecided, redundant, live, append, added}
use Rattle.steps.specs.Shape.{Proper, AllProper, Recorded, Growing, Shape, OneOf}
use Rattle.steps.proofs.Places.{one_within, one_of_more}
use Rattle.steps.proofs.ShapeLists.{last_has, growing_append, last_append}

-- what the empty list stands for is recorded at every point
none_recorded : (e : Env) (a : Assignment) → Recorded e a no_dSequent
none_recorded e a =
    record { on = within_zero a.decided; values = refl; off = within_zero (undecided e a) }

-- the last D-sequent is recorded
pub last_recorded : (e : Env) (a : Assignment) (s : State) → Shape e a s → Recorded e a (last s.records)
last_recorded e a s h = last_has (Recorded e a) no_dSequent s.records (none_recorded e a) h.records

-- a recorded decision has the point's value
pub recorded_value :
    (e : Env) (a : Assignment) (d : DSequent) → Recorded e a d → (k : ℕ) → has d.decisions.decided k ≡ true → has d.decisions.trues k ≡ has a.trues k
recorded_value e a d h k m = rw h.values (restricted d.decisions.decided a.trues k m)

-- undecided variables are among the n
pub undecided_within : (e : Env) (a : Assignment) → Within (undecided e a) (first_vars e.n)
unfolding undecided
undecided_within e a = minus_within (first_vars e.n) a.decided

-- and not decided
pub undecided_not_decided : (e : Env) (a : Assignment) (k : ℕ) → has (undecided e a) k ≡ true → has a.decided k ≡ false
unfolding undecided
undecided_not_decided e a k h = minus_out (first_vars e.n) a.decided k h

-- nor is a decided variable in the word of an undecided one
pub undecided_free : (e : Env) (a : Assignment) (w : ℕ) → OneOf w (undecided e a) → (k : ℕ) → has a.decided k ≡ true → has w k ≡ false
undecided_free e a w one k d =
    refuted (has w k) (λ h. both_ways (has a.decided k) d (undecided_not_decided e a k (one_within w (undecided e a) one k h)))

-- a variable is decided unless it is undecided
pub decided_unless : (e : Env) (a : Assignment) (k : ℕ) → has (first_vars e.n) k ≡ true → has (undecided e a) k ≡ false → has a.decided k ≡ true
unfolding undecided
decided_unless e a k h n =
    confirmed (has a.decided k)
    (λ o. both_ways (has (minus (first_vars e.n) a.decided) k) (in_minus (first_vars e.n) a.decided k h o) n)

-- a live variable is undecided
pub live_undecided : (e : Env) (a : Assignment) (s : State) (k : ℕ) → has (live e a s) k ≡ true → has (undecided e a) k ≡ true
unfolding live
live_undecided e a s k h = minus_within (undecided e a) (redundant s) k h

-- so the word of a live variable is that of an undecided one
pub live_one : (e : Env) (a : Assignment) (s : State) (w : ℕ) → OneOf w (live e a s) → OneOf w (undecided e a)
live_one e a s w one = one_of_more w (live e a s) (undecided e a) one (live_undecided e a s)

-- nor is it redundant
pub live_not_redundant : (e : Env) (a : Assignment) (s : State) (k : ℕ) → has (live e a s) k ≡ true → has (redundant s) k ≡ false
unfolding live
live_not_redundant e a s k h = minus_out (undecided e a) (redundant s) k h

-- a set that has a variable more is another
pub another : (x y k : ℕ) → has x k ≡ false → has y k ≡ true → x ≢ y
another x y k f t e = both_ways (has y k) t (rw e at f)

-- the set of a D-sequent that was appended is the redundant one
pub append_redundant : (a : Assignment) (r k : ℕ) (s : State) → redundant (append a r k s) ≡ k
append_redundant a r k s =
    ap (λ (d : DSequent). d.redundant) (last_append no_dSequent (record { decisions = restrict a r; redundant = k }) s.records)

-- one more D-sequent, of decisions of the point, with a larger set of undecided variables
pub shape_append :
    (e : Env) (a : Assignment) (r k : ℕ) (s : State) → Shape e a s → Within r a.decided → Within k (undecided e a) → Within (redundant s) k →
    redundant s ≢ k → Shape e a (append a r k s)
shape_append e a r k s h on off more new =
    record {
      trues = h.trues;
      decided = h.decided;
      clauses = h.clauses;
      records =
          λ d m.
          ⊎_elim
          (h.records d)
          (λ m'. let is : d ≡ new_one = Memᴰ.eq_of_singleton m' in rw is (record { on = on; values = refl; off = off }))
          (Memᴰ.append_cases s.records m);
      growing = growing_append no_dSequent new_one s.records h.growing more new;
    }
  where
    new_one : DSequent
    new_one = record { decisions = restrict a r; redundant = k }

-- one more proper clause
pub proper_added : (n : ℕ) (c : Clause) (t : List Clause) → AllProper n t → Proper n c → AllProper n (t ++ (c ∷ []))
proper_added n c t h p d m = ⊎_elim (h d) (λ m'. let is : d ≡ c = Memᴰ.eq_of_singleton m' in rw is p) (Memᴰ.append_cases t m)

pub shape_added : (e : Env) (a : Assignment) (c : Clause) (s : State) → Shape e a s → Proper e.n c → Shape e a (added c s)
shape_added e a c s h p =
    record {
      trues = h.trues;
      decided = h.decided;
      clauses = proper_added e.n c s.table h.clauses p;
      records = h.records;
      growing = h.growing;
    }

-- ---- how many D-sequents there are

-- each is at least one variable more
growing_few : (d : DSequent) (rs : List DSequent) → Growing d.redundant rs → length rs + ones d.redundant ≤ ones (last_or d rs).redundant
growing_few d [] g = omega arith
growing_few d (r ∷ rs) g = omega (arith, growing_few r rs g.2, ones_strict d.redundant r.redundant g.0 g.1)

-- no more than the last set has variables
pub records_few : (e : Env) (a : Assignment) (s : State) → Shape e a s → length s.records ≤ ones (redundant s)
records_few e a s h = omega (arith, growing_few no_dSequent s.records h.growing, ones_zero)

-- sets of undecided variables have at most n members
pub undecided_few : (e : Env) (a : Assignment) (k : ℕ) → Within k (undecided e a) → ones k ≤ e.n
undecided_few e a k h =
    omega (arith, ones_within k (first_vars e.n) (within_trans k (undecided e a) (first_vars e.n) h (undecided_within e a)), ones_first_of e.n)

-- no more than n
pub records_at_most_n : (e : Env) (a : Assignment) (s : State) → Shape e a s → length s.records ≤ e.n
records_at_most_n e a s h = omega (arith, records_few e a s h, undecided_few e a (redundant s) (last_recorded e a s h).off)

-- where one more may be appended there are fewer than n
pub records_below_n :
    (e : Env) (a : Assignment) (k : ℕ) (s : State) → Shape e a s → Within k (undecided e a) → Within (redundant s) k → redundant s ≢ k →
    length s.records < e.n
records_below_n e a k s h off more new = omega (arith, records_few e a s h, ones_strict (redundant s) k more new, undecided_few e a k off)
