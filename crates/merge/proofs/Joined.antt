-- Step 7 as the engine's functions build it. The join is the kept list, or that list with one D-sequent more, by the test on the last set, and step 7
-- is what comes of the test on the joined state. A list of growing sets has at most as many D-sequents as its last set has variables. So the second
-- side's list and the joined one, neither of which strikes the variable of the branching, have fewer than there are variables: there is room for one more.
-- The test is by the clauses in play with the variable's two literals, and where there are both they are the clauses that the two sides falsify.
use mathlib.Core.Path.{◌≡◌, refl, sym, ap, ap₂, subst, subst⁻¹, ◌∙◌}
use mathlib.Core.Bool.{Bool, true, false, not}
use mathlib.Core.List.{List}
use mathlib.Core.Option.{Option, some, none}
use Prim.Native.Nat.{ℕ, ◌+◌, ◌≤◌, ◌<◌}
use native.Mathlib.Omega.{arith}
use lib.Bits.{bit_or, or_comm}
use lib.Count.{ones}
use lib.Dec.{eqb}
use lib.ListN.{length}
use borrow.Author.Tests.{eq-eqb, ne_eqb, ltb-true}
use Rattle.words.specs.Words.{minus, meets, Within}
use Rattle.words.proofs.Membership.{has_first_vars}
use Rattle.words.proofs.Sets.{minus_within, meets_false_intro}
use Rattle.words.proofs.Count.{ones_within}
use Rattle.steps.specs.Lists.{find, or_else}
use Rattle.steps.specs.Clause.{Clause, Assignment, DSequent, decide, falsified, last, without}
use Rattle.steps.specs.State.{Env, State, Side, Side.up, undecided, redundant, recorded, append}
use Rattle.steps.specs.Notes.{in_play, gather}
use Rattle.steps.specs.Sweep.{inactive_by, monotone, strike}
use Rattle.steps.specs.Enter.{falsified_naming}
use Rattle.steps.specs.Merge.{join_on, join, cover, resolvent, learn, resolve, merge_on, merge}
use Rattle.steps.specs.Shape.{Shape, OneOf}
use Rattle.steps.specs.Demands.{Free}
use Rattle.steps.proofs.Notes.{none_in_play, some_in_play}
use Rattle.steps.proofs.Literals.{true_falsified, naming_some}
use Rattle.steps.proofs.Resolvent.{resolvent_falsified}
use Rattle.steps.proofs.Parents.{parent_found}
use Rattle.steps.proofs.ShapeKeep.{last_recorded, records_few, undecided_within, undecided_not_decided}
use Rattle.steps.proofs.ShapeSides.{undecided_fewer}
use Rattle.steps.proofs.ShapeMerge.{shape_join, join_redundant}
use Rattle.steps.proofs.Nesting.{undecided_one_fewer, undecided_at_most_n}
use Rattle.rows.specs.Values.{assignment_of, env_of, sequent_of}
use Rattle.rows.specs.Rows.{clause_words, sequents, state_of, sequent_words}
use Rattle.rows.specs.Tally.{Tallied, Variable}
use Rattle.sweep.specs.Sweep.{Striking}
use Rattle.merge.specs.Needs.{AllButOne, Mergeable}
use Rattle.rows.specs.declared.clause.Assignment as work
use Rattle.rows.specs.declared.records.DSequent as records
use Rattle.rows.specs.declared.state.Counts.{Counts}
use Rattle.rows.specs.declared.state.Env as limits
use Rattle.words.proofs.Truth.{when_true, when_false}
use Rattle.rows.proofs.Tables.{as_many, sequents_length}

-- ---- the variable of the branching

-- it is one of the 64
abbrev pub branched_variable : (e : limits.Env) (a : work.Assignment) (v : ℕ) → e.vars ≤ 64 → OneOf v (undecided (env_of e) (assignment_of a)) → Variable v
branched_variable e a v few one =
    let named = undecided_within (env_of e) (assignment_of a) one.var one.member in
    let below = ltb-true one.var e.vars (sym (has_first_vars e.vars one.var) ∙ named) in
    record { var = one.var; word = one.word; below = omega (arith, below, few) }

-- not decided
pub branched_free : (e : Env) (a : Assignment) (v : ℕ) (one : OneOf v (undecided e a)) → Within a.trues a.decided → Free one.var a
branched_free e a v one trues = record { undecided = undecided_not_decided e a one.var one.member; trues = trues }

-- where all others are struck, none of these is decided
pub struck_apart : {t q rs : List ℕ} {e : limits.Env} {a : work.Assignment} {v : ℕ} {s : Counts} → AllButOne t q rs e a v s →
    meets (redundant (state_of t rs s)) a.decided ≡ false
struck_apart {t} {q} {rs} {e} {a} {v} {s} x =
    ap (λ (k : ℕ). meets k a.decided) x.others
    ∙ meets_false_intro _ a.decided (λ k h. undecided_not_decided (env_of e) (assignment_of a) k (minus_within (undecided (env_of e) (assignment_of a)) v k h))

-- and it can be struck, by either literal. d is the last D-sequent
pub strikes : {t q rs : List ℕ} {e : limits.Env} {a : work.Assignment} {v : ℕ} {s : Counts} {b : Bool} {d : records.DSequent}
    → AllButOne t q rs e a v s
    → sequent_of d ≡ last (sequents rs s.records)
    → Striking t q rs (record { var = v; sign = b }) (assignment_of a) d s
strikes {e = e} {a} {v} x is =
    record {
      variable = branched_variable e a v x.vars x.branched;
      table = x.table;
      next = x.next;
      last = is;
      tallied = x.tallied;
    }

-- ---- the join

-- the join where the kept list strikes every undecided variable but v
pub join_kept : (e : Env) (a : Assignment) (v r : ℕ) (s : State) (kept : List DSequent)
    → kept ≡ without v s.records
    → (last kept).redundant ≡ minus (undecided e a) v
    → recorded kept s ≡ join e a v r s
unfolding join
join_kept e a v r s kept is all =
    ap (λ (l : List DSequent). recorded l s) is
    ∙ sym (when_true (eqb (last (without v s.records)).redundant (minus (undecided e a) v)) _ _ (eq-eqb _ _ (rw is at all)))

-- and where it does not
pub join_one_more : (e : Env) (a : Assignment) (v r : ℕ) (s : State) (kept : List DSequent)
    → kept ≡ without v s.records
    → ((last kept).redundant ≡ minus (undecided e a) v → ⊥)
    → append a (minus (bit_or r (last s.records).decisions.decided) v) (minus (undecided e a) v) (recorded kept s) ≡ join e a v r s
unfolding join
join_one_more e a v r s kept is some_left =
    ap
    (λ (l : List DSequent). append a (minus (bit_or r (last s.records).decisions.decided) v) (minus (undecided e a) v) (recorded l s))
    is
    ∙ sym (when_false (eqb (last (without v s.records)).redundant (minus (undecided e a) v)) _ _ (ne_eqb _ _ (rw is at some_left)))

-- the join leaves the table as it is
join_table : (e : Env) (a : Assignment) (v r : ℕ) (s : State) → (join e a v r s).table ≡ s.table
unfolding join
join_table e a v r s = go (eqb (last (without v s.records)).redundant (minus (undecided e a) v)) refl
  where
    go : (b : Bool) → eqb (last (without v s.records)).redundant (minus (undecided e a) v) ≡ b → (join e a v r s).table ≡ s.table
    go true h = rw (h, join_on)
    go false h = rw (h, join_on)

-- ---- how many D-sequents there are

-- the second side's list has fewer D-sequents than there are variables
second_few : (e : Env) (a : Assignment) (v : ℕ) (b : Bool) (s : State) → OneOf v (undecided e a) → Shape e (decide a v b) s → length s.records < e.n
second_few e a v b s one h =
    omega (
      arith,
      records_few e (decide a v b) s h,
      ones_within (redundant s) (undecided e (decide a v b)) (last_recorded e (decide a v b) s h).off,
      undecided_one_fewer e a v b one,
      undecided_at_most_n e a,
    )

-- and so has the joined one
join_few : (e : Env) (a : Assignment) (v : ℕ) (b : Bool) (r : ℕ) (s : State)
    → OneOf v (undecided e a)
    → Within a.trues a.decided
    → Within r (decide a v b).decided
    → Shape e (decide a v (not b)) s
    → length (join e a v r s).records < e.n
join_few e a v b r s one trues first h =
    let fewer : ones (minus (undecided e a) v) < ones (undecided e a) =
    omega (arith, ap ones (undecided_fewer e a v b), undecided_one_fewer e a v b one) in
    omega (
      arith,
      records_few e a (join e a v r s) (shape_join e a v b r s h trues first),
      ap ones (join_redundant e a v r s),
      fewer,
      undecided_at_most_n e a,
    )

-- ---- the counts

module _ {t rs : List ℕ} {e : limits.Env} {a : work.Assignment} {v : ℕ} {b : Bool} {r : ℕ} {s : Counts} (m : Mergeable t rs e a v b r s) where
  -- room for the second side's list and one more D-sequent
  pub second_records : s.records < e.vars
  second_records =
      subst
      (λ (k : ℕ). k < e.vars)
      (sequents_length rs s.records)
      (second_few (env_of e) (assignment_of a) v (not b) (state_of t rs s) m.branched m.second)

-- the joined state: it has as many clauses, so that what is tallied of the second side's is tallied of it, and room for one more D-sequent. It is a point, at which every
-- undecided variable but v is struck
pub record Joined (t rs' : List ℕ) (e : limits.Env) (a : work.Assignment) (v m : ℕ) (j : Counts) : Type 0 where
  pub clauses : j.clauses ≡ m
  pub allowed : j.clauses ≤ e.capacity
  pub table : clause_words j.clauses ≤ length t
  pub room : sequent_words (j.records + 1) ≤ length rs'
  pub second : {q : List ℕ} {b : Assignment} {k : ℕ} → Tallied t q m b k → Tallied t q j.clauses b k
  pub shape : Shape (env_of e) (assignment_of a) (state_of t rs' j)
  pub others : redundant (state_of t rs' j) ≡ minus (undecided (env_of e) (assignment_of a)) v

pub joined : {t rs rs' : List ℕ} {e : limits.Env} {a : work.Assignment} {v : ℕ} {b : Bool} {r : ℕ} {s j : Counts}
    → Mergeable t rs e a v b r s
    → state_of t rs' j ≡ join (env_of e) (assignment_of a) v r (state_of t rs s)
    → length rs' ≡ length rs
    → Joined t rs' e a v s.clauses j
joined {t} {rs} {rs'} {e} {a} {v} {b} {r} {s} {j} m is same =
    let x = state_of t rs s in
    let clauses : j.clauses ≡ s.clauses =
    as_many t j.clauses s.clauses (ap (λ (y : State). y.table) is ∙ join_table (env_of e) (assignment_of a) v r x) in
    let records : j.records < e.vars =
    subst
    (λ (k : ℕ). k < e.vars)
    (sym (ap (λ (y : State). length y.records) is) ∙ sequents_length rs' j.records)
    (join_few (env_of e) (assignment_of a) v b r x m.branched m.trues m.first m.second) in
    record {
      clauses = clauses;
      allowed = omega (arith, clauses, m.clauses);
      table = omega (arith, clauses, m.clauses, m.capacity);
      room = omega (arith, records, m.room, same);
      second = λ {q} {b = c} {k}. subst⁻¹ (λ (n : ℕ). Tallied t q n c k) clauses;
      shape = subst⁻¹ (Shape (env_of e) (assignment_of a)) is (shape_join (env_of e) (assignment_of a) v b r x m.second m.trues m.first);
      others = ap redundant is ∙ join_redundant (env_of e) (assignment_of a) v r x;
    }

-- ---- the test

-- the order of the two clauses is nothing to their resolvent
resolvent_swap : (v : ℕ) (c d : Clause) → resolvent v c d ≡ resolvent v d c
unfolding resolvent
resolvent_swap v c d = rw (or_comm c.pos d.pos, or_comm c.neg d.neg) refl

module _ (e : Env) (a : Assignment) (v : ℕ) (j : State) where
  -- the lowest-numbered clause in play with the literal of v and the sign σ, and what is gathered for it
  abbrev playing : Bool → Option Clause
  playing σ = find (in_play (record { var = v; sign = σ }) a (redundant j)) j.table

  abbrev gathered : Bool → ℕ
  gathered σ = gather (record { var = v; sign = σ }) a (redundant j) (last j.records).decisions.decided j.table

  -- where none is in play with the negative literal v is struck by it
  pub passes_negative : (b : Bool) → playing false ≡ none → up (strike a v (gathered false) j) ≡ merge_on e a v b j (monotone a j v)
  unfolding monotone
  passes_negative b n =
      ap (λ (o : Option ℕ). merge_on e a v b j (or_else o (inactive_by a j v true))) (sym (none_in_play a (redundant j) false v _ j.table n))

  -- where one is, and none with the positive literal, by that
  pub passes_positive : (b : Bool) (c : Clause) → playing false ≡ some c → playing true ≡ none → up (strike a v (gathered true) j) ≡ merge_on e a v b j (monotone a j v)
  unfolding monotone
  passes_positive b c n p =
      ap₂
      (λ (o q : Option ℕ). merge_on e a v b j (or_else o q))
      (sym (some_in_play a (redundant j) false v _ j.table c n))
      (sym (none_in_play a (redundant j) true v _ j.table p))

  -- where there are both, they are the two sides' parents
  pub resolves : OneOf v (undecided e a)
      → Shape e a j
      → redundant j ≡ minus (undecided e a) v
      → (b : Bool) (c d : Clause)
      → playing false ≡ some c
      → playing true ≡ some d
      → learn e a j (resolvent v c d) (cover (resolvent v c d) j.table) ≡ merge_on e a v b j (monotone a j v)
  unfolding monotone
  resolves one shape others b c d n p = go b ∙ sym fails
    where
      fails : merge_on e a v b j (monotone a j v) ≡ merge_on e a v b j none
      fails =
          ap₂
          (λ (o q : Option ℕ). merge_on e a v b j (or_else o q))
          (some_in_play a (redundant j) false v _ j.table c n)
          (some_in_play a (redundant j) true v _ j.table d p)

      parent : (b : Bool) → playing (not b) ≡ falsified_naming v (decide a v b) j.table
      parent b = parent_found e a v one j shape others b

      go : (b : Bool) → learn e a j (resolvent v c d) (cover (resolvent v c d) j.table) ≡ merge_on e a v b j none
      go true = ap₂ (resolve e a v j) (sym n ∙ parent true) (sym p ∙ parent false)
      go false =
          ap (λ (x : Clause). learn e a j x (cover x j.table)) (resolvent_swap v c d)
          ∙ ap₂ (resolve e a v j) (sym p ∙ parent false) (sym n ∙ parent true)

  -- and the decisions falsify their resolvent
  pub resolvent_broken : OneOf v (undecided e a)
      → Shape e a j
      → redundant j ≡ minus (undecided e a) v
      → (c d : Clause)
      → playing false ≡ some c
      → playing true ≡ some d
      → falsified a (resolvent v c d) ≡ true
  resolvent_broken one shape others c d n p =
      let first = naming_some v (decide a v true) j.table c (sym (parent_found e a v one j shape others true) ∙ n) in
      let second = naming_some v (decide a v false) j.table d (sym (parent_found e a v one j shape others false) ∙ p) in
      true_falsified a (resolvent v c d) (resolvent_falsified a v true c d first.1 second.1)

-- step 7 is the test on the joined state, and what comes of it
pub merged : (e : Env) (a : Assignment) (v : ℕ) (b : Bool) (r : ℕ) (s j : State) (o : Side)
    → j ≡ join e a v r s
    → o ≡ merge_on e a v b j (monotone a j v)
    → o ≡ merge e a v b r s
unfolding merge
merged e a v b r s j o is tested = tested ∙ ap (λ (x : State). merge_on e a v b x (monotone a x v)) is
