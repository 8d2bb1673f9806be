-- What a point that is ready gives: its list fits the work table, with one D-sequent more where a variable is live, it is ready still after a change of its
-- list. For each D-sequent strikes one variable more.
use mathlib.Core.Path.{◌≡◌, sym, ap, ◌∙◌, subst⁻¹}
use mathlib.Core.Bool.{false}
use mathlib.Core.List.{List}
use Prim.Native.Nat.{ℕ, ◌+◌, ◌≤◌, ◌<◌}
use native.Mathlib.Omega.{arith}
use borrow.Author.Tests.{ltb-true}
use lib.ListN.{length}
use Rattle.words.specs.Words.{is_zero}
use Rattle.words.proofs.Membership.{has_first_vars}
use Rattle.words.proofs.Sets.{some_member}
use Rattle.steps.specs.Clause as clause
use Rattle.steps.specs.Clause.{DSequent, last}
use Rattle.steps.specs.State.{State, undecided, redundant, live}
use Rattle.steps.specs.Shape.{Shape, OneOf}
use Rattle.steps.proofs.ShapeKeep.{records_at_most_n, records_below_n, undecided_within, live_undecided, live_not_redundant, another, last_recorded}
use Rattle.rows.specs.Values.{assignment_of, env_of}
use Rattle.rows.specs.Rows.{clauses, sequent_words, sequents, state_of}
use Rattle.rows.specs.Tally.{Tallied, TalliedAt, Variable}
use Rattle.rows.specs.declared.clause.Assignment.{Assignment}
use Rattle.rows.specs.declared.state.Counts.{Counts}
use Rattle.rows.specs.declared.state.Env.{Env}
use Rattle.rows.proofs.Tables.{as_many, sequents_length}
use Rattle.sweep.specs.Sweep.{Ready}

-- its list fits the work table
pub list_fits : {t rs : List ℕ} {e : Env} {a : Assignment} {s : Counts} → Ready t rs e a s → sequent_words s.records ≤ length rs
list_fits {t} {rs} {e} {a} {s} p =
    let few : length (sequents rs s.records) ≤ e.vars = records_at_most_n _ _ _ p.shape in
    omega (arith, few, sequents_length rs s.records, p.room)

-- where a variable is live, one more D-sequent fits too
pub next_fits :
    {t rs : List ℕ} {e : Env} {a : Assignment} {s : Counts} → Ready t rs e a s → is_zero (live (env_of e) (assignment_of a) (state_of t rs s)) ≡ false →
    sequent_words (s.records + 1) ≤ length rs
next_fits {t} {rs} {e} {a} {s} p some-live =
    let one = some_member (live (env_of e) (assignment_of a) (state_of t rs s)) some-live in
    let fewer : length (sequents rs s.records) < e.vars =
    records_below_n
    (env_of e)
    (assignment_of a)
    (undecided (env_of e) (assignment_of a))
    (state_of t rs s)
    p.shape
    (λ k h. h)
    (last_recorded (env_of e) (assignment_of a) (state_of t rs s) p.shape).off
    (another
    (redundant (state_of t rs s))
    (undecided (env_of e) (assignment_of a))
    one.0
    (live_not_redundant (env_of e) (assignment_of a) (state_of t rs s) one.0 one.1)
    (live_undecided (env_of e) (assignment_of a) (state_of t rs s) one.0 one.1)) in
    omega (arith, fewer, sequents_length rs s.records, p.room)

-- a point is ready still where the state has come to x, with the same clauses
pub still_ready :
    {t rs rs' : List ℕ} {e : Env} {a : Assignment} {s s' : Counts} (x : State) → Ready t rs e a s → length rs' ≡ length rs → state_of t rs' s' ≡ x →
    x.table ≡ clauses t s.clauses → Shape (env_of e) (assignment_of a) x → Ready t rs' e a s'
still_ready {t} {rs} {rs'} {e} {a} {s} {s'} x p same is table shape =
    let same_clauses = as_many t s'.clauses s.clauses (ap (λ (y : State). y.table) is ∙ table) in
    record {
      vars = p.vars;
      table = omega (arith, same_clauses, p.table);
      room = omega (arith, same, p.room);
      shape = subst⁻¹ (λ (y : State). Shape (env_of e) (assignment_of a) y) is shape;
    }

-- a live variable is one of the 64
pub live_variable : {t rs : List ℕ} {e : Env} {a : Assignment} {s : Counts} {w : ℕ} → Ready t rs e a s → OneOf w (live (env_of e) (assignment_of a) (state_of t rs s)) → Variable w
live_variable {t} {rs} {e} {a} {s} {w} p one =
    let named = undecided_within (env_of e) (assignment_of a) one.var (live_undecided (env_of e) (assignment_of a) (state_of t rs s) one.var one.member) in
    let below = ltb-true one.var e.vars (sym (has_first_vars e.vars one.var) ∙ named) in
    record { var = one.var; word = one.word; below = omega (arith, below, p.vars) }

-- the tallies are those of the last D-sequent's set
pub tallied_last : {t q : List ℕ} (rs : List ℕ) (s : Counts) (a : clause.Assignment) (d : DSequent)
    → d ≡ last (sequents rs s.records)
    → TalliedAt t q rs a s
    → Tallied t q s.clauses a d.redundant
tallied_last {t} {q} rs s a d is = subst⁻¹ (λ (x : DSequent). Tallied t q s.clauses a x.redundant) is
