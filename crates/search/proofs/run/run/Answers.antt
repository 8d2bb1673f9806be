-- Step 1 is asked once; else the starting point has the shape of a point, all its variables are undecided, and the rest is `branch` and `finish`.
use Rattle.std.proofs.Common.{◌≡◌, refl, ap, ap₂, sym, subst, ◌∙◌, true, ◌||◌, List, [], ◌∷◌, ℕ, ◌-◌, arith}
use native.Mathlib.Nat.{sub-zero}
use lib.Bits.{and_zero_r}
use lib.Count.{ones}
use Rattle.words.specs.Words.{has, minus, first_vars}
use Rattle.words.proofs.Truth.{both_ways, confirmed, iff}
use Rattle.words.proofs.Membership.{has_zero}
use Rattle.words.proofs.Sets.{is_zero_lem, some_member, within_zero, zero_meets}
use Rattle.words.proofs.Count.{ones_first_of}
use Rattle.steps.specs.Lists.{any}
use Rattle.steps.specs.Clause.{Clause, vars, falsified}
use Rattle.steps.specs.State.{Env, Side, undecided}
use Rattle.steps.specs.Run.{no_decisions, start, finish}
use Rattle.steps.specs.Search.{is_empty, search as searched}
use Rattle.steps.proofs.Models.{literal_named}
use Rattle.steps.proofs.Literals.{literal_of_lem, falsified_true, true_falsified}
use Rattle.steps.proofs.ShapeStart.{shape_root}
use Rattle.answer.specs.Numbers.{by_number}
use Rattle.rows.specs.Values.{env_of}
use Rattle.rows.specs.Rows.{clauses, sequents}
use Rattle.merge.specs.declared.Ending.TheVariants as ending
use Rattle.merge.specs.declared.Side.TheVariants as side
use Rattle.search.specs.Values.{Handed, LeftTallied}
use Rattle.search.proofs.Handing.{left_tallied}
use Rattle.search.proofs.Branching.{search_empty}
use Rattle.search.proofs.run.run.Goals as goal

-- at the starting point every variable is undecided
all-undecided : (e : Env) → ones (undecided e no_decisions) ≡ e.n
unfolding undecided minus
all-undecided e =
    ap ones (ap (λ (x : ℕ). first_vars e.n - x) (and_zero_r (first_vars e.n)) ∙ sub-zero (first_vars e.n)) ∙ ones_first_of e.n

-- where nothing is decided only the empty clause is falsified
empty-only : (c : Clause) → falsified no_decisions c ≡ is_empty c
empty-only c = iff (falsified no_decisions c) (is_empty c) (λ f. confirmed (is_empty c) (λ n. some-variable f (some_member (vars c) n))) no-variable
  where
    some-variable : falsified no_decisions c ≡ true → (k : ℕ) × (has (vars c) k ≡ true) → ⊥
    some-variable f (k, h) = let l = literal_of_lem c k h in both_ways (has 0 k) (falsified_true no_decisions c f l.0 k l.1).0 (has_zero k)

    no-variable : is_empty c ≡ true → falsified no_decisions c ≡ true
    no-variable e =
        true_falsified no_decisions c
        (λ b k l. both_ways (has (vars c) k) (literal_named b c k l) (ap (λ (x : ℕ). has x k) (is_zero_lem (vars c) e) ∙ has_zero k))

-- so step 1 finds one exactly if one is
any-empty : (t : List Clause) → any (falsified no_decisions) t ≡ any is_empty t
any-empty [] = refl
any-empty (c ∷ cs) = ap₂ ◌||◌ (empty-only c) (any-empty cs)

-- step 1
pub returns-then-any_falsified : goal.returns-then-any_falsified
unfolding sequents
returns-then-any_falsified c =
    let x = c.args in
    let f = c.finish in
    let q = c.start in
    let is =
    search_empty (env_of x.e) x.e.vars no_decisions 0 (start (clauses x.t.now x.m))
    (sym (any-empty (clauses x.t.now x.m)) ∙ sym (c.any_falsified.ensures _ _ _ (zero_meets 0) q.ensures) ∙ c.if-any_falsified.true) in (
      subst (λ (s : Side). Handed x.t.now f.new.rs x.m (by_number f.result) (finish x.e.vars x.m s)) is (f.ensures x.t.now),
      subst (LeftTallied q.new.q) is (left_tallied x.t.now q.new.q x.rs.now (side.Ended ending.Cannot (record { decided = 0; trues = 0 }) (record { clauses = x.m; records = 0; branchings = 0 })) q.ensures),
    )

pub branch-side-requires : goal.branch-side-requires
unfolding sequents
branch-side-requires c =
    let p = c.requires in
    let q = c.start in (
      record {
        vars = p.vars;
        capacity = p.capacity;
        clauses = p.clauses;
        branchings = omega arith;
        none_empty = sym (any-empty (clauses c.args.t.now c.args.m)) ∙ sym (c.any_falsified.ensures _ _ _ (zero_meets 0) q.ensures) ∙ c.if-any_falsified.false;
        room = p.room;
        shape = shape_root (env_of c.args.e) (clauses c.args.t.now c.args.m) p.proper;
      },
      record {
        places = omega (arith, p.places, q.auto.q);
        entering = record { undecided = within_zero _; tallied = q.ensures };
      },
    )

pub returns : goal.returns
unfolding sequents
returns c =
    let x = c.args in
    let t = clauses x.t.now x.m in
    let f = c.finish-2 in
    let side = c.branch-side in
    let is = side.ensures.0 ∙ ap (λ (k : ℕ). searched (env_of x.e) k no_decisions 0 (start t)) (all-undecided (env_of x.e)) in (
      subst (λ (s : Side). Handed side.new.t f.new.rs x.m (by_number f.result) (finish x.e.vars x.m s)) is (f.ensures side.new.t),
      subst (LeftTallied side.new.q) is (left_tallied side.new.t side.new.q side.new.rs side.result side.ensures.1),
    )
