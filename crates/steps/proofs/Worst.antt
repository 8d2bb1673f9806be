-- The bound is met. No choice keeps a book of all full clauses, so a run with 2^n - 1 of both, which gives a verdict, says "cannot". The starting point is clean, so the run has
-- derived 2^n - 1 clauses; it has made no fewer branchings than that, and by the bound no more. With no options there is nothing to count. What one short gives is demand 3.
use mathlib.Core.Path.{◌≡◌, refl, ap, ◌∙◌}
use mathlib.Core.List.{List, append-nil}
use mathlib.Core.Logic.{inl, inr, ⊎_elim}
use Prim.Native.Nat.{ℕ, zero, suc, ◌-◌, ◌^◌, ◌≤◌, ◌<◌}
use native.Mathlib.Nat.{le_refl}
use native.Mathlib.Omega.{arith}
use lib.Count.{ones}
use lib.ListN.{length, drop}
use lib.Seq.{drop-append_seam}
use Rattle.words.specs.Words.{minus, first_vars}
use Rattle.words.proofs.Truth.{clash}
use Rattle.words.proofs.Membership.{has_zero}
use Rattle.words.proofs.Count.{ones_first_of}
use Rattle.words.proofs.Lowest.{members_zero}
use Rattle.words.proofs.Sets.{lt_within, within_zero, within_antisym, minus_within, in_minus}
use Rattle.steps.specs.Clause.{Clause}
use Rattle.steps.specs.State.{Env, Ending.can, Ending.cannot, Ending.out_of_branchings, Ending.out_of_clauses, Side, Side.up, Side.ended, undecided}
use Rattle.steps.specs.Run.{Assumptions, Outcome, given, units, no_decisions, start, everything, finish, searched, run}
use Rattle.steps.specs.Meaning.{Buildable}
use Rattle.steps.specs.Marked.{order}
use Rattle.steps.specs.Worst.{forbidding, Arranged}
use Rattle.steps.specs.Shape.{Input}
use Rattle.steps.specs.Demands.{Settled, Exactly, BoundMet, WorstBook}
use Rattle.steps.proofs.ShapeStart.{shape_root}
use Rattle.steps.proofs.Models.{models_true}
use Rattle.steps.proofs.Soundness.{demand2}
use Rattle.steps.proofs.Allowances.{allowances, demand3}
use Rattle.steps.proofs.Bound.{always_enough}
use Rattle.steps.proofs.FullClauses.{full_proper, forbidding_full, forbidden, arranged_every, arranged_full}
use Rattle.steps.proofs.WorstPoint.{Clean}
use Rattle.steps.proofs.WorstSearch.{Met, met_search}

-- an empty order has no clauses
none_given : (book : List Clause) → given book (order 0 0) ≡ book
unfolding units
none_given book = rw members_zero (append-nil book)

-- at the start every variable is undecided
all_undecided : (e : Env) → ones (undecided e no_decisions) ≡ e.n
unfolding undecided
all_undecided e =
    rw (within_antisym (minus (first_vars e.n) 0) (first_vars e.n) (minus_within (first_vars e.n) 0) (λ k m. in_minus (first_vars e.n) 0 k m (has_zero k))) (ones_first_of e.n)

-- the two counts are the same, and none is counted where there is no option
as_many : (n derived branchings : ℕ) → (0 < n → suc derived ≡ 2 ^ n) → derived ≤ branchings → branchings ≤ 2 ^ n - 1 → (branchings ≡ 2 ^ n - 1) × (derived ≡ 2 ^ n - 1)
as_many zero derived branchings f l m = (omega arith, omega arith)
as_many (suc n) derived branchings f l m = let all = f (omega arith) in (omega arith, omega arith)

-- how many clauses are derived where the run says "cannot"
met_finish : (e : Env) (n : ℕ) (t : List Clause) (x : Side) → Met e n no_decisions (start t) x → (finish n (length t) x).ending ≡ cannot → suc (length (finish n (length t) x).derived) ≡ 2 ^ n
unfolding finish
met_finish e n t (up s) m h = clash cc
met_finish e n t (ended can d s) m h = absurd m
met_finish e n t (ended cannot d s) m h = ap (λ (u : List Clause). suc (length (drop (length t) u))) m.1.table ∙ ap (λ (u : List Clause). suc (length u)) (drop-append_seam t m.1.more) ∙ m.1.count
met_finish e n t (ended out_of_branchings d s) m h = clash cc
met_finish e n t (ended out_of_clauses d s) m h = clash cc

-- and what the list is then
finish_records : (n m : ℕ) (x : Side) → (finish n m x).ending ≡ cannot → (finish n m x).records ≡ everything n
unfolding finish
finish_records n m (up s) h = clash cc
finish_records n m (ended can d s) h = clash cc
finish_records n m (ended cannot d s) h = refl
finish_records n m (ended out_of_branchings d s) h = clash cc
finish_records n m (ended out_of_clauses d s) h = clash cc

cannot_records :
    (n : ℕ) (book : List Clause) (o : Assumptions) (allowance places : ℕ) → (run n book o allowance places).ending ≡ cannot →
    (run n book o allowance places).records ≡ everything n
unfolding run
cannot_records n book o allowance places = finish_records n (length (given book o)) (searched n (given book o) allowance places)

module _ (n : ℕ) (book : List Clause) (arranged : Arranged n book) where
  -- the book was read
  input : Input n book (order 0 0)
  input =
      record {
        book_proper = λ c m. full_proper n c (arranged_full n book arranged c m);
        wanted = within_zero (first_vars n);
        unwanted = within_zero (first_vars n);
      }

  -- no choice keeps it
  never_built : Buildable n book (order 0 0) → ⊥
  never_built (x, b) =
      forbidden n x
      (models_true x book b.rules (forbidding n x) (arranged_every n book arranged (forbidding n x) (forbidding_full n x (lt_within n x b.choice))))

  -- the starting point is clean
  clean_start : (e : Env) → e.n ≡ n → Clean e no_decisions (start book)
  clean_start e is =
      record {
        shape = shape_root e book (λ c m. rw is (input.book_proper c m));
        fresh = refl;
        every = λ c f. arranged_every n book arranged c (rw is at f);
        only = λ c m. inl (rw is (arranged_full n book arranged c m));
      }

  module _ (allowance places : ℕ) (branchings : 2 ^ n - 1 ≤ allowance) (room : 2 ^ n - 1 ≤ places) where
    -- the verdict
    cannot_build : (run n book (order 0 0) allowance places).ending ≡ cannot
    cannot_build =
        ⊎_elim (λ h. absurd (never_built ((demand2 n book (order 0 0) input allowance places).verdict.can_only h))) (λ h. h)
        ((always_enough n book (order 0 0) input).enough allowance places branchings room)

    -- the derived clauses
    derives : 0 < n → suc (length (run n book (order 0 0) allowance places).derived) ≡ 2 ^ n
    unfolding run searched
    derives positive =
        let e = allowances n (length book) allowance places in
        let search-met = met_search e positive n no_decisions 0 (start book) (clean_start e refl) (all_undecided e) in
        let says = rw none_given at cannot_build in
        rw none_given (met_finish e n book _ search-met says)

    worst_exactly : Exactly n (run n book (order 0 0) allowance places)
    worst_exactly =
        let r = run n book (order 0 0) allowance places in
        let bound = always_enough n book (order 0 0) input in
        let both = as_many n (length r.derived) r.branchings derives (bound.clauses allowance places) (bound.branchings allowance places) in
        record { ending = cannot_build; branchings = both.0; derived = both.1; records = cannot_records n book (order 0 0) allowance places cannot_build }

  -- the outcome is settled, and what less gives follows
  settled : (r : Outcome) → run n book (order 0 0) (2 ^ n - 1) (2 ^ n - 1) ≡ r → Settled n book (order 0 0) r
  settled r is =
      record {
        allowance = 2 ^ n - 1;
        places = 2 ^ n - 1;
        reached = is;
        verdict = inr (rw is at (cannot_build (2 ^ n - 1) (2 ^ n - 1) (le_refl (2 ^ n - 1)) (le_refl (2 ^ n - 1))));
      }

  bound_met : BoundMet n book
  bound_met =
      let r = run n book (order 0 0) (2 ^ n - 1) (2 ^ n - 1) in
      let counts = worst_exactly (2 ^ n - 1) (2 ^ n - 1) (le_refl (2 ^ n - 1)) (le_refl (2 ^ n - 1)) in
      let buys = demand3 n book (order 0 0) input r (settled r refl) in
      record {
        exactly = worst_exactly;
        fewer_branchings = λ allowance places few enough. (buys allowance places).fewer_branchings (rw counts.branchings few) (rw counts.derived enough);
        fewer_places = λ allowance places enough few. (buys allowance places).fewer_places (rw counts.branchings enough) (rw counts.derived few);
      }

pub worst_book : WorstBook
worst_book = bound_met
