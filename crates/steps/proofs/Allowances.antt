-- Demand 3: what an allowance buys. Two runs of one book and order with allowances that grow are alike, or the smaller one stopped and the larger went
-- past the allowance that stopped it. With B and D the counts of a verdict, every run is so compared with the verdict, by a run with at least the
-- allowances of both: a stop on branchings means fewer than B, a stop on places fewer than D. Everything else is arithmetic.
use mathlib.Core.Path.{◌≡◌, refl, sym, subst, ◌∙◌}
use mathlib.Core.List.{List, [], ◌++◌, append-nil}
use mathlib.Core.Logic.{◌⊎◌, inl, inr, ⊎_elim, ◌↔◌}
use Prim.Native.Nat.{ℕ, ◌+◌, ◌≤◌, ◌<◌}
use native.Mathlib.Omega.{arith}
use lib.ListN.{length, drop, length-drop}
use lib.Seq.{drop-append-le}
use Rattle.steps.specs.Clause.{Clause}
use Rattle.steps.specs.State.{Env, State, Ending.can, Ending.cannot, Ending.out_of_branchings, Ending.out_of_clauses, Side, Side.up, Side.ended}
use Rattle.steps.specs.Run.{Assumptions, Outcome, given, no_decisions, start, finish, searched, run}
use Rattle.steps.specs.Shape.{Input}
use Rattle.steps.specs.Demands.{Verdict, Settled, Enough, StopsOnBranchings, StopsOnPlaces, Demand3, Spent, StopsSpent, DerivedBegin}
use Rattle.steps.proofs.LockstepGrows.{at, longer, grows_search}
use Rattle.steps.proofs.LockstepSpent.{Fits, Kept, kept_search}
use Rattle.steps.proofs.Lockstep.{Lockstep, Lockstep.alike, Lockstep.branchings, Lockstep.clauses, lockstep}

-- ---- from sides to outcomes

-- an outcome has the branchings of the state in which the search left off
finish_branchings : (n m : ℕ) (x : Side) → (finish n m x).branchings ≡ (at x).branchings
unfolding finish
finish_branchings n m (up s) = refl
finish_branchings n m (ended can d s) = refl
finish_branchings n m (ended cannot d s) = refl
finish_branchings n m (ended out_of_branchings d s) = refl
finish_branchings n m (ended out_of_clauses d s) = refl

-- and the clauses that stand after the given ones
pub finish_derived : (n m : ℕ) (x : Side) → (finish n m x).derived ≡ drop m (at x).table
unfolding finish
finish_derived n m (up s) = refl
finish_derived n m (ended can d s) = refl
finish_derived n m (ended cannot d s) = refl
finish_derived n m (ended out_of_branchings d s) = refl
finish_derived n m (ended out_of_clauses d s) = refl

-- r' is r, or r is a stop and r' has gone past the allowance that it names
data Compared (allowance places : ℕ) (r r' : Outcome) : Type 0 where
  equal : r ≡ r' → Compared allowance places r r'
  short_of_branchings : r.ending ≡ out_of_branchings → allowance < r'.branchings → Compared allowance places r r'
  short_of_places : r.ending ≡ out_of_clauses → places < length r'.derived → Compared allowance places r r'

-- a search over a table whose first m clauses are given
module _ (n m allowance places : ℕ) where
  -- the allowances of the search
  abbrev pub allowances : Env
  allowances = record { n = n; allowance = allowance; capacity = m + places }

  -- two sides in lockstep give outcomes that compare
  finish_compared : {x y : Side} → Lockstep allowances x y → Compared allowance places (finish n m x) (finish n m y)
  unfolding finish
  finish_compared alike = equal refl
  finish_compared (branchings {y} h g) = short_of_branchings refl (rw (finish_branchings n m y) h)
  finish_compared (clauses {y} h g) = short_of_places refl (rw (finish_derived n m y, length-drop m (at y).table) (omega arith))

  -- and the derived clauses of the first begin those of the second
  finish_begins :
      {x y : Side} → Lockstep allowances x y → m ≤ length (at x).table →
      (more : List Clause) × ((finish n m y).derived ≡ (finish n m x).derived ++ more)
  unfolding finish
  finish_begins (alike {x}) l = ([], sym (append-nil (finish n m x).derived))
  finish_begins (branchings {t} {y} h g) l = (g.more, rw (finish_derived n m y, g.table) (drop-append-le m t.table g.more l))
  finish_begins (clauses {t} {y} h g) l = (g.more, rw (finish_derived n m y, g.table) (drop-append-le m t.table g.more l))

  -- a table within its capacity has no more derived clauses than places, and a full one has as many
  derived_few : (s : State) → Fits allowances s → length (drop m s.table) ≤ places
  derived_few s f = rw (length-drop m s.table) (omega arith)

  derived_all : (s : State) → length s.table ≡ m + places → length (drop m s.table) ≡ places
  derived_all s f = rw (length-drop m s.table) (omega arith)

  -- the outcome of a side within the allowances
  finish_spent : (x : Side) → Kept allowances x → Spent allowance places (finish n m x)
  unfolding finish
  finish_spent (up s) f =
      record { branchings = λ q. cc; clauses = λ q. cc; no_more_branchings = f.branchings; no_more_clauses = derived_few s f }
  finish_spent (ended can d s) f =
      record { branchings = λ q. cc; clauses = λ q. cc; no_more_branchings = f.branchings; no_more_clauses = derived_few s f }
  finish_spent (ended cannot d s) f =
      record { branchings = λ q. cc; clauses = λ q. cc; no_more_branchings = f.branchings; no_more_clauses = derived_few s f }
  finish_spent (ended out_of_branchings d s) f =
      record { branchings = λ q. f.1; clauses = λ q. cc; no_more_branchings = f.0.branchings; no_more_clauses = derived_few s f.0 }
  finish_spent (ended out_of_clauses d s) f =
      record { branchings = λ q. cc; clauses = λ q. derived_all s f.1; no_more_branchings = f.0.branchings; no_more_clauses = derived_few s f.0 }

-- ---- runs

-- the search of a run begins within its allowances, so it stays within them
pub searched_kept : (n : ℕ) (t : List Clause) (allowance places : ℕ) → Kept (allowances n (length t) allowance places) (searched n t allowance places)
unfolding searched
searched_kept n t allowance places =
    kept_search
    (allowances n (length t) allowance places)
    n
    no_decisions
    0
    (start t)
    (record { branchings = omega arith; clauses = omega arith })

-- the searches of two runs with allowances that grow go in lockstep
searched_lockstep :
    (n : ℕ) (t : List Clause) (allowance places allowance' places' : ℕ) → allowance ≤ allowance' → places ≤ places' →
    Lockstep (allowances n (length t) allowance places) (searched n t allowance places) (searched n t allowance' places')
unfolding searched
searched_lockstep n t allowance places allowance' places' h g =
    lockstep (allowances n (length t) allowance places) allowance' (length t + places') h (omega arith) n no_decisions 0 (start t)

-- the given clauses stay
searched_longer : (n : ℕ) (t : List Clause) (allowance places : ℕ) → length t ≤ length (at (searched n t allowance places)).table
unfolding searched
searched_longer n t allowance places = longer (grows_search (allowances n (length t) allowance places) n no_decisions 0 (start t))

-- what a stop reports, and that no run reports more
pub stops_spent : StopsSpent
unfolding run
stops_spent n book o _ allowance places =
    finish_spent n (length (given book o)) allowance places (searched n (given book o) allowance places) (searched_kept n (given book o) allowance places)

-- the derived clauses of the smaller run begin those of the larger
pub derived_begin : DerivedBegin
unfolding run
derived_begin n book o _ allowance places allowance' places' h g =
    finish_begins
    n
    (length (given book o))
    allowance
    places
    (searched_lockstep n (given book o) allowance places allowance' places' h g)
    (searched_longer n (given book o) allowance places)

-- ---- a run against a verdict

-- a verdict is no stop
verdict_equal : {allowance places : ℕ} {r r' : Outcome} → Compared allowance places r r' → Verdict r.ending → r ≡ r'
verdict_equal (equal q) v = q
verdict_equal (short_of_branchings q h) v = ⊎_elim (λ c. cc) (λ c. cc) v
verdict_equal (short_of_places q h) v = ⊎_elim (λ c. cc) (λ c. cc) v

module _ (n : ℕ) (book : List Clause) (o : Assumptions) (i : Input n book o) where
  -- the run with these allowances
  abbrev with : ℕ → ℕ → Outcome
  with allowance places = run n book o allowance places

  -- two runs with allowances that grow
  runs_compared :
      (allowance places allowance' places' : ℕ) → allowance ≤ allowance' → places ≤ places' →
      Compared allowance places (with allowance places) (with allowance' places')
  unfolding run
  runs_compared allowance places allowance' places' h g =
      finish_compared n (length (given book o)) allowance places (searched_lockstep n (given book o) allowance places allowance' places' h g)

  -- no run reports more than its allowances
  enough_of_equal : (r : Outcome) (allowance places : ℕ) → with allowance places ≡ r → Enough r allowance places
  enough_of_equal r allowance places q =
      subst
      (λ x. Enough x allowance places)
      q
      ((stops_spent n book o i allowance places).no_more_branchings, (stops_spent n book o i allowance places).no_more_clauses)

  -- a stop has spent what it names
  on_branchings : (allowance places : ℕ) → (with allowance places).ending ≡ out_of_branchings → StopsOnBranchings allowance (with allowance places)
  on_branchings allowance places q = (q, (stops_spent n book o i allowance places).branchings q)

  on_places : (allowance places : ℕ) → (with allowance places).ending ≡ out_of_clauses → StopsOnPlaces places (with allowance places)
  on_places allowance places q = (q, (stops_spent n book o i allowance places).clauses q)

  -- more places change nothing where they are not used
  places_spare :
      (allowance places places' : ℕ) → Compared allowance places (with allowance places) (with allowance places') →
      length (with allowance places').derived ≤ places → with allowance places ≡ with allowance places'
  places_spare allowance places places' (equal q) h = q
  places_spare allowance places places' (short_of_branchings q l) h = absurd (omega (arith, (stops_spent n book o i allowance places').no_more_branchings))
  places_spare allowance places places' (short_of_places q l) h = absurd (omega arith)

  -- more branchings change nothing where the places run out first
  branchings_spare :
      (allowance places allowance' places' : ℕ) → Compared allowance places (with allowance places) (with allowance places') →
      Compared allowance places (with allowance places) (with allowance' places) → places < length (with allowance places').derived →
      with allowance places ≡ with allowance' places
  branchings_spare allowance places allowance' places' c (equal q) h = q
  branchings_spare allowance places allowance' places' c (short_of_places q l) h =
      absurd (omega (arith, (stops_spent n book o i allowance' places).no_more_clauses))
  branchings_spare allowance places allowance' places' (equal p) (short_of_branchings q l) h =
      absurd (omega (arith, (enough_of_equal (with allowance places') allowance places p).1))
  branchings_spare allowance places allowance' places' (short_of_branchings p k) (short_of_branchings q l) h =
      absurd (omega (arith, (stops_spent n book o i allowance places').no_more_branchings))
  branchings_spare allowance places allowance' places' (short_of_places p k) (short_of_branchings q l) h = cc

  module _ (r : Outcome) (d : Settled n book o r) where
    -- a run with at least the allowances of both is the verdict, and the run is compared with it
    against : (allowance places : ℕ) → Compared allowance places (with allowance places) r
    against allowance places =
        subst
        (Compared allowance places (with allowance places))
        (sym
        (verdict_equal
        (runs_compared d.allowance d.places (d.allowance + allowance) (d.places + places) (omega arith) (omega arith))
        (rw d.reached d.verdict)) ∙ d.reached)
        (runs_compared allowance places (d.allowance + allowance) (d.places + places) (omega arith) (omega arith))

    -- enough of both gives the same outcome, and less does not
    pub same_outcome : (allowance places : ℕ) → Enough r allowance places ↔ (with allowance places ≡ r)
    same_outcome allowance places = (equal_of_enough (against allowance places), enough_of_equal r allowance places)
      where
        equal_of_enough : Compared allowance places (with allowance places) r → Enough r allowance places → with allowance places ≡ r
        equal_of_enough (equal q) f = q
        equal_of_enough (short_of_branchings q h) f = absurd (omega arith)
        equal_of_enough (short_of_places q h) f = absurd (omega arith)

    -- less stops the run
    less_stops :
        (allowance places : ℕ) → (Enough r allowance places → ⊥) →
        StopsOnBranchings allowance (with allowance places) ⊎ StopsOnPlaces places (with allowance places)
    less_stops allowance places less = go (against allowance places)
      where
        go : Compared allowance places (with allowance places) r → StopsOnBranchings allowance (with allowance places) ⊎ StopsOnPlaces places (with allowance places)
        go (equal q) = absurd (less (enough_of_equal r allowance places q))
        go (short_of_branchings q h) = inl (on_branchings allowance places q)
        go (short_of_places q h) = inr (on_places allowance places q)

    -- too few branchings alone
    pub fewer_branchings :
        (allowance places : ℕ) → allowance < r.branchings → length r.derived ≤ places → StopsOnBranchings allowance (with allowance places)
    fewer_branchings allowance places h g = go (against allowance places)
      where
        go : Compared allowance places (with allowance places) r → StopsOnBranchings allowance (with allowance places)
        go (equal q) = absurd (omega (arith, (enough_of_equal r allowance places q).0))
        go (short_of_branchings q l) = on_branchings allowance places q
        go (short_of_places q l) = absurd (omega arith)

    -- too few places alone
    pub fewer_places :
        (allowance places : ℕ) → r.branchings ≤ allowance → places < length r.derived → StopsOnPlaces places (with allowance places)
    fewer_places allowance places h g = go (against allowance places)
      where
        go : Compared allowance places (with allowance places) r → StopsOnPlaces places (with allowance places)
        go (equal q) = absurd (omega (arith, (enough_of_equal r allowance places q).1))
        go (short_of_branchings q l) = absurd (omega arith)
        go (short_of_places q l) = on_places allowance places q

    -- both too few: the run is the one with places enough, where these hold its derived clauses
    pub branchings_first :
        (allowance places : ℕ) → places < length r.derived → length (with allowance (length r.derived)).derived ≤ places →
        with allowance places ≡ with allowance (length r.derived)
    branchings_first allowance places g few =
        places_spare allowance places (length r.derived) (runs_compared allowance places allowance (length r.derived) (omega arith) (omega arith)) few

    -- and else the one with branchings enough
    pub places_first :
        (allowance places : ℕ) → allowance < r.branchings → places < length r.derived → places < length (with allowance (length r.derived)).derived →
        with allowance places ≡ with r.branchings places
    places_first allowance places h g many =
        branchings_spare
        allowance
        places
        r.branchings
        (length r.derived)
        (runs_compared allowance places allowance (length r.derived) (omega arith) (omega arith))
        (runs_compared allowance places r.branchings places (omega arith) (omega arith))
        many

-- demand 3
pub demand3 : Demand3
demand3 n book o i r d allowance places =
    record {
      same = same_outcome n book o i r d allowance places;
      stops = less_stops n book o i r d allowance places;
      fewer_branchings = fewer_branchings n book o i r d allowance places;
      fewer_places = fewer_places n book o i r d allowance places;
      branchings_first =
          λ h g few.
          let is = branchings_first n book o i r d allowance places g few in
          (rw is (fewer_branchings n book o i r d allowance (length r.derived) h (omega arith)), is);
      places_first =
          λ h g many.
          let is = places_first n book o i r d allowance places h g many in
          (rw is (fewer_places n book o i r d r.branchings places (omega arith) g), is);
    }
