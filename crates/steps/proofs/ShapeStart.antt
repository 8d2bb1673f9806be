-- The starting point has its shape: no decisions, no D-sequents, and a table of the book's clauses, which were read, and of one clause for each
-- variable of the order, which names that variable with one sign.
use mathlib.Core.Path.{◌≡◌, sym}
use mathlib.Core.Logic.{⊎_elim}
use mathlib.Core.List.Memᴰ
use mathlib.Core.List.{List, map}
use Prim.Native.Nat.{ℕ}
use Rattle.words.specs.Words.{first_vars, members, Within}
use Rattle.words.proofs.Sets.{within_zero, or_within, meets_zero, zero_meets}
use Rattle.steps.specs.State.{Env}
use Rattle.steps.specs.Clause.{Clause, vars}
use Rattle.steps.specs.Run.{Assumptions, units, given, no_decisions, start}
use Rattle.steps.specs.Shape.{AllProper, Input, Shape}
use Rattle.steps.proofs.Places.{one_within, one_of_members}

-- the order's clauses are proper
units_proper : (n : ℕ) (o : Assumptions) → Within o.pos (first_vars n) → Within o.neg (first_vars n) → AllProper n (units o)
unfolding units vars
units_proper n o wanted unwanted c m =
    ⊎_elim
    (λ p.
    let h = Memᴰ.of_map (λ (w : ℕ). record { pos = w; neg = 0 }) (members o.pos) p in
    let is : c ≡ record { pos = h.0; neg = 0 } = sym h.2 in
    rw is (record { named = or_within h.0 0 (first_vars n) (λ k x. wanted k (one_within h.0 o.pos (one_of_members o.pos h.0 h.1) k x)) (within_zero (first_vars n)); consistent = meets_zero h.0 }))
    (λ p.
    let h = Memᴰ.of_map (λ (w : ℕ). record { pos = 0; neg = w }) (members o.neg) p in
    let is : c ≡ record { pos = 0; neg = h.0 } = sym h.2 in
    rw
    is
    (record {
      named = or_within 0 h.0 (first_vars n) (within_zero (first_vars n)) (λ k x. unwanted k (one_within h.0 o.neg (one_of_members o.neg h.0 h.1) k x));
      consistent = zero_meets h.0;
    }))
    (Memᴰ.append_cases (map (λ (w : ℕ). record { pos = w; neg = 0 }) (members o.pos)) m)

-- the table at the start
pub given_proper : (n : ℕ) (book : List Clause) (o : Assumptions) → Input n book o → AllProper n (given book o)
given_proper n book o h c m = ⊎_elim (h.book_proper c) (units_proper n o h.wanted h.unwanted c) (Memᴰ.append_cases book m)

-- the starting point over any proper clauses
pub shape_root : (e : Env) (t : List Clause) → AllProper e.n t → Shape e no_decisions (start t)
shape_root e t h =
    record {
      trues = within_zero 0;
      decided = within_zero (first_vars e.n);
      clauses = h;
      records = λ d m. absurd (Memᴰ.not-nil m);
      growing = tt;
    }

-- the starting point of a book and an order
pub shape_start :
    (n : ℕ) (book : List Clause) (o : Assumptions) (allowance capacity : ℕ) → Input n book o →
    Shape (record { n = n; allowance = allowance; capacity = capacity }) no_decisions (start (given book o))
shape_start n book o allowance capacity h =
    shape_root (record { n = n; allowance = allowance; capacity = capacity }) (given book o) (given_proper n book o h)
