-- Step 7: coming together after both sides of a branching, its variable undecided again.
use Rattle.std.specs.Prelude.{Bool, true, false, not, ◌&&◌, List, ℕ, eqb, ltb, length}
use Rattle.std.proofs.Math.Option.{Option, some, none}
use Rattle.std.specs.Int.Bits.{bit_or}
use Rattle.words.specs.Words.{is_zero, minus}
use Rattle.steps.specs.Lists.{find}
use Rattle.steps.specs.Clause.{Clause, vars, Assignment, decide, last, without}
use Rattle.steps.specs.State.{Env, State, Ending.cannot, Ending.out_of_clauses, Side, Side.up, Side.ended, undecided, redundant, recorded, append, append_falsified, added}
use Rattle.steps.specs.Sweep.{monotone, strike}
use Rattle.steps.specs.Enter.{falsified_naming}

-- the list of t has no D-sequent that names v. Where it does not yet strike every undecided variable but v, one more does: by the decisions r, less v
abbrev pub join_on : Env → Assignment → ℕ → ℕ → State → State
join_on e a v r t =
    elim (eqb (redundant t) (minus (undecided e a) v)) [ true ↦ t | false ↦ append a (minus r v) (minus (undecided e a) v) t ]

-- the second side's D-sequents that do not name v, and the join of both sides' last decisions. r is the first side's
unfoldable pub join : Env → Assignment → ℕ → ℕ → State → State
join e a v r s = join_on e a v (bit_or r (last s.records).decisions.decided) (recorded (without v s.records) s)

-- d covers c: every literal of d is one of c
unfoldable pub covers : Clause → Clause → Bool
covers d c = is_zero (minus d.pos c.pos) && is_zero (minus d.neg c.neg)

-- the lowest-numbered clause of the table that covers c
abbrev pub cover : Clause → List Clause → Option Clause
cover c t = find (λ d. covers d c) t

-- the two clauses joined, without v's literals
unfoldable pub resolvent : ℕ → Clause → Clause → Clause
resolvent v c d = record { pos = minus (bit_or c.pos d.pos) v; neg = minus (bit_or c.neg d.neg) v }

-- c is falsified here, with v undecided: the empty clause ends the run as in step 1, and every other one strikes all undecided variables
abbrev pub settle : Env → Assignment → Clause → State → Side
settle e a c s = elim (is_zero (vars c)) [ true ↦ ended cannot a s | false ↦ up (append_falsified e a c s) ]

-- the clause of the table that covers the new one serves, or else the new one is added, with stop 11
abbrev pub learn : Env → Assignment → State → Clause → Option Clause → Side
learn e a s c (some d) = settle e a d s
learn e a s c none = elim (ltb (length s.table) e.capacity) [ false ↦ ended out_of_clauses a s | true ↦ settle e a c (added c s) ]

-- the resolvent of the two sides' falsified clauses. Both exist wherever the test fails in a run (`ParentsExist`)
abbrev pub resolve : Env → Assignment → ℕ → State → Option Clause → Option Clause → Side
resolve e a v s none d = up s
resolve e a v s (some c) none = up s
resolve e a v s (some c) (some d) = learn e a s (resolvent v c d) (cover (resolvent v c d) s.table)

-- the test of step 3 passes for v, or else the lowest-numbered clauses that name v and are falsified on the two sides are resolved
abbrev pub merge_on : Env → Assignment → ℕ → Bool → State → Option ℕ → Side
merge_on e a v b s (some r) = up (strike a v r s)
merge_on e a v b s none = resolve e a v s (falsified_naming v (decide a v b) s.table) (falsified_naming v (decide a v (not b)) s.table)

-- step 7: the join, and then the test. b is v's value on the first side
unfoldable pub merge : Env → Assignment → ℕ → Bool → ℕ → State → Side
merge e a v b r s = merge_on e a v b (join e a v r s) (monotone a (join e a v r s) v)
