-- What changes the list of D-sequents and nothing else: steps 2 to 5 and the join of step 7. The sweep strikes, step 2 appends, and the join leaves out
-- and appends; none of them adds a clause or counts a branching.
use mathlib.Core.Path.{◌≡◌, refl}
use mathlib.Core.Bool.{Bool, true, false}
use mathlib.Core.List.{List}
use mathlib.Core.Option.{Option, some, none}
use Prim.Native.Nat.{ℕ, zero, suc}
use lib.Dec.{eqb}
use Rattle.words.specs.Words.{is_zero, minus, members}
use Rattle.steps.specs.Lists.{find, any}
use Rattle.steps.specs.Clause.{Clause, Assignment, falsified, DSequent, without}
use Rattle.steps.specs.State.{Env, State, undecided, live, redundant, recorded}
use Rattle.steps.specs.Sweep.{Found, Found.nothing, Found.variable, first_monotone, strike, sweep_on, sweep}
use Rattle.steps.specs.Enter.{Turn, Turn.back, Turn.satisfiable, Turn.branch, unit, choose, swept, falsified_naming, conflict, enter}
use Rattle.steps.specs.Merge.{join}

-- the state that a turn hands on
abbrev pub turned : Turn → State
turned (back s) = s
turned (satisfiable s) = s
turned (branch w b s) = s

-- what holds of both cases, each with the test's answer, holds of the one taken
pub taken : {A : Type 0} (P : A → Type 0) (b : Bool) (x y : A) → (b ≡ true → P x) → (b ≡ false → P y) → P (elim b [ true ↦ x | false ↦ y ])
taken P true x y p q = p refl
taken P false x y p q = q refl

-- only the list of D-sequents may differ
pub record Listed (s t : State) : Type 0 where
  pub branchings : t.branchings ≡ s.branchings
  pub table : t.table ≡ s.table

-- the same state with another list
pub listed : (rs : List DSequent) (s : State) → Listed s (recorded rs s)
listed rs s = record { branchings = refl; table = refl }

-- the state itself
pub listed_refl : (s : State) → Listed s s
listed_refl s = listed s.records s

-- one such change after another
listed_trans : {s t u : State} → Listed s t → Listed t u → Listed s u
listed_trans g h = record { branchings = cc; table = cc }

-- one turn of the sweep, from the same about the turns after it
listed_sweep_on :
    (a : Assignment) (self : State → State) → ((s : State) → Listed s (self s)) → (s : State) (f : Found) → Listed s (sweep_on a self s f)
listed_sweep_on a self h s nothing = listed_refl s
listed_sweep_on a self h s (variable w r) = listed_trans (listed _ s) (h (strike a w r s))

-- the sweep appends to the list alone
pub listed_sweep : (e : Env) (a : Assignment) (k : ℕ) (s : State) → Listed s (sweep e a k s)
unfolding sweep
listed_sweep e a zero s = listed_refl s
listed_sweep e a (suc k) s = listed_sweep_on a (sweep e a k) (listed_sweep e a k) s (first_monotone a s (members (live e a s)))

-- the choice of step 5 hands the state on as it is
turned_choose : (e : Env) (a : Assignment) (s : State) (c : Option Clause) → turned (choose e a s c) ≡ s
turned_choose e a s none = refl
turned_choose e a s (some c) = refl

-- and so do steps 4 and 5
turned_swept : (e : Env) (a : Assignment) (s : State) → turned (swept e a s) ≡ s
unfolding swept
turned_swept e a s =
    taken
    (λ t. turned t ≡ s)
    (is_zero (live e a s))
    _
    _
    (λ _. taken (λ t. turned t ≡ s) (any (falsified a) s.table) _ _ (λ _. refl) (λ _. refl))
    (λ _. turned_choose e a s (find (unit a (redundant s)) s.table))

-- steps 2 to 5, by whether step 2 finds a clause
listed_conflict : (e : Env) (a : Assignment) (s : State) (c : Option Clause) → Listed s (turned (conflict e a s c))
listed_conflict e a s none = rw turned_swept (listed_sweep e a e.n s)
listed_conflict e a s (some c) = taken (λ t. Listed s (turned t)) (is_zero (live e a s)) _ _ (λ _. listed_refl s) (λ _. listed _ s)

-- steps 2 to 5 change the list alone
pub listed_enter : (e : Env) (a : Assignment) (v : ℕ) (s : State) → Listed s (turned (enter e a v s))
unfolding enter
listed_enter e a v s = listed_conflict e a s (falsified_naming v a s.table)

-- and so does the join of step 7
pub listed_join : (e : Env) (a : Assignment) (v r : ℕ) (s : State) → Listed s (join e a v r s)
unfolding join
listed_join e a v r s =
    taken (Listed s) (eqb (redundant (recorded (without v s.records) s)) (minus (undecided e a) v)) _ _ (λ _. listed _ s) (λ _. listed _ s)
