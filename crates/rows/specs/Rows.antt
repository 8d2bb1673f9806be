-- The layout of the two work tables, written once: a clause is two words, its positive literals and then its negative ones; a D-sequent is three, the
-- decided variables, those of them true, and the redundant ones. With the counts the two tables are a state of `steps`.
use Rattle.std.specs.Prelude.{◌≡◌, List, [], ◌∷◌, ℕ, zero, suc, ◌+◌, ◌*◌, ◌≤◌, length, get_or, set}
use Rattle.steps.specs.Clause.{Clause, DSequent, without}
use Rattle.steps.specs.State.{State}
use Rattle.rows.specs.declared.state.Counts.{Counts}
use Rattle.rows.specs.declared.state.Env.{Env}

-- how many words m clauses take, and k D-sequents
abbrev pub clause_words : ℕ → ℕ
clause_words m = 2 * m

abbrev pub sequent_words : ℕ → ℕ
sequent_words k = 3 * k

-- k values of f, from the one at i on
abbrev pub from : {A : Type 0} → (ℕ → A) → ℕ → ℕ → List A
from f i zero = []
from f i (suc k) = f i ∷ from f (suc i) k

-- the clause of number i
abbrev pub clause_at : List ℕ → ℕ → Clause
clause_at t i = record { pos = get_or t (2 * i) 0; neg = get_or t (2 * i + 1) 0 }

-- the first m clauses
unfoldable pub clauses : List ℕ → ℕ → List Clause
clauses t m = from (clause_at t) 0 m

-- k clauses, from the one of number m on
abbrev pub clauses_from : List ℕ → ℕ → ℕ → List Clause
clauses_from t m k = from (clause_at t) m k

-- the table with the clause c at number i
unfoldable pub put_clause : List ℕ → ℕ → Clause → List ℕ
put_clause t i c = set (set t (2 * i) c.pos) (2 * i + 1) c.neg

-- the D-sequent of number i
abbrev pub sequent_at : List ℕ → ℕ → DSequent
sequent_at rs i = record { decisions = record { decided = get_or rs (3 * i) 0; trues = get_or rs (3 * i + 1) 0 }; redundant = get_or rs (3 * i + 2) 0 }

-- the first k D-sequents
unfoldable pub sequents : List ℕ → ℕ → List DSequent
sequents rs k = from (sequent_at rs) 0 k

-- the list with the D-sequent d at number i
unfoldable pub put_sequent : List ℕ → ℕ → DSequent → List ℕ
put_sequent rs i d = set (set (set rs (3 * i) d.decisions.decided) (3 * i + 1) d.decisions.trues) (3 * i + 2) d.redundant

-- the work tables with the counts, as a state
abbrev pub state_of : List ℕ → List ℕ → Counts → State
state_of t rs s = record { table = clauses t s.clauses; records = sequents rs s.records; branchings = s.branchings }

-- room for one more D-sequent
pub record Room (rs : List ℕ) (e : Env) (s : Counts) : Type 0 where
  pub vars : e.vars ≤ 64
  pub next : sequent_words (s.records + 1) ≤ length rs

-- what `without` does: of k D-sequents it keeps those whose decisions do not name v, in order, r of them
pub record Kept (rs : List ℕ) (k v : ℕ) (rs' : List ℕ) (r : ℕ) : Type 0 where
  pub kept : sequents rs' r ≡ without v (sequents rs k)
  pub few : r ≤ k
