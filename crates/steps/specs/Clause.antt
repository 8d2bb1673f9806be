-- Clauses, partial assignments and D-sequents, and what a clause is under them.
use Rattle.std.specs.Prelude.{Bool, true, false, not, ◌&&◌, ◌||◌, List, [], ◌∷◌, ℕ, ◌+◌}
use Rattle.std.specs.Int.Bits.{bit_and, bit_or}
use Rattle.std.specs.Int.Count.{ones}
use Rattle.words.specs.Words.{is_zero, minus, meets}
use Rattle.steps.specs.Lists.{filter}

-- a rule. `pos` has the options that keep it when fitted, `neg` those that keep it when left out
pub record Clause : Type 0 where
  pub pos : ℕ
  pub neg : ℕ

-- the literals of one sign: the positive ones for true
abbrev pub literals : Bool → Clause → ℕ
literals true c = c.pos
literals false c = c.neg

-- the variables that a clause names
unfoldable pub vars : Clause → ℕ
vars c = bit_or c.pos c.neg

-- the decisions. `trues`, the fitted ones, are among `decided`
pub record Assignment : Type 0 where
  pub decided : ℕ
  pub trues : ℕ

-- the decisions of a on the variables r
abbrev pub restrict : Assignment → ℕ → Assignment
restrict a r = record { decided = r; trues = bit_and r a.trues }

-- a with the variable v decided
abbrev pub decide : Assignment → ℕ → Bool → Assignment
decide a v true = record { decided = bit_or a.decided v; trues = bit_or a.trues v }
decide a v false = record { decided = bit_or a.decided v; trues = a.trues }

-- the decided variables that make a literal of the clause true
unfoldable pub keepers : Assignment → Clause → ℕ
keepers a c = bit_or (bit_and c.pos a.trues) (bit_and c.neg (minus a.decided a.trues))

-- kept: a decided variable makes a literal true
unfoldable pub satisfied : Assignment → Clause → Bool
satisfied a c = not (is_zero (keepers a c))

-- broken: all variables are decided and all literals false
unfoldable pub falsified : Assignment → Clause → Bool
falsified a c = is_zero (minus (vars c) a.decided) && not (satisfied a c)

-- the clause names a variable of k
unfoldable pub names : ℕ → Clause → Bool
names k c = meets (vars c) k

-- out: satisfied, or naming a redundant variable
unfoldable pub inactive : Assignment → ℕ → Clause → Bool
inactive a k c = satisfied a c || names k c

-- how many literals of the clause are undecided
unfoldable pub undecided_in : Assignment → Clause → ℕ
undecided_in a c = ones (minus c.pos a.decided) + ones (minus c.neg a.decided)

-- a record (decisions r; set K): `decisions` is r, `redundant` is K
pub record DSequent : Type 0 where
  pub decisions : Assignment
  pub redundant : ℕ

-- what the empty list stands for: no decisions and an empty set
abbrev pub no_dSequent : DSequent
no_dSequent = record { decisions = record { decided = 0; trues = 0 }; redundant = 0 }

-- the last of d and the list after it
abbrev pub last_or : DSequent → List DSequent → DSequent
last_or d [] = d
last_or d (r ∷ rs) = last_or r rs

-- the last D-sequent of a list. Its set is the struck set
abbrev pub last : List DSequent → DSequent
last rs = last_or no_dSequent rs

-- the D-sequents whose decisions do not name v
unfoldable pub without : ℕ → List DSequent → List DSequent
without v rs = filter (λ r. not (meets r.decisions.decided v)) rs
