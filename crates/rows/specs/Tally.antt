-- The tallies in the work table, beside the table of clauses: a word with the counts of each clause, and the rows of the index (`Index`).
use Rattle.std.specs.Prelude.{◌≡◌, Bool, true, false, not, ◌&&◌, ◌||◌, List, ℕ, ◌+◌, ◌-◌, ◌*◌, ◌/◌, ◌%◌, ◌^◌, ◌≤◌, ◌<◌, eqb, ltb, length}
use Rattle.std.specs.Int.Count.{ones}
use Rattle.words.specs.Words.{has, digit, minus}
use Rattle.steps.specs.Clause.{Clause, literals, vars, Assignment, keepers, names, undecided_in}
use Rattle.steps.specs.State.{redundant}
use Rattle.steps.specs.Tally.{Tally}
use Rattle.steps.specs.Demands.{Free}
use Rattle.steps.specs.Shape.{AllProper}
use Rattle.rows.specs.Rows.{clause_words, clause_at, clauses, state_of}
use Rattle.rows.specs.Index.{tally_words, count_at, count_of, row_at, is_in, playing, unsatisfied, struck, naming, masked, Only}
use Rattle.rows.specs.declared.state.Counts.{Counts}
use Rattle.rows.specs.declared.tally.Delta.{Delta}

-- ---- the counts of a clause

-- the word of its counts: 2 for each decision that satisfies it, 256 for each undecided literal
abbrev pub counts_of : Assignment → Clause → ℕ
counts_of a c = 2 * ones (keepers a c) + 256 * undecided_in a c

-- x is that word, at the decisions a
abbrev pub Counted : Assignment → Clause → ℕ → Type 0
Counted a c x = x ≡ counts_of a c

-- what it says: no decision satisfies the clause; none does, and exactly one literal is undecided
abbrev pub is_unsatisfied : ℕ → Bool
is_unsatisfied x = eqb (x % 256) 0

abbrev pub is_single : ℕ → Bool
is_single x = eqb x 256

-- the word with the mark of a redundant variable, 1 where the clause names one: all three tallies
abbrev pub word_of : Tally → ℕ
word_of x = digit x.struck + 2 * x.keepers + 256 * x.undecided

-- what the table holds of clause i, in one word: the mark is its digit in the struck row, and all else its counts
abbrev pub tally_at : List ℕ → ℕ → ℕ
tally_at q i = digit (is_in q struck i) + 2 * (count_of q i / 2)

-- ---- how a decision on a variable changes the word of a clause that names it. p says whether it has the literal of the sign

-- the word x after the change d
abbrev pub changed : Delta → Bool → ℕ → ℕ
changed d p x = x + d.up + masked p (2 ^ d.shift) - d.down

-- the change can be made: the word is small, and what is taken away is there
pub record Changeable (d : Delta) (p : Bool) (x : ℕ) : Type 0 where
  pub small : x < 65536
  pub up : d.up ≤ 256
  pub shift : d.shift ≤ 2
  pub enough : d.down ≤ x + d.up + masked p (2 ^ d.shift)

-- the variable is decided, with the value b
abbrev pub deciding_of : Bool → Delta
deciding_of b = record { up = 0; down = 256; sign = b; shift = 1 }

-- that decision is withdrawn
abbrev pub withdrawing_of : Bool → Delta
withdrawing_of b = record { up = 254; down = 0; sign = not b; shift = 1 }

-- it is withdrawn, and the other one made
abbrev pub turning_of : Bool → Delta
turning_of b = record { up = 0; down = 2; sign = not b; shift = 2 }

-- ---- the tallies of a table

-- block j of the m clauses of t is as the tallies at the decisions a and the struck set k are: each clause has its counts, and its digit is in the row of a variable
-- exactly if it names it, in that of the struck ones exactly if it names one of k, in that of those that no decision satisfies exactly if its counts say so, and in play
-- exactly if it is there and not among the struck ones
pub record Block (t q : List ℕ) (m j : ℕ) (a : Assignment) (k : ℕ) : Type 0 where
  pub counted : (b : ℕ) → b < 64 → 64 * j + b < m → Counted a (clause_at t (64 * j + b)) (count_at q j b)
  pub named : (v b : ℕ) → v < 64 → b < 64 → has (row_at q j (naming v)) b ≡ (ltb (64 * j + b) m && has (vars (clause_at t (64 * j + b))) v)
  pub marked : (b : ℕ) → b < 64 → has (row_at q j struck) b ≡ (ltb (64 * j + b) m && names k (clause_at t (64 * j + b)))
  pub unkept : (b : ℕ) → b < 64 → has (row_at q j unsatisfied) b ≡ (ltb (64 * j + b) m && is_unsatisfied (count_at q j b))
  pub active : row_at q j playing ≡ minus (row_at q j unsatisfied) (row_at q j struck)

-- each block of the m clauses of t is so
pub record Tallied (t q : List ℕ) (m : ℕ) (a : Assignment) (k : ℕ) : Type 0 where
  pub room : tally_words m ≤ length q
  pub block : (j : ℕ) → 64 * j < m → Block t q m j a k

-- at the decisions a and the list of rs
abbrev pub TalliedAt : List ℕ → List ℕ → List ℕ → Assignment → Counts → Type 0
TalliedAt t q rs a s = Tallied t q s.clauses a (redundant (state_of t rs s))

-- ---- what the walks ask, and what they do to a block

-- w is the word of one of the 64 variables
pub record Variable (w : ℕ) : Type 0 where
  pub var : ℕ
  pub word : w ≡ 2 ^ var
  pub below : var < 64

-- what a walk asks that decides w, or withdraws a decision on it: the clauses are proper, and the tallies are those of the decisions now, made from some at which w is
-- undecided, whatever the struck set
pub record Changing (t q : List ℕ) (m w : ℕ) (now : Assignment → Assignment) : Type 0 where
  pub table : clause_words m ≤ length t
  pub variable : Variable w
  pub vars : ℕ
  pub proper : AllProper vars (clauses t m)
  pub decisions : Assignment
  pub free : Free variable.var decisions
  pub struck : ℕ
  pub tallied : Tallied t q m (now decisions) struck

-- one or the other
abbrev pub pick : Bool → ℕ → ℕ → ℕ
pick true x y = x
pick false x y = y

-- where clause i is the first of its block, the block's rows are empty; else all is as it was
pub record Opened (q q' : List ℕ) (i : ℕ) : Type 0 where
  pub only : Only q q' (i / 64)
  pub counts : (b : ℕ) → b < 64 → count_at q' (i / 64) b ≡ count_at q (i / 64) b
  pub rows : (u : ℕ) → u < 67 → row_at q' (i / 64) u ≡ pick (eqb (i % 64) 0) 0 (row_at q (i / 64) u)

-- of block j no decision satisfies the clauses x, and the clauses y name a struck variable; all else of the block is as it was
pub record Put (q q' : List ℕ) (j x y : ℕ) : Type 0 where
  pub only : Only q q' j
  pub counts : (b : ℕ) → b < 64 → count_at q' j b ≡ count_at q j b
  pub named : (v : ℕ) → v < 64 → row_at q' j (naming v) ≡ row_at q j (naming v)
  pub unkept : row_at q' j unsatisfied ≡ x
  pub marked : row_at q' j struck ≡ y
  pub active : row_at q' j playing ≡ minus x y

-- the clauses of block j that name the variable v can be changed
pub record Shiftable (t q : List ℕ) (m j v : ℕ) (d : Delta) : Type 0 where
  pub table : clause_words m ≤ length t
  pub room : 131 * j + 131 ≤ length q
  pub below : v < 64
  pub clauses : (b : ℕ) → b < 64 → has (row_at q j (naming v)) b ≡ true → (64 * j + b < m) × Changeable d (has (literals d.sign (clause_at t (64 * j + b))) v) (count_at q j b)

-- the counts of the clause at place b of block j after the change, where it is one of x
abbrev pub shifted_at : List ℕ → List ℕ → ℕ → ℕ → Delta → ℕ → ℕ → ℕ
shifted_at t q j v d x b = pick (has x b) (changed d (has (literals d.sign (clause_at t (64 * j + b))) v) (count_at q j b)) (count_at q j b)

-- those of x have the counts after the change, and r are those of them that no decision satisfies then; all else of the table is as it was
pub record Shifted (t q q' : List ℕ) (j v : ℕ) (d : Delta) (x r : ℕ) : Type 0 where
  pub only : Only q q' j
  pub rows : (u : ℕ) → u < 67 → row_at q' j u ≡ row_at q j u
  pub counts : (b : ℕ) → b < 64 → count_at q' j b ≡ shifted_at t q j v d x b
  pub unkept : (b : ℕ) → b < 64 → has r b ≡ (has x b && is_unsatisfied (count_at q' j b))

-- the clauses of block j that name v have the counts after the change, and the rows are as the counts say then
pub record Changed (t q q' : List ℕ) (j v : ℕ) (d : Delta) : Type 0 where
  pub only : Only q q' j
  pub counts : (b : ℕ) → b < 64 → count_at q' j b ≡ shifted_at t q j v d (row_at q j (naming v)) b
  pub named : (w : ℕ) → w < 64 → row_at q' j (naming w) ≡ row_at q j (naming w)
  pub marked : row_at q' j struck ≡ row_at q j struck
  pub unkept :
      (b : ℕ) → b < 64 →
      has (row_at q' j unsatisfied) b
      ≡ ((has (row_at q j unsatisfied) b && not (has (row_at q j (naming v)) b)) || (has (row_at q j (naming v)) b && is_unsatisfied (count_at q' j b)))
  pub active : row_at q' j playing ≡ minus (row_at q' j unsatisfied) (row_at q' j struck)

-- a change of the decisions from a to b changes the counts so: those of a clause that names v as `changed` says, and no others
abbrev pub Leads : List ℕ → ℕ → ℕ → Delta → Assignment → Assignment → Type 0
Leads t m v d a b =
    (i : ℕ) → i < m →
    counts_of b (clause_at t i)
    ≡ pick (has (vars (clause_at t i)) v) (changed d (has (literals d.sign (clause_at t i)) v) (counts_of a (clause_at t i))) (counts_of a (clause_at t i))

-- where r is false no clause of the m in play names w
pub record Leaving (q : List ℕ) (m w : ℕ) (r : Bool) : Type 0 where
  pub none : r ≡ false → (v : ℕ) → w ≡ 2 ^ v → (i : ℕ) → i < m → (is_in q playing i && is_in q (naming v) i) ≡ false
