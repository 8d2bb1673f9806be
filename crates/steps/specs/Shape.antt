-- What the words, clauses and D-sequents at a point of a run look like. It says nothing of what they mean.
use Rattle.std.specs.Prelude.{◌≡◌, ◌≢◌, true, false, ℕ, ◌^◌}
use mathlib.Core.List.{List, [], ◌∷◌, Memᴰ}
use Rattle.std.specs.Int.Bits.{bit_and}
use Rattle.words.specs.Words.{has, meets, first_vars, Within}
use Rattle.steps.specs.Clause.{Clause, vars, Assignment, DSequent}
use Rattle.steps.specs.State.{Env, State, Side, Side.up, Side.ended, undecided, live}
use Rattle.steps.specs.Enter.{Turn, Turn.back, Turn.satisfiable, Turn.branch}
use Rattle.steps.specs.Run.{Assumptions}

-- a rule that passes refusals 5 and 6: it names only the n variables, and none with both signs
pub record Proper (n : ℕ) (c : Clause) : Type 0 where
  pub named : Within (vars c) (first_vars n)
  pub consistent : meets c.pos c.neg ≡ false

abbrev pub AllProper : ℕ → List Clause → Type 0
AllProper n t = (c : Clause) → Memᴰ c t → Proper n c

-- a book that was read, and an order that names only its variables
pub record Input (n : ℕ) (book : List Clause) (o : Assumptions) : Type 0 where
  pub book_proper : AllProper n book
  pub wanted : Within o.pos (first_vars n)
  pub unwanted : Within o.neg (first_vars n)

-- the D-sequent's decisions are among those of a, with their values, and its set is undecided
pub record Recorded (e : Env) (a : Assignment) (d : DSequent) : Type 0 where
  pub on : Within d.decisions.decided a.decided
  pub values : d.decisions.trues ≡ bit_and d.decisions.decided a.trues
  pub off : Within d.redundant (undecided e a)

-- each set has all of the one before it, the first all of k, and more
abbrev pub Growing : ℕ → List DSequent → Type 0
Growing k [] = Unit {0}
Growing k (d ∷ ds) = Within k d.redundant × (k ≢ d.redundant) × Growing d.redundant ds

-- a point: its decisions, table and list
pub record Shape (e : Env) (a : Assignment) (s : State) : Type 0 where
  pub trues : Within a.trues a.decided
  pub decided : Within a.decided (first_vars e.n)
  pub clauses : AllProper e.n s.table
  pub records : (d : DSequent) → Memᴰ d s.records → Recorded e a d
  pub growing : Growing 0 s.records

-- w is the word of one variable, and that one is a member of x
pub record OneOf (w x : ℕ) : Type 0 where
  pub var : ℕ
  pub word : w ≡ 2 ^ var
  pub member : has x var ≡ true

-- what there is to do at a point leaves a point, and branches over a live variable
abbrev pub TurnShape : Env → Assignment → Turn → Type 0
TurnShape e a (back s) = Shape e a s
TurnShape e a (satisfiable s) = Shape e a s
TurnShape e a (branch w b s) = Shape e a s × OneOf w (live e a s)

-- going back up leaves a point, and so does the end of a run, with the decisions at which it was reached
abbrev pub SideShape : Env → Assignment → Side → Type 0
SideShape e a (up s) = Shape e a s
SideShape e a (ended x d s) = Shape e d s
