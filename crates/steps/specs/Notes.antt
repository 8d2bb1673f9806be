-- Step 3 by rule: a walk over the table notes which literals are in play, and the variable to strike is chosen from the notes. The demands `Noted`, `SameChoice` and
-- `SameSweep` say what is noted, and that this comes to the same as `Sweep`, which tests one variable after the other.
use Rattle.std.specs.Prelude.{Bool, true, false, not, ◌&&◌, List, [], ◌∷◌, ℕ, zero, suc}
use Rattle.std.proofs.Math.Option.{Option, some, none}
use Rattle.std.specs.Int.Bits.{bit_or}
use Rattle.words.specs.Words.{meets, lowest, members}
use Rattle.steps.specs.Clause.{Clause, literals, Assignment, keepers, names, inactive, last}
use Rattle.steps.specs.State.{Env, State, redundant, live}
use Rattle.steps.specs.Sweep.{Found, nothing, variable, sweep_on}

-- the variables whose positive literal is noted, and those whose negative one is
pub record Notes : Type 0 where
  pub pos : ℕ
  pub neg : ℕ

-- those noted with one sign
abbrev pub noted : Bool → Notes → ℕ
noted true x = x.pos
noted false x = x.neg

-- a clause's turn in the walk: an inactive one leaves the notes x as they are, any other adds its literals
unfoldable pub note : Assignment → ℕ → Clause → Notes → Notes
note a k c x =
    elim (inactive a k c) [ true ↦ x | false ↦ record { pos = bit_or x.pos c.pos; neg = bit_or x.neg c.neg } ]

-- the rest of a walk, with the notes so far
unfoldable pub walk : Assignment → ℕ → Notes → List Clause → Notes
walk a k x [] = x
walk a k x (c ∷ cs) = walk a k (note a k c x) cs

-- the notes of a walk over the table
unfoldable pub notes : Assignment → ℕ → List Clause → Notes
notes a k t = walk a k (record { pos = 0; neg = 0 }) t

-- the literal of a variable, given as a word, and a sign
pub record Literal : Type 0 where
  pub var : ℕ
  pub sign : Bool

-- the choice from the notes: the first of the listed variables with a literal that is not noted. Its negative literal if that is not noted, else its positive one
unfoldable pub choice : List ℕ → Notes → Option Literal
choice [] x = none
choice (w ∷ ws) x =
    elim (meets x.neg w) [
      | false ↦ some (record { var = w; sign = false })
      | true ↦ elim (meets x.pos w) [ false ↦ some (record { var = w; sign = true }) | true ↦ choice ws x ]
    ]

-- a clause is in play with the literal l: it has it, and is not inactive
abbrev pub in_play : Literal → Assignment → ℕ → Clause → Bool
in_play l a k c = not (inactive a k c) && meets (literals l.sign c) l.var

-- the decision that a clause adds for the literal l: where it has l and names nothing of k, the lowest that satisfies it
unfoldable pub keeper : Literal → Assignment → ℕ → Clause → ℕ
keeper l a k c = elim (meets (literals l.sign c) l.var && not (names k c)) [ false ↦ 0 | true ↦ lowest (keepers a c) ]

-- the decisions r, and those that the clauses add
unfoldable pub gather : Literal → Assignment → ℕ → ℕ → List Clause → ℕ
gather l a k r [] = r
gather l a k r (c ∷ cs) = gather l a k (bit_or r (keeper l a k c)) cs

-- what was chosen, as what is found: the variable with the decisions gathered for its literal, the last D-sequent's among them
abbrev pub found_by : Assignment → State → Option Literal → Found
found_by a s none = nothing
found_by a s (some l) = variable l.var (gather l a (redundant s) (last s.records).decisions.decided s.table)

-- what step 3 picks from the notes of a walk, of the listed variables
abbrev pub picked : Assignment → State → List ℕ → Found
picked a s ws = found_by a s (choice ws (notes a (redundant s) s.table))

-- the sweep by rule, at most k rounds. A round strikes what is picked from the notes x, and its walk takes the notes for the next one
unfoldable pub rounds : Env → Assignment → ℕ → Notes → State → State
rounds e a zero x s = s
rounds e a (suc k) x s =
    sweep_on a (λ u. rounds e a k (notes a (redundant u) u.table) u) s (found_by a s (choice (members (live e a s)) x))
