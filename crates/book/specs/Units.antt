-- The clauses of a completed order, one sign at a time.
use Rattle.std.specs.Prelude.{Bool, true, false, not, List, map, ℕ}
use Rattle.words.specs.Words.{members}
use Rattle.steps.specs.Clause.{Clause}

-- x where b, and else 0
abbrev pub when : Bool → ℕ → ℕ
when true x = x
when false x = 0

-- the clause of one literal of sign b
abbrev pub unit_of : Bool → ℕ → Clause
unit_of b w = record { pos = when b w; neg = when (not b) w }

-- one for each member of x, lowest first
unfoldable pub units_of : Bool → ℕ → List Clause
units_of b x = map (unit_of b) (members x)
