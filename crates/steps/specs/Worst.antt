-- The worst books: all 2^n rules that name every one of n options, in any order.
use Rattle.std.specs.Prelude.{◌≡◌, false, ℕ, zero, suc, ◌^◌}
use mathlib.Core.List.{List, [], ◌∷◌, ◌++◌, map, Memᴰ, Permᴰ}
use Rattle.words.specs.Words.{minus, meets, first_vars}
use Rattle.steps.specs.Clause.{Clause, vars}

-- a rule that names every one of n options, and none with both signs
pub record Full (n : ℕ) (c : Clause) : Type 0 where
  pub every : vars c ≡ first_vars n
  pub consistent : meets c.pos c.neg ≡ false

-- the one of them that the choice x does not keep: what x fits is to be left out, and what it leaves out is to be fitted
unfoldable pub forbidding : ℕ → ℕ → Clause
forbidding n x = record { pos = minus (first_vars n) x; neg = x }

-- the numbers below m, the smallest first
abbrev pub below : ℕ → List ℕ
below zero = []
below (suc m) = below m ++ (m ∷ [])

-- all of them, one for each choice (`AllRules`)
unfoldable pub all_rules : ℕ → List Clause
all_rules n = map (forbidding n) (below (2 ^ n))

-- no element of the list stands there twice
abbrev pub Distinct : List Clause → Type 0
Distinct [] = Unit {0}
Distinct (c ∷ cs) = (Memᴰ c cs → ⊥) × Distinct cs

-- in any order: the book is a permutation of them
abbrev pub Arranged : ℕ → List Clause → Type 0
Arranged n book = Permᴰ (all_rules n) book
