-- What a book and an order mean. A choice is a word: the options that it fits. Nothing here knows of the search.
use Rattle.std.specs.Prelude.{◌≡◌, Bool, true, not, ◌&&◌, ◌||◌, List, [], ◌∷◌, ◌⊎◌, ℕ, ◌^◌, ◌<◌, eqb}
use Rattle.std.specs.Int.Bits.{bit_and}
use Rattle.words.specs.Words.{is_zero, minus, meets}
use Rattle.steps.specs.Lists.{filter}
use Rattle.steps.specs.Clause.{Clause, Assignment, names, DSequent}
use Rattle.steps.specs.Run.{Assumptions}

-- the choice x keeps the clause: it fits a variable of a positive literal, or leaves one of a negative literal out
unfoldable pub satisfies : ℕ → Clause → Bool
satisfies x c = meets c.pos x || not (is_zero (minus c.neg x))

-- the choice keeps every clause
abbrev pub models : ℕ → List Clause → Bool
models x [] = true
models x (c ∷ cs) = satisfies x c && models x cs

-- the choice keeps the order: it fits what is wanted and nothing that is unwanted
unfoldable pub obeys : ℕ → Assumptions → Bool
obeys x o = is_zero (minus o.pos x) && not (meets o.neg x)

-- the choice agrees with the decisions
unfoldable pub agrees : ℕ → Assignment → Bool
agrees x r = eqb (bit_and x r.decided) r.trues

-- x is a choice among n options that keeps book and order
pub record Builds (n : ℕ) (book : List Clause) (o : Assumptions) (x : ℕ) : Type 0 where
  pub choice : x < 2 ^ n
  pub rules : models x book ≡ true
  pub order : obeys x o ≡ true

-- book and order can be built
abbrev pub Buildable : ℕ → List Clause → Assumptions → Type 0
Buildable n book o = (x : ℕ) × Builds n book o x

-- the clause follows from book and order
abbrev pub Follows : ℕ → List Clause → Assumptions → Clause → Type 0
Follows n book o c = (x : ℕ) → Builds n book o x → satisfies x c ≡ true

-- the clauses that name no variable of k
abbrev pub dropping : ℕ → List Clause → List Clause
dropping k t = filter (λ c. not (names k c)) t

-- a record holds in the table t: either book and order can be built, or t under the decisions, with every clause that names a
-- variable of the set dropped, still cannot be kept
abbrev pub Holds : ℕ → List Clause → Assumptions → List Clause → DSequent → Type 0
Holds n book o t d =
    Buildable n book o ⊎
    ((x : ℕ) → x < 2 ^ n → agrees x d.decisions ≡ true → models x (dropping d.redundant t) ≡ true → ⊥)
