-- What is demanded of variables under other numbers, each as a named type that is proved in `proofs/`: for every map f, every number n of variables and every word.
use Rattle.std.specs.Prelude.{◌≡◌, true, List, map, ◌↔◌, ℕ, ◌<◌}
use Rattle.words.specs.Words.{has}
use Rattle.steps.specs.Clause.{Clause}
use Rattle.steps.specs.Meaning.{satisfies, models}
use Rattle.steps.specs.Shape.{Proper, AllProper}
use Rattle.renaming.specs.Renaming.{image, renamed, preimage, Apart, Into, Pulled}

-- j is the other number of a member of w among the first n
pub record Named (f : ℕ → ℕ) (n w j : ℕ) : Type 0 where
  pub var : ℕ
  pub below : var < n
  pub member : has w var ≡ true
  pub number : f var ≡ j

-- a word under other numbers has just these
abbrev pub ImageMembers : Type 0
ImageMembers = (f : ℕ → ℕ) (n w j : ℕ) → (has (image f n w) j ≡ true) ↔ Named f n w j

-- where no two variables get one number, each is a member exactly if it was
abbrev pub ImageApart : Type 0
ImageApart = (f : ℕ → ℕ) (n w k : ℕ) → Apart f n → k < n → has (image f n w) (f k) ≡ has w k

-- the way back: a choice of all numbers says of each variable what it says of its other number
abbrev pub WayBack : Type 0
WayBack = (f : ℕ → ℕ) (n x : ℕ) → Pulled f n x (preimage f n x)

-- a choice keeps a clause under other numbers exactly if it keeps, read back, the clause
abbrev pub Keeping : Type 0
Keeping = (f : ℕ → ℕ) (n x z : ℕ) (c : Clause) → Proper n c → Pulled f n x z → satisfies x (renamed f n c) ≡ satisfies z c

-- and so a list of clauses
abbrev pub KeepingAll : Type 0
KeepingAll = (f : ℕ → ℕ) (n x z : ℕ) (cs : List Clause) → AllProper n cs → Pulled f n x z → models x (map (renamed f n) cs) ≡ models z cs

-- where no two variables get one number, a proper clause stays one: no variable stands in it twice
abbrev pub StaysProper : Type 0
StaysProper = (f : ℕ → ℕ) (n m : ℕ) (c : Clause) → Apart f n → Into f n m → Proper n c → Proper m (renamed f n c)

pub record Demands : Type 0 where
  pub image_members : ImageMembers
  pub image_apart : ImageApart
  pub way_back : WayBack
  pub keeping : Keeping
  pub keeping_all : KeepingAll
  pub stays_proper : StaysProper
