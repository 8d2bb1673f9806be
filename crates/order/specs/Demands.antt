-- The demands on completing an order, each as a named type that is proved in `proofs/`. Words are any numbers. Option k + 1 stands at bit k.
use Rattle.std.specs.Prelude.{◌≡◌, true, false, List, [], ◌∷◌, ◌++◌, map, ◌⊎◌, ◌↔◌, ℕ, ◌<◌}
use Rattle.words.specs.Words.{has}
use Rattle.words.specs.Demands.{LowestFirst}
use Rattle.steps.specs.Run.{units}
use Rattle.steps.specs.Meaning.{obeys}
use Rattle.order.specs.Order.{Order, complete, free}

-- wanted, unwanted and standard options
abbrev pub order : ℕ → ℕ → ℕ → Order
order p q s = record { wanted = p; unwanted = q; standard = s }

-- ---- completing

-- an option is taken as wanted: it is wanted, or it is standard and not unwanted
abbrev pub Taken : Order → ℕ → Type 0
Taken o k = (has o.wanted k ≡ true) ⊎ ((has o.standard k ≡ true) × (has o.unwanted k ≡ false))

-- the completed order wants what is taken as wanted, and nothing else, and leaves the unwanted options as they are
pub record Completes (o : Order) : Type 0 where
  pub wanted : (k : ℕ) → (has (complete o).pos k ≡ true) ↔ Taken o k
  pub unwanted : (complete o).neg ≡ o.unwanted

abbrev pub Completing : Type 0
Completing = (o : Order) → Completes o

-- without standard options the order is complete as it is
abbrev pub WithoutStandard : Type 0
WithoutStandard = (p q : ℕ) → complete (order p q 0) ≡ record { pos = p; neg = q }

-- ---- keeping the order

-- the choice x fits what is wanted, fits what is standard and not unwanted, and leaves out what is unwanted
pub record Keeps (x : ℕ) (o : Order) : Type 0 where
  pub wanted : (k : ℕ) → has o.wanted k ≡ true → has x k ≡ true
  pub standard : (k : ℕ) → has o.standard k ≡ true → has o.unwanted k ≡ false → has x k ≡ true
  pub unwanted : (k : ℕ) → has o.unwanted k ≡ true → has x k ≡ false

-- a choice keeps the completed order, as demand 2 says it (`obeys`), exactly if it does so
abbrev pub Keeping : Type 0
Keeping = (x : ℕ) (o : Order) → (obeys x (complete o) ≡ true) ↔ Keeps x o

-- ---- the order's rules

-- the rules that join the table: a rule of one option for each that is taken as wanted, in one lowest-first run, and then for each unwanted one
pub record JoinTheTable (o : Order) : Type 0 where
  pub taken : List ℕ
  pub unwanted : List ℕ
  pub rules : units (complete o) ≡ map (λ w. record { pos = w; neg = 0 }) taken ++ map (λ w. record { pos = 0; neg = w }) unwanted
  pub taken_run : LowestFirst (Taken o) taken
  pub unwanted_run : LowestFirst (λ k. has o.unwanted k ≡ true) unwanted

abbrev pub OrderRules : Type 0
OrderRules = (o : Order) → JoinTheTable o

-- ---- free options

-- the free options are those of the n that are neither wanted nor unwanted nor standard
abbrev pub FreeOptions : Type 0
FreeOptions =
    (n : ℕ) (o : Order) (k : ℕ) →
    (has (free n o) k ≡ true) ↔ ((k < n) × (has o.wanted k ≡ false) × (has o.unwanted k ≡ false) × (has o.standard k ≡ false))

-- ---- all of them

-- options 2 and 4 are wanted and option 1 unwanted; options 1, 3 and 4 are standard. Option 3 joins between 2 and 4, and option 1 stays unwanted. Of five options
-- only the last is free
pub record Examples : Type 0 where
  pub completed : complete (order 10 1 13) ≡ record { pos = 14; neg = 1 }
  pub rules :
      units (complete (order 10 1 13)) ≡
      record { pos = 2; neg = 0 } ∷ record { pos = 4; neg = 0 } ∷ record { pos = 8; neg = 0 } ∷ record { pos = 0; neg = 1 } ∷ []
  pub free : free 5 (order 10 1 13) ≡ 16

pub record Demands : Type 0 where
  pub completing : Completing
  pub without_standard : WithoutStandard
  pub keeping : Keeping
  pub order_rules : OrderRules
  pub free_options : FreeOptions
  pub examples : Examples
