-- The demands on renumbered and reversed options, each as a named type that is proved in `proofs/`. The record at the end has them all; docs/STEPS.md says how to read the signs.
-- A renumbering m has a new number for each option and the set of those that are reversed (`Renumbering`). Option k + 1 stands at bit k. What book and order mean is said in
-- crate `steps`, what completing an order is in crate `order`, and what a check is in crate `contract`. Up to the bytes all is for any number n of options.
use Rattle.std.specs.Prelude.{◌≡◌, Bool, true, false, not, List, [], ◌∷◌, ◌↔◌, ℕ, ◌+◌, ◌-◌, ◌%◌, ◌^◌, ◌≤◌, ◌<◌}
use Rattle.words.specs.Words.{has, first_vars, Within}
use Rattle.steps.specs.Clause.{Clause, vars}
use Rattle.steps.specs.State.{Ending.can, Ending.cannot, Ending.out_of_branchings}
use Rattle.steps.specs.Run.{Assumptions, Outcome}
use Rattle.steps.specs.Meaning.{Builds, Buildable}
use Rattle.steps.specs.Marked.{clause, sequent}
use Rattle.steps.specs.Shape.{Input}
use Rattle.order.specs.Order.{Order, complete}
use Rattle.order.specs.Demands.{order}
use Rattle.book.specs.Bytes.{AllBytes, vars_in, rules_in, encode}
use Rattle.book.specs.Conditions.{NoRow, admit_conditions}
use Rattle.answer.specs.declared.Tally.{Tally}
use Rattle.answer.specs.Answer.{Answer, Answer.Can, Answer.Cannot}
use Rattle.contract.specs.Check.{Lengths, Result.ran, check}
use Rattle.contract.specs.Filled.{Tables, Checked}
use Rattle.contract.specs.Demands.{answer, check_conditions, IsVerdict, SameOutcome}
use Rattle.renumbering.specs.Renumbering.{Renumbering, Permutes, renumbered_rule, renumbered_order, renumbered_choice, renumbered_rules, renumbered_book, renumbered_words, identity}

-- ---- what becomes of each option

-- a permutation of the first n gives each of the n numbers to an option
abbrev pub EveryNumber : Type 0
EveryNumber = (f : ℕ → ℕ) (n j : ℕ) → Permutes f n → j < n → (k : ℕ) × (k < n) × (f k ≡ j)

-- whether an option is in the fitted set and in the left-out set, before and after: both stay as they are, and of a reversed option they change places
pub record Sides (reversed fitted out fitted' out' : Bool) : Type 0 where
  pub stay : reversed ≡ false → (fitted' ≡ fitted) × (out' ≡ out)
  pub change : reversed ≡ true → (fitted' ≡ out) × (out' ≡ fitted)

-- two words p and q, and what they become, option by option under its new number, and no other options
pub record Carried (m : Renumbering) (n p q p' q' : ℕ) : Type 0 where
  pub each : (k : ℕ) → k < n → Sides (has m.reversed k) (has p k) (has q k) (has p' (m.number k)) (has q' (m.number k))
  pub no_other : Within p' (first_vars n) × Within q' (first_vars n)

-- so it is with a rule's words, with an order's, and with the options that a choice fits and leaves out
pub record OptionByOption (m : Renumbering) (n : ℕ) : Type 0 where
  pub rule : (c : Clause) → Carried m n c.pos c.neg (renumbered_rule m n c).pos (renumbered_rule m n c).neg
  pub order : (o : Assumptions) → Carried m n o.pos o.neg (renumbered_order m n o).pos (renumbered_order m n o).neg
  pub choice :
      (x k : ℕ) → k < n →
      Sides (has m.reversed k) (has x k) (not (has x k)) (has (renumbered_choice m n x) (m.number k)) (not (has (renumbered_choice m n x) (m.number k)))
  pub choice_of : (x : ℕ) → renumbered_choice m n x < 2 ^ n

abbrev pub Renumbers : Type 0
Renumbers = (m : Renumbering) (n : ℕ) → Permutes m.number n → OptionByOption m n

-- ---- choices

-- each choice among n options is what one of them becomes, and no other becomes it
pub record OneToOne (m : Renumbering) (n y : ℕ) : Type 0 where
  pub old : ℕ
  pub choice : old < 2 ^ n
  pub becomes : renumbered_choice m n old ≡ y
  pub no_other : (x : ℕ) → x < 2 ^ n → renumbered_choice m n x ≡ y → x ≡ old

abbrev pub EveryChoice : Type 0
EveryChoice = (m : Renumbering) (n y : ℕ) → Permutes m.number n → y < 2 ^ n → OneToOne m n y

-- a choice keeps book and order exactly if what it becomes keeps what they become. `Input`: the rules are without fault, and the order names only the n options
abbrev pub Keeping : Type 0
Keeping =
    (m : Renumbering) (n : ℕ) (rules : List Clause) (o : Assumptions) → Permutes m.number n → Input n rules o → (x : ℕ) → x < 2 ^ n →
    Builds n rules o x ↔ Builds n (renumbered_rules m n rules) (renumbered_order m n o) (renumbered_choice m n x)

-- so the one can be built exactly if the other can
abbrev pub Building : Type 0
Building =
    (m : Renumbering) (n : ℕ) (rules : List Clause) (o : Assumptions) → Permutes m.number n → Input n rules o →
    Buildable n rules o ↔ Buildable n (renumbered_rules m n rules) (renumbered_order m n o)

-- ---- two checks

-- the bytes and the order with a prime are what the others become. Of the orders it is said of the completed ones: which options are standard plays no part
pub record Becomes (m : Renumbering) (bytes bytes' : List ℕ) (o o' : Order) : Type 0 where
  pub permutes : Permutes m.number (vars_in bytes)
  pub options : vars_in bytes' ≡ vars_in bytes
  pub rules : rules_in bytes' ≡ renumbered_rules m (vars_in bytes) (rules_in bytes)
  pub order : complete o' ≡ renumbered_order m (vars_in bytes) (complete o)

-- both say "can", or both say "cannot". Of the counts nothing is said
pub data SameVerdict : Answer → Answer → Type 0 where
  both_can : (t t' : Tally) → SameVerdict (Can t) (Can t')
  both_cannot : (t t' : Tally) → SameVerdict (Cannot t) (Cannot t')

-- where two checks both give a verdict, it is the same, whatever the allowance and the tables of each. a and a' are what the entry point answers (`Checked`)
abbrev pub Agreeing : Type 0
Agreeing =
    (m : Renumbering) (bytes bytes' : List ℕ) (o o' : Order) → Becomes m bytes bytes' o o' →
    (allowance allowance' : ℕ) (before before' after after' : Tables) (a a' : Answer) →
    Checked bytes o allowance before a after → Checked bytes' o' allowance' before' a' after' → IsVerdict a → IsVerdict a' → SameVerdict a a'

-- every book and order that are not refused become such, under every permutation and with any options reversed, that are not refused either
pub record Renumbered (m : Renumbering) (bytes : List ℕ) (o : Order) (l : Lengths) : Type 0 where
  pub becomes : Becomes m bytes (renumbered_book m bytes) o (renumbered_words m (vars_in bytes) o)
  pub not_refused : NoRow (check_conditions (renumbered_book m bytes) (renumbered_words m (vars_in bytes) o) l)
  -- with 2^n - 1 of both allowances each gives a verdict, and so the same
  pub same_verdict :
      (allowance : ℕ) → 2 ^ vars_in bytes - 1 ≤ allowance → 2 ^ vars_in bytes - 1 ≤ l.pos →
      SameVerdict (answer bytes o allowance l) (answer (renumbered_book m bytes) (renumbered_words m (vars_in bytes) o) allowance l)

abbrev pub EveryBook : Type 0
EveryBook =
    (m : Renumbering) (bytes : List ℕ) (o : Order) (l : Lengths) → Permutes m.number (vars_in bytes) → NoRow (check_conditions bytes o l) → Renumbered m bytes o l

-- ---- the identity

-- it leaves the rules, orders and choices of n options as they are
pub record Leaves (n : ℕ) : Type 0 where
  pub permutes : Permutes identity.number n
  pub rule : (c : Clause) → Within (vars c) (first_vars n) → renumbered_rule identity n c ≡ c
  pub order : (o : Assumptions) → Within o.pos (first_vars n) → Within o.neg (first_vars n) → renumbered_order identity n o ≡ o
  pub choice : (x : ℕ) → x < 2 ^ n → renumbered_choice identity n x ≡ x

abbrev pub Identity : Type 0
Identity = (n : ℕ) → Leaves n

-- and so the bytes of a book, and with every allowance and all tables the outcome
pub record LeavesBook (bytes : List ℕ) (o : Order) : Type 0 where
  pub book : renumbered_book identity bytes ≡ bytes
  pub outcome : SameOutcome bytes o (renumbered_words identity (vars_in bytes) o)

abbrev pub IdentityOfBooks : Type 0
IdentityOfBooks = (bytes : List ℕ) (o : Order) → AllBytes bytes → NoRow (admit_conditions bytes o) → LeavesBook bytes o

-- ---- examples

-- a book and an order of n options, what they become, and what a check of each comes to, with the same allowance and tables
pub record Change (m : Renumbering) (bytes bytes' : List ℕ) (o o' : Order) (allowance : ℕ) (r r' : Outcome) : Type 0 where
  pub becomes : Becomes m bytes bytes' o o'
  pub before : check bytes o allowance (record { pos = 3; neg = 3; decided = 64; trues = 64; redundant = 64 }) ≡ ran r
  pub after : check bytes' o' allowance (record { pos = 3; neg = 3; decided = 64; trues = 64; redundant = 64 }) ≡ ran r'

-- "1 or 2", "1 or not 2" and "not 1 or not 2", and the same with the two numbers exchanged
abbrev pub two : List ℕ
two = encode 2 (clause 3 0 ∷ clause 1 2 ∷ clause 0 3 ∷ [])

abbrev pub two_exchanged : List ℕ
two_exchanged = encode 2 (clause 3 0 ∷ clause 2 1 ∷ clause 0 3 ∷ [])

pub record Examples : Type 0 where
  -- options 1 and 2 exchange their numbers: the one takes two branchings and derives the rule "1", the other one branching and no rule
  pub permuted :
      Change (record { number = λ k. 1 - k; reversed = 0 }) two two_exchanged (order 0 0 0) (order 0 0 0) 3
      (record { ending = can; branchings = 2; derived = clause 1 0 ∷ []; records = sequent 1 1 2 ∷ [] })
      (record { ending = can; branchings = 1; derived = []; records = sequent 1 0 2 ∷ [] })
  -- so with one branching the one stops, where the other gives a verdict
  pub stopped :
      Change (record { number = λ k. 1 - k; reversed = 0 }) two two_exchanged (order 0 0 0) (order 0 0 0) 1
      (record { ending = out_of_branchings; branchings = 1; derived = []; records = [] })
      (record { ending = can; branchings = 1; derived = []; records = sequent 1 0 2 ∷ [] })
  -- option 1 is reversed: a branching and a derived rule more
  pub reversed :
      Change (record { number = λ k. k; reversed = 1 }) (encode 2 (clause 1 2 ∷ clause 2 1 ∷ clause 0 3 ∷ []))
      (encode 2 (clause 0 3 ∷ clause 3 0 ∷ clause 1 2 ∷ [])) (order 0 0 0) (order 0 0 0) 3
      (record { ending = can; branchings = 1; derived = []; records = sequent 1 0 2 ∷ [] })
      (record { ending = can; branchings = 2; derived = clause 1 0 ∷ []; records = sequent 1 1 2 ∷ [] })
  -- option 2 is reversed, and then option 1 becomes 2, 2 becomes 3, and 3 becomes 1: options 1 and 2 are unwanted before, and option 2 unwanted and 3 wanted after
  pub both :
      Change (record { number = λ k. (k + 1) % 3; reversed = 2 }) (encode 3 (clause 0 6 ∷ clause 5 0 ∷ clause 3 0 ∷ []))
      (encode 3 (clause 4 1 ∷ clause 3 0 ∷ clause 2 4 ∷ [])) (order 0 3 0) (order 4 2 0) 3
      (record { ending = cannot; branchings = 3; derived = clause 1 4 ∷ clause 1 0 ∷ clause 0 0 ∷ []; records = sequent 0 0 7 ∷ [] })
      (record { ending = cannot; branchings = 2; derived = clause 0 4 ∷ clause 0 0 ∷ []; records = sequent 0 0 7 ∷ [] })
  -- a standard option that is reversed is unwanted; the other one may be wanted before and standard after. The derived rule "not 1" would become "1", and is "not 2"
  pub standard :
      Change (record { number = λ k. k; reversed = 1 }) (encode 2 (clause 0 3 ∷ [])) (encode 2 (clause 1 2 ∷ [])) (order 2 0 1) (order 0 1 2) 3
      (record { ending = cannot; branchings = 2; derived = clause 0 1 ∷ clause 0 0 ∷ []; records = sequent 0 0 3 ∷ [] })
      (record { ending = cannot; branchings = 2; derived = clause 0 2 ∷ clause 0 0 ∷ []; records = sequent 0 0 3 ∷ [] })

-- ---- all of them

-- every demand, proved in `proofs/Demands.antt`
pub record Demands : Type 0 where
  pub every_number : EveryNumber
  pub renumbers : Renumbers
  pub every_choice : EveryChoice
  pub keeping : Keeping
  pub building : Building
  pub agreeing : Agreeing
  pub every_book : EveryBook
  pub identity : Identity
  pub identity_of_books : IdentityOfBooks
  pub examples : Examples
