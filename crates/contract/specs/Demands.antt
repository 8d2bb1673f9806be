-- The demands on a check, each as a named type that is proved in `proofs/`. The record at the end has them all; docs/STEPS.md says how to read the signs
-- ("Signs"). `check bytes o allowance l` is the definition, for book bytes, an order, a branching allowance and the lengths l of the five lent tables. It is
-- `refused k`, or `ran r` with the outcome r of the steps, which go by the completed order (`complete o`, crate `order`). The code's answer is `answer_of` of it,
-- and its tables are `filled` by it. Bytes, words, allowance and lengths are any numbers. What the steps do, and what book and order mean, is said in crate
-- `steps`; the conditions of the refusals in crate `book`.
use Rattle.std.specs.Prelude.{◌≡◌, List, [], ◌∷◌, ◌++◌, map, ◌⊎◌, ◌↔◌, ℕ, ◌-◌, ◌^◌, ◌≤◌, ◌<◌, length, take, drop}
use Rattle.steps.specs.Clause.{Clause, DSequent}
use Rattle.steps.specs.State.{Ending.can, Ending.cannot, Ending.out_of_branchings, Ending.out_of_clauses}
use Rattle.steps.specs.Run.{Outcome, given, run}
use Rattle.steps.specs.Meaning.{Buildable}
use Rattle.steps.specs.Marked.{clause, sequent}
use Rattle.steps.specs.Demands.{Verdict, DerivedFollow, RecordsHold, NoneCovers, Enough, Spent}
use Rattle.order.specs.Order.{Order, complete}
use Rattle.order.specs.Demands.{order}
use Rattle.book.specs.Bytes.{vars_in, rules_in, encode}
use Rattle.book.specs.Conditions.{Condition, condition, First, NoRow, NamesAbove, InBoth, rule_conditions, book_conditions, order_conditions, admit_conditions}
use Rattle.answer.specs.Answer.{tally_of, Answer, Answer.Can, Answer.Cannot, Answer.Refused, Answer.Stopped}
use Rattle.answer.specs.Packed.{Packable}
use Rattle.answer.specs.declared.Tally.{Tally}
use Rattle.contract.specs.Check.{Lengths, Result.refused, Result.ran, outcome, check}
use Rattle.contract.specs.Filled.{answer_of, Tables, lengths, filled}

-- what the code answers
abbrev pub answer : List ℕ → Order → ℕ → Lengths → Answer
answer bytes o allowance l = answer_of (check bytes o allowance l)

-- the tables that are permitted: two of one length for derived rules, three for records
pub record Permitted (l : Lengths) : Type 0 where
  pub same : l.pos ≡ l.neg
  pub few : l.pos ≤ 2048
  pub decided : 64 ≤ l.decided
  pub trues : 64 ≤ l.trues
  pub redundant : 64 ≤ l.redundant

-- the table of refusals in docs/FORMAT.md: 1 to 8 and 12 of book and order (`admit_conditions`), and then 9, that the tables are not permitted
abbrev pub check_conditions : List ℕ → Order → Lengths → List Condition
check_conditions bytes o l = admit_conditions bytes o ++ (condition 9 (Permitted l → ⊥) ∷ [])

-- ---- demand 1

-- a verdict, a refusal 1 to 9 or 12, or stop 10 or 11. t is the three counts
abbrev pub Named : Answer → Type 0
Named (Can t) = Unit {0}
Named (Cannot t) = Unit {0}
Named (Refused k) = ((1 ≤ k) × (k ≤ 9)) ⊎ (k ≡ 12)
Named (Stopped k t) = (k ≡ 10) ⊎ (k ≡ 11)

-- there is such an answer to all bytes and numbers
abbrev pub Answers : Type 0
Answers = (bytes : List ℕ) (o : Order) (allowance : ℕ) (l : Lengths) → Named (answer bytes o allowance l)

-- a refusal has the number of the first condition that holds (`First`), and where one holds, the first is refused
abbrev pub Refusals : Type 0
Refusals =
    (bytes : List ℕ) (o : Order) (allowance : ℕ) (l : Lengths) (k : ℕ) →
    (check bytes o allowance l ≡ refused k) ↔ First (check_conditions bytes o l) k

-- where no condition holds (`NoRow`), and only there, it is run, and the outcome is that of the steps
abbrev pub Runs : Type 0
Runs =
    (bytes : List ℕ) (o : Order) (allowance : ℕ) (l : Lengths) (r : Outcome) →
    (check bytes o allowance l ≡ ran r) ↔ (NoRow (check_conditions bytes o l) × (r ≡ outcome bytes o allowance l))

-- the largest input is not refused: 64 options, 1,024 rules without fault and an order without fault, 2,048 places, and record tables of 64
abbrev pub LimitsPass : Type 0
LimitsPass =
    (rules : List Clause) (o : Order) → length rules ≡ 1024 → NoRow (rule_conditions 64 rules) → NoRow (order_conditions 64 o) → (allowance : ℕ) →
    check (encode 64 rules) o allowance (record { pos = 2048; neg = 2048; decided = 64; trues = 64; redundant = 64 }) ≡ ran (run 64 rules (complete o) allowance 2048)

-- after a refusal the lent tables are as they were
abbrev pub Untouched : Type 0
Untouched =
    (bytes : List ℕ) (o : Order) (allowance : ℕ) (t : Tables) (k : ℕ) → check bytes o allowance (lengths t) ≡ refused k →
    filled (check bytes o allowance (lengths t)) t ≡ t

-- the counted places of the tables: as many as there are derived rules, and as many as there are records
abbrev pub first_places : Tally → Tables → Tables
first_places c t =
    record {
      pos = take c.derived t.pos;
      neg = take c.derived t.neg;
      decided = take c.records t.decided;
      trues = take c.records t.trues;
      redundant = take c.records t.redundant;
    }

-- the places after them
abbrev pub later_places : Tally → Tables → Tables
later_places c t =
    record {
      pos = drop c.derived t.pos;
      neg = drop c.derived t.neg;
      decided = drop c.records t.decided;
      trues = drop c.records t.trues;
      redundant = drop c.records t.redundant;
    }

-- the words of the derived rules and the records, in order
abbrev pub tables_of : Outcome → Tables
tables_of r =
    record {
      pos = map (λ (c : Clause). c.pos) r.derived;
      neg = map (λ (c : Clause). c.neg) r.derived;
      decided = map (λ (d : DSequent). d.decisions.decided) r.records;
      trues = map (λ (d : DSequent). d.decisions.trues) r.records;
      redundant = map (λ (d : DSequent). d.redundant) r.records;
    }

-- the counted places hold the words of the outcome, and every later place is as it was; the counts are never more than the tables have
pub record Fills (r : Outcome) (before after : Tables) : Type 0 where
  pub first : first_places (tally_of r) after ≡ tables_of r
  pub later : later_places (tally_of r) after ≡ later_places (tally_of r) before
  pub same_lengths : lengths after ≡ lengths before
  pub derived_fit : length r.derived ≤ length before.pos
  pub records_fit : length r.records ≤ 64

-- so it is wherever nothing is refused
abbrev pub Filling : Type 0
Filling =
    (bytes : List ℕ) (o : Order) (allowance : ℕ) (t : Tables) → NoRow (check_conditions bytes o (lengths t)) →
    Fills (outcome bytes o allowance (lengths t)) t (filled (check bytes o allowance (lengths t)) t)

-- two lendings t and t' have the same result and the same words in the counted places
pub record NoDifference (bytes : List ℕ) (o : Order) (allowance : ℕ) (t t' : Tables) : Type 0 where
  pub result : check bytes o allowance (lengths t) ≡ check bytes o allowance (lengths t')
  pub words :
      (r : Outcome) → check bytes o allowance (lengths t) ≡ ran r →
      first_places (tally_of r) (filled (check bytes o allowance (lengths t)) t)
      ≡
      first_places (tally_of r) (filled (check bytes o allowance (lengths t')) t')

-- so it is wherever both are permitted and have as many places for derived rules: what a table held before plays no part, nor does the length of a record table
abbrev pub NoPart : Type 0
NoPart =
    (bytes : List ℕ) (o : Order) (allowance : ℕ) (t t' : Tables) → Permitted (lengths t) → Permitted (lengths t') →
    length t.pos ≡ length t'.pos → NoDifference bytes o allowance t t'

-- every answer fits the one word of 64 bits (docs/FORMAT.md), where the allowance has 32 bits
abbrev pub AnswersFit : Type 0
AnswersFit = (bytes : List ℕ) (o : Order) (allowance : ℕ) (l : Lengths) → allowance < 2 ^ 32 → Packable (answer bytes o allowance l)

-- ---- demand 2

-- the answer names the ending by its word or number, with the three counts
pub record Tells (r : Outcome) (a : Answer) : Type 0 where
  pub can : r.ending ≡ can → a ≡ Can (tally_of r)
  pub cannot : r.ending ≡ cannot → a ≡ Cannot (tally_of r)
  pub stops_on_branchings : r.ending ≡ out_of_branchings → a ≡ Stopped 10 (tally_of r)
  pub stop_clauses : r.ending ≡ out_of_clauses → a ≡ Stopped 11 (tally_of r)

-- r is the outcome of these bytes and this order, of n options and these rules. To keep the order is to keep the completed one
pub record RightOutcome (bytes : List ℕ) (o : Order) (allowance : ℕ) (l : Lengths) (n : ℕ) (rules : List Clause) (r : Outcome) : Type 0 where
  -- ending, branchings, derived rules and records are those of the steps
  pub by_the_steps : check bytes o allowance l ≡ ran r
  pub told : Tells r (answer bytes o allowance l)
  -- "can" only if some choice keeps every rule and the order, "cannot" only if none does
  pub can_only : (t : Tally) → answer bytes o allowance l ≡ Can t → Buildable n rules (complete o)
  pub cannot_only : (t : Tally) → answer bytes o allowance l ≡ Cannot t → Buildable n rules (complete o) → ⊥
  -- each derived rule follows, and each record handed out holds: `Demands` of crate `steps` says what that is
  pub derived : DerivedFollow n rules (complete o) r
  pub records : RecordsHold n rules (complete o) r

-- demand 2, wherever nothing is refused. n and the rules are those that the bytes have
abbrev pub Outcomes : Type 0
Outcomes =
    (bytes : List ℕ) (o : Order) (allowance : ℕ) (l : Lengths) → NoRow (check_conditions bytes o l) →
    RightOutcome bytes o allowance l (vars_in bytes) (rules_in bytes) (outcome bytes o allowance l)

-- the rules in two tables, place by place
abbrev pub rules_of : List ℕ → List ℕ → List Clause
rules_of [] qs = []
rules_of (p ∷ ps) [] = []
rules_of (p ∷ ps) (q ∷ qs) = record { pos = p; neg = q } ∷ rules_of ps qs

-- the derived rules that are handed out, in the counted places
abbrev pub derived_in : Tally → Tables → List Clause
derived_in c t = let first : Tables = first_places c t in rules_of first.pos first.neg

-- r is the outcome, and the tables hold what was handed out
pub record Uncovered (bytes : List ℕ) (o : Order) (r : Outcome) (tables : Tables) : Type 0 where
  -- the derived rules in the tables are those of the outcome
  pub handed_out : derived_in (tally_of r) tables ≡ r.derived
  -- wherever c stands among them, no earlier rule covers it: none of the book, none of the order, and none of those before it
  pub none_covers :
      (before after : List Clause) (c : Clause) → derived_in (tally_of r) tables ≡ before ++ (c ∷ after) → NoneCovers (given (rules_in bytes) (complete o) ++ before) c

-- no derived rule is covered by an earlier rule of the table, whatever the allowance and the tables
abbrev pub NeverCovered : Type 0
NeverCovered =
    (bytes : List ℕ) (o : Order) (allowance : ℕ) (t : Tables) (r : Outcome) → check bytes o allowance (lengths t) ≡ ran r →
    Uncovered bytes o r (filled (check bytes o allowance (lengths t)) t)

-- ---- the completed order

-- o and o' have the same outcome, with every allowance and all tables: the one is run where the other is, with the same result, and the tables are left the same.
-- Where they are refused the numbers may differ: an option above n is refused by 7 where it is wanted, and by 12 where it is standard
pub record SameOutcome (bytes : List ℕ) (o o' : Order) : Type 0 where
  pub result : (allowance : ℕ) (l : Lengths) (r : Outcome) → (check bytes o allowance l ≡ ran r) ↔ (check bytes o' allowance l ≡ ran r)
  pub tables : (allowance : ℕ) (t : Tables) → filled (check bytes o allowance (lengths t)) t ≡ filled (check bytes o' allowance (lengths t)) t

-- so it is with two orders that complete to the same: the outcome depends on the three words through the completed order alone
abbrev pub ByCompleted : Type 0
ByCompleted = (bytes : List ℕ) (o o' : Order) → complete o ≡ complete o' → SameOutcome bytes o o'

-- the table of refusals for an order of two words, wanted p and unwanted q: 1 to 9
abbrev pub two_word_conditions : List ℕ → ℕ → ℕ → Lengths → List Condition
two_word_conditions bytes p q l =
    book_conditions bytes ++
    (condition 7 (NamesAbove (vars_in bytes) p q) ∷ condition 8 (InBoth p q) ∷ condition 9 (Permitted l → ⊥) ∷ [])

-- with a standard word of zero a check is one of an order of two words: refused by the first condition of 1 to 9 that holds, and else run with the two words as
-- they are
pub record TwoWords (bytes : List ℕ) (p q allowance : ℕ) (l : Lengths) : Type 0 where
  pub refusals : (k : ℕ) → (check bytes (order p q 0) allowance l ≡ refused k) ↔ First (two_word_conditions bytes p q l) k
  pub runs :
      (r : Outcome) →
      (check bytes (order p q 0) allowance l ≡ ran r) ↔
      (NoRow (two_word_conditions bytes p q l) × (r ≡ run (vars_in bytes) (rules_in bytes) (record { pos = p; neg = q }) allowance l.pos))

abbrev pub WithoutStandard : Type 0
WithoutStandard = (bytes : List ℕ) (p q allowance : ℕ) (l : Lengths) → TwoWords bytes p q allowance l

-- options 1 and 2, and the rule "not 1 or not 2". Option 2 is wanted and option 1 standard: the rule 1 stands before the rule 2 in the table, and so the steps
-- branch over option 1 first, and derive "not 1"
abbrev pub OneRun : Type 0
OneRun =
    check (encode 2 (clause 0 3 ∷ [])) (order 2 0 1) 2 (record { pos = 2; neg = 2; decided = 64; trues = 64; redundant = 64 }) ≡
    ran (record { ending = cannot; branchings = 2; derived = clause 0 1 ∷ clause 0 0 ∷ []; records = sequent 0 0 3 ∷ [] })

-- ---- demand 3. An outcome is `ran r`: the verdict or named stop and the counts by `Tells`, the words in the counted places by `Fills`

-- r is a verdict that book and order come to with some allowance and some tables. A run of the same order is one with the same completed order
pub record Settled (bytes : List ℕ) (o : Order) (r : Outcome) : Type 0 where
  pub asked : Order
  pub same : complete asked ≡ complete o
  pub allowance : ℕ
  pub tables : Lengths
  pub reached : check bytes asked allowance tables ≡ ran r
  pub verdict : Verdict r.ending

-- stop 10, with the whole allowance as branchings
abbrev pub StopsOnBranchings : ℕ → Answer → Type 0
StopsOnBranchings allowance a = (t : Tally) × (a ≡ Stopped 10 t) × (t.branchings ≡ allowance)

-- stop 11, with all the places as derived rules
abbrev pub StopsOnPlaces : ℕ → Answer → Type 0
StopsOnPlaces places a = (t : Tally) × (a ≡ Stopped 11 t) × (t.derived ≡ places)

-- the tables with so many places for derived rules
abbrev pub with_places : ℕ → Lengths → Lengths
with_places p l = record { pos = p; neg = p; decided = l.decided; trues = l.trues; redundant = l.redundant }

-- what an allowance and tables buy, where book and order are settled with the outcome r
pub record Buys (bytes : List ℕ) (o : Order) (r : Outcome) (allowance : ℕ) (l : Lengths) : Type 0 where
  -- enough of both gives the outcome r, and less does not. The places are the length of the derived tables, `l.pos`
  pub same : Enough r allowance l.pos ↔ (check bytes o allowance l ≡ ran r)
  -- less gives a stop, stop 10 or stop 11, by what is spent
  pub stops :
      (Enough r allowance l.pos → ⊥) →
      StopsOnBranchings allowance (answer bytes o allowance l) ⊎ StopsOnPlaces l.pos (answer bytes o allowance l)
  -- stop 10 where only the branchings are too few, be it by one
  pub fewer_branchings : allowance < r.branchings → length r.derived ≤ l.pos → StopsOnBranchings allowance (answer bytes o allowance l)
  -- and stop 11 where only the places are
  pub fewer_places : r.branchings ≤ allowance → l.pos < length r.derived → StopsOnPlaces l.pos (answer bytes o allowance l)
  -- where both are too few, it is the stop that the steps reach first. x is the outcome with this allowance and with places enough, a stop 10. Where the places
  -- have room for the derived rules of x, the outcome is x
  pub branchings_first :
      (x : Outcome) → check bytes o allowance (with_places (length r.derived) l) ≡ ran x →
      allowance < r.branchings → l.pos < length r.derived → length x.derived ≤ l.pos →
      StopsOnBranchings allowance (answer bytes o allowance l) × (check bytes o allowance l ≡ ran x)
  -- and where they have not, it is the outcome with these places and with branchings enough, a stop 11
  pub places_first :
      (x : Outcome) → check bytes o allowance (with_places (length r.derived) l) ≡ ran x →
      allowance < r.branchings → l.pos < length r.derived → l.pos < length x.derived →
      StopsOnPlaces l.pos (answer bytes o allowance l) × (check bytes o allowance l ≡ check bytes o r.branchings l)
  -- places enough are permitted, so there is such an x
  pub as_with_places : (x : Outcome) × (check bytes o allowance (with_places (length r.derived) l) ≡ ran x)

-- demand 3, for every verdict, all allowances and all permitted tables
abbrev pub Demand3 : Type 0
Demand3 =
    (bytes : List ℕ) (o : Order) (r : Outcome) → Settled bytes o r → (allowance : ℕ) (l : Lengths) → Permitted l →
    Buys bytes o r allowance l

-- stop 10 reports the whole allowance as branchings, stop 11 as many derived rules as there are places, and no run reports more of either
abbrev pub StopsSpent : Type 0
StopsSpent =
    (bytes : List ℕ) (o : Order) (allowance : ℕ) (l : Lengths) (r : Outcome) → check bytes o allowance l ≡ ran r → Spent allowance l.pos r

-- a run's derived rules begin those of every run of the same book and completed order with neither allowance smaller
abbrev pub DerivedBegin : Type 0
DerivedBegin =
    (bytes : List ℕ) (o o' : Order) → complete o ≡ complete o' → (allowance allowance' : ℕ) (l l' : Lengths) (r r' : Outcome) →
    check bytes o allowance l ≡ ran r → check bytes o' allowance' l' ≡ ran r' → allowance ≤ allowance' → l.pos ≤ l'.pos →
    (more : List Clause) × (r'.derived ≡ r.derived ++ more)

-- the answer is a verdict
abbrev pub IsVerdict : Answer → Type 0
IsVerdict (Can t) = Unit {0}
IsVerdict (Cannot t) = Unit {0}
IsVerdict (Refused k) = ⊥
IsVerdict (Stopped k t) = ⊥

-- 2^n - 1 of both is always enough for a verdict, and for n up to 11 so many places are permitted; no run makes more branchings than that, nor more derived rules
-- than branchings
pub record AlwaysEnough (bytes : List ℕ) (o : Order) (l : Lengths) : Type 0 where
  pub enough : (allowance : ℕ) → 2 ^ vars_in bytes - 1 ≤ allowance → 2 ^ vars_in bytes - 1 ≤ l.pos → IsVerdict (answer bytes o allowance l)
  pub to_eleven : vars_in bytes ≤ 11 → IsVerdict (answer bytes o (2 ^ vars_in bytes - 1) (with_places (2 ^ vars_in bytes - 1) l))
  pub bound :
      (allowance : ℕ) (r : Outcome) → check bytes o allowance l ≡ ran r →
      (r.branchings ≤ 2 ^ vars_in bytes - 1) × (length r.derived ≤ r.branchings)

-- so it is wherever nothing is refused
abbrev pub Bound : Type 0
Bound = (bytes : List ℕ) (o : Order) (l : Lengths) → NoRow (check_conditions bytes o l) → AlwaysEnough bytes o l

-- ---- all of them

-- every demand, proved in `proofs/Demands.antt`
pub record Demands : Type 0 where
  -- demand 1
  pub answers : Answers
  pub refusals : Refusals
  pub runs : Runs
  pub limits_pass : LimitsPass
  pub untouched : Untouched
  pub filling : Filling
  pub no_part : NoPart
  pub answers_fit : AnswersFit
  -- demand 2
  pub outcomes : Outcomes
  pub never_covered : NeverCovered
  -- the completed order
  pub by_completed : ByCompleted
  pub without_standard : WithoutStandard
  pub one_run : OneRun
  -- demand 3
  pub buys : Demand3
  pub stops_spent : StopsSpent
  pub derived_begin : DerivedBegin
  pub bound : Bound
