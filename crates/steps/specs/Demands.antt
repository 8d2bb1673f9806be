-- The demands on the steps, each as a named type that is proved in `proofs/`. The record at the end has them all. docs/STEPS.md has the steps in words and
-- how to read the signs ("Signs"). Demands 2 and 3 are about every number of options, every book that was read, every completed order over its options
-- (`Input n book o`: rules and order name only options 1 to n, and no rule names one with both signs), and all allowances. `run n book o allowance places` is the
-- outcome: its `ending`, how many `branchings`, the `derived` rules and the `records`.
use Rattle.std.specs.Prelude.{◌≡◌, Bool, true, false, not, ◌⊎◌, ◌↔◌, ℕ, suc, ◌+◌, ◌-◌, ◌^◌, ◌≤◌, ◌<◌, length}
use mathlib.Core.List.{List, [], ◌∷◌, ◌++◌, Memᴰ}
use Rattle.std.proofs.Math.Option.{some, none}
use Rattle.std.specs.Int.Bits.{bit_or}
use Rattle.std.specs.Int.Count.{ones}
use Rattle.words.specs.Words.{is_zero, has, meets, first_vars, members, Within}
use Rattle.steps.specs.Clause.{Clause, literals, vars, Assignment, decide, satisfied, falsified, inactive, DSequent, last}
use Rattle.steps.specs.State.{Env, State, Ending, Ending.can, Ending.cannot, Ending.out_of_branchings, Ending.out_of_clauses, Side, Side.up, Side.ended, undecided, redundant, live, append, added}
use Rattle.steps.specs.Sweep.{inactive_by, monotone, Found.nothing, Found.variable, first_monotone, sweep}
use Rattle.steps.specs.Notes.{noted, notes, picked, rounds}
use Rattle.steps.specs.Tally.{tally_of, tallies_left, is_falsified, is_unit, is_inactive, decided, withdrawn, struck_by, unstruck}
use Rattle.steps.specs.Enter.{Turn.branch, unit, falsified_naming, enter}
use Rattle.steps.specs.Merge.{covers, resolvent, join, merge}
use Rattle.steps.specs.Search.{search}
use Rattle.steps.specs.Run.{Assumptions, Outcome, given, no_decisions, start, everything, searched, run}
use Rattle.steps.specs.Marked.{clause, sequent, order, tally, struck, Agree, C, N, P, Q, W, marked, further, covered}
use Rattle.steps.specs.Worst.{Full, Distinct, all_rules, Arranged}
use Rattle.steps.specs.Reached.{Reached, Merges}
use Rattle.steps.specs.Shape.{Input, Growing, Shape, OneOf}
use Rattle.steps.specs.Meaning.{Buildable, Follows, Holds}

-- "can" or "cannot"
abbrev pub Verdict : Ending → Type 0
Verdict x = (x ≡ can) ⊎ (x ≡ cannot)

-- ---- demand 2

-- "can" only if some choice keeps every rule and the order (`Buildable`), "cannot" only if none does
pub record RightVerdict (n : ℕ) (book : List Clause) (o : Assumptions) (r : Outcome) : Type 0 where
  pub can_only : r.ending ≡ can → Buildable n book o
  pub cannot_only : r.ending ≡ cannot → Buildable n book o → ⊥

-- each derived rule follows, at a verdict and at a stop: every choice that keeps book and order keeps it
abbrev pub DerivedFollow : ℕ → List Clause → Assumptions → Outcome → Type 0
DerivedFollow n book o r = (c : Clause) → Memᴰ c r.derived → Follows n book o c

-- what is so of the records handed out, each with its decisions and its set of struck options
pub record RecordsHold (n : ℕ) (book : List Clause) (o : Assumptions) (r : Outcome) : Type 0 where
  -- each holds in the table at the end, which is book, order and derived rules: either book and order can be built, or no choice that agrees with its decisions
  -- keeps the rules that name nothing of its set
  pub holds : (d : DSequent) → Memᴰ d r.records → Holds n book o (given book o ++ r.derived) d
  -- its fitted options are among its decided ones, so that some choice agrees with it
  pub fitted : (d : DSequent) → Memᴰ d r.records → Within d.decisions.trues d.decisions.decided
  -- its decisions and its set are of the n options, and share none
  pub decided : (d : DSequent) → Memᴰ d r.records → Within d.decisions.decided (first_vars n)
  pub struck : (d : DSequent) → Memᴰ d r.records → Within d.redundant (first_vars n)
  pub apart : (d : DSequent) → Memᴰ d r.records → meets d.decisions.decided d.redundant ≡ false
  -- each set has all of the one before it, and more; there are at most n
  pub grow : Growing 0 r.records
  pub few : length r.records ≤ n

-- demand 2, for every run
pub record Right (n : ℕ) (book : List Clause) (o : Assumptions) (r : Outcome) : Type 0 where
  pub verdict : RightVerdict n book o r
  pub derived : DerivedFollow n book o r
  pub records : RecordsHold n book o r

abbrev pub Demand2 : Type 0
Demand2 = (n : ℕ) (book : List Clause) (o : Assumptions) → Input n book o → (allowance places : ℕ) → Right n book o (run n book o allowance places)

-- a record's set is a joint one. P is the rules 1; not 1; 2; not 2, and `sequent 0 0 k` the record without decisions whose set is the word k. With option 1
-- struck no choice keeps what is left, nor with option 2 struck; with both struck nothing is left. So a record can fail to hold. Likewise a rule can fail to
-- follow: "1" (`clause 1 0`) does not follow from an empty book
pub record Joint : Type 0 where
  pub one : Holds 2 P (order 0 0) P (sequent 0 0 1)
  pub other : Holds 2 P (order 0 0) P (sequent 0 0 2)
  pub both : Holds 2 P (order 0 0) P (sequent 0 0 3) → ⊥
  pub rule : Follows 1 [] (order 0 0) (clause 1 0) → ⊥

-- ---- demand 3

-- r is the outcome of book and order with some allowances, and it is a verdict
pub record Settled (n : ℕ) (book : List Clause) (o : Assumptions) (r : Outcome) : Type 0 where
  pub allowance : ℕ
  pub places : ℕ
  pub reached : run n book o allowance places ≡ r
  pub verdict : Verdict r.ending

-- the allowances are enough for the outcome r
abbrev pub Enough : Outcome → ℕ → ℕ → Type 0
Enough r allowance places = (r.branchings ≤ allowance) × (length r.derived ≤ places)

-- stop 10, with the whole allowance as branchings
abbrev pub StopsOnBranchings : ℕ → Outcome → Type 0
StopsOnBranchings allowance x = (x.ending ≡ out_of_branchings) × (x.branchings ≡ allowance)

-- stop 11, with all the places as derived rules
abbrev pub StopsOnPlaces : ℕ → Outcome → Type 0
StopsOnPlaces places x = (x.ending ≡ out_of_clauses) × (length x.derived ≡ places)

-- what the allowances buy, where book and order are settled with the outcome r
pub record Buys (n : ℕ) (book : List Clause) (o : Assumptions) (r : Outcome) (allowance places : ℕ) : Type 0 where
  -- enough of both gives the outcome r, and less does not
  pub same : Enough r allowance places ↔ (run n book o allowance places ≡ r)
  -- less gives a stop, stop 10 or stop 11, by what is spent
  pub stops :
      (Enough r allowance places → ⊥) →
      StopsOnBranchings allowance (run n book o allowance places) ⊎ StopsOnPlaces places (run n book o allowance places)
  -- stop 10 where only the branchings are too few, be it by one
  pub fewer_branchings : allowance < r.branchings → length r.derived ≤ places → StopsOnBranchings allowance (run n book o allowance places)
  -- and stop 11 where only the places are
  pub fewer_places : r.branchings ≤ allowance → places < length r.derived → StopsOnPlaces places (run n book o allowance places)
  -- where both are too few, it is the stop that the steps reach first. x is the run with this allowance and with places enough, so it ends with stop 10. Where the
  -- places have room for the derived rules of x, the run is x
  pub branchings_first :
      let x : Outcome = run n book o allowance (length r.derived) in
      allowance < r.branchings → places < length r.derived → length x.derived ≤ places →
      StopsOnBranchings allowance (run n book o allowance places) × (run n book o allowance places ≡ x)
  -- and where they have not, it is the run with these places and with branchings enough, which ends with stop 11
  pub places_first :
      let x : Outcome = run n book o allowance (length r.derived) in
      allowance < r.branchings → places < length r.derived → places < length x.derived →
      StopsOnPlaces places (run n book o allowance places) × (run n book o allowance places ≡ run n book o r.branchings places)

-- demand 3, for every verdict r that book and order come to, and all allowances
abbrev pub Demand3 : Type 0
Demand3 =
    (n : ℕ) (book : List Clause) (o : Assumptions) → Input n book o → (r : Outcome) → Settled n book o r → (allowance places : ℕ) →
    Buys n book o r allowance places

-- stop 10 reports the whole allowance as branchings, stop 11 as many derived rules as there are places, and no run reports more of either
pub record Spent (allowance places : ℕ) (r : Outcome) : Type 0 where
  pub branchings : r.ending ≡ out_of_branchings → r.branchings ≡ allowance
  pub clauses : r.ending ≡ out_of_clauses → length r.derived ≡ places
  pub no_more_branchings : r.branchings ≤ allowance
  pub no_more_clauses : length r.derived ≤ places

abbrev pub StopsSpent : Type 0
StopsSpent =
    (n : ℕ) (book : List Clause) (o : Assumptions) → Input n book o → (allowance places : ℕ) → Spent allowance places (run n book o allowance places)

-- a run's derived rules begin the list of every run of the same book and order with neither allowance smaller
abbrev pub DerivedBegin : Type 0
DerivedBegin =
    (n : ℕ) (book : List Clause) (o : Assumptions) → Input n book o → (allowance places allowance' places' : ℕ) → allowance ≤ allowance' → places ≤ places' →
    (more : List Clause) × ((run n book o allowance' places').derived ≡ (run n book o allowance places).derived ++ more)

-- 2^n - 1 of both is always enough for a verdict, and no run makes more branchings than that, nor more derived rules than branchings
pub record Bounded (n : ℕ) (book : List Clause) (o : Assumptions) : Type 0 where
  pub enough : (allowance places : ℕ) → 2 ^ n - 1 ≤ allowance → 2 ^ n - 1 ≤ places → Verdict (run n book o allowance places).ending
  pub branchings : (allowance places : ℕ) → (run n book o allowance places).branchings ≤ 2 ^ n - 1
  pub clauses : (allowance places : ℕ) → length (run n book o allowance places).derived ≤ (run n book o allowance places).branchings

abbrev pub AlwaysEnough : Type 0
AlwaysEnough = (n : ℕ) (book : List Clause) (o : Assumptions) → Input n book o → Bounded n book o

-- either side of a branching decides exactly one more option. A point has the decisions a and the state s (`Shape`); steps 2 to 5 (`enter`) come to a branching
-- over w there
abbrev pub OneDeeper : Type 0
OneDeeper =
    (e : Env) (a : Assignment) (v : ℕ) (s : State) → Shape e a s → (w : ℕ) (b : Bool) (t : State) → enter e a v s ≡ branch w b t →
    (side : Bool) → ones (decide a w side).decided ≡ suc (ones a.decided)

-- nesting never passes n: a search that may go k deeper than n comes to the same as one that may not
abbrev pub NeverPasses : Type 0
NeverPasses =
    (n : ℕ) (book : List Clause) (o : Assumptions) → Input n book o → (allowance capacity k : ℕ) →
    let e : Env = record { n = n; allowance = allowance; capacity = capacity } in
    search e (n + k) no_decisions 0 (start (given book o)) ≡ search e n no_decisions 0 (start (given book o))

-- and it need not: where the search may go no deeper (0 levels), a point that a run reaches (`Reached`) does not branch
abbrev pub NeverDeeper : Type 0
NeverDeeper =
    (n : ℕ) (book : List Clause) (o : Assumptions) → Input n book o → (allowance capacity : ℕ) →
    let e : Env = record { n = n; allowance = allowance; capacity = capacity } in
    (a : Assignment) (v : ℕ) (s : State) → Reached e (given book o) 0 a v s → (w : ℕ) (b : Bool) (u : State) → enter e a v s ≡ branch w b u → ⊥

-- ---- step 3

-- the test gives decisions exactly where all rules with that entry are out: every clause of the table with the literal of w and sign b is inactive
abbrev pub SweepTests : Type 0
SweepTests =
    (a : Assignment) (s : State) (w : ℕ) (b : Bool) →
    ((r : ℕ) × (inactive_by a s w b ≡ some r)) ↔
    ((c : Clause) → Memᴰ c s.table → meets (literals b c) w ≡ true → inactive a (redundant s) c ≡ true)

-- after the sweep no live variable passes the test (`OneOf w x`: w is the word of one member of x)
abbrev pub SweepEnds : Type 0
SweepEnds =
    (e : Env) (a : Assignment) (s : State) (w : ℕ) → OneOf w (live e a (sweep e a e.n s)) → monotone a (sweep e a e.n s) w ≡ none

-- step 3 by notes: a walk over the table notes entries. After the walk an entry, of option v and sign b, is noted exactly if a rule that is not out has it. For all
-- decisions a, every struck set k and every table t
abbrev pub Noted : Type 0
Noted =
    (a : Assignment) (k : ℕ) (t : List Clause) (b : Bool) (v : ℕ) →
    (has (noted b (notes a k t)) v ≡ true) ↔ ((c : Clause) × Memᴰ c t × (inactive a k c ≡ false) × (has (literals b c) v ≡ true))

-- from these notes step 3 picks the same option with the same decisions, or none where it finds none. So it is for whichever options ws it goes through, the live
-- ones among them
abbrev pub SameChoice : Type 0
SameChoice = (a : Assignment) (s : State) (ws : List ℕ) → picked a s ws ≡ first_monotone a s ws

-- and a sweep with one walk a round, whose notes are what the next round goes by, comes to the same, whatever the number k of rounds that it may make
abbrev pub SameSweep : Type 0
SameSweep = (e : Env) (a : Assignment) (k : ℕ) (s : State) → rounds e a k (notes a (redundant s) s.table) s ≡ sweep e a k s

-- notes of N, the rules 1 or 2; 3 or not 2; 4 or not 3, and what is picked from them (`struck N k` has the options of the word k struck)
pub record NotesTaken : Type 0 where
  -- option 1 is fitted and option 4 struck, so that only 3 or not 2 is not out. Of options 2 and 3, option 2 is picked by its fitted entry, with the decision on
  -- option 1
  pub one_rule : notes (record { decided = 1; trues = 1 }) 8 N ≡ record { pos = 4; neg = 2 }
  pub by_fitted : picked (record { decided = 1; trues = 1 }) (struck N 8) (members 6) ≡ variable 2 1
  -- option 3 is struck instead, so that all rules are out. Of options 2 and 4, option 2 is picked by its left-out entry, with no decision
  pub no_rule : notes (record { decided = 1; trues = 1 }) 4 N ≡ record { pos = 0; neg = 0 }
  pub by_left_out : picked (record { decided = 1; trues = 1 }) (struck N 4) (members 10) ≡ variable 2 0
  -- nothing is decided and nothing struck, so that no rule is out. Options 2 and 3 have both entries noted, and of them none is picked
  pub all_rules : notes no_decisions 0 N ≡ record { pos = 15; neg = 6 }
  pub none_picked : picked no_decisions (struck N 0) (members 6) ≡ nothing
  -- the sweep strikes option 1 first. With that 1 or 2 is out, so that option 2 passes in the next round, and so on
  pub in_turn :
      (rounds (record { n = 4; allowance = 0; capacity = 3 }) no_decisions 4 (notes no_decisions 0 N) (start N)).records ≡
      sequent 0 0 1 ∷ sequent 0 0 3 ∷ sequent 0 0 7 ∷ sequent 0 0 15 ∷ []

-- ---- step 7

-- both clauses that are resolved exist: where a run comes together (`Merges`: it branched over w at a, b first, and the sides went back up with x and y) and w
-- does not pass the test after the join j, either side falsifies a clause that names w
abbrev pub ParentsExist : Type 0
ParentsExist =
    (n : ℕ) (book : List Clause) (o : Assumptions) → Input n book o → (allowance capacity : ℕ) →
    let e : Env = record { n = n; allowance = allowance; capacity = capacity } in
    (a : Assignment) (w : ℕ) (b : Bool) (x y : State) → Merges e (given book o) a w b x y →
    let j : State = join e a w (last x.records).decisions.decided y in
    monotone a j w ≡ none → (side : Bool) → (c : Clause) × (falsified_naming w (decide a w side) j.table ≡ some c)

-- and the test does fail: with C, the rules 1 and not 1, after the one branching
pub record TestFails : Type 0 where
  pub first : State
  pub second : State
  pub merges : Merges (record { n = 1; allowance = 1; capacity = 3 }) C no_decisions 1 true first second
  pub test :
      let e : Env = record { n = 1; allowance = 1; capacity = 3 } in
      monotone no_decisions (join e no_decisions 1 (last first.records).decisions.decided second) 1 ≡ none

-- d covers c exactly if every entry of d, of either sign, is one of c
abbrev pub Covering : Type 0
Covering = (d c : Clause) → (covers d c ≡ true) ↔ ((b : Bool) → Within (literals b d) (literals b c))

-- no rule of the list covers c
abbrev pub NoneCovers : List Clause → Clause → Type 0
NoneCovers t c = (d : Clause) → Memᴰ d t → covers d c ≡ false

-- what step 7 comes to with the resolved rule c, after the join j
pub record Resolves (e : Env) (a : Assignment) (j : State) (c : Clause) (x : Side) : Type 0 where
  -- where rules of the table cover c, and d is the lowest-numbered of them: nothing is added and nothing counted, be there a place or not. The record has the
  -- decisions on the options of d, and all undecided options
  pub covered :
      (before after : List Clause) (d : Clause) → j.table ≡ before ++ (d ∷ after) → covers d c ≡ true → NoneCovers before c →
      x ≡ up (append a (vars d) (undecided e a) j)
  -- where none does, and no place is free: stop 11, with nothing changed
  pub full : NoneCovers j.table c → e.capacity ≤ length j.table → x ≡ ended out_of_clauses a j
  -- where none does, and a place is free: c is added. If it is empty the run ends with "cannot", and else the record has the decisions on its options
  pub empty : NoneCovers j.table c → length j.table < e.capacity → vars c ≡ 0 → x ≡ ended cannot a (added c j)
  pub new : NoneCovers j.table c → length j.table < e.capacity → (vars c ≡ 0 → ⊥) → x ≡ up (append a (vars c) (undecided e a) (added c j))

-- so it is wherever a run comes together and the test fails
abbrev pub Resolving : Type 0
Resolving =
    (n : ℕ) (book : List Clause) (o : Assumptions) → Input n book o → (allowance capacity : ℕ) →
    let e : Env = record { n = n; allowance = allowance; capacity = capacity } in
    (a : Assignment) (w : ℕ) (b : Bool) (x y : State) → Merges e (given book o) a w b x y →
    let r : ℕ = (last x.records).decisions.decided in
    let j : State = join e a w r y in
    monotone a j w ≡ none → (c d : Clause) → falsified_naming w (decide a w b) j.table ≡ some c →
    falsified_naming w (decide a w (not b)) j.table ≡ some d → Resolves e a j (resolvent w c d) (merge e a w b r y)

-- no derived rule is covered by an earlier rule of the table, be it of the book, of the order or derived: in every run, whatever its allowances, wherever c stands
-- among the derived rules
abbrev pub NeverCovered : Type 0
NeverCovered =
    (n : ℕ) (book : List Clause) (o : Assumptions) (allowance places : ℕ) (before after : List Clause) (c : Clause) →
    (run n book o allowance places).derived ≡ before ++ (c ∷ after) → NoneCovers (given book o ++ before) c

-- ---- tallies

-- a rule is kept, broken, step 5's or out as its tallies say. For all decisions a, every struck set k and every rule c, of any width
pub record ByTally : Type 0 where
  pub kept : (a : Assignment) (k : ℕ) (c : Clause) → satisfied a c ≡ not (is_zero (tally_of a k c).keepers)
  pub broken : (a : Assignment) (k : ℕ) (c : Clause) → falsified a c ≡ is_falsified (tally_of a k c)
  pub single : (a : Assignment) (k : ℕ) (c : Clause) → unit a k c ≡ is_unit (tally_of a k c)
  pub out : (a : Assignment) (k : ℕ) (c : Clause) → inactive a k c ≡ is_inactive (tally_of a k c)

-- the option of number v is not decided, and fitted options are decided ones
pub record Free (v : ℕ) (a : Assignment) : Type 0 where
  pub undecided : has a.decided v ≡ false
  pub trues : Within a.trues a.decided

-- from a rule's tallies before a change come those after it: deciding v, withdrawing that decision, striking v, and a change of the struck set from k to another
pub record Tallying : Type 0 where
  pub decides : (a : Assignment) (k v : ℕ) (b : Bool) (c : Clause) → Free v a → tally_of (decide a (2 ^ v) b) k c ≡ decided v b c (tally_of a k c)
  pub withdraws : (a : Assignment) (k v : ℕ) (b : Bool) (c : Clause) → Free v a → tally_of a k c ≡ withdrawn v b c (tally_of (decide a (2 ^ v) b) k c)
  pub strikes : (a : Assignment) (k v : ℕ) (c : Clause) → tally_of a (bit_or k (2 ^ v)) c ≡ struck_by v c (tally_of a k c)
  pub unstrikes : (a : Assignment) (k other : ℕ) (c : Clause) → tally_of a other c ≡ unstruck other c (tally_of a k c)

-- the tallies where runs went up or ended (`tallies_left`), rule by rule: undecided entries, decisions that keep it, and whether it names a struck option
pub record TalliesLeft : Type 0 where
  -- "can", with option 1 left out, and options 2 and 3 struck
  pub can : tallies_left no_decisions (searched 3 Q 1 0) ≡ tally 1 0 true ∷ tally 1 1 true ∷ tally 2 0 true ∷ []
  -- "cannot", where the empty rule is derived: nothing is decided, and nothing struck yet. The list that replaces this one strikes option 1, and by it the rules 1 and
  -- not 1 would name a struck option
  pub cannot : tallies_left no_decisions (searched 1 C 1 1) ≡ tally 1 0 false ∷ tally 1 0 false ∷ tally 0 0 false ∷ []
  -- stop 10 in a second side, with option 1 fitted. The fifth rule, 1, was derived when the first side came together
  pub branchings :
      tallies_left no_decisions (searched 2 W 2 3) ≡ tally 1 1 false ∷ tally 1 0 false ∷ tally 1 1 false ∷ tally 1 0 false ∷ tally 0 1 false ∷ []
  -- stop 11 where both sides come together at the starting point: nothing is decided, and option 2 struck
  pub places :
      tallies_left no_decisions (searched 2 W 3 2) ≡
      tally 2 0 true ∷ tally 2 0 true ∷ tally 2 0 true ∷ tally 2 0 true ∷ tally 1 0 false ∷ tally 1 0 false ∷ []
  -- two decisions keep the rule 1 or 2. One is withdrawn, and the other keeps it still
  pub kept_twice : withdrawn 1 true (clause 3 0) (tally 0 2 false) ≡ tally 1 1 false
  -- it names a struck option, and the record that struck it is dropped
  pub dropped : unstruck 0 (clause 3 0) (tally 2 0 true) ≡ tally 2 0 false

-- ---- the worst books

-- the list of all rules has just the rules that name every option, and each of them once
pub record Listing (n : ℕ) : Type 0 where
  pub just : (c : Clause) → Memᴰ c (all_rules n) ↔ Full n c
  pub many : length (all_rules n) ≡ 2 ^ n
  pub once : Distinct (all_rules n)

abbrev pub AllRules : Type 0
AllRules = (n : ℕ) → Listing n

-- r is "cannot" with exactly 2^n - 1 branchings and as many derived rules, and the list that goes with it
pub record Exactly (n : ℕ) (r : Outcome) : Type 0 where
  pub ending : r.ending ≡ cannot
  pub branchings : r.branchings ≡ 2 ^ n - 1
  pub derived : length r.derived ≡ 2 ^ n - 1
  pub records : r.records ≡ everything n

-- the bound is met by a book, with an empty order
pub record BoundMet (n : ℕ) (book : List Clause) : Type 0 where
  -- with 2^n - 1 of both, and with more
  pub exactly : (allowance places : ℕ) → 2 ^ n - 1 ≤ allowance → 2 ^ n - 1 ≤ places → Exactly n (run n book (order 0 0) allowance places)
  -- less of either gives its stop, be it by one
  pub fewer_branchings : (allowance places : ℕ) → allowance < 2 ^ n - 1 → 2 ^ n - 1 ≤ places → StopsOnBranchings allowance (run n book (order 0 0) allowance places)
  pub fewer_places : (allowance places : ℕ) → 2 ^ n - 1 ≤ allowance → places < 2 ^ n - 1 → StopsOnPlaces places (run n book (order 0 0) allowance places)

-- so it is for every number of options, and all rules that name every one of them in any order
abbrev pub WorstBook : Type 0
WorstBook = (n : ℕ) (book : List Clause) → Arranged n book → BoundMet n book

-- ---- cases

-- the runs that are marked, each with its outcome beside it (`Marked`)
abbrev pub MarkedCases : Type 0
MarkedCases = Agree marked

-- and further ones
abbrev pub FurtherCases : Type 0
FurtherCases = Agree further

-- and ones in which a resolved rule is covered
abbrev pub CoveredCases : Type 0
CoveredCases = Agree covered

-- ---- all of them

-- every demand, proved in `proofs/Demands.antt`. `input` is an input, Q with options 2 and 3 wanted, which keeps them from being about nothing
pub record Demands : Type 0 where
  pub right : Demand2
  pub joint : Joint
  pub input : Input 3 Q (order 6 0)
  pub buys : Demand3
  pub stops_spent : StopsSpent
  pub derived_begin : DerivedBegin
  pub always_enough : AlwaysEnough
  pub one_deeper : OneDeeper
  pub never_passes : NeverPasses
  pub never_deeper : NeverDeeper
  pub sweep_tests : SweepTests
  pub sweep_ends : SweepEnds
  pub noted : Noted
  pub same_choice : SameChoice
  pub same_sweep : SameSweep
  pub notes_taken : NotesTaken
  pub parents_exist : ParentsExist
  pub test_fails : TestFails
  pub covering : Covering
  pub resolving : Resolving
  pub never_covered : NeverCovered
  pub by_tally : ByTally
  pub tallying : Tallying
  pub tallies_left : TalliesLeft
  pub all_rules : AllRules
  pub worst_book : WorstBook
  pub marked_cases : MarkedCases
  pub further_cases : FurtherCases
  pub covered_cases : CoveredCases
