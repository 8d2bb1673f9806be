-- The demands on options that are left open, each as a named type that is proved in `proofs/`. The record at the end has them all; docs/STEPS.md says how to
-- read the signs. `undecided bytes o opens allowance t` is the definition, for book bytes, an order, the word of the open options, an allowance and the lent
-- tables t. It is what is left: the reply, a refusal or what was tried, and the tables. Bytes, words, allowance and tables are any. What a single check is and
-- does is said in crate `contract`.
use Rattle.std.specs.Prelude.{◌≡◌, true, false, ◌⊎◌, ◌↔◌, ℕ, ◌-◌, ◌^◌, ◌≤◌, ◌<◌, length, get_or, replicate}
use mathlib.Core.List.{List, [], ◌∷◌, ◌++◌, Memᴰ}
use Rattle.std.specs.Int.Count.{ones}
use Rattle.words.specs.Words.{has, Within}
use Rattle.words.specs.Demands.{Ascending}
use Rattle.steps.specs.Run.{Outcome}
use Rattle.steps.specs.Meaning.{models, obeys}
use Rattle.steps.specs.Marked.{clause}
use Rattle.steps.specs.Demands.{Enough, Spent}
use Rattle.order.specs.Order.{Order, complete}
use Rattle.order.specs.Demands.{order}
use Rattle.book.specs.Bytes.{vars_in, rules_in, encode}
use Rattle.book.specs.Conditions.{Condition, condition, First, NoRow, HasAbove, InBoth, admit_conditions}
use Rattle.answer.specs.Answer.{tally_of, Answer, Answer.Can, Answer.Cannot, Answer.Refused as CheckRefused, Answer.Stopped as CheckStopped}
use Rattle.answer.specs.Packed.{unpacked}
use Rattle.answer.specs.declared.Tally.{Tally}
use Rattle.contract.specs.Check.{Lengths, outcome}
use Rattle.contract.specs.Filled.{Tables, lent, lengths}
use Rattle.contract.specs.Demands.{answer, Permitted, check_conditions, tables_of, first_places, RightOutcome, Uncovered, Settled, IsVerdict}
use Rattle.undecided.specs.Settings.{settings, next_setting}
use Rattle.undecided.specs.Undecided.{with_setting, undecided}
use Rattle.undecided.specs.Told.{Told}
use Rattle.undecided.specs.declared.Verdict.TheVariants.{Always, Sometimes, Never, Stopped}
use Rattle.undecided.specs.Values.{Tried, Reply, Reply.Refused, Reply.tried}

-- ---- refusals

-- 19 and 20
abbrev pub open_conditions : ℕ → Order → ℕ → List Condition
open_conditions n o opens =
    condition 19 ((10 < ones opens) ⊎ HasAbove n opens) ∷ condition 20 (InBoth opens o.wanted ⊎ InBoth opens o.unwanted) ∷ []

-- the table of refusals in docs/FORMAT.md: 1 to 8 and 12 of book and order, which has its standard options as they are given; then 19 and 20; then 9
abbrev pub undecided_conditions : List ℕ → Order → ℕ → Lengths → List Condition
undecided_conditions bytes o opens l = (admit_conditions bytes o ++ open_conditions (vars_in bytes) o opens) ++ (condition 9 (Permitted l → ⊥) ∷ [])

-- refused by the first condition that holds, and then nothing is changed; tried where none holds
pub record RefusedOrTried (bytes : List ℕ) (o : Order) (opens allowance : ℕ) (t : Tables) : Type 0 where
  pub refused : (k : ℕ) → ((undecided bytes o opens allowance t).reply ≡ Refused k) ↔ First (undecided_conditions bytes o opens (lengths t)) k
  pub untouched : (k : ℕ) → (undecided bytes o opens allowance t).reply ≡ Refused k → (undecided bytes o opens allowance t).tables ≡ t
  pub tried : NoRow (undecided_conditions bytes o opens (lengths t)) ↔ ((x : Tried) × ((undecided bytes o opens allowance t).reply ≡ tried x))

abbrev pub Refusals : Type 0
Refusals = (bytes : List ℕ) (o : Order) (opens allowance : ℕ) (t : Tables) → RefusedOrTried bytes o opens allowance t

-- demand 1: a numbered refusal, or a last setting with "can", "cannot" or a named stop
abbrev pub NamedReply : Reply → Type 0
NamedReply (Refused k) = (((1 ≤ k) × (k ≤ 9)) ⊎ (k ≡ 12)) ⊎ ((k ≡ 19) ⊎ (k ≡ 20))
NamedReply (tried x) = IsVerdict x.last ⊎ ((k : ℕ) × (c : Tally) × (x.last ≡ CheckStopped k c) × ((k ≡ 10) ⊎ (k ≡ 11)))

abbrev pub Answers : Type 0
Answers = (bytes : List ℕ) (o : Order) (opens allowance : ℕ) (t : Tables) → NamedReply (undecided bytes o opens allowance t).reply

-- ---- the settings

-- all subsets of the open word, each once, ascending
pub record Listed (opens : ℕ) : Type 0 where
  pub subsets : (s : ℕ) → Memᴰ s (settings opens) ↔ Within s opens
  pub ascending : Ascending (settings opens)
  pub number : length (settings opens) ≡ 2 ^ ones opens

abbrev pub AllSettings : Type 0
AllSettings = (opens : ℕ) → opens < 2 ^ 64 → Listed opens

-- so it is visited: from 0, each setting followed by the next one (`next_setting`), to the open word
pub record Visited (opens : ℕ) : Type 0 where
  pub first : (rest : List ℕ) × (settings opens ≡ 0 ∷ rest)
  pub next : (before after : List ℕ) (s u : ℕ) → settings opens ≡ before ++ (s ∷ u ∷ after) → u ≡ next_setting opens s
  pub last : (before : List ℕ) (s : ℕ) → settings opens ≡ before ++ (s ∷ []) → s ≡ opens

abbrev pub Visiting : Type 0
Visiting = (opens : ℕ) → opens < 2 ^ 64 → Visited opens

-- as wishes: the open options in a setting are wanted beside those of the order, and the others unwanted; open options are not standard
pub record Wishes (o : Order) (opens s : ℕ) : Type 0 where
  pub wanted : (k : ℕ) → (has (with_setting o opens s).wanted k ≡ true) ↔ ((has o.wanted k ≡ true) ⊎ (has s k ≡ true))
  pub unwanted :
      (k : ℕ) → (has (with_setting o opens s).unwanted k ≡ true) ↔ ((has o.unwanted k ≡ true) ⊎ ((has opens k ≡ true) × (has s k ≡ false)))
  pub standard : (k : ℕ) → (has (with_setting o opens s).standard k ≡ true) ↔ ((has o.standard k ≡ true) × (has opens k ≡ false))

abbrev pub AsWishes : Type 0
AsWishes = (o : Order) (opens s : ℕ) → Wishes o opens s

-- with nothing open the one setting is 0, and the order is tried as it is
pub record NothingOpen (o : Order) : Type 0 where
  pub one_setting : settings 0 ≡ 0 ∷ []
  pub as_it_is : with_setting o 0 0 ≡ o

abbrev pub NoneOpen : Type 0
NoneOpen = (o : Order) → NothingOpen o

-- ---- what a setting means

-- the choice x keeps the order, and its open options are those of the setting s. A standard option that is open is not taken as wanted
pub record Keeps (x : ℕ) (o : Order) (opens s : ℕ) : Type 0 where
  pub wanted : (k : ℕ) → has o.wanted k ≡ true → has x k ≡ true
  pub unwanted : (k : ℕ) → has o.unwanted k ≡ true → has x k ≡ false
  pub standard : (k : ℕ) → has o.standard k ≡ true → has o.unwanted k ≡ false → has opens k ≡ false → has x k ≡ true
  pub as_set : (k : ℕ) → has opens k ≡ true → has x k ≡ has s k

-- a choice keeps the order with a setting, as demand 2 says it (`obeys`), exactly if it does so
abbrev pub Keeping : Type 0
Keeping = (x : ℕ) (o : Order) (opens s : ℕ) → Within s opens → (obeys x (complete (with_setting o opens s)) ≡ true) ↔ Keeps x o opens s

-- a setting gives a buildable order: some choice of the book's options keeps every rule, the order and the setting
pub record Builds (bytes : List ℕ) (o : Order) (opens s x : ℕ) : Type 0 where
  pub choice : x < 2 ^ vars_in bytes
  pub rules : models x (rules_in bytes) ≡ true
  pub order : Keeps x o opens s

abbrev pub BuildableWith : List ℕ → Order → ℕ → ℕ → Type 0
BuildableWith bytes o opens s = (x : ℕ) × Builds bytes o opens s x

-- ---- what is tried

-- the reply is what was tried, x
abbrev pub TriedIs : List ℕ → Order → ℕ → ℕ → Tables → Tried → Type 0
TriedIs bytes o opens allowance t x = (undecided bytes o opens allowance t).reply ≡ tried x

-- the answer is a stop
abbrev pub Stops : Answer → Type 0
Stops a = (k : ℕ) × (c : Tally) × (a ≡ CheckStopped k c)

-- the answer to a setting: that of a single check of the order with it, with the whole allowance
abbrev pub single : List ℕ → Order → ℕ → ℕ → Lengths → ℕ → Answer
single bytes o opens allowance l s = answer bytes (with_setting o opens s) allowance l

pub record InTurn (bytes : List ℕ) (o : Order) (opens allowance : ℕ) (l : Lengths) (x : Tried) : Type 0 where
  -- no setting is refused
  pub none_refused : (s : ℕ) → Within s opens → NoRow (check_conditions bytes (with_setting o opens s) l)
  -- the answer of the last setting tried, with its own counts, is handed over
  pub last_own : x.last ≡ single bytes o opens allowance l x.setting
  -- it stands in the list of settings, and none before it stops
  pub earlier : List ℕ
  pub later : List ℕ
  pub listed : settings opens ≡ earlier ++ (x.setting ∷ later)
  pub none_stopped : (s : ℕ) → Memᴰ s earlier → Stops (single bytes o opens allowance l s) → ⊥
  -- it is a stop exactly if that one stops
  pub stop : (x.verdict ≡ Stopped) ↔ Stops x.last
  -- and if it does not, all settings were tried: it is the last of them, the open word
  pub all_tried : (x.verdict ≡ Stopped → ⊥) → (x.setting ≡ opens) × (later ≡ [])

abbrev pub Trying : Type 0
Trying =
    (bytes : List ℕ) (o : Order) (opens allowance : ℕ) (t : Tables) (x : Tried) → TriedIs bytes o opens allowance t x →
    InTurn bytes o opens allowance (lengths t) x

-- always, sometimes and never, exactly as all, some but not all, or none of the settings give a buildable order; wherever it is no stop
pub record RightVerdict (bytes : List ℕ) (o : Order) (opens : ℕ) (x : Tried) : Type 0 where
  pub always : (x.verdict ≡ Always) ↔ ((s : ℕ) → Within s opens → BuildableWith bytes o opens s)
  pub sometimes :
      (x.verdict ≡ Sometimes) ↔
      (((s : ℕ) × Within s opens × BuildableWith bytes o opens s) × ((s : ℕ) × Within s opens × (BuildableWith bytes o opens s → ⊥)))
  pub never : (x.verdict ≡ Never) ↔ ((s : ℕ) → Within s opens → BuildableWith bytes o opens s → ⊥)

abbrev pub Verdicts : Type 0
Verdicts =
    (bytes : List ℕ) (o : Order) (opens allowance : ℕ) (t : Tables) (x : Tried) → TriedIs bytes o opens allowance t x →
    (x.verdict ≡ Stopped → ⊥) → RightVerdict bytes o opens x

-- ---- the tables

-- every place from the count on is zero
abbrev pub ZeroFrom : ℕ → List ℕ → Type 0
ZeroFrom count t = (i : ℕ) → count ≤ i → get_or t i 0 ≡ 0

-- the tables hold what the outcome r has, and zeros after it
pub record WordsThenZeros (r : Outcome) (before after : Tables) : Type 0 where
  pub first : first_places (tally_of r) after ≡ tables_of r
  pub pos : ZeroFrom (length r.derived) after.pos
  pub neg : ZeroFrom (length r.derived) after.neg
  pub decided : ZeroFrom (length r.records) after.decided
  pub trues : ZeroFrom (length r.records) after.trues
  pub redundant : ZeroFrom (length r.records) after.redundant
  pub same_lengths : lengths after ≡ lengths before

-- they are what the last setting tried wrote, whose outcome is right by demand 2 and within the allowances, and by which no derived rule is covered by an
-- earlier one. The rest of demand 3 is said of `check` (crate `contract`): this is the check of the order with that setting
pub record LastWrote (bytes : List ℕ) (o : Order) (opens allowance : ℕ) (t : Tables) (x : Tried) (after : Tables) : Type 0 where
  pub asked : Order
  pub asked_is : asked ≡ with_setting o opens x.setting
  pub holds : WordsThenZeros (outcome bytes asked allowance (lengths t)) t after
  pub right : RightOutcome bytes asked allowance (lengths t) (vars_in bytes) (rules_in bytes) (outcome bytes asked allowance (lengths t))
  pub spent : Spent allowance (length t.pos) (outcome bytes asked allowance (lengths t))
  pub uncovered : Uncovered bytes asked (outcome bytes asked allowance (lengths t)) after

abbrev pub TablesKept : Type 0
TablesKept =
    (bytes : List ℕ) (o : Order) (opens allowance : ℕ) (t : Tables) (x : Tried) → TriedIs bytes o opens allowance t x →
    LastWrote bytes o opens allowance t x (undecided bytes o opens allowance t).tables

-- what the tables held plays no part: where it is tried, reply and tables are the same
abbrev pub NoPart : Type 0
NoPart =
    (bytes : List ℕ) (o : Order) (opens allowance : ℕ) (t t' : Tables) → lengths t ≡ lengths t' →
    NoRow (undecided_conditions bytes o opens (lengths t)) → undecided bytes o opens allowance t ≡ undecided bytes o opens allowance t'

-- ---- what an allowance buys

-- what the allowance and the places buy, where r s is the outcome with which the order with setting s is settled
pub record Bought (bytes : List ℕ) (o : Order) (opens allowance places : ℕ) (r : ℕ → Outcome) (x : Tried) : Type 0 where
  -- enough for every setting: it is no stop
  pub enough :
      ((s : ℕ) → Within s opens → Settled bytes (with_setting o opens s) (r s) × Enough (r s) allowance places) → x.verdict ≡ Stopped → ⊥
  -- not enough for a setting, and enough for those before it: it stops there, whatever those after it come to
  pub short :
      (before after : List ℕ) (s : ℕ) → settings opens ≡ before ++ (s ∷ after) →
      ((u : ℕ) → Memᴰ u before → Settled bytes (with_setting o opens u) (r u) × Enough (r u) allowance places) →
      Settled bytes (with_setting o opens s) (r s) → (Enough (r s) allowance places → ⊥) → (x.verdict ≡ Stopped) × (x.setting ≡ s)

abbrev pub Buying : Type 0
Buying =
    (bytes : List ℕ) (o : Order) (opens allowance : ℕ) (t : Tables) (x : Tried) → TriedIs bytes o opens allowance t x →
    (r : ℕ → Outcome) → Bought bytes o opens allowance (length t.pos) r x

-- 2^n - 1 of both is always enough
abbrev pub AlwaysEnough : Type 0
AlwaysEnough =
    (bytes : List ℕ) (o : Order) (opens allowance : ℕ) (t : Tables) (x : Tried) → TriedIs bytes o opens allowance t x →
    2 ^ vars_in bytes - 1 ≤ allowance → 2 ^ vars_in bytes - 1 ≤ length t.pos → x.verdict ≡ Stopped → ⊥

-- ---- for callers in C and Rust

-- what a caller takes out of the word, and finds in the two places v' and s', which were v and s: no number and no count is cut off
pub record Takes (bytes : List ℕ) (o : Order) (opens allowance v s : ℕ) (before : Tables) (w v' s' : ℕ) (after : Tables) : Type 0 where
  -- a refusal by its number, with nothing changed
  pub refused :
      (k : ℕ) → (undecided bytes o opens allowance before).reply ≡ Refused k →
      (unpacked w ≡ CheckRefused k) × (v' ≡ v) × (s' ≡ s) × (after ≡ before)
  -- or the last setting tried, with its answer and what it left
  pub answered :
      (x : Tried) → TriedIs bytes o opens allowance before x →
      (unpacked w ≡ x.last) × (s' ≡ x.setting) × (s' < 2 ^ 64) × (after ≡ (undecided bytes o opens allowance before).tables)
  -- and the verdict: 0 always, 1 sometimes, 2 never, 3 stopped
  pub always : (x : Tried) → TriedIs bytes o opens allowance before x → x.verdict ≡ Always → v' ≡ 0
  pub sometimes : (x : Tried) → TriedIs bytes o opens allowance before x → x.verdict ≡ Sometimes → v' ≡ 1
  pub never : (x : Tried) → TriedIs bytes o opens allowance before x → x.verdict ≡ Never → v' ≡ 2
  pub stopped : (x : Tried) → TriedIs bytes o opens allowance before x → x.verdict ≡ Stopped → v' ≡ 3

-- so it is with what the exported function promises (`Told`), where the allowance has 32 bits
abbrev pub Taking : Type 0
Taking =
    (bytes : List ℕ) (o : Order) (opens allowance v s : ℕ) (before : Tables) (w v' s' : ℕ) (after : Tables) → allowance < 2 ^ 32 →
    Told bytes o opens allowance v s before w v' s' after → Takes bytes o opens allowance v s before w v' s' after

-- ---- examples

-- the rules "1 or 2", "3 or not 1" and "not 2 or not 3"
abbrev pub three_rules : List ℕ
three_rules = encode 3 (clause 3 0 ∷ clause 4 1 ∷ clause 0 6 ∷ [])

-- tables with room for three derived rules, of various lengths, that hold something else
abbrev pub lent_tables : Tables
lent_tables = lent (replicate 3 9) (replicate 3 9) (replicate 64 9) (replicate 65 9) (replicate 66 9)

-- zeros, and these words before them
abbrev pub padded : ℕ → List ℕ → List ℕ
padded n ws = ws ++ replicate (n - length ws) 0

pub record Examples : Type 0 where
  -- options 1 and 3 are open, and option 3 is standard. Of the settings 0, 1, 4 and 5 the first and the last can be built. The two between derive two rules and
  -- three, of which nothing is left
  pub sometimes :
      undecided three_rules (order 0 0 4) 5 3 lent_tables ≡
      record {
        reply = tried (record { verdict = Sometimes; setting = 5; last = Can (record { branchings = 1; derived = 0; records = 2 }) });
        tables = lent (padded 3 []) (padded 3 []) (padded 64 (1 ∷ 1 ∷ [])) (padded 65 (1 ∷ 1 ∷ [])) (padded 66 (2 ∷ 6 ∷ []));
      }
  -- with room for two derived rules, setting 4 stops, after setting 0, which can be built, and setting 1, which cannot
  pub stopped :
      undecided three_rules (order 0 0 4) 5 3 (lent (replicate 2 9) (replicate 2 9) (replicate 64 9) (replicate 65 9) (replicate 66 9)) ≡
      record {
        reply = tried (record { verdict = Stopped; setting = 4; last = CheckStopped 11 (record { branchings = 3; derived = 2; records = 1 }) });
        tables = lent (2 ∷ 0 ∷ []) (0 ∷ 4 ∷ []) (padded 64 (0 ∷ [])) (padded 65 (0 ∷ [])) (padded 66 (3 ∷ []));
      }
  -- only option 3 is open, and one branching is enough
  pub always :
      undecided three_rules (order 0 0 4) 4 1 lent_tables ≡
      record {
        reply = tried (record { verdict = Always; setting = 4; last = Can (record { branchings = 1; derived = 0; records = 2 }) });
        tables = lent (padded 3 []) (padded 3 []) (padded 64 (4 ∷ 4 ∷ [])) (padded 65 (4 ∷ 4 ∷ [])) (padded 66 (1 ∷ 3 ∷ []));
      }
  -- options 2 and 3 are wanted, and option 1 is open
  pub never :
      undecided three_rules (order 6 0 0) 1 3 lent_tables ≡
      record {
        reply = tried (record { verdict = Never; setting = 1; last = Cannot (record { branchings = 3; derived = 3; records = 1 }) });
        tables = lent (padded 3 []) (padded 3 (4 ∷ 1 ∷ 0 ∷ [])) (padded 64 (0 ∷ [])) (padded 65 (0 ∷ [])) (padded 66 (7 ∷ []));
      }
  -- option 1 is wanted, 2 unwanted, 3 and 4 standard, and 4 is open. Left out, it breaks "4 or not 3", since 3 is taken as wanted
  pub beside :
      undecided (encode 4 (clause 8 4 ∷ [])) (order 1 2 12) 8 2 lent_tables ≡
      record {
        reply = tried (record { verdict = Sometimes; setting = 8; last = Can (record { branchings = 0; derived = 0; records = 4 }) });
        tables = lent (padded 3 []) (padded 3 []) (padded 64 []) (padded 65 []) (padded 66 (1 ∷ 3 ∷ 11 ∷ 15 ∷ []));
      }
  -- an open option that is wanted: 20, and nothing is cleared
  pub refused : undecided three_rules (order 1 0 0) 3 3 lent_tables ≡ record { reply = Refused 20; tables = lent_tables }
  -- of the refusals that hold, the first. 11 open options, and one above n; 10 of which one is wanted, and one unwanted; 10 with no tables; a standard option above n
  pub eleven : (undecided (encode 64 []) (order 1 0 0) 2047 0 (lent [] [] [] [] [])).reply ≡ Refused 19
  pub above_n : (undecided (encode 3 []) (order 1 0 0) 9 0 (lent [] [] [] [] [])).reply ≡ Refused 19
  pub ten : (undecided (encode 64 []) (order 1 0 0) 1023 0 (lent [] [] [] [] [])).reply ≡ Refused 20
  pub unwanted_too : (undecided (encode 64 []) (order 0 1 0) 1023 0 (lent [] [] [] [] [])).reply ≡ Refused 20
  pub then_nine : (undecided (encode 64 []) (order 0 0 0) 1023 0 (lent [] [] [] [] [])).reply ≡ Refused 9
  pub twelve_first : (undecided (encode 3 []) (order 0 0 8) 8 0 (lent [] [] [] [] [])).reply ≡ Refused 12

-- ---- all of them

-- every demand, proved in `proofs/Demands.antt`
pub record Demands : Type 0 where
  pub refusals : Refusals
  pub answers : Answers
  pub all_settings : AllSettings
  pub visiting : Visiting
  pub as_wishes : AsWishes
  pub none_open : NoneOpen
  pub keeping : Keeping
  pub trying : Trying
  pub verdicts : Verdicts
  pub tables_kept : TablesKept
  pub no_part : NoPart
  pub buying : Buying
  pub always_enough : AlwaysEnough
  pub taking : Taking
  pub examples : Examples
