-- The demands on a desk with drafts, each as a named type that is proved in `proofs/`. The record at the end has them all; docs/STEPS.md says how to read the
-- signs. A run of calls is a list, the latest first: `desk_after n calls` is the desk after them, on a fresh desk for n options. What is said of a run looks back
-- through its calls: `since ++ (c ∷ before)` is a run in which c came after `before`, and `since` came after c. `after d c` is the desk after one call, and
-- `refusal d c` its answer, for any desk; the numbers of options and drafts may be any.
use Rattle.std.specs.Prelude.{◌≡◌, Bool, true, false, not, List, [], ◌∷◌, ◌++◌, ◌≢◌, ◌⊎◌, ◌↔◌, ℕ, ◌-◌, min, ◌≤◌, ◌<◌, get_or, length, replicate}
use Rattle.words.specs.Words.{has}
use Rattle.order.specs.Demands.{order}
use Rattle.book.specs.Bytes.{vars_in}
use Rattle.book.specs.Conditions.{Condition, condition, First, NoRow, NamesAbove, InBoth}
use Rattle.contract.specs.Check.{Lengths, check, Result.refused}
use Rattle.drafts.specs.declared.Desk.{Desk}
use Rattle.drafts.specs.Desk.{empty_desk, fresh, Call, Call.set, Call.clear, Call.keep, Call.return, refusal, after, Makes, Alters, desk_after, wishes, draft, Standing, as_wished, unset, standing}

-- ---- a fresh desk

-- for n up to 64 the desk has n options, an empty order and no draft; for more, the answer is 2, and the desk is the fresh one for no options
pub record FreshFor (n : ℕ) : Type 0 where
  pub made : n ≤ 64 → ((fresh n).answer ≡ 0) × ((fresh n).desk ≡ empty_desk n)
  pub refused : 64 < n → ((fresh n).answer ≡ 2) × ((fresh n).desk ≡ (fresh 0).desk)

abbrev pub Fresh : Type 0
Fresh = (n : ℕ) → FreshFor n

-- ---- refusals

-- k is not 1 to `most`
abbrev pub Outside : ℕ → ℕ → Type 0
Outside k most = (k < 1) ⊎ (most < k)

-- one of these calls is `keep j`; where j is 1 to 16 it was accepted
abbrev pub KeptIn : ℕ → List Call → Type 0
KeptIn j calls = (since : List Call) × (before : List Call) × (calls ≡ since ++ (keep j ∷ before))

-- what a call is refused for, in the order in which it is judged. `past` are the calls before it
abbrev pub call_conditions : ℕ → List Call → Call → List Condition
call_conditions n past (set k fitted) = condition 7 (Outside k n) ∷ []
call_conditions n past (clear k) = condition 7 (Outside k n) ∷ []
call_conditions n past (keep j) = condition 14 (Outside j 16) ∷ []
call_conditions n past (return j) = condition 14 (Outside j 16) ∷ condition 15 (KeptIn j past → ⊥) ∷ []

-- none of them holds
abbrev pub Accepted : ℕ → List Call → Call → Type 0
Accepted n past c = NoRow (call_conditions n past c)

-- a call is refused by the first condition that holds, and accepted, which is answer 0, where none does
pub record Judged (n : ℕ) (past : List Call) (c : Call) : Type 0 where
  pub refused : (r : ℕ) → ((refusal (desk_after n past) c ≡ r) × (r ≢ 0)) ↔ First (call_conditions n past c) r
  pub accepted : (refusal (desk_after n past) c ≡ 0) ↔ Accepted n past c

abbrev pub Judging : Type 0
Judging = (n : ℕ) → n ≤ 64 → (past : List Call) (c : Call) → Judged n past c

-- a refused call alters nothing at all, on any desk
abbrev pub RefusedAltersNothing : Type 0
RefusedAltersNothing = (d : Desk) (c : Call) → refusal d c ≢ 0 → after d c ≡ d

-- nor does clearing a wish that is not set
abbrev pub ClearingUnset : Type 0
ClearingUnset = (d : Desk) (k : ℕ) → standing d k ≡ unset → after d (clear k) ≡ d

-- ---- how an option stands

-- a set or clear of option k, or a return
abbrev pub BearsOn : ℕ → Call → Type 0
BearsOn k (set i fitted) = i ≡ k
BearsOn k (clear i) = i ≡ k
BearsOn k (keep j) = ⊥
BearsOn k (return j) = Unit {0}

-- since `before` there was no accepted set or clear of option k, and no accepted return
abbrev pub NoneSince : ℕ → ℕ → List Call → List Call → Type 0
NoneSince n k since before = (later earlier : List Call) (c : Call) → since ≡ later ++ (c ∷ earlier) → Accepted n (earlier ++ before) c → BearsOn k c → ⊥

-- `stands calls k` says how option k stands after any calls: as the last accepted set or clear since the last accepted return says; without one, as it stood when
-- the draft of that return was last kept; and unset if there was no return
pub record LooksBack (n : ℕ) (stands : List Call → ℕ → Standing) : Type 0 where
  pub last_set :
      (since before : List Call) (k : ℕ) (fitted : Bool) → 1 ≤ k → k ≤ n → NoneSince n k since (set k fitted ∷ before) →
      stands (since ++ (set k fitted ∷ before)) k ≡ as_wished fitted
  pub last_clear :
      (since before : List Call) (k : ℕ) → 1 ≤ k → k ≤ n → NoneSince n k since (clear k ∷ before) → stands (since ++ (clear k ∷ before)) k ≡ unset
  pub last_return :
      (since between before : List Call) (j k : ℕ) → 1 ≤ j → j ≤ 16 → (KeptIn j between → ⊥) → 1 ≤ k →
      NoneSince n k since (return j ∷ between ++ (keep j ∷ before)) → stands (since ++ (return j ∷ between ++ (keep j ∷ before))) k ≡ stands before k
  pub none : (calls : List Call) (k : ℕ) → 1 ≤ k → NoneSince n k calls [] → stands calls k ≡ unset

-- so stands every option on a desk, after every run of calls
abbrev pub Stands : Type 0
Stands = (n : ℕ) → n ≤ 64 → LooksBack n (λ calls k. standing (desk_after n calls) k)

-- and this leaves nothing open: any two ways for options to stand that look back so are the same
abbrev pub OneWay : Type 0
OneWay =
    (n : ℕ) → n ≤ 64 → (f g : List Call → ℕ → Standing) → LooksBack n f → LooksBack n g → (calls : List Call) (k : ℕ) → 1 ≤ k → f calls k ≡ g calls k

-- ---- drafts

-- a draft is kept where one of the calls kept it: it is the order as it was when it was last kept, a return to it gives that order, and it stays. A draft that no
-- call kept is empty. There are 16 places, and no other bit of `kept` is set
pub record DraftsAfter (n : ℕ) : Type 0 where
  pub kept : (calls : List Call) (j : ℕ) → 1 ≤ j → j ≤ 16 → (has (desk_after n calls).kept (j - 1) ≡ true) ↔ KeptIn j calls
  pub no_other : (calls : List Call) (i : ℕ) → 16 ≤ i → has (desk_after n calls).kept i ≡ false
  pub last_kept :
      (since before : List Call) (j : ℕ) → 1 ≤ j → j ≤ 16 → (KeptIn j since → ⊥) →
      draft (desk_after n (since ++ (keep j ∷ before))) j ≡ wishes (desk_after n before)
  pub never_kept : (calls : List Call) (j : ℕ) → 1 ≤ j → j ≤ 16 → (KeptIn j calls → ⊥) → draft (desk_after n calls) j ≡ record { wanted = 0; unwanted = 0 }
  pub returned :
      (between before : List Call) (j : ℕ) → 1 ≤ j → j ≤ 16 → (KeptIn j between → ⊥) →
      wishes (desk_after n (return j ∷ between ++ (keep j ∷ before))) ≡ wishes (desk_after n before)
  pub sixteen : (calls : List Call) → (length (desk_after n calls).wanteds ≡ 16) × (length (desk_after n calls).unwanteds ≡ 16)

abbrev pub Drafts : Type 0
Drafts = (n : ℕ) → DraftsAfter n

-- ---- the order can be checked as it stands

-- the desk has the options that it was made for, and neither order nor draft names one above them, nor has one option in both words
pub record Fit (n : ℕ) (d : Desk) : Type 0 where
  pub options : d.options ≡ n
  pub none_above : NamesAbove n d.wanted d.unwanted → ⊥
  pub none_in_both : InBoth d.wanted d.unwanted → ⊥
  pub drafts_none_above : (j : ℕ) → NamesAbove n (draft d j).wanted (draft d j).unwanted → ⊥
  pub drafts_none_in_both : (j : ℕ) → InBoth (draft d j).wanted (draft d j).unwanted → ⊥

abbrev pub AlwaysFit : Type 0
AlwaysFit = (n : ℕ) → n ≤ 64 → (calls : List Call) → Fit n (desk_after n calls)

-- so no check of a desk's order against a book with its options, or with more, is refused by 7 or 8: whatever the standard options, the allowance and the tables
abbrev pub Checkable : Type 0
Checkable =
    (n : ℕ) (calls : List Call) (bytes : List ℕ) (standard allowance : ℕ) (l : Lengths) → (desk_after n calls).options ≤ vars_in bytes →
    (r : ℕ) → (r ≡ 7) ⊎ (r ≡ 8) → check bytes (order (desk_after n calls).wanted (desk_after n calls).unwanted standard) allowance l ≡ refused r → ⊥

-- a desk that was refused for more than 64 options goes on as one for none
abbrev pub AsForNone : Type 0
AsForNone = (n : ℕ) → 64 < n → (calls : List Call) → desk_after n calls ≡ desk_after 0 calls

-- ---- what a caller has

-- one call: what is made fresh, with its answer, is that of the definition; so is what a call leaves, with its answer, whatever desk it was lent
pub record OneCall : Type 0 where
  pub made : (n answer : ℕ) (d : Desk) → Makes n answer d → (answer ≡ (fresh n).answer) × (d ≡ (fresh n).desk)
  pub lent : (before : Desk) (c : Call) (answer : ℕ) (d : Desk) → Alters before c answer d → (answer ≡ refusal before c) × (d ≡ after before c)

-- a desk that is handed on: it is made fresh, and each call is lent what the call before it left
pub data HandedOn : ℕ → List Call → Desk → Type 0 where
  made : {n answer : ℕ} {d : Desk} → Makes n answer d → HandedOn n [] d
  lent : {n answer : ℕ} {past : List Call} {c : Call} {d d' : Desk} → HandedOn n past d → Alters d c answer d' → HandedOn n (c ∷ past) d'

-- it is the desk of the definition, and the answer to the next call is that of the definition
pub record AfterCalls (n : ℕ) (calls : List Call) (d : Desk) : Type 0 where
  pub desk : d ≡ desk_after n calls
  pub answer : (c : Call) (r : ℕ) (d' : Desk) → Alters d c r d' → r ≡ refusal (desk_after n calls) c

abbrev pub RunOfCalls : Type 0
RunOfCalls = (n : ℕ) (calls : List Call) (d : Desk) → HandedOn n calls d → AfterCalls n calls d

-- ---- any desk

-- a desk that no fresh one leads to may say that it has more than 64 options, have options above its own in a word, or one in both, and anything in its other words.
-- One that says more than 64 has 64 options; a call alters what it is about, and leaves all else as it was, so that a stray bit stays where it is

-- one word as another but for bit i
abbrev pub ButFor : ℕ → Bool → ℕ → ℕ → Type 0
ButFor i bit w w' = (has w' i ≡ bit) × ((x : ℕ) → x ≢ i → has w' x ≡ has w x)

-- one list as another but for place i, where it has that place: a desk's lists have 16
abbrev pub ButPlace : ℕ → ℕ → List ℕ → List ℕ → Type 0
ButPlace i w ws ws' = (length ws' ≡ length ws) × (i < length ws → get_or ws' i 0 ≡ w) × ((x : ℕ) → x ≢ i → get_or ws' x 0 ≡ get_or ws x 0)

-- all but the order
pub record SameDrafts (d d' : Desk) : Type 0 where
  pub options : d'.options ≡ d.options
  pub kept : d'.kept ≡ d.kept
  pub wanteds : d'.wanteds ≡ d.wanteds
  pub unwanteds : d'.unwanteds ≡ d.unwanteds

pub record OnDesk (d : Desk) : Type 0 where
  pub set_refused : (k : ℕ) (fitted : Bool) → ((refusal d (set k fitted) ≡ 7) × Outside k (min d.options 64)) ⊎ ((refusal d (set k fitted) ≡ 0) × (Outside k (min d.options 64) → ⊥))
  pub clear_refused : (k : ℕ) → refusal d (clear k) ≡ refusal d (set k true)
  pub keep_refused : (j : ℕ) → ((refusal d (keep j) ≡ 14) × Outside j 16) ⊎ ((refusal d (keep j) ≡ 0) × (Outside j 16 → ⊥))
  pub return_refused :
      (j : ℕ) →
      ((refusal d (return j) ≡ 14) × Outside j 16)
      ⊎ (((refusal d (return j) ≡ 15) × (Outside j 16 → ⊥) × (has d.kept (j - 1) ≡ false))
      ⊎ ((refusal d (return j) ≡ 0) × (Outside j 16 → ⊥) × (has d.kept (j - 1) ≡ true)))
  pub after_set :
      (k : ℕ) (fitted : Bool) → refusal d (set k fitted) ≡ 0 →
      ButFor (k - 1) fitted d.wanted (after d (set k fitted)).wanted
      × ButFor (k - 1) (not fitted) d.unwanted (after d (set k fitted)).unwanted
      × SameDrafts d (after d (set k fitted))
  pub after_clear :
      (k : ℕ) → refusal d (clear k) ≡ 0 →
      ButFor (k - 1) false d.wanted (after d (clear k)).wanted
      × ButFor (k - 1) false d.unwanted (after d (clear k)).unwanted
      × SameDrafts d (after d (clear k))
  pub after_keep :
      (j : ℕ) → refusal d (keep j) ≡ 0 →
      (wishes (after d (keep j)) ≡ wishes d)
      × ((after d (keep j)).options ≡ d.options)
      × ButFor (j - 1) true d.kept (after d (keep j)).kept
      × ButPlace (j - 1) d.wanted d.wanteds (after d (keep j)).wanteds
      × ButPlace (j - 1) d.unwanted d.unwanteds (after d (keep j)).unwanteds
  pub after_return : (j : ℕ) → refusal d (return j) ≡ 0 → (wishes (after d (return j)) ≡ draft d j) × SameDrafts d (after d (return j))

abbrev pub AnyDesk : Type 0
AnyDesk = (d : Desk) → OnDesk d

-- ---- examples

-- for three options: option 1 is to be fitted, and that is draft 3; then option 2 is to be left out, and so is option 1
abbrev pub tried : List Call
tried = set 1 false ∷ set 2 false ∷ keep 3 ∷ set 1 true ∷ []

pub record Examples : Type 0 where
  pub tries : wishes (desk_after 3 tried) ≡ record { wanted = 0; unwanted = 3 }
  -- back to draft 3, which stays: an option that is cleared is there again
  pub back : wishes (desk_after 3 (return 3 ∷ tried)) ≡ record { wanted = 1; unwanted = 0 }
  pub cleared : wishes (desk_after 3 (clear 1 ∷ set 3 true ∷ return 3 ∷ tried)) ≡ record { wanted = 4; unwanted = 0 }
  pub again : wishes (desk_after 3 (return 3 ∷ clear 1 ∷ set 3 true ∷ return 3 ∷ tried)) ≡ record { wanted = 1; unwanted = 0 }
  -- kept again, draft 3 is the order of that time; other drafts stay
  pub replaced : draft (desk_after 3 (keep 3 ∷ keep 16 ∷ tried)) 3 ≡ record { wanted = 0; unwanted = 3 }
  pub two_drafts : wishes (desk_after 3 (return 16 ∷ return 3 ∷ keep 16 ∷ tried)) ≡ record { wanted = 0; unwanted = 3 }
  -- all of a desk
  pub whole :
      desk_after 3 (keep 2 ∷ tried) ≡
      record {
        options = 3;
        wanted = 0;
        unwanted = 3;
        kept = 6;
        wanteds = 0 ∷ 0 ∷ 1 ∷ replicate 13 0;
        unwanteds = 0 ∷ 3 ∷ 0 ∷ replicate 13 0;
      }
  -- refusals: options 0 and 4 of 3; drafts 0 and 17; draft 17 is judged by its number before it is looked for; draft 2 was not kept
  pub options : (refusal (desk_after 3 tried) (set 0 true) ≡ 7) × (refusal (desk_after 3 tried) (clear 4) ≡ 7) × (refusal (desk_after 3 tried) (set 3 true) ≡ 0)
  pub drafts : (refusal (desk_after 3 tried) (keep 0) ≡ 14) × (refusal (desk_after 3 tried) (keep 17) ≡ 14) × (refusal (desk_after 3 tried) (keep 16) ≡ 0)
  pub returns :
      (refusal (desk_after 3 tried) (return 17) ≡ 14) × (refusal (desk_after 3 tried) (return 2) ≡ 15) × (refusal (desk_after 3 tried) (return 3) ≡ 0)
  pub largest : wishes (desk_after 64 (set 64 true ∷ [])) ≡ record { wanted = 9223372036854775808; unwanted = 0 }
  pub too_many : ((fresh 65).answer ≡ 2) × ((fresh 65).desk.options ≡ 0) × ((fresh 64).answer ≡ 0)

-- ---- all of them

-- every demand, proved in `proofs/Demands.antt`
pub record Demands : Type 0 where
  pub fresh_desk : Fresh
  pub judging : Judging
  pub refused_alters_nothing : RefusedAltersNothing
  pub clearing_unset : ClearingUnset
  pub stands : Stands
  pub one_way : OneWay
  pub drafts : Drafts
  pub always_fit : AlwaysFit
  pub checkable : Checkable
  pub as_for_none : AsForNone
  pub one_call : OneCall
  pub run_of_calls : RunOfCalls
  pub any_desk : AnyDesk
  pub examples : Examples
