-- The demands on sites that share one allowance, each as a named type that is proved in `proofs/`. The record at the end has them all; docs/STEPS.md says how
-- to read the signs. `sites bytes whole ss` is the definition, for book bytes, the whole allowance and the list of sites, each an order and tables of its own. It
-- is `turned_away 21`, or `served` with the replies in turn. Sites are served one a call: `opened k whole` is a terminal for k sites, `call bytes t s` the call of
-- site s with the terminal t, and `calls` a run of them. Bytes, words, allowances and tables are any. What a single check is and does is said in crate `contract`.
use Rattle.std.specs.Prelude.{◌≡◌, List, [], ◌∷◌, ◌++◌, map, ◌↔◌, ℕ, suc, ◌+◌, ◌-◌, ◌*◌, ◌/◌, ◌%◌, ◌^◌, ◌≤◌, ◌<◌, length, replicate}
use Rattle.steps.specs.Run.{Outcome}
use Rattle.steps.specs.Marked.{clause}
use Rattle.steps.specs.Demands.{Enough}
use Rattle.order.specs.Order.{Order}
use Rattle.order.specs.Demands.{order}
use Rattle.book.specs.Bytes.{vars_in, encode}
use Rattle.book.specs.Conditions.{NoRow}
use Rattle.answer.specs.Answer.{tally_in, Answer, Answer.Can, Answer.Cannot, Answer.Refused as CheckRefused, Answer.Stopped}
use Rattle.answer.specs.Packed.{unpacked}
use Rattle.answer.specs.declared.Tally.{Tally}
use Rattle.contract.specs.Filled.{lent, lengths, Checked}
use Rattle.contract.specs.Demands.{Permitted, check_conditions, first_places, Fills, Tells, Settled, IsVerdict}
use Rattle.contract.specs.Asked.{Demanded, RefusedFirst}
use Rattle.sites.specs.Sites.{Site, Reply, used_in, Replies.turned_away, Replies.served, sites}
use Rattle.sites.specs.Terminal.{opened, Turn, call, calls, terminal_after}
use Rattle.sites.specs.Handed.{terminal_of, HandsOpening, Handed, HandedInTurn}
use Rattle.sites.specs.declared.Terminal.{Terminal}
use Rattle.sites.specs.Values.{Opening.Refused, Opening.Opened}

-- ---- 21

pub record OneToEight (k : ℕ) : Type 0 where
  pub one : 1 ≤ k
  pub eight : k ≤ 8

-- 21 exactly where the sites are not 1 to 8, whatever book, allowance, orders and tables are: it is tested before everything. There is no other refusal of all
pub record Turned (bytes : List ℕ) (whole : ℕ) (ss : List Site) : Type 0 where
  pub refused : (j : ℕ) → (sites bytes whole ss ≡ turned_away j) ↔ ((j ≡ 21) × (OneToEight (length ss) → ⊥))
  pub all_served : OneToEight (length ss) ↔ ((rs : List Reply) × (sites bytes whole ss ≡ served rs))
  pub as_many : (rs : List Reply) → sites bytes whole ss ≡ served rs → length rs ≡ length ss

abbrev pub TwentyOne : Type 0
TwentyOne = (bytes : List ℕ) (whole : ℕ) (ss : List Site) → Turned bytes whole ss

-- a terminal is opened for 1 to 8 sites
pub record OpenedFor (k whole : ℕ) : Type 0 where
  pub refused : (j : ℕ) → (opened k whole ≡ Refused j) ↔ ((j ≡ 21) × (OneToEight k → ⊥))
  pub terminal : (t : Terminal) → (opened k whole ≡ Opened t) ↔ (OneToEight k × (t ≡ terminal_of whole (whole / k) k))

abbrev pub OpenedOrRefused : Type 0
OpenedOrRefused = (k whole : ℕ) → OpenedFor k whole

-- ---- allowances

-- the branchings of an answer, of which a refusal has none
pub record Uses (c : Tally) (j : ℕ) : Type 0 where
  pub can : used_in (Can c) ≡ c.branchings
  pub cannot : used_in (Cannot c) ≡ c.branchings
  pub stopped : used_in (Stopped j c) ≡ c.branchings
  pub refused : used_in (CheckRefused j) ≡ 0

abbrev pub Used : Type 0
Used = (c : Tally) (j : ℕ) → Uses c j

-- of several replies
abbrev pub used_by : List Reply → ℕ
used_by [] = 0
used_by (r ∷ rs) = used_in r.answer + used_by rs

-- the whole is divided by k in whole branchings
abbrev pub Divided : Type 0
Divided = (whole k : ℕ) → 1 ≤ k → (whole ≡ whole / k * k + whole % k) × (whole % k < k)

-- what the first sites of k left unused, where they were given these replies: their parts and the remainder, less what they used
abbrev pub unused_by : ℕ → ℕ → List Reply → ℕ
unused_by whole k earlier = (whole / k * length earlier + whole % k) - used_by earlier

-- the allowance of the site after them: its part, and what they left unused
abbrev pub allowance_after : ℕ → ℕ → List Reply → ℕ
allowance_after whole k earlier = whole / k + unused_by whole k earlier

-- the remainder goes to the first
abbrev pub FirstHas : Type 0
FirstHas = (whole k : ℕ) → allowance_after whole k [] ≡ whole / k + whole % k

-- ---- each site by itself

-- site s of these was given `own`, after the sites that were given `earlier`
pub record Stands (bytes : List ℕ) (whole : ℕ) (ss : List Site) (s : Site) (earlier : List Reply) (own : Reply) : Type 0 where
  pub before : List Site
  pub after : List Site
  pub later : List Reply
  pub listed : ss ≡ before ++ (s ∷ after)
  pub replies : sites bytes whole ss ≡ served (earlier ++ (own ∷ later))
  pub as_many : length earlier ≡ length before

-- so it is with every one of 1 to 8 sites
abbrev pub EverySite : Type 0
EverySite =
    (bytes : List ℕ) (whole : ℕ) (before after : List Site) (s : Site) → OneToEight (length (before ++ (s ∷ after))) →
    (earlier : List Reply) × (own : Reply) × Stands bytes whole (before ++ (s ∷ after)) s earlier own

-- the site's allowance is its part and what was left unused before it: its answer and its tables are those of the order asked singly with that (`Checked`). So it is no
-- less than its part. What the site leaves of it passes on; all of it where the site is refused
pub record AskedWith (bytes : List ℕ) (whole k : ℕ) (s : Site) (earlier : List Reply) (own : Reply) : Type 0 where
  pub singly : Checked bytes s.order (allowance_after whole k earlier) s.tables own.answer own.tables
  pub at_least_part : whole / k ≤ allowance_after whole k earlier
  pub no_more : used_in own.answer ≤ allowance_after whole k earlier
  pub rest : unused_by whole k (earlier ++ (own ∷ [])) ≡ allowance_after whole k earlier - used_in own.answer
  pub refused : (j : ℕ) → own.answer ≡ CheckRefused j → unused_by whole k (earlier ++ (own ∷ [])) ≡ allowance_after whole k earlier
  -- those before it used no more than their parts and the remainder: `unused_by` cuts nothing off
  pub nothing_cut_off : used_by earlier ≤ whole / k * length earlier + whole % k

abbrev pub EachSingly : Type 0
EachSingly =
    (bytes : List ℕ) (whole : ℕ) (ss : List Site) (s : Site) (earlier : List Reply) (own : Reply) → Stands bytes whole ss s earlier own →
    AskedWith bytes whole (length ss) s earlier own

-- the sum used is never more than the whole
abbrev pub Sum : Type 0
Sum = (bytes : List ℕ) (whole : ℕ) (ss : List Site) (rs : List Reply) → sites bytes whole ss ≡ served rs → used_by rs ≤ whole

-- two sites were given the same: the answer, and the words in the counted places; where their tables were the same before, all places
pub record SameReply (s s' : Site) (own own' : Reply) : Type 0 where
  pub answer : own.answer ≡ own'.answer
  pub counted : first_places (tally_in own.answer) own.tables ≡ first_places (tally_in own.answer) own'.tables
  pub all : s.tables ≡ s'.tables → own.tables ≡ own'.tables

-- so it is in two lists of the same length, where they have the same order and tables of the same lengths, and the same was left unused before them. Nothing else
-- of the other sites plays a part, nor where in the list a site stands, nor what a table held
abbrev pub OthersNoPart : Type 0
OthersNoPart =
    (bytes : List ℕ) (whole : ℕ) (ss ss' : List Site) (s s' : Site) (earlier earlier' : List Reply) (own own' : Reply) →
    Stands bytes whole ss s earlier own → Stands bytes whole ss' s' earlier' own' → length ss ≡ length ss' →
    s.order ≡ s'.order → lengths s.tables ≡ lengths s'.tables →
    unused_by whole (length ss) earlier ≡ unused_by whole (length ss') earlier' → SameReply s s' own own'

-- ---- demands 1 to 3, for every site

-- what they say of an answer and its tables (`Demanded`, crate `contract`), with this allowance; and the refusals of a site (`RefusedFirst`)
abbrev pub CarryOver : Type 0
CarryOver =
    (bytes : List ℕ) (whole : ℕ) (ss : List Site) (s : Site) (earlier : List Reply) (own : Reply) → Stands bytes whole ss s earlier own →
    Demanded bytes s.order (allowance_after whole (length ss) earlier) (lengths s.tables) s.tables own.answer own.tables
    × RefusedFirst bytes s.order (lengths s.tables) s.tables own.answer own.tables

-- what a part buys, whatever the other sites do: where a part and the places are enough for the outcome r, it is this outcome; and a part of 2^n - 1 with as many places is
-- always enough
pub record PartBuys (bytes : List ℕ) (part : ℕ) (s : Site) (own : Reply) : Type 0 where
  pub enough :
      (r : Outcome) → Settled bytes s.order r → Permitted (lengths s.tables) → Enough r part (length s.tables.pos) →
      Tells r own.answer × Fills r s.tables own.tables
  pub always :
      NoRow (check_conditions bytes s.order (lengths s.tables)) → 2 ^ vars_in bytes - 1 ≤ part → 2 ^ vars_in bytes - 1 ≤ length s.tables.pos →
      IsVerdict own.answer

abbrev pub Buying : Type 0
Buying =
    (bytes : List ℕ) (whole : ℕ) (ss : List Site) (s : Site) (earlier : List Reply) (own : Reply) → Stands bytes whole ss s earlier own →
    PartBuys bytes (whole / length ss) s own

-- ---- the terminal

-- a run of calls gives what the definition says
abbrev pub RunOfCalls : Type 0
RunOfCalls =
    (bytes : List ℕ) (whole : ℕ) (ss : List Site) (t : Terminal) → opened (length ss) whole ≡ Opened t → sites bytes whole ss ≡ served (calls bytes t ss)

-- what was served does not depend on the sites that call later
abbrev pub OneByOne : Type 0
OneByOne =
    (bytes : List ℕ) (t : Terminal) (ss more : List Site) → calls bytes t (ss ++ more) ≡ calls bytes t ss ++ calls bytes (terminal_after bytes t ss) more

-- a call where no site is to come is refused by 21, and neither the terminal nor a table changes
abbrev pub NoneToCome : Type 0
NoneToCome =
    (bytes : List ℕ) (t : Terminal) (s : Site) → t.sites ≡ 0 →
    call bytes t s ≡ record { returned = record { answer = CheckRefused 21; terminal = t }; tables = s.tables }

-- so it is with every call after as many as there were sites to come
pub record ServedOut (bytes : List ℕ) (t : Terminal) (ss : List Site) : Type 0 where
  pub none_to_come : (terminal_after bytes t ss).sites ≡ 0
  pub further :
      (more : List Site) →
      calls bytes t (ss ++ more) ≡ calls bytes t ss ++ map (λ (s : Site). record { answer = CheckRefused 21; tables = s.tables }) more
  pub stays : (more : List Site) → terminal_after bytes t (ss ++ more) ≡ terminal_after bytes t ss

abbrev pub AfterTheLast : Type 0
AfterTheLast = (bytes : List ℕ) (t : Terminal) (ss : List Site) → t.sites ≡ length ss → ServedOut bytes t ss

-- any three numbers are a terminal. The site's allowance is what is left but for the parts of the sites after it, and nothing where their parts are more than is left
pub record CalledWith (bytes : List ℕ) (t : Terminal) (s : Site) (later : ℕ) (x : Turn) : Type 0 where
  pub checked : Checked bytes s.order (t.left - t.part * later) s.tables x.returned.answer x.tables
  pub left : x.returned.terminal.left ≡ t.left - used_in x.returned.answer
  pub part : x.returned.terminal.part ≡ t.part
  pub sites : x.returned.terminal.sites ≡ later

-- 21 is the answer exactly where no site is to come. What a run of calls used and what it left are together what was left before
pub record AnyThree (bytes : List ℕ) (t : Terminal) : Type 0 where
  pub one : (s : Site) (later : ℕ) → t.sites ≡ suc later → CalledWith bytes t s later (call bytes t s)
  pub turned : (s : Site) → ((call bytes t s).returned.answer ≡ CheckRefused 21) ↔ (t.sites ≡ 0)
  pub all : (ss : List Site) → used_by (calls bytes t ss) + (terminal_after bytes t ss).left ≡ t.left

abbrev pub AnyTerminal : Type 0
AnyTerminal = (bytes : List ℕ) (t : Terminal) → AnyThree bytes t

-- ---- for callers in C and Rust

-- opening: 21, and the caller's places are as they were; or 0, and they hold the terminal
pub record TakesOpening (k whole : ℕ) (places : Terminal) (r : ℕ) (places' : Terminal) : Type 0 where
  pub refused : (OneToEight k → ⊥) → (r ≡ 21) × (places' ≡ places)
  pub taken : OneToEight k → (r ≡ 0) × (places' ≡ terminal_of whole (whole / k) k)

abbrev pub TakingOpening : Type 0
TakingOpening = (k whole : ℕ) (places : Terminal) (r : ℕ) (places' : Terminal) → HandsOpening k whole places r places' → TakesOpening k whole places r places'

-- what a caller takes out of the word, and finds in the tables
abbrev pub taken_from : Handed → Reply
taken_from x = record { answer = unpacked x.word; tables = x.tables }

-- so taken they are a run of calls: no number and no count is cut off, where what is left has 32 bits
abbrev pub TakingSites : Type 0
TakingSites =
    (bytes : List ℕ) (t : Terminal) (ss : List Site) (xs : List Handed) (last : Terminal) → t.left < 2 ^ 32 → HandedInTurn bytes t ss xs last →
    (map taken_from xs ≡ calls bytes t ss) × (last ≡ terminal_after bytes t ss)

-- and after an opening for as many sites, which returns 0, they are what the definition says of the whole list
abbrev pub TakingAll : Type 0
TakingAll =
    (bytes : List ℕ) (whole : ℕ) (ss : List Site) (places t last : Terminal) (xs : List Handed) → whole < 2 ^ 32 →
    HandsOpening (length ss) whole places 0 t → HandedInTurn bytes t ss xs last → sites bytes whole ss ≡ served (map taken_from xs)

-- ---- examples

-- the rules "1 or 2", "3 or not 1" and "not 2 or not 3". With option 2 wanted and option 3 standard the order cannot be built, which takes 2 branchings; the empty order
-- takes 1, and an order for option 4 of 3 is refused
abbrev pub three_rules : List ℕ
three_rules = encode 3 (clause 3 0 ∷ clause 4 1 ∷ clause 0 6 ∷ [])

-- a site with tables of so many places for derived rules, all of whose places hold a number
abbrev pub site_with : Order → ℕ → ℕ → Site
site_with o places x = record { order = o; tables = lent (replicate places x) (replicate places x) (replicate 64 x) (replicate 65 x) (replicate 66 x) }

-- the words in the first places of its tables
abbrev pub given_with : Answer → List ℕ → List ℕ → List ℕ → List ℕ → List ℕ → ℕ → ℕ → Reply
given_with a pos neg decided trues redundant places x =
    let filled : ℕ → List ℕ → List ℕ = λ (length' : ℕ) (ws : List ℕ). ws ++ replicate (length' - length ws) x in
    record { answer = a; tables = lent (filled places pos) (filled places neg) (filled 64 decided) (filled 65 trues) (filled 66 redundant) }

abbrev pub four_sites : List Site
four_sites = site_with (order 2 0 4) 2 9 ∷ site_with (order 8 0 0) 3 8 ∷ site_with (order 0 0 0) 4 7 ∷ site_with (order 2 0 4) 5 6 ∷ []

abbrev pub tally : ℕ → ℕ → ℕ → Tally
tally branchings derived records = record { branchings = branchings; derived = derived; records = records }

pub record Examples : Type 0 where
  -- 5 by 4 sites. The first has its part of 1 and the remainder, uses both; the second is refused, and its 1 passes on; the third uses 1 of 2, and so the last has 2
  pub five :
      sites three_rules 5 four_sites ≡
      served
      (given_with (Cannot (tally 2 2 1)) (0 ∷ 0 ∷ []) (2 ∷ 0 ∷ []) (0 ∷ []) (0 ∷ []) (7 ∷ []) 2 9
      ∷ given_with (CheckRefused 7) [] [] [] [] [] 3 8
      ∷ given_with (Can (tally 1 0 2)) [] [] (1 ∷ 1 ∷ []) (0 ∷ 0 ∷ []) (4 ∷ 6 ∷ []) 4 7
      ∷ given_with (Cannot (tally 2 2 1)) (0 ∷ 0 ∷ []) (2 ∷ 0 ∷ []) (0 ∷ []) (0 ∷ []) (7 ∷ []) 5 6
      ∷ [])
  -- one less, and there is no remainder: the first stops with its part, and the others have what they had
  pub four :
      sites three_rules 4 four_sites ≡
      served
      (given_with (Stopped 10 (tally 1 0 1)) [] [] (2 ∷ []) (2 ∷ []) (1 ∷ []) 2 9
      ∷ given_with (CheckRefused 7) [] [] [] [] [] 3 8
      ∷ given_with (Can (tally 1 0 2)) [] [] (1 ∷ 1 ∷ []) (0 ∷ 0 ∷ []) (4 ∷ 6 ∷ []) 4 7
      ∷ given_with (Cannot (tally 2 2 1)) (0 ∷ 0 ∷ []) (2 ∷ 0 ∷ []) (0 ∷ []) (0 ∷ []) (7 ∷ []) 5 6
      ∷ [])
  -- 4 by 3. The first is refused, and the second has 1 and the 2 that the first had, all of which it uses; the last has its part as at the beginning, of 1
  pub parts_stay :
      sites three_rules 4 (site_with (order 8 0 0) 2 9 ∷ site_with (order 7 0 0) 3 8 ∷ site_with (order 0 0 0) 4 7 ∷ []) ≡
      served
      (given_with (CheckRefused 7) [] [] [] [] [] 2 9
      ∷ given_with (Cannot (tally 3 3 1)) (0 ∷ 0 ∷ 0 ∷ []) (4 ∷ 1 ∷ 0 ∷ []) (0 ∷ []) (0 ∷ []) (7 ∷ []) 3 8
      ∷ given_with (Can (tally 1 0 2)) [] [] (1 ∷ 1 ∷ []) (0 ∷ 0 ∷ []) (4 ∷ 6 ∷ []) 4 7
      ∷ [])
  -- 3 by 3. All others stop, and the last has its part
  pub others_stop :
      sites three_rules 3 (site_with (order 7 0 0) 2 9 ∷ site_with (order 7 0 0) 3 8 ∷ site_with (order 0 0 0) 4 7 ∷ []) ≡
      served
      (given_with (Stopped 10 (tally 1 0 0)) [] [] [] [] [] 2 9
      ∷ given_with (Stopped 10 (tally 1 0 0)) [] [] [] [] [] 3 8
      ∷ given_with (Can (tally 1 0 2)) [] [] (1 ∷ 1 ∷ []) (0 ∷ 0 ∷ []) (4 ∷ 6 ∷ []) 4 7
      ∷ [])
  -- eight sites and none of their bytes a book; nine, and none at all
  pub eight : sites [] 20 (replicate 8 (site_with (order 0 0 0) 0 5)) ≡ served (replicate 8 (given_with (CheckRefused 1) [] [] [] [] [] 0 5))
  pub nine : sites three_rules 1000 (replicate 9 (site_with (order 0 0 0) 0 5)) ≡ turned_away 21
  pub none : sites three_rules 1000 [] ≡ turned_away 21

-- ---- all of them

-- every demand, proved in `proofs/Demands.antt`
pub record Demands : Type 0 where
  pub twenty_one : TwentyOne
  pub opening : OpenedOrRefused
  pub used : Used
  pub divided : Divided
  pub first_has : FirstHas
  pub every_site : EverySite
  pub each_singly : EachSingly
  pub sum : Sum
  pub others_no_part : OthersNoPart
  pub carry_over : CarryOver
  pub buying : Buying
  pub run_of_calls : RunOfCalls
  pub one_by_one : OneByOne
  pub none_to_come : NoneToCome
  pub after_the_last : AfterTheLast
  pub any_terminal : AnyTerminal
  pub taking_opening : TakingOpening
  pub taking_sites : TakingSites
  pub taking_all : TakingAll
  pub examples : Examples
