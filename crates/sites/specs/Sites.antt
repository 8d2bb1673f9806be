-- Up to eight sites share one allowance: each has its part of it and what all before it left unused. Each is checked by itself, with tables of its own.
use Rattle.std.specs.Prelude.{Bool, true, false, ◌||◌, List, [], ◌∷◌, ℕ, zero, suc, ◌+◌, ◌-◌, ◌/◌, ◌%◌, ltb, length}
use Rattle.order.specs.Order.{Order}
use Rattle.answer.specs.Answer.{tally_in, Answer}
use Rattle.contract.specs.Check.{check}
use Rattle.contract.specs.Filled.{Tables, lengths, answer_of, filled}

-- a site: its order, and its tables
pub record Site : Type 0 where
  pub order : Order
  pub tables : Tables

-- what a site is given: the answer, and its tables as they are then
pub record Reply : Type 0 where
  pub answer : Answer
  pub tables : Tables

-- ---- 21

-- the most sites
abbrev pub max_sites : ℕ
max_sites = 8

-- the number of sites is not 1 to 8
unfoldable pub sites_fault : ℕ → Bool
sites_fault k = ltb k 1 || ltb max_sites k

-- ---- the allowances

-- of the whole allowance, by k sites, what is site i's own, counted from 0: an equal part in whole branchings, and the remainder is the first's
abbrev pub share_of : ℕ → ℕ → ℕ → ℕ
share_of whole k zero = whole / k + whole % k
share_of whole k (suc i) = whole / k

-- what a site used: the branchings of its answer, and nothing where it is refused
abbrev pub used_in : Answer → ℕ
used_in a = (tally_in a).branchings

-- ---- the sites

-- a site that is checked with an allowance
unfoldable pub reply_to : List ℕ → ℕ → Site → Reply
reply_to bytes allowance s =
    record {
      answer = answer_of (check bytes s.order allowance (lengths s.tables));
      tables = filled (check bytes s.order allowance (lengths s.tables)) s.tables;
    }

-- the sites from site i on, where so much was left unused by all before it
abbrev pub served_from : List ℕ → ℕ → ℕ → ℕ → ℕ → List Site → List Reply
served_from bytes whole k i unused [] = []
served_from bytes whole k i unused (s ∷ ss) =
    let allowance : ℕ = share_of whole k i + unused in
    let reply : Reply = reply_to bytes allowance s in
    reply ∷ served_from bytes whole k (suc i) (allowance - used_in reply.answer) ss

-- a refusal of all, or what each site was given, in turn
pub data Replies : Type 0 where
  turned_away : ℕ → Replies
  served : List Reply → Replies

-- book bytes, the whole allowance, and the sites in the order in which they are served
unfoldable pub sites : List ℕ → ℕ → List Site → Replies
sites bytes whole ss =
    elim (sites_fault (length ss)) [
      | true ↦ turned_away 21
      | false ↦ served (served_from bytes whole (length ss) 0 0 ss)
    ]
