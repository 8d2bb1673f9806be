-- A desk has a current order and drafts 1 to 16 of it, and is altered by calls. A call is accepted, or refused by a number and then alters nothing.
use Rattle.std.specs.Prelude.{◌≡◌, Bool, true, false, not, ◌&&◌, List, [], ◌∷◌, ℕ, zero, suc, ◌-◌, ◌^◌, min, ltb, leb, get_or, replicate, set as put}
use Rattle.std.specs.Int.Bits.{bit_or}
use Rattle.words.specs.Words.{has, minus}
use Rattle.book.specs.Limits.{max_vars}
use Rattle.drafts.specs.declared.Desk.{Desk}

-- the answer to a call, 0 or the number of a refusal, and the desk after it
pub record Done : Type 0 where
  pub desk : Desk
  pub answer : ℕ

-- how many drafts a desk has
abbrev pub max_drafts : ℕ
max_drafts = 16

-- ---- a fresh desk

-- an empty order, and no draft kept
abbrev pub empty_desk : ℕ → Desk
empty_desk n =
    record { options = n; wanted = 0; unwanted = 0; kept = 0; wanteds = replicate max_drafts 0; unwanteds = replicate max_drafts 0 }

-- by whether there are more options than a book may have: it is refused by 2 then, and the desk is that for no options
abbrev pub fresh_by : Bool → ℕ → Done
fresh_by true n = record { desk = empty_desk 0; answer = 2 }
fresh_by false n = record { desk = empty_desk n; answer = 0 }

unfoldable pub fresh : ℕ → Done
fresh n = fresh_by (ltb max_vars n) n

-- ---- calls

-- set a wish for an option, which is to be fitted or to be left out; clear it; keep the order as a draft; return to a draft
pub data Call : Type 0 where
  set : ℕ → Bool → Call
  clear : ℕ → Call
  keep : ℕ → Call
  return : ℕ → Call

-- 1 to `most`
abbrev pub among : ℕ → ℕ → Bool
among k most = leb 1 k && leb k most

-- the options of a desk. One that was not made by `fresh` may say that it has more than 64: it has 64
abbrev pub options_of : Desk → ℕ
options_of d = min d.options max_vars

-- 0, or the refusal of an option that the desk does not have
abbrev pub option_refusal : Desk → ℕ → ℕ
option_refusal d k = elim (among k (options_of d)) [ true ↦ 0 | false ↦ 7 ]

-- 0, or the refusal of a number that no draft has
abbrev pub number_refusal : ℕ → ℕ
number_refusal j = elim (among j max_drafts) [ true ↦ 0 | false ↦ 14 ]

-- the same, and then that of a draft that was not kept: draft j stands at bit j - 1 of `kept`
abbrev pub return_refusal : Desk → ℕ → ℕ
return_refusal d j = elim (among j max_drafts) [ true ↦ elim (has d.kept (j - 1)) [ true ↦ 0 | false ↦ 15 ] | false ↦ 14 ]

-- 0 or the refusal
unfoldable pub refusal : Desk → Call → ℕ
refusal d (set k fitted) = option_refusal d k
refusal d (clear k) = option_refusal d k
refusal d (keep j) = number_refusal j
refusal d (return j) = return_refusal d j

-- the desk with this order
abbrev pub with_order : Desk → ℕ → ℕ → Desk
with_order d p q =
    record { options = d.options; wanted = p; unwanted = q; kept = d.kept; wanteds = d.wanteds; unwanteds = d.unwanteds }

-- the desk after an accepted call. Option k stands at bit k - 1
abbrev pub altered : Desk → Call → Desk
altered d (set k true) = with_order d (bit_or d.wanted (2 ^ (k - 1))) (minus d.unwanted (2 ^ (k - 1)))
altered d (set k false) = with_order d (minus d.wanted (2 ^ (k - 1))) (bit_or d.unwanted (2 ^ (k - 1)))
altered d (clear k) = with_order d (minus d.wanted (2 ^ (k - 1))) (minus d.unwanted (2 ^ (k - 1)))
altered d (keep j) =
    record {
      options = d.options;
      wanted = d.wanted;
      unwanted = d.unwanted;
      kept = bit_or d.kept (2 ^ (j - 1));
      wanteds = put d.wanteds (j - 1) d.wanted;
      unwanteds = put d.unwanteds (j - 1) d.unwanted;
    }
altered d (return j) = with_order d (get_or d.wanteds (j - 1) 0) (get_or d.unwanteds (j - 1) 0)

-- the desk as it was, where the call is refused; else the altered one
abbrev pub unless : ℕ → Desk → Desk → Desk
unless zero before then' = then'
unless (suc k) before then' = before

-- the desk after a call
unfoldable pub after : Desk → Call → Desk
after d c = unless (refusal d c) d (altered d c)

-- the answer, and the desk after it
abbrev pub done : Desk → Call → Done
done d c = record { desk = after d c; answer = refusal d c }

-- ---- what the calls promise

-- a fresh desk: the answer, and all of the desk
pub record Makes (n answer : ℕ) (desk : Desk) : Type 0 where
  pub as_defined : record { desk = desk; answer = answer } ≡ fresh n

-- a call on any desk: the answer, and all of the desk that was lent
pub record Alters (before : Desk) (c : Call) (answer : ℕ) (desk : Desk) : Type 0 where
  pub as_defined : record { desk = desk; answer = answer } ≡ done before c

-- ---- a run of calls

-- the desk after these calls, the latest first, on a fresh desk for n options
abbrev pub desk_after : ℕ → List Call → Desk
desk_after n [] = (fresh n).desk
desk_after n (c ∷ past) = after (desk_after n past) c

-- ---- what is read of a desk

-- an order's two words
pub record Wishes : Type 0 where
  pub wanted : ℕ
  pub unwanted : ℕ

-- the current order, and that of draft j
abbrev pub wishes : Desk → Wishes
wishes d = record { wanted = d.wanted; unwanted = d.unwanted }

abbrev pub draft : Desk → ℕ → Wishes
draft d j = record { wanted = get_or d.wanteds (j - 1) 0; unwanted = get_or d.unwanteds (j - 1) 0 }

-- how an option stands: in which words of the order it is
pub record Standing : Type 0 where
  pub wanted : Bool
  pub unwanted : Bool

-- in the one and not in the other
abbrev pub as_wished : Bool → Standing
as_wished fitted = record { wanted = fitted; unwanted = not fitted }

abbrev pub unset : Standing
unset = record { wanted = false; unwanted = false }

-- option k stands at bit k - 1
abbrev pub standing : Desk → ℕ → Standing
standing d k = record { wanted = has d.wanted (k - 1); unwanted = has d.unwanted (k - 1) }
