-- Looking back through a run: the last call that bears on an option says how it stands, and a call that does not bear on it leaves it as it stands.
use mathlib.Core.Path.{◌≡◌, refl, sym, ap, ap₂, subst, ◌∙◌}
use mathlib.Core.Bool.{Bool, true, false, true≢false}
use mathlib.Core.Logic.{◌≢◌, ◌⊎◌, inl, inr}
use mathlib.Core.List.{List, [], ◌∷◌, ◌++◌, append-nil}
use Prim.Native.Nat.{ℕ, zero, suc, ◌-◌, ◌≤◌, ◌<◌}
use native.Mathlib.Nat.{le_refl, not-suc-le-zero}
use native.Mathlib.Omega.{arith}
use borrow.Author.Tests.{eqb-true, eqb-false}
use lib.Dec.{eqb}
use lib.ListN.{length, length-append}
use Rattle.words.specs.Words.{has}
use Rattle.words.proofs.Membership.{has_zero}
use Rattle.words.proofs.Truth.{both_ways, confirmed}
use Rattle.book.specs.Conditions.{Condition, First, NoRow}
use Rattle.drafts.specs.declared.Desk.{Desk}
use Rattle.drafts.specs.Desk.{Call, Call.set, Call.clear, Call.keep, Call.return, options_of, option_refusal, refusal, after, desk_after, Wishes, wishes, Standing, unset, standing}
use Rattle.drafts.specs.Demands.{Outside, KeptIn, call_conditions, Accepted, Judging, BearsOn, NoneSince, LooksBack, Stands, OneWay}
use Rattle.drafts.proofs.Calls.{after_refused, option_or, keep_or, return_or, set_after, clear_after, keep_after}
use Rattle.drafts.proofs.Runs.{fresh_empty, inside, not_outside, not_above, places_differ, options_of_lem, keeps, keeps_is, head_or, rest, kept_cons, no_append, kept_after, returned}

-- ---- which calls are refused

-- r is the number of the first condition that holds, or 0
abbrev DecidedBy : List Condition → ℕ → Type 0
DecidedBy [] r = r ≡ 0
DecidedBy (a ∷ cs) r = ((r ≡ a.number) × a.Holds) ⊎ ((a.Holds → ⊥) × DecidedBy cs r)

-- no number is 0
abbrev NoneZero : List Condition → Type 0
NoneZero [] = Unit {0}
NoneZero (a ∷ cs) = (a.number ≢ 0) × NoneZero cs

decided_first : (cs : List Condition) (r r' : ℕ) → DecidedBy cs r → r ≡ r' → r' ≢ 0 → First cs r'
decided_first [] r r' d e n = absurd (n (sym e ∙ d))
decided_first (a ∷ cs) r r' (inl here) e n = inl (here.1, sym here.0 ∙ e)
decided_first (a ∷ cs) r r' (inr later) e n = inr (later.0, decided_first cs r r' later.1 e n)

first_decided : (cs : List Condition) (r r' : ℕ) → NoneZero cs → DecidedBy cs r → First cs r' → (r ≡ r') × (r' ≢ 0)
first_decided [] r r' z d f = absurd f
first_decided (a ∷ cs) r r' z (inl here) (inl now') = (here.0 ∙ now'.1, λ e. z.0 (now'.1 ∙ e))
first_decided (a ∷ cs) r r' z (inl here) (inr later) = absurd (later.0 here.1)
first_decided (a ∷ cs) r r' z (inr later) (inl now') = absurd (later.0 now'.0)
first_decided (a ∷ cs) r r' z (inr later) (inr f) = first_decided cs r r' z.1 later.1 f.1

decided_none : (cs : List Condition) (r : ℕ) → NoneZero cs → DecidedBy cs r → r ≡ 0 → NoRow cs
decided_none [] r z d e = tt
decided_none (a ∷ cs) r z (inl here) e = absurd (z.0 (sym here.0 ∙ e))
decided_none (a ∷ cs) r z (inr later) e = (later.0, decided_none cs r z.1 later.1 e)

none_decided : (cs : List Condition) (r : ℕ) → DecidedBy cs r → NoRow cs → r ≡ 0
none_decided [] r d h = d
none_decided (a ∷ cs) r (inl here) h = absurd (h.0 here.1)
none_decided (a ∷ cs) r (inr later) h = none_decided cs r later.1 h.1

-- an answer, by the conditions of the call
decided : (n : ℕ) → n ≤ 64 → (past : List Call) (c : Call) → DecidedBy (call_conditions n past c) (refusal (desk_after n past) c)
unfolding refusal
decided n few past c = go c
  where
    d : Desk
    d = desk_after n past

    option : (k : ℕ) → ((option_refusal d k ≡ 7) × Outside k n) ⊎ ((Outside k n → ⊥) × (option_refusal d k ≡ 0))
    option k =
        subst (λ (m : ℕ). ((option_refusal d k ≡ 7) × Outside k m) ⊎ ((Outside k m → ⊥) × (option_refusal d k ≡ 0))) (options_of_lem n few past)
        (elim (option_or d k) [ inl h ↦ inl h | inr h ↦ inr (h.1, h.0) ])

    go : (x : Call) → DecidedBy (call_conditions n past x) (refusal d x)
    go (set k fitted) = option k
    go (clear k) = option k
    go (keep j) = elim (keep_or d j) [ inl h ↦ inl h | inr h ↦ inr (h.1, h.0) ]
    go (return j) =
        elim (return_or d j) [
          | inl h ↦ inl h
          | inr (inl h) ↦
              let least : 1 ≤ j = not_outside j 16 h.1 in
              let most : j ≤ 16 = not_above j 16 h.1 in
              inr (h.1, inl (h.0, λ k. true≢false (sym ((kept_after n past j least most).1 k) ∙ h.2)))
          | inr (inr h) ↦
              let least : 1 ≤ j = not_outside j 16 h.1 in
              let most : j ≤ 16 = not_above j 16 h.1 in
              inr (h.1, inr (λ never. never ((kept_after n past j least most).0 h.2), h.0))
        ]

numbers : (n : ℕ) (past : List Call) (c : Call) → NoneZero (call_conditions n past c)
numbers n past (set k fitted) = (λ e. omega (arith, e), tt)
numbers n past (clear k) = (λ e. omega (arith, e), tt)
numbers n past (keep j) = (λ e. omega (arith, e), tt)
numbers n past (return j) = (λ e. omega (arith, e), (λ e. omega (arith, e), tt))

pub judging : Judging
judging n few past c =
    let cs : List Condition = call_conditions n past c in
    let r : ℕ = refusal (desk_after n past) c in
    let by = decided n few past c in
    record {
      refused = λ r'. (λ h. decided_first cs r r' by h.0 h.1, λ f. first_decided cs r r' (numbers n past c) by f);
      accepted = (λ e. decided_none cs r (numbers n past c) by e, λ h. none_decided cs r by h);
    }

-- ---- calls that do not bear on an option

abbrev standing_of : Bool → Bool → Standing
standing_of p q = record { wanted = p; unwanted = q }

-- an option stands as the order's words say
stands_by : (d d' : Desk) (k : ℕ) → wishes d' ≡ wishes d → standing d' k ≡ standing d k
stands_by d d' k e = ap (λ (w : Wishes). standing_of (has w.wanted (k - 1)) (has w.unwanted (k - 1))) e

-- an accepted one that does not bear on it
unmoved : (d : Desk) (c : Call) (k : ℕ) → 1 ≤ k → refusal d c ≡ 0 → (BearsOn k c → ⊥) → standing (after d c) k ≡ standing d k
unfolding refusal
unmoved d c k h = go c
  where
    first : (i : ℕ) → option_refusal d i ≡ 0 → 1 ≤ i
    first i e = elim (option_or d i) [ inl o ↦ absurd (omega (arith, o.0, e)) | inr o ↦ not_outside i (options_of d) o.1 ]

    go : (x : Call) → refusal d x ≡ 0 → (BearsOn k x → ⊥) → standing (after d x) k ≡ standing d k
    go (set i fitted) e n =
        let other : k - 1 ≢ i - 1 = places_differ i k (first i e) h n in
        let s = set_after d i fitted e in
        ap₂ standing_of (s.0.1 (k - 1) other) (s.1.1 (k - 1) other)
    go (clear i) e n =
        let other : k - 1 ≢ i - 1 = places_differ i k (first i e) h n in
        let s = clear_after d i e in
        ap₂ standing_of (s.0.1 (k - 1) other) (s.1.1 (k - 1) other)
    go (keep j) e n = stands_by d (after d (keep j)) k (keep_after d j e).0
    go (return j) e n = absurd (n tt)

-- one call, accepted or refused
quiet : (n : ℕ) → n ≤ 64 → (past : List Call) (c : Call) (k : ℕ) → 1 ≤ k → (Accepted n past c → BearsOn k c → ⊥) → standing (desk_after n (c ∷ past)) k ≡ standing (desk_after n past) k
quiet n few past c k h none = go (refusal d c) refl
  where
    d : Desk
    d = desk_after n past

    go : (r : ℕ) → refusal d c ≡ r → standing (after d c) k ≡ standing d k
    go zero e = unmoved d c k h e (none ((judging n few past c).accepted.0 e))
    go (suc r) e = ap (λ (x : Desk). standing x k) (after_refused d c (λ z. omega (arith, e, z)))

-- a run of them
pub none_since : (n : ℕ) → n ≤ 64 → (since before : List Call) (k : ℕ) → 1 ≤ k → NoneSince n k since before → standing (desk_after n (since ++ before)) k ≡ standing (desk_after n before) k
none_since n few [] before k h none = refl
none_since n few (c ∷ since) before k h none =
    quiet n few (since ++ before) c k h (none [] since c refl)
    ∙ none_since n few since before k h (λ later earlier x e. none (c ∷ later) earlier x (ap (λ (l : List Call). c ∷ l) e))

-- ---- looking back

set_in : (n : ℕ) → n ≤ 64 → (past : List Call) (k : ℕ) (fitted : Bool) → 1 ≤ k → k ≤ n → refusal (desk_after n past) (set k fitted) ≡ 0
set_in n few past k fitted h g = (judging n few past (set k fitted)).accepted.1 (inside k n h g, tt)

clear_in : (n : ℕ) → n ≤ 64 → (past : List Call) (k : ℕ) → 1 ≤ k → k ≤ n → refusal (desk_after n past) (clear k) ≡ 0
clear_in n few past k h g = (judging n few past (clear k)).accepted.1 (inside k n h g, tt)

pub stands : Stands
stands n few =
    record {
      last_set = λ since before k fitted h g none.
          let s = set_after (desk_after n before) k fitted (set_in n few before k fitted h g) in
          none_since n few since (set k fitted ∷ before) k h none ∙ ap₂ standing_of s.0.0 s.1.0;
      last_clear = λ since before k h g none.
          let s = clear_after (desk_after n before) k (clear_in n few before k h g) in
          none_since n few since (clear k ∷ before) k h none ∙ ap₂ standing_of s.0.0 s.1.0;
      last_return = λ since between before j k least most not-kept h none.
          let past : List Call = return j ∷ between ++ (keep j ∷ before) in
          none_since n few since past k h none ∙ stands_by (desk_after n before) (desk_after n past) k (returned n between before j least most not-kept);
      none = λ calls k h none.
          ap (λ (l : List Call). standing (desk_after n l) k) (sym (append-nil calls))
          ∙ (none_since n few calls [] k h none ∙ fresh_empty (λ (d : Desk). standing d k ≡ unset) n (λ m. ap₂ standing_of (has_zero (k - 1)) (has_zero (k - 1))));
    }

-- ---- it leaves nothing open

-- the last call of a run that bears on option k, where there is one
data Last (n k : ℕ) : List Call → Type 0 where
  was_set : (since before : List Call) (fitted : Bool) → k ≤ n → NoneSince n k since (set k fitted ∷ before) → Last n k (since ++ (set k fitted ∷ before))
  was_cleared : (since before : List Call) → k ≤ n → NoneSince n k since (clear k ∷ before) → Last n k (since ++ (clear k ∷ before))
  was_returned :
      (since between before : List Call) (j : ℕ) → 1 ≤ j → j ≤ 16 → (KeptIn j between → ⊥) → NoneSince n k since (return j ∷ between ++ (keep j ∷ before)) →
      Last n k (since ++ (return j ∷ between ++ (keep j ∷ before)))
  was_never : (calls : List Call) → NoneSince n k calls [] → Last n k calls

none_yet : (n k : ℕ) (before : List Call) → NoneSince n k [] before
none_yet n k before later earlier c e = absurd (no_append later earlier c e)

-- one more call that does not bear on the option
none_more :
    (n k : ℕ) (c : Call) (since before : List Call) → (Accepted n (since ++ before) c → BearsOn k c → ⊥) → NoneSince n k since before →
    NoneSince n k (c ∷ since) before
none_more n k c since before step none [] earlier x e a b =
    step (subst (λ (l : List Call). Accepted n (rest l ++ before) (head_or c l)) (sym e) a) (subst (λ (l : List Call). BearsOn k (head_or c l)) (sym e) b)
none_more n k c since before step none (y ∷ later) earlier x e a b = none later earlier x (ap rest e) a b

more : (n k : ℕ) (c : Call) (past : List Call) → (Accepted n past c → BearsOn k c → ⊥) → Last n k past → Last n k (c ∷ past)
more n k c past step (was_set since before fitted g none) = was_set (c ∷ since) before fitted g (none_more n k c since _ step none)
more n k c past step (was_cleared since before g none) = was_cleared (c ∷ since) before g (none_more n k c since _ step none)
more n k c past step (was_returned since between before j least most not-kept none) =
    was_returned (c ∷ since) between before j least most not-kept (none_more n k c since _ step none)
more n k c past step (was_never calls none) =
    was_never (c ∷ calls) (none_more n k c calls [] (subst (λ (l : List Call). Accepted n l c → BearsOn k c → ⊥) (sym (append-nil calls)) step) none)

-- the last call that kept draft j
abbrev LastKeep : ℕ → List Call → Type 0
LastKeep j past = (between : List Call) × (before : List Call) × (past ≡ between ++ (keep j ∷ before)) × (KeptIn j between → ⊥)

last_step : (j : ℕ) (c : Call) (past : List Call) → (KeptIn j past → LastKeep j past) → KeptIn j (c ∷ past) → (b : Bool) → keeps j c ≡ b → LastKeep j (c ∷ past)
last_step j c past before k true e = ([], past, ap (λ (x : Call). x ∷ past) (keeps_is j c e), λ none. no_append none.0 none.1 (keep j) none.2)
last_step j c past before k false e =
    let earlier = before (elim (kept_cons j c past k) [ inl t ↦ both_ways (keeps j c) t e | inr then' ↦ then' ]) in (
      c ∷ earlier.0,
      earlier.1,
      ap (λ (l : List Call). c ∷ l) earlier.2,
      λ again. elim (kept_cons j c earlier.0 again) [ inl t ↦ both_ways (keeps j c) t e | inr then' ↦ earlier.3 then' ],
    )

last_keep : (j : ℕ) (past : List Call) → KeptIn j past → LastKeep j past
last_keep j [] k = absurd (no_append k.0 k.1 (keep j) k.2)
last_keep j (c ∷ past) k = last_step j c past (last_keep j past) k (keeps j c) refl

-- a call after a run: it is the last that bears on the option, or that of the run is
module _ (n : ℕ) (few : n ≤ 64) (k : ℕ) (past : List Call) (before : Last n k past) where
  accepted : (x : Call) → refusal (desk_after n past) x ≡ 0 → Accepted n past x
  accepted x e = (judging n few past x).accepted.0 e

  pass : (x : Call) → (Accepted n past x → BearsOn k x → ⊥) → Last n k (x ∷ past)
  pass x step = more n k x past step before

  setting : (i : ℕ) (fitted : Bool) → refusal (desk_after n past) (set i fitted) ≡ 0 → (b : Bool) → eqb i k ≡ b → Last n k (set i fitted ∷ past)
  setting i fitted e true same =
      let is : i ≡ k = eqb-true i k same in
      subst (λ (x : ℕ). Last n k (set x fitted ∷ past)) (sym is)
      (was_set [] past fitted (subst (λ (x : ℕ). x ≤ n) is (not_above i n (accepted (set i fitted) e).0)) (none_yet n k _))
  setting i fitted e false other = pass (set i fitted) (λ a b. eqb-false i k other b)

  clearing : (i : ℕ) → refusal (desk_after n past) (clear i) ≡ 0 → (b : Bool) → eqb i k ≡ b → Last n k (clear i ∷ past)
  clearing i e true same =
      let is : i ≡ k = eqb-true i k same in
      subst (λ (x : ℕ). Last n k (clear x ∷ past)) (sym is)
      (was_cleared [] past (subst (λ (x : ℕ). x ≤ n) is (not_above i n (accepted (clear i) e).0)) (none_yet n k _))
  clearing i e false other = pass (clear i) (λ a b. eqb-false i k other b)

  -- a return that is accepted is to a draft that was kept
  returning : (j : ℕ) → Accepted n past (return j) → Last n k (return j ∷ past)
  returning j a =
      let least : 1 ≤ j = not_outside j 16 a.0 in
      let most : j ≤ 16 = not_above j 16 a.0 in
      let both = kept_after n past j least most in
      let bit : has (desk_after n past).kept (j - 1) ≡ true =
      confirmed (has (desk_after n past).kept (j - 1)) (λ f. a.1.0 (λ h. true≢false (sym (both.1 h) ∙ f)))
      in
      let found = last_keep j past (both.0 bit) in
      subst (λ (l : List Call). Last n k (return j ∷ l)) (sym found.2) (was_returned [] found.0 found.1 j least most found.3 (none_yet n k _))

  after_call : (x : Call) (r : ℕ) → refusal (desk_after n past) x ≡ r → Last n k (x ∷ past)
  after_call x (suc r) e = pass x (λ a b. omega (arith, e, (judging n few past x).accepted.1 a))
  after_call (set i fitted) zero e = setting i fitted e (eqb i k) refl
  after_call (clear i) zero e = clearing i e (eqb i k) refl
  after_call (keep j) zero e = pass (keep j) (λ a b. b)
  after_call (return j) zero e = returning j (accepted (return j) e)

-- every run has one, or none bears on the option
last_of : (n : ℕ) → n ≤ 64 → (k : ℕ) (calls : List Call) → Last n k calls
last_of n few k [] = was_never [] (none_yet n k [])
last_of n few k (c ∷ past) = after_call n few k past (last_of n few k past) c (refusal (desk_after n past) c) refl

longer : (since between before : List Call) (j : ℕ) → length before < length (since ++ (return j ∷ between ++ (keep j ∷ before)))
longer since between before j =
    let all = length-append since (return j ∷ between ++ (keep j ∷ before)) in
    let some' = length-append between (keep j ∷ before) in
    omega (arith, all, some')

-- two ways agree after a run, where they agree after every shorter one
module _ (n : ℕ) (f g : List Call → ℕ → Standing) (F : LooksBack n f) (G : LooksBack n g) (k : ℕ) (h : 1 ≤ k) where
  by_last : (l : List Call) → Last n k l → ((x : List Call) → length x < length l → f x k ≡ g x k) → f l k ≡ g l k
  by_last l (was_set since before fitted most none) shorter = F.last_set since before k fitted h most none ∙ sym (G.last_set since before k fitted h most none)
  by_last l (was_cleared since before most none) shorter = F.last_clear since before k h most none ∙ sym (G.last_clear since before k h most none)
  by_last l (was_never calls none) shorter = F.none calls k h none ∙ sym (G.none calls k h none)
  by_last l (was_returned since between before j least most not-kept none) shorter =
      F.last_return since between before j k least most not-kept h none
      ∙ shorter before (longer since between before j)
      ∙ sym (G.last_return since between before j k least most not-kept h none)

  agree : n ≤ 64 → (m : ℕ) (l : List Call) → length l < m → f l k ≡ g l k
  agree few zero l short = absurd (not-suc-le-zero short)
  agree few (suc m) l short = by_last l (last_of n few k l) (λ x s. agree few m x (omega (arith, short, s)))

pub one_way : OneWay
one_way n few f g F G calls k h = agree n f g F G k h few (suc (length calls)) calls (le_refl (suc (length calls)))
