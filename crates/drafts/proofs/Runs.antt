-- Runs of calls: what keeps a draft, and what the drafts are then.
use mathlib.Core.Path.{◌≡◌, refl, sym, ap, ap₂, subst, ◌∙◌}
use mathlib.Core.Bool.{Bool, true, false, ◌||◌, or-true, true≢false, false≢true}
use mathlib.Core.Logic.{◌≢◌, ◌⊎◌, inl, inr, ◌↔◌}
use mathlib.Core.List.{List, [], ◌∷◌, ◌++◌, nil≢cons}
use Prim.Native.Nat.{ℕ, ◌-◌, min, ◌≤◌, ◌<◌}
use native.Mathlib.Nat.{min-eq_left}
use native.Mathlib.Omega.{arith}
use borrow.Author.Tests.{ltb-true, ltb-false, lt-ltb, le-ltb, eqb-true, eqb-false, eq-eqb}
use lib.Dec.{ltb, eqb}
use lib.ListN.{length, length-replicate, length-set, get_or-replicate}
use Rattle.words.specs.Words.{has}
use Rattle.words.proofs.Membership.{has_zero}
use Rattle.words.proofs.Truth.{or_either, refuted}
use Rattle.book.specs.Limits.{max_vars}
use Rattle.drafts.specs.declared.Desk.{Desk}
use Rattle.drafts.specs.Desk.{Done, max_drafts, empty_desk, fresh_by, fresh, Call, Call.set, Call.clear, Call.keep, Call.return, options_of, refusal, altered, after, desk_after, Wishes, wishes, draft}
use Rattle.drafts.specs.Demands.{Outside, KeptIn, Drafts, Fresh, AsForNone}
use Rattle.drafts.proofs.Calls.{among_or, keep_in, keep_out, return_kept, after_refused, either_way, keep_after, return_after}

abbrev wishes_of : ℕ → ℕ → Wishes
wishes_of p q = record { wanted = p; unwanted = q }

-- a number from 1 to `most` is not outside
pub inside : (j most : ℕ) → 1 ≤ j → j ≤ most → Outside j most → ⊥
inside j most h g (inl o) = omega (arith, h, o)
inside j most h g (inr o) = omega (arith, g, o)

-- ---- a fresh desk

pub fresh_many : (n : ℕ) → 64 < n → fresh n ≡ fresh_by true n
unfolding fresh
fresh_many n h = ap (λ (b : Bool). fresh_by b n) (lt-ltb max_vars n h)

pub fresh_few : (n : ℕ) → n ≤ 64 → fresh n ≡ fresh_by false n
unfolding fresh
fresh_few n h = ap (λ (b : Bool). fresh_by b n) (le-ltb max_vars n h)

-- is an empty one
pub fresh_empty : (P : Desk → Type 0) (n : ℕ) → ((m : ℕ) → P (empty_desk m)) → P (fresh n).desk
unfolding fresh
fresh_empty P n p = go (ltb max_vars n)
  where
    go : (b : Bool) → P (fresh_by b n).desk
    go true = p _
    go false = p _

pub fresh_desk : Fresh
fresh_desk n =
    record {
      made = λ h. (ap (λ (x : Done). x.answer) (fresh_few n h), ap (λ (x : Done). x.desk) (fresh_few n h));
      refused = λ h. (ap (λ (x : Done). x.answer) (fresh_many n h), ap (λ (x : Done). x.desk) (fresh_many n h) ∙ sym (ap (λ (x : Done). x.desk) (fresh_few 0 (omega arith))));
    }

pub as_for_none : AsForNone
as_for_none n h [] = ((fresh_desk n).refused h).1
as_for_none n h (c ∷ calls) = ap (λ (d : Desk). after d c) (as_for_none n h calls)

-- ---- the options of a desk

same_options : (d : Desk) (c : Call) → (after d c).options ≡ d.options
same_options d c = either_way (λ (x : Desk). x.options ≡ d.options) d c refl (λ e. go c)
  where
    go : (x : Call) → (altered d x).options ≡ d.options
    go (set k true) = refl
    go (set k false) = refl
    go (clear k) = refl
    go (keep j) = refl
    go (return j) = refl

pub options_after : (n : ℕ) → n ≤ 64 → (calls : List Call) → (desk_after n calls).options ≡ n
options_after n h [] = ap (λ (d : Desk). d.options) ((fresh_desk n).made h).1
options_after n h (c ∷ calls) = same_options (desk_after n calls) c ∙ options_after n h calls

pub options_of_lem : (n : ℕ) → n ≤ 64 → (calls : List Call) → options_of (desk_after n calls) ≡ n
options_of_lem n h calls = ap (λ (m : ℕ). min m 64) (options_after n h calls) ∙ min-eq_left h

-- ---- calls that keep a draft

-- the call keeps the order as draft j
abbrev pub keeps : ℕ → Call → Bool
keeps j (set k fitted) = false
keeps j (clear k) = false
keeps j (keep i) = eqb i j
keeps j (return i) = false

pub keeps_is : (j : ℕ) (c : Call) → keeps j c ≡ true → c ≡ keep j
keeps_is j (set k fitted) e = absurd (false≢true e)
keeps_is j (clear k) e = absurd (false≢true e)
keeps_is j (keep i) e = ap keep (eqb-true i j e)
keeps_is j (return i) e = absurd (false≢true e)

-- the first call of a list and the rest, where it has one
abbrev pub head_or : Call → List Call → Call
head_or c [] = c
head_or c (x ∷ xs) = x

abbrev pub rest : List Call → List Call
rest [] = []
rest (x ∷ xs) = xs

-- a draft was kept by the latest call or by one before it
pub kept_cons : (j : ℕ) (c : Call) (past : List Call) → KeptIn j (c ∷ past) → (keeps j c ≡ true) ⊎ KeptIn j past
kept_cons j c past k = go k.0 k.1 k.2
  where
    go : (since before : List Call) → c ∷ past ≡ since ++ (keep j ∷ before) → (keeps j c ≡ true) ⊎ KeptIn j past
    go [] before e = inl (ap (λ (l : List Call). keeps j (head_or c l)) e ∙ eq-eqb j j refl)
    go (x ∷ since) before e = inr (since, before, ap rest e)

pub kept_later : (j : ℕ) (c : Call) (past : List Call) → KeptIn j past → KeptIn j (c ∷ past)
kept_later j c past k = (c ∷ k.0, k.1, ap (λ (l : List Call). c ∷ l) k.2)

kept_now : (j : ℕ) (c : Call) (past : List Call) → keeps j c ≡ true → KeptIn j (c ∷ past)
kept_now j c past e = subst (λ (x : Call). KeptIn j (x ∷ past)) (sym (keeps_is j c e)) ([], past, refl)

-- neither, where it was not kept
keeps_not : (j : ℕ) (c : Call) (past : List Call) → (KeptIn j (c ∷ past) → ⊥) → keeps j c ≡ false
keeps_not j c past n = refuted (keeps j c) (λ e. n (kept_now j c past e))

-- a run of no calls has none in it
pub no_append : (later earlier : List Call) (c : Call) → [] ≡ later ++ (c ∷ earlier) → ⊥
no_append [] earlier c e = nil≢cons e
no_append (x ∷ later) earlier c e = nil≢cons e

-- ---- which drafts are kept

-- two numbers from 1 on are the same where their places are
pub places_differ : (i j : ℕ) → 1 ≤ i → 1 ≤ j → i ≢ j → j - 1 ≢ i - 1
places_differ i j h g n e = n (omega (arith, h, g, e))

-- i is 1 to 16, and draft i is kept now; or it is not, and the desk is as it was
keep_or_not : (d : Desk) (i : ℕ) → ((Outside i 16 → ⊥) × (refusal d (keep i) ≡ 0)) ⊎ (Outside i 16 × (after d (keep i) ≡ d))
keep_or_not d i =
    elim (among_or i max_drafts) [
      | inl h ↦ inl (h.1, keep_in d i h.1)
      | inr h ↦ inr (h.1, after_refused d (keep i) (λ z. fourteen (sym (keep_out d i h.1) ∙ z)))
    ]
  where
    fourteen : ◌≡◌ {A = ℕ} 14 0 → ⊥
    fourteen z = omega (arith, z)

pub not_outside : (i most : ℕ) → (Outside i most → ⊥) → 1 ≤ i
not_outside i most n = go (ltb i 1) refl
  where
    go : (b : Bool) → ltb i 1 ≡ b → 1 ≤ i
    go true e = absurd (n (inl (ltb-true i 1 e)))
    go false e = ltb-false i 1 e

pub not_above : (i most : ℕ) → (Outside i most → ⊥) → i ≤ most
not_above i most n = go (ltb most i) refl
  where
    go : (b : Bool) → ltb most i ≡ b → i ≤ most
    go true e = absurd (n (inr (ltb-true most i e)))
    go false e = ltb-false most i e

-- a bit of `kept` after a call
kept_step : (d : Desk) (c : Call) (j : ℕ) → 1 ≤ j → j ≤ 16 → has (after d c).kept (j - 1) ≡ (keeps j c || has d.kept (j - 1))
kept_step d c j h g = go c
  where
    stays : (x : Call) → (altered d x).kept ≡ d.kept → has (after d x).kept (j - 1) ≡ has d.kept (j - 1)
    stays x e = either_way (λ (y : Desk). has y.kept (j - 1) ≡ has d.kept (j - 1)) d x refl (λ f. ap (λ (w : ℕ). has w (j - 1)) e)

    keeping : (i : ℕ) → (b : Bool) → eqb i j ≡ b → has (after d (keep i)).kept (j - 1) ≡ (b || has d.kept (j - 1))
    keeping i true e =
        let same : i ≡ j = eqb-true i j e in
        ap (λ (x : ℕ). has (after d (keep i)).kept (x - 1)) (sym same) ∙ (keep_after d i (keep_in d i (λ o. inside j 16 h g (subst (λ (x : ℕ). Outside x 16) same o)))).2.0
    keeping i false e =
        elim (keep_or_not d i) [
          | inl a ↦ (keep_after d i a.1).2.1 (j - 1) (places_differ i j (not_outside i 16 a.0) h (eqb-false i j e))
          | inr a ↦ ap (λ (x : Desk). has x.kept (j - 1)) a.1
        ]

    go : (x : Call) → has (after d x).kept (j - 1) ≡ (keeps j x || has d.kept (j - 1))
    go (set k true) = stays (set k true) refl
    go (set k false) = stays (set k false) refl
    go (clear k) = stays (clear k) refl
    go (return i) = stays (return i) refl
    go (keep i) = keeping i (eqb i j) refl

-- the bits of `kept` after a run
pub kept_after : (n : ℕ) (calls : List Call) (j : ℕ) → 1 ≤ j → j ≤ 16 → (has (desk_after n calls).kept (j - 1) ≡ true) ↔ KeptIn j calls
kept_after n [] j h g = (
  λ e. absurd (true≢false (sym e ∙ fresh_empty (λ (d : Desk). has d.kept (j - 1) ≡ false) n (λ m. has_zero (j - 1)))),
  λ k. absurd (no_append k.0 k.1 (keep j) k.2),
)
kept_after n (c ∷ past) j h g =
    let d : Desk = desk_after n past in
    let before = kept_after n past j h g in
    let step = kept_step d c j h g in (
      λ e.
          elim (or_either (keeps j c) (has d.kept (j - 1)) (sym step ∙ e)) [
            | inl now' ↦ kept_now j c past now'
            | inr then' ↦ kept_later j c past (before.0 then')
          ],
      λ k.
          elim (kept_cons j c past k) [
            | inl now' ↦ step ∙ ap (λ (b : Bool). b || has d.kept (j - 1)) now'
            | inr then' ↦ step ∙ ap (λ (b : Bool). keeps j c || b) (before.1 then') ∙ or-true (keeps j c)
          ],
    )

-- no bit from 16 on is ever set
above_step : (d : Desk) (c : Call) (i : ℕ) → 16 ≤ i → has d.kept i ≡ false → has (after d c).kept i ≡ false
above_step d c i h e = go c
  where
    stays : (x : Call) → (altered d x).kept ≡ d.kept → has (after d x).kept i ≡ false
    stays x f = either_way (λ (y : Desk). has y.kept i ≡ false) d x e (λ g. ap (λ (w : ℕ). has w i) f ∙ e)

    inner : (k : ℕ) → (Outside k 16 → ⊥) → i ≢ k - 1
    inner k n f = n (inr (omega (arith, h, f, not_outside k 16 n)))

    go : (x : Call) → has (after d x).kept i ≡ false
    go (set k true) = stays (set k true) refl
    go (set k false) = stays (set k false) refl
    go (clear k) = stays (clear k) refl
    go (return k) = stays (return k) refl
    go (keep k) = elim (keep_or_not d k) [ inl a ↦ (keep_after d k a.1).2.1 i (inner k a.0) ∙ e | inr a ↦ ap (λ (x : Desk). has x.kept i) a.1 ∙ e ]

above_after : (n : ℕ) (calls : List Call) (i : ℕ) → 16 ≤ i → has (desk_after n calls).kept i ≡ false
above_after n [] i h = fresh_empty (λ (d : Desk). has d.kept i ≡ false) n (λ m. has_zero i)
above_after n (c ∷ past) i h = above_step (desk_after n past) c i h (above_after n past i h)

-- ---- what the drafts are

abbrev pub Lengths : Desk → Type 0
Lengths d = (length d.wanteds ≡ 16) × (length d.unwanteds ≡ 16)

lengths_altered : (d : Desk) (c : Call) → Lengths d → Lengths (altered d c)
lengths_altered d (set k true) l = l
lengths_altered d (set k false) l = l
lengths_altered d (clear k) l = l
lengths_altered d (return j) l = l
lengths_altered d (keep j) l = (length-set d.wanteds (j - 1) d.wanted ∙ l.0, length-set d.unwanteds (j - 1) d.unwanted ∙ l.1)

pub lengths_after : (n : ℕ) (calls : List Call) → Lengths (desk_after n calls)
lengths_after n [] = fresh_empty Lengths n (λ m. (length-replicate {A = ℕ} 16 0, length-replicate {A = ℕ} 16 0))
lengths_after n (c ∷ past) = either_way Lengths (desk_after n past) c (lengths_after n past) (λ e. lengths_altered (desk_after n past) c (lengths_after n past))

-- a draft that the call does not keep stays
draft_stays : (d : Desk) (c : Call) (j : ℕ) → 1 ≤ j → keeps j c ≡ false → draft (after d c) j ≡ draft d j
draft_stays d c j h = go c
  where
    stays : (x : Call) → draft (altered d x) j ≡ draft d j → draft (after d x) j ≡ draft d j
    stays x e = either_way (λ (y : Desk). draft y j ≡ draft d j) d x refl (λ f. e)

    go : (x : Call) → keeps j x ≡ false → draft (after d x) j ≡ draft d j
    go (set k true) e = stays (set k true) refl
    go (set k false) e = stays (set k false) refl
    go (clear k) e = stays (clear k) refl
    go (return i) e = stays (return i) refl
    go (keep i) e =
        elim (keep_or_not d i) [
          | inl a ↦
              let other : j - 1 ≢ i - 1 = places_differ i j (not_outside i 16 a.0) h (eqb-false i j e) in
              let k = keep_after d i a.1 in
              ap₂ wishes_of (k.3.2 (j - 1) other) (k.4.2 (j - 1) other)
          | inr a ↦ ap (λ (x : Desk). draft x j) a.1
        ]

-- and one that it keeps is the order
draft_kept : (n : ℕ) (past : List Call) (j : ℕ) → 1 ≤ j → j ≤ 16 → draft (desk_after n (keep j ∷ past)) j ≡ wishes (desk_after n past)
draft_kept n past j h g =
    let d : Desk = desk_after n past in
    let k = keep_after d j (keep_in d j (inside j 16 h g)) in
    let long = lengths_after n past in
    ap₂ wishes_of (k.3.1 (omega (arith, long.0, h, g))) (k.4.1 (omega (arith, long.1, h, g)))

pub last_kept :
    (n : ℕ) (since before : List Call) (j : ℕ) → 1 ≤ j → j ≤ 16 → (KeptIn j since → ⊥) →
    draft (desk_after n (since ++ (keep j ∷ before))) j ≡ wishes (desk_after n before)
last_kept n [] before j h g none = draft_kept n before j h g
last_kept n (c ∷ since) before j h g none =
    draft_stays (desk_after n (since ++ (keep j ∷ before))) c j h (keeps_not j c since none)
    ∙ last_kept n since before j h g (λ k. none (kept_later j c since k))

never_kept : (n : ℕ) (calls : List Call) (j : ℕ) → 1 ≤ j → j ≤ 16 → (KeptIn j calls → ⊥) → draft (desk_after n calls) j ≡ wishes_of 0 0
never_kept n [] j h g none =
    let within : j - 1 < 16 = omega (arith, h, g) in
    fresh_empty (λ (d : Desk). draft d j ≡ wishes_of 0 0) n (λ m. ap₂ wishes_of (get_or-replicate 16 (j - 1) 0 0 within) (get_or-replicate 16 (j - 1) 0 0 within))
never_kept n (c ∷ past) j h g none =
    draft_stays (desk_after n past) c j h (keeps_not j c past none) ∙ never_kept n past j h g (λ k. none (kept_later j c past k))

-- a return gives the order as it was when the draft was last kept
pub returned :
    (n : ℕ) (between before : List Call) (j : ℕ) → 1 ≤ j → j ≤ 16 → (KeptIn j between → ⊥) →
    wishes (desk_after n (return j ∷ between ++ (keep j ∷ before))) ≡ wishes (desk_after n before)
returned n between before j h g none =
    let past : List Call = between ++ (keep j ∷ before) in
    let d : Desk = desk_after n past in
    (return_after d j (return_kept d j (inside j 16 h g) ((kept_after n past j h g).1 (between, before, refl)))).0 ∙ last_kept n between before j h g none

pub drafts : Drafts
drafts n =
    record {
      kept = kept_after n;
      no_other = above_after n;
      last_kept = last_kept n;
      never_kept = never_kept n;
      returned = returned n;
      sixteen = lengths_after n;
    }
