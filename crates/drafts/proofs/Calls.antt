-- What a call does to any desk: when it is refused, and which bits and places it alters.
use mathlib.Core.Path.{◌≡◌, refl, sym, ap, ap₂, subst, ◌∙◌}
use mathlib.Core.Bool.{Bool, true, false, not, ◌&&◌, ◌||◌, and-true, and-false, or-true, or-false}
use mathlib.Core.Logic.{◌⊎◌, inl, inr}
use mathlib.Core.List.{List}
use Prim.Native.Nat.{ℕ, zero, suc, ◌-◌, ◌^◌}
use native.Mathlib.Omega.{arith}
use borrow.Author.Tests.{leb-true, leb-false, eqb-true, eqb-false}
use lib.Dec.{leb, eqb}
use lib.ListN.{length-set, set as put}
use lib.Seq.{get_or-set_same, get_or-set_other}
use lib.Bits.{bit_or}
use Rattle.words.specs.Words.{has, minus}
use Rattle.words.proofs.Membership.{has_or, has_minus, has_bit, has_bit_other, ext}
use Rattle.drafts.specs.declared.Desk.{Desk}
use Rattle.drafts.specs.Desk.{Call, Call.set, Call.clear, Call.keep, Call.return, max_drafts, among, options_of, option_refusal, refusal, with_order, altered, unless, after, wishes, draft, Standing}
use Rattle.drafts.specs.Demands.{Outside, RefusedAltersNothing, ClearingUnset, ButFor, ButPlace, SameDrafts, OnDesk, AnyDesk}

-- ---- numbers

-- a number is 1 to `most`, or it is not
pub among_or : (k most : ℕ) → ((among k most ≡ true) × (Outside k most → ⊥)) ⊎ ((among k most ≡ false) × Outside k most)
among_or k most = go (leb 1 k) refl (leb k most) refl
  where
    go : (p : Bool) → leb 1 k ≡ p → (q : Bool) → leb k most ≡ q → ((among k most ≡ true) × (Outside k most → ⊥)) ⊎ ((among k most ≡ false) × Outside k most)
    go true e true f = inl (ap₂ ◌&&◌ e f, λ o. elim o [ inl h ↦ omega (arith, leb-true 1 k e, h) | inr h ↦ omega (arith, leb-true k most f, h) ])
    go true e false f = inr (ap₂ ◌&&◌ e f, inr (leb-false k most f))
    go false e q f = inr (ap (λ (p : Bool). p && leb k most) e, inl (leb-false 1 k e))

pub among_in : (k most : ℕ) → (Outside k most → ⊥) → among k most ≡ true
among_in k most n = elim (among_or k most) [ inl h ↦ h.0 | inr h ↦ absurd (n h.1) ]

pub among_out : (k most : ℕ) → Outside k most → among k most ≡ false
among_out k most o = elim (among_or k most) [ inl h ↦ absurd (h.1 o) | inr h ↦ h.0 ]

-- ---- refusals

-- an option, by whether the desk has it
abbrev pub option_by : Bool → ℕ
option_by b = elim b [ true ↦ 0 | false ↦ 7 ]

-- a draft's number, by whether it is one
abbrev pub number_by : Bool → ℕ
number_by b = elim b [ true ↦ 0 | false ↦ 14 ]

-- a return, by whether the number is one and the draft is kept
abbrev pub return_by : Bool → Bool → ℕ
return_by number kept = elim number [ true ↦ elim kept [ true ↦ 0 | false ↦ 15 ] | false ↦ 14 ]

pub keep_in : (d : Desk) (j : ℕ) → (Outside j max_drafts → ⊥) → refusal d (keep j) ≡ 0
unfolding refusal
keep_in d j n = ap number_by (among_in j max_drafts n)

pub keep_out : (d : Desk) (j : ℕ) → Outside j max_drafts → refusal d (keep j) ≡ 14
unfolding refusal
keep_out d j o = ap number_by (among_out j max_drafts o)

pub return_out : (d : Desk) (j : ℕ) → Outside j max_drafts → refusal d (return j) ≡ 14
unfolding refusal
return_out d j o = ap (λ (b : Bool). return_by b (has d.kept (j - 1))) (among_out j max_drafts o)

pub return_kept : (d : Desk) (j : ℕ) → (Outside j max_drafts → ⊥) → has d.kept (j - 1) ≡ true → refusal d (return j) ≡ 0
unfolding refusal
return_kept d j n e = ap₂ return_by (among_in j max_drafts n) e

pub return_never : (d : Desk) (j : ℕ) → (Outside j max_drafts → ⊥) → has d.kept (j - 1) ≡ false → refusal d (return j) ≡ 15
unfolding refusal
return_never d j n e = ap₂ return_by (among_in j max_drafts n) e

-- ---- the desk after a call

-- an accepted call alters the desk
pub after_accepted : (d : Desk) (c : Call) → refusal d c ≡ 0 → after d c ≡ altered d c
unfolding after
after_accepted d c e = ap (λ (r : ℕ). unless r d (altered d c)) e

-- and a refused one does not
pub after_refused : RefusedAltersNothing
unfolding after
after_refused d c n = go (refusal d c) refl
  where
    go : (r : ℕ) → refusal d c ≡ r → unless (refusal d c) d (altered d c) ≡ d
    go zero e = absurd (n e)
    go (suc r) e = ap (λ (x : ℕ). unless x d (altered d c)) e

-- a bit put in
pub bit_in : (w i : ℕ) → ButFor i true w (bit_or w (2 ^ i))
bit_in w i = (
  has_or w (2 ^ i) i ∙ ap (λ (b : Bool). has w i || b) (has_bit i) ∙ or-true (has w i),
  λ x n. has_or w (2 ^ i) x ∙ ap (λ (b : Bool). has w x || b) (has_bit_other i x (λ e. n (sym e))) ∙ or-false (has w x),
)

-- and taken out
pub bit_out : (w i : ℕ) → ButFor i false w (minus w (2 ^ i))
bit_out w i = (
  has_minus w (2 ^ i) i ∙ ap (λ (b : Bool). has w i && not b) (has_bit i) ∙ and-false (has w i),
  λ x n. has_minus w (2 ^ i) x ∙ ap (λ (b : Bool). has w x && not b) (has_bit_other i x (λ e. n (sym e))) ∙ and-true (has w x),
)

-- a word put in a place
pub place_put : (ws : List ℕ) (i w : ℕ) → ButPlace i w ws (put ws i w)
place_put ws i w = (length-set ws i w, λ h. get_or-set_same ws i w 0 h, λ x n. get_or-set_other ws i x w 0 n)

-- what holds of the desk before a call, and of the altered one where the call is accepted, holds after it
pub either_way : (P : Desk → Type 0) (d : Desk) (c : Call) → P d → (refusal d c ≡ 0 → P (altered d c)) → P (after d c)
either_way P d c p q = go (refusal d c) refl
  where
    go : (r : ℕ) → refusal d c ≡ r → P (after d c)
    go zero e = subst P (sym (after_accepted d c e)) (q e)
    go (suc r) e = subst P (sym (after_refused d c (λ z. omega (arith, e, z)))) p

-- a bit that is not there is taken out in vain
without : (w i : ℕ) → has w i ≡ false → minus w (2 ^ i) ≡ w
without w i e = ext (minus w (2 ^ i)) w (λ x. go x (eqb x i) refl)
  where
    go : (x : ℕ) (b : Bool) → eqb x i ≡ b → has (minus w (2 ^ i)) x ≡ has w x
    go x true f = let same : x ≡ i = eqb-true x i f in ap (has (minus w (2 ^ i))) same ∙ (bit_out w i).0 ∙ sym (ap (has w) same ∙ e)
    go x false f = (bit_out w i).1 x (eqb-false x i f)

pub clearing_unset : ClearingUnset
clearing_unset d k e =
    either_way (λ (x : Desk). x ≡ d) d (clear k) refl
    (λ accepted. ap₂ (with_order d) (without d.wanted (k - 1) (ap (λ (s : Standing). s.wanted) e)) (without d.unwanted (k - 1) (ap (λ (s : Standing). s.unwanted) e)))

-- ---- any desk

module _ (d : Desk) where
  pub option_or : (k : ℕ) → ((option_refusal d k ≡ 7) × Outside k (options_of d)) ⊎ ((option_refusal d k ≡ 0) × (Outside k (options_of d) → ⊥))
  option_or k = elim (among_or k (options_of d)) [ inl h ↦ inr (ap option_by h.0, h.1) | inr h ↦ inl (ap option_by h.0, h.1) ]

  pub keep_or : (j : ℕ) → ((refusal d (keep j) ≡ 14) × Outside j 16) ⊎ ((refusal d (keep j) ≡ 0) × (Outside j 16 → ⊥))
  keep_or j = elim (among_or j max_drafts) [ inl h ↦ inr (keep_in d j h.1, h.1) | inr h ↦ inl (keep_out d j h.1, h.1) ]

  pub return_or :
      (j : ℕ) →
      ((refusal d (return j) ≡ 14) × Outside j 16)
      ⊎ (((refusal d (return j) ≡ 15) × (Outside j 16 → ⊥) × (has d.kept (j - 1) ≡ false))
      ⊎ ((refusal d (return j) ≡ 0) × (Outside j 16 → ⊥) × (has d.kept (j - 1) ≡ true)))
  return_or j = elim (among_or j max_drafts) [ inl h ↦ inr (go h.1 (has d.kept (j - 1)) refl) | inr h ↦ inl (return_out d j h.1, h.1) ]
    where
      go :
          (Outside j 16 → ⊥) → (b : Bool) → has d.kept (j - 1) ≡ b →
          ((refusal d (return j) ≡ 15) × (Outside j 16 → ⊥) × (has d.kept (j - 1) ≡ false))
          ⊎ ((refusal d (return j) ≡ 0) × (Outside j 16 → ⊥) × (has d.kept (j - 1) ≡ true))
      go n true e = inr (return_kept d j n e, n, e)
      go n false e = inl (return_never d j n e, n, e)

  -- what is had of the altered desk is had after an accepted call
  had : (P : Desk → Type 0) (c : Call) → refusal d c ≡ 0 → P (altered d c) → P (after d c)
  had P c e p = subst P (sym (after_accepted d c e)) p

  pub same_drafts : (p q : ℕ) → SameDrafts d (with_order d p q)
  same_drafts p q = record { options = refl; kept = refl; wanteds = refl; unwanteds = refl }

  abbrev Ordered : ℕ → Bool → Bool → Desk → Type 0
  Ordered k p q x = ButFor (k - 1) p d.wanted x.wanted × ButFor (k - 1) q d.unwanted x.unwanted × SameDrafts d x

  pub set_after : (k : ℕ) (fitted : Bool) → refusal d (set k fitted) ≡ 0 → Ordered k fitted (not fitted) (after d (set k fitted))
  set_after k true e = had (Ordered k true false) (set k true) e (bit_in d.wanted (k - 1), bit_out d.unwanted (k - 1), same_drafts _ _)
  set_after k false e = had (Ordered k false true) (set k false) e (bit_out d.wanted (k - 1), bit_in d.unwanted (k - 1), same_drafts _ _)

  pub clear_after : (k : ℕ) → refusal d (clear k) ≡ 0 → Ordered k false false (after d (clear k))
  clear_after k e = had (Ordered k false false) (clear k) e (bit_out d.wanted (k - 1), bit_out d.unwanted (k - 1), same_drafts _ _)

  abbrev Kept : ℕ → Desk → Type 0
  Kept j x =
      (wishes x ≡ wishes d)
      × (x.options ≡ d.options)
      × ButFor (j - 1) true d.kept x.kept
      × ButPlace (j - 1) d.wanted d.wanteds x.wanteds
      × ButPlace (j - 1) d.unwanted d.unwanteds x.unwanteds

  pub keep_after : (j : ℕ) → refusal d (keep j) ≡ 0 → Kept j (after d (keep j))
  keep_after j e =
      had (Kept j) (keep j) e
      (refl, refl, bit_in d.kept (j - 1), place_put d.wanteds (j - 1) d.wanted, place_put d.unwanteds (j - 1) d.unwanted)

  pub return_after : (j : ℕ) → refusal d (return j) ≡ 0 → (wishes (after d (return j)) ≡ draft d j) × SameDrafts d (after d (return j))
  return_after j e = had (λ (x : Desk). (wishes x ≡ draft d j) × SameDrafts d x) (return j) e (refl, same_drafts _ _)

  on_desk : OnDesk d
  unfolding refusal
  on_desk =
      record {
        set_refused = λ k fitted. option_or k;
        clear_refused = λ k. refl;
        keep_refused = keep_or;
        return_refused = return_or;
        after_set = set_after;
        after_clear = clear_after;
        after_keep = keep_after;
        after_return = return_after;
      }

pub any_desk : AnyDesk
any_desk d = on_desk d
