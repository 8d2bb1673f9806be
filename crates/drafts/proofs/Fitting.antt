-- A desk's order and its drafts name no option above its own, and none in both words: so a check of it is not refused by 7 or 8.
use mathlib.Core.Path.{◌≡◌, refl, sym, ap, ap₂, subst, ◌∙◌}
use mathlib.Core.Bool.{Bool, true, false, ◌&&◌, true≢false}
use mathlib.Core.Logic.{◌≢◌, ◌⊎◌, inl, inr, ⊎_elim}
use mathlib.Core.List.{List, [], ◌∷◌}
use Prim.Native.Nat.{ℕ, zero, suc, ◌-◌, ◌≤◌, ◌<◌}
use native.Mathlib.Nat.{min-le_left}
use native.Mathlib.Omega.{arith}
use borrow.Author.Tests.{ltb-true, ltb-false, eqb-true, eqb-false}
use lib.Dec.{ltb, eqb}
use lib.ListN.{get_or, length, replicate, set as put}
use lib.Seq.{get_or-set_same, get_or-set_other}
use Rattle.words.specs.Words.{has}
use Rattle.words.proofs.Membership.{has_zero}
use Rattle.words.proofs.Truth.{or_either}
use Rattle.steps.specs.Clause.{Clause}
use Rattle.order.specs.Order.{Order}
use Rattle.order.specs.Demands.{order}
use Rattle.book.specs.Bytes.{vars_in, rules_in}
use Rattle.book.specs.Conditions.{Condition, condition, First, NamesAbove, HasAbove, InBoth, rule_conditions, book_conditions, order_conditions, admit_conditions}
use Rattle.book.proofs.Refusals.{first_split}
use Rattle.contract.specs.Check.{Lengths, check, Result.refused}
use Rattle.contract.specs.Demands.{Permitted, check_conditions}
use Rattle.contract.proofs.Checking.{refusals}
use Rattle.drafts.specs.declared.Desk.{Desk}
use Rattle.drafts.specs.Desk.{Call, Call.set, Call.clear, Call.keep, Call.return, options_of, option_refusal, refusal, altered, desk_after, draft}
use Rattle.drafts.specs.Demands.{ButFor, AlwaysFit, Checkable}
use Rattle.drafts.proofs.Calls.{either_way, bit_in, bit_out, option_or, keep_or}
use Rattle.drafts.proofs.Runs.{fresh_empty, not_outside, not_above, options_after, Lengths as DraftLengths, lengths_after, as_for_none}

-- ---- two words that fit

-- no member from n on, and none in both
abbrev Within : ℕ → ℕ → ℕ → Type 0
Within n p q = ((x : ℕ) → n ≤ x → (has p x ≡ false) × (has q x ≡ false)) × ((x : ℕ) → (has p x && has q x) ≡ false)

nothing_within : (n : ℕ) → Within n 0 0
nothing_within n = (λ x h. (has_zero x, has_zero x), λ x. ap (λ (b : Bool). b && has 0 x) (has_zero x))

-- a bit below n is altered in each, and not set in both
within_but : (n i p q p' q' : ℕ) (b b' : Bool) → i < n → (b && b') ≡ false → Within n p q → ButFor i b p p' → ButFor i b' q q' → Within n p' q'
within_but n i p q p' q' b b' h e w f g = (above, both)
  where
    above : (x : ℕ) → n ≤ x → (has p' x ≡ false) × (has q' x ≡ false)
    above x m = let other : x ≢ i = λ s. omega (arith, h, m, s) in (f.1 x other ∙ (w.0 x m).0, g.1 x other ∙ (w.0 x m).1)

    both : (x : ℕ) → (has p' x && has q' x) ≡ false
    both x = go (eqb x i) refl
      where
        go : (t : Bool) → eqb x i ≡ t → (has p' x && has q' x) ≡ false
        go true s =
            let same : x ≡ i = eqb-true x i s in
            ap (λ (y : ℕ). has p' y && has q' y) same ∙ ap₂ ◌&&◌ f.0 g.0 ∙ e
        go false s = ap₂ ◌&&◌ (f.1 x (eqb-false x i s)) (g.1 x (eqb-false x i s)) ∙ w.1 x

-- the same words
within_same : (n : ℕ) {p q p' q' : ℕ} → p' ≡ p → q' ≡ q → Within n p q → Within n p' q'
within_same n {p} {q} {p'} e f w = subst (λ (y : ℕ). Within n p' y) (sym f) (subst (λ (x : ℕ). Within n x q) (sym e) w)

get_d_zeros : (m i : ℕ) → get_or {A = ℕ} (replicate m 0) i 0 ≡ 0
get_d_zeros zero i = refl
get_d_zeros (suc m) zero = refl
get_d_zeros (suc m) (suc i) = get_d_zeros m i

-- ---- a desk that fits

abbrev Fits : ℕ → Desk → Type 0
Fits n d = Within n d.wanted d.unwanted × ((i : ℕ) → Within n (get_or d.wanteds i 0) (get_or d.unwanteds i 0))

-- an accepted option has its bit below n
option_below : (n : ℕ) (d : Desk) → d.options ≡ n → (k : ℕ) → option_refusal d k ≡ 0 → k - 1 < n
option_below n d e k r =
    elim (option_or d k) [
      | inl o ↦ absurd (omega (arith, o.0, r))
      | inr o ↦
          let least : 1 ≤ k = not_outside k (options_of d) o.1 in
          let most : k ≤ options_of d = not_above k (options_of d) o.1 in
          let few : options_of d ≤ d.options = min-le_left d.options 64 in
          omega (arith, least, most, few, e)
    ]

-- a word put in a place of each list
put_within :
    (n : ℕ) (ws vs : List ℕ) (j p q : ℕ) → length ws ≡ 16 → length vs ≡ 16 → j < 16 → Within n p q → ((i : ℕ) → Within n (get_or ws i 0) (get_or vs i 0)) →
    (i : ℕ) → Within n (get_or (put ws j p) i 0) (get_or (put vs j q) i 0)
put_within n ws vs j p q l l' h w each i = go (eqb i j) refl
  where
    go : (t : Bool) → eqb i j ≡ t → Within n (get_or (put ws j p) i 0) (get_or (put vs j q) i 0)
    go true e =
        let same : i ≡ j = eqb-true i j e in
        subst (λ (x : ℕ). Within n (get_or (put ws j p) x 0) (get_or (put vs j q) x 0)) (sym same)
        (within_same n (get_or-set_same ws j p 0 (omega (arith, l, h))) (get_or-set_same vs j q 0 (omega (arith, l', h))) w)
    go false e = within_same n (get_or-set_other ws j i p 0 (eqb-false i j e)) (get_or-set_other vs j i q 0 (eqb-false i j e)) (each i)

draft_below : (d : Desk) (j : ℕ) → refusal d (keep j) ≡ 0 → j - 1 < 16
draft_below d j e =
    elim (keep_or d j) [
      | inl o ↦ absurd (omega (arith, o.0, e))
      | inr o ↦ let least : 1 ≤ j = not_outside j 16 o.1 in let most : j ≤ 16 = not_above j 16 o.1 in omega (arith, least, most)
    ]

fits_altered : (n : ℕ) (d : Desk) (c : Call) → d.options ≡ n → DraftLengths d → Fits n d → refusal d c ≡ 0 → Fits n (altered d c)
unfolding refusal
fits_altered n d (set k true) o long f e = (
  within_but n (k - 1) d.wanted d.unwanted _ _ true false (option_below n d o k e) refl f.0 (bit_in d.wanted (k - 1)) (bit_out d.unwanted (k - 1)),
  f.1,
)
fits_altered n d (set k false) o long f e = (
  within_but n (k - 1) d.wanted d.unwanted _ _ false true (option_below n d o k e) refl f.0 (bit_out d.wanted (k - 1)) (bit_in d.unwanted (k - 1)),
  f.1,
)
fits_altered n d (clear k) o long f e = (
  within_but n (k - 1) d.wanted d.unwanted _ _ false false (option_below n d o k e) refl f.0 (bit_out d.wanted (k - 1)) (bit_out d.unwanted (k - 1)),
  f.1,
)
fits_altered n d (keep j) o long f e = (
  f.0,
  put_within n d.wanteds d.unwanteds (j - 1) d.wanted d.unwanted long.0 long.1 (draft_below d j e) f.0 f.1,
)
fits_altered n d (return j) o long f e = (f.1 (j - 1), f.1)

fits_after : (n : ℕ) → n ≤ 64 → (calls : List Call) → Fits n (desk_after n calls)
fits_after n few [] =
    fresh_empty (Fits n) n (λ m. (nothing_within n, λ i. within_same n (get_d_zeros 16 i) (get_d_zeros 16 i) (nothing_within n)))
fits_after n few (c ∷ past) =
    either_way (Fits n) (desk_after n past) c (fits_after n few past)
    (fits_altered n (desk_after n past) c (options_after n few past) (lengths_after n past) (fits_after n few past))

-- in the words of the table of refusals
not_above_n : (n p q : ℕ) → Within n p q → NamesAbove n p q → ⊥
not_above_n n p q w a =
    elim (or_either (has p a.0) (has q a.0) a.2) [
      | inl e ↦ true≢false (sym e ∙ (w.0 a.0 a.1).0)
      | inr e ↦ true≢false (sym e ∙ (w.0 a.0 a.1).1)
    ]

not_in_both : (n p q : ℕ) → Within n p q → InBoth p q → ⊥
not_in_both n p q w b = true≢false (sym (ap₂ ◌&&◌ b.1 b.2) ∙ w.1 b.0)

pub always_fit : AlwaysFit
always_fit n few calls =
    let d : Desk = desk_after n calls in
    let f = fits_after n few calls in
    record {
      options = options_after n few calls;
      none_above = not_above_n n d.wanted d.unwanted f.0;
      none_in_both = not_in_both n d.wanted d.unwanted f.0;
      drafts_none_above = λ j. not_above_n n (draft d j).wanted (draft d j).unwanted (f.1 (j - 1));
      drafts_none_in_both = λ j. not_in_both n (draft d j).wanted (draft d j).unwanted (f.1 (j - 1));
    }

-- ---- a check

-- no number of the list is above 6
abbrev UpToSix : List Condition → Type 0
UpToSix [] = Unit {0}
UpToSix (a ∷ cs) = (a.number ≤ 6) × UpToSix cs

first_six : (cs : List Condition) (r : ℕ) → UpToSix cs → First cs r → r ≤ 6
first_six [] r h f = absurd f
first_six (a ∷ cs) r h (inl here) = subst (λ (x : ℕ). x ≤ 6) here.1 h.0
first_six (a ∷ cs) r h (inr later) = first_six cs r h.1 later.1

rules_six : (n : ℕ) (rules : List Clause) → UpToSix (rule_conditions n rules)
rules_six n [] = tt
rules_six n (c ∷ rules) = (omega arith, (omega arith, rules_six n rules))

-- the refusals of the book are 1 to 6, and of the order's neither 7 nor 8 holds
module _ (bytes : List ℕ) (o : Order) (l : Lengths) (r : ℕ) (seven : NamesAbove (vars_in bytes) o.wanted o.unwanted → ⊥) (eight : InBoth o.wanted o.unwanted → ⊥) (which : (r ≡ 7) ⊎ (r ≡ 8)) where
  small : r ≤ 6 → ⊥
  small h = elim which [ inl e ↦ omega (arith, e, h) | inr e ↦ omega (arith, e, h) ]

  large : 9 ≤ r → ⊥
  large h = elim which [ inl e ↦ omega (arith, e, h) | inr e ↦ omega (arith, e, h) ]

  of_book : First (book_conditions bytes) r → ⊥
  of_book f =
      small (first_six (book_conditions bytes) r (omega arith, (omega arith, (omega arith, (omega arith, rules_six (vars_in bytes) (rules_in bytes))))) f)

  of_twelve : First (condition 12 (HasAbove (vars_in bytes) o.standard) ∷ []) r → ⊥
  of_twelve (inl here) = large (omega (arith, here.1))
  of_twelve (inr later) = later.1

  of_eight : First (condition 8 (InBoth o.wanted o.unwanted) ∷ condition 12 (HasAbove (vars_in bytes) o.standard) ∷ []) r → ⊥
  of_eight (inl here) = eight here.0
  of_eight (inr later) = of_twelve later.1

  of_order : First (order_conditions (vars_in bytes) o) r → ⊥
  of_order (inl here) = seven here.0
  of_order (inr later) = of_eight later.1

  of_tables : First (condition 9 (Permitted l → ⊥) ∷ []) r → ⊥
  of_tables (inl here) = large (omega (arith, here.1))
  of_tables (inr later) = later.1

  not_seven_or_eight : First (check_conditions bytes o l) r → ⊥
  not_seven_or_eight f =
      ⊎_elim (λ (a : First (admit_conditions bytes o) r). ⊎_elim of_book of_order (first_split (book_conditions bytes) (order_conditions (vars_in bytes) o) r a)) of_tables
      (first_split (admit_conditions bytes o) (condition 9 (Permitted l → ⊥) ∷ []) r f)

-- the order of a desk is refused by neither
abbrev Holds : Desk → Type 0
Holds d =
    (bytes : List ℕ) (standard allowance : ℕ) (l : Lengths) → d.options ≤ vars_in bytes →
    (r : ℕ) → (r ≡ 7) ⊎ (r ≡ 8) → check bytes (order d.wanted d.unwanted standard) allowance l ≡ refused r → ⊥

checkable_few : (n : ℕ) → n ≤ 64 → (calls : List Call) → Holds (desk_after n calls)
checkable_few n few calls bytes standard allowance l enough r which e =
    let f = always_fit n few calls in
    let o : Order = order (desk_after n calls).wanted (desk_after n calls).unwanted standard in
    not_seven_or_eight bytes o l r (λ a. f.none_above (a.0, omega (arith, a.1, enough, f.options), a.2)) f.none_in_both which
    ((refusals bytes o allowance l r).0 e)

pub checkable : Checkable
checkable n calls = go (ltb 64 n) refl
  where
    go : (b : Bool) → ltb 64 n ≡ b → Holds (desk_after n calls)
    go true e = subst Holds (sym (as_for_none n (ltb-true 64 n e) calls)) (checkable_few 0 (omega arith) calls)
    go false e = checkable_few n (ltb-false 64 n e) calls
