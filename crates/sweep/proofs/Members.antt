-- The list of the members of a difference. The lowest member of x is the lowest of x without y unless y has it; so, member by member, the list for the
-- difference is the list for x without those that are in y.
use mathlib.Core.Path.{◌≡◌, refl, sym, ap, ◌∙◌}
use mathlib.Core.Bool.{Bool, true, false, not}
use mathlib.Core.List.{List, ◌∷◌}
use Prim.Native.Nat.{ℕ, zero, suc, ◌^◌, ◌≤◌, ◌<◌}
use native.Mathlib.Omega.{arith}
use lib.Bits.{bit_or, or_comm}
use lib.Count.{ones}
use lib.Dec.{ltb}
use borrow.Author.Tests.{ltb-true, ltb-false}
use Rattle.words.specs.Words.{has, minus, meets, lowest, members}
use Rattle.words.proofs.Truth.{both_ways, refuted, when_true, when_false}
use Rattle.words.proofs.Sets.{member_nonzero, within_refl, within_antisym, within_zero, bit_within, or_within_r, or_within, minus_within, in_minus, minus_both}
use Rattle.words.proofs.Unions.{meets_bit}
use Rattle.words.proofs.Lowest.{lowest_is, members_zero, members_step}
use Rattle.words.proofs.Count.{ones_remove}
use Rattle.steps.specs.Lists.{filter}

-- in either order
minus_swap : (x y z : ℕ) → minus (minus x y) z ≡ minus (minus x z) y
minus_swap x y z = sym (minus_both x y z) ∙ ap (minus x) (or_comm y z) ∙ minus_both x z y

-- a member with none below it is the lowest
lowest_first : (x k : ℕ) → has x k ≡ true → ((j : ℕ) → j < k → has x j ≡ false) → lowest x ≡ 2 ^ k
lowest_first x k h below =
    let l = lowest_is x (member_nonzero x k h) in
    l.1 ∙ ap (λ (j : ℕ). 2 ^ j) (go l.0 l.2 l.3 (ltb l.0 k) refl (ltb k l.0) refl)
  where
    go : (j : ℕ) → has x j ≡ true → ((i : ℕ) → i < j → has x i ≡ false) → (p : Bool) → ltb j k ≡ p → (q : Bool) → ltb k j ≡ q → j ≡ k
    go j m f true e q d = both_ways (has x j) m (below j (ltb-true j k e))
    go j m f false e true d = both_ways (has x k) h (f k (ltb-true k j d))
    go j m f false e false d = omega (arith, ltb-false j k e, ltb-false k j d)

-- taking off a member of y first changes nothing
minus_member : (x y k : ℕ) → has y k ≡ true → minus (minus x (2 ^ k)) y ≡ minus x y
minus_member x y k h =
    sym (minus_both x (2 ^ k) y)
    ∙ ap
    (minus x)
    (within_antisym (bit_or (2 ^ k) y) y (or_within (2 ^ k) y y (bit_within y k h) (within_refl y)) (or_within_r (2 ^ k) y))

-- the members of x that are not in y
abbrev outside : ℕ → List ℕ → List ℕ
outside y = filter (λ w. not (meets y w))

-- the lowest member k of x stays or goes by whether y has it
members_from : (x y k : ℕ) → has x k ≡ true → ((j : ℕ) → j < k → has x j ≡ false) → members (minus (minus x (2 ^ k)) y) ≡ outside y (members (minus x (2 ^ k)))
    → members (minus x y) ≡ outside y (2 ^ k ∷ members (minus x (2 ^ k)))
members_from x y k h below ih = go (has y k) refl
  where
    go : (p : Bool) → has y k ≡ p → members (minus x y) ≡ outside y (2 ^ k ∷ members (minus x (2 ^ k)))
    go true e = ap members (sym (minus_member x y k e)) ∙ ih ∙ sym (when_false (not (meets y (2 ^ k))) _ _ (ap not (meets_bit y k ∙ e)))
    go false e =
        let m = in_minus x y k h e in
        let low = lowest_first (minus x y) k m (λ j l. refuted (has (minus x y) j) (λ t. both_ways (has x j) (minus_within x y j t) (below j l))) in
        members_step (minus x y) (member_nonzero (minus x y) k m)
        ∙ ap (λ (w : ℕ). w ∷ members (minus (minus x y) w)) low
        ∙ ap (λ (l : List ℕ). 2 ^ k ∷ l) (ap members (minus_swap x y (2 ^ k)) ∙ ih)
        ∙ sym (when_true (not (meets y (2 ^ k))) _ _ (ap not (meets_bit y k ∙ e)))

-- the members of a difference are those of x that are not in y. By induction on how many members x has
pub members_minus : (x y : ℕ) → members (minus x y) ≡ filter (λ w. not (meets y w)) (members x)
members_minus x y = go (ones x) x (omega arith)
  where
    turn : (n x : ℕ) → ones x ≤ n → ((z : ℕ) → ones z < n → members (minus z y) ≡ outside y (members z)) → members (minus x y) ≡ outside y (members x)
    turn n zero few fewer =
        ap members (within_antisym (minus 0 y) 0 (minus_within 0 y) (within_zero (minus 0 y))) ∙ members_zero ∙ ap (outside y) (sym members_zero)
    turn n (suc x) few fewer =
        let l = lowest_is (suc x) refl in
        let less = ones_remove (suc x) l.0 l.2 in
        members_from (suc x) y l.0 l.2 l.3 (fewer (minus (suc x) (2 ^ l.0)) (omega arith))
        ∙ ap (outside y) (sym (members_step (suc x) refl ∙ ap (λ (w : ℕ). w ∷ members (minus (suc x) w)) l.1))

    go : (n x : ℕ) → ones x ≤ n → members (minus x y) ≡ outside y (members x)
    go zero x few = turn zero x few (λ z less. absurd (omega arith))
    go (suc n) x few = turn (suc n) x few (λ z less. go n z (omega arith))
