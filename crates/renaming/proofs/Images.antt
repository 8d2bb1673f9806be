-- Words under other numbers, by membership. The image of the first n + 1 variables is that of the first n and, where n is a member, the number of n: so what
-- is in it, and what is read back from it, goes by the number of variables.
use mathlib.Core.Path.{◌≡◌, refl, sym, ap, subst, ◌∙◌}
use mathlib.Core.Bool.{Bool, true, false}
use mathlib.Core.Logic.{◌⊎◌, inl, inr, ⊎_elim}
use Prim.Native.Nat.{ℕ, zero, suc, ◌^◌, ◌≤◌, ◌<◌}
use native.Mathlib.Omega.{arith}
use borrow.Author.Tests.{ltb-true, ltb-false, lt-ltb}
use lib.Bits.{bit_or}
use lib.Dec.{ltb}
use Rattle.words.specs.Words.{has, minus, first_vars, Within}
use Rattle.words.proofs.Truth.{both_ways, iff}
use Rattle.words.proofs.Membership.{has_zero, has_bit, has_bit_eq, has_first_vars, ext}
use Rattle.words.proofs.Sets.{in_or, in_minus, minus_within, within_antisym, bit_within, or_within, or_within_l, or_within_r}
use Rattle.renaming.specs.Renaming.{image, preimage, Into}
use Rattle.renaming.specs.Demands.{Named, ImageMembers, ImageApart, WayBack}

-- ---- one variable more

module _ (f : ℕ → ℕ) (n w : ℕ) where
  pub image_in : has w n ≡ true → image f (suc n) w ≡ bit_or (image f n w) (2 ^ f n)
  unfolding image
  image_in h = rw (h, image)

  image_out : has w n ≡ false → image f (suc n) w ≡ image f n w
  unfolding image
  image_out h = rw (h, image)

-- below n + 1: below n, or n
pub below_suc : (P : ℕ → Type 0) (k n : ℕ) → k < suc n → (k < n → P k) → P n → P k
below_suc P k n h less same = go (ltb k n) refl
  where
    go : (b : Bool) → ltb k n ≡ b → P k
    go true e = less (ltb-true k n e)
    go false e = let here : n ≡ k = omega (arith, ltb-false k n e) in subst P here same

-- the first n variables are those below n
pub in_first : (n k : ℕ) → k < n → has (first_vars n) k ≡ true
in_first n k h = has_first_vars n k ∙ lt-ltb k n h

pub first_below : (n k : ℕ) → has (first_vars n) k ≡ true → k < n
first_below n k h = ltb-true k n (sym (has_first_vars n k) ∙ h)

-- ---- members of an image

-- a member is the number of one
pub image_named : (f : ℕ → ℕ) (n w j : ℕ) → has (image f n w) j ≡ true → Named f n w j
unfolding image
image_named f zero w j h = both_ways (has 0 j) h (has_zero j)
image_named f (suc n) w j h = go (image_named f n w j) (has w n) refl
  where
    wider : Named f n w j → Named f (suc n) w j
    wider m = record { var = m.var; below = omega (arith, m.below); member = m.member; number = m.number }

    go : (has (image f n w) j ≡ true → Named f n w j) → (b : Bool) → has w n ≡ b → Named f (suc n) w j
    go before true e =
        ⊎_elim (λ m. wider (before m)) (λ m. record { var = n; below = omega arith; member = e; number = has_bit_eq (f n) j m })
        (in_or (image f n w) (2 ^ f n) j (rw (image_in f n w e) at h))
    go before false e = wider (before (rw (image_out f n w e) at h))

-- and the number of one is a member
pub image_has : (f : ℕ → ℕ) (n w k : ℕ) → k < n → has w k ≡ true → has (image f n w) (f k) ≡ true
image_has f zero w k h m = absurd (omega arith)
image_has f (suc n) w k h m = go (image_has f n w k) (has w n) refl
  where
    go : (k < n → has w k ≡ true → has (image f n w) (f k) ≡ true) → (b : Bool) → has w n ≡ b → has (image f (suc n) w) (f k) ≡ true
    go before true e =
        rw (image_in f n w e)
        (below_suc (λ i. has (bit_or (image f n w) (2 ^ f n)) (f i) ≡ true) k n h
        (λ less. or_within_l (image f n w) (2 ^ f n) (f k) (before less m))
        (or_within_r (image f n w) (2 ^ f n) (f n) (has_bit (f n))))
    go before false e =
        rw (image_out f n w e)
        (before
        (below_suc (λ i. has w i ≡ true → i < n) k n h (λ less _. less) (λ here. both_ways (has w n) here e) m)
        m)

pub image_members : ImageMembers
image_members f n w j =
    (image_named f n w j, λ m. subst (λ i. has (image f n w) i ≡ true) m.number (image_has f n w m.var m.below m.member))

pub image_apart : ImageApart
image_apart f n w k apart h =
    iff (has (image f n w) (f k)) (has w k)
    (λ e. let m = image_named f n w (f k) e in subst (λ i. has w i ≡ true) (apart m.var k m.below h m.number) m.member)
    (image_has f n w k h)

-- the members of an image are among the first m where all numbers are
pub image_within : (f : ℕ → ℕ) (n m w : ℕ) → Into f n m → Within (image f n w) (first_vars m)
image_within f n m w into j h =
    let i = image_named f n w j h in
    in_first m j (subst (λ a. a < m) i.number (into i.var i.below))

-- images under maps that agree on the members, in words of the first n variables
pub image_same : (f g : ℕ → ℕ) (n m w : ℕ) → n ≤ m → Within w (first_vars n) → ((k : ℕ) → k < n → f k ≡ g k) → image f m w ≡ image g n w
image_same f g n m w le within same =
    ext (image f m w) (image g n w)
    (λ j.
    iff (has (image f m w) j) (has (image g n w) j)
    (λ h.
    let i = image_named f m w j h in
    let less = first_below n i.var (within i.var i.member) in
    subst (λ a. has (image g n w) a ≡ true) (sym (same i.var less) ∙ i.number) (image_has g n w i.var less i.member))
    (λ h.
    let i = image_named g n w j h in
    subst (λ a. has (image f m w) a ≡ true) (same i.var i.below ∙ i.number) (image_has f m w i.var (omega (arith, i.below)) i.member)))

-- one member's number, and the image of the others
pub image_remove : (f : ℕ → ℕ) (n w k : ℕ) → k < n → has w k ≡ true → image f n w ≡ bit_or (2 ^ f k) (image f n (minus w (2 ^ k)))
image_remove f n w k h m =
    let rest = minus w (2 ^ k) in
    within_antisym (image f n w) (bit_or (2 ^ f k) (image f n rest))
    (λ j e.
    let i = image_named f n w j e in
    ⊎_elim
    (λ same. or_within_l (2 ^ f k) (image f n rest) j (ap (λ v. has (2 ^ f v) j) same ∙ ap (has (2 ^ f i.var)) (sym i.number) ∙ has_bit (f i.var)))
    (λ other.
    or_within_r (2 ^ f k) (image f n rest) j
    (subst (λ v. has (image f n rest) v ≡ true) i.number (image_has f n rest i.var i.below (in_minus w (2 ^ k) i.var i.member other))))
    (one_or_not k i.var))
    (or_within (2 ^ f k) (image f n rest) (image f n w)
    (bit_within (image f n w) (f k) (image_has f n w k h m))
    (λ j e.
    let i = image_named f n rest j e in
    subst (λ v. has (image f n w) v ≡ true) i.number (image_has f n w i.var i.below (minus_within w (2 ^ k) i.var i.member))))
  where
    one_or_not : (k v : ℕ) → (k ≡ v) ⊎ (has (2 ^ k) v ≡ false)
    one_or_not k v = go (has (2 ^ k) v) refl
      where
        go : (b : Bool) → has (2 ^ k) v ≡ b → (k ≡ v) ⊎ (has (2 ^ k) v ≡ false)
        go true e = inl (has_bit_eq k v e)
        go false e = inr e

-- ---- the way back

module _ (f : ℕ → ℕ) (n x : ℕ) where
  preimage_in : has x (f n) ≡ true → preimage f (suc n) x ≡ bit_or (preimage f n x) (2 ^ n)
  unfolding preimage
  preimage_in h = rw (h, preimage)

  preimage_out : has x (f n) ≡ false → preimage f (suc n) x ≡ preimage f n x
  unfolding preimage
  preimage_out h = rw (h, preimage)

-- what is read back is among the first n
pub preimage_below : (f : ℕ → ℕ) (n x k : ℕ) → has (preimage f n x) k ≡ true → (k < n) × (has x (f k) ≡ true)
unfolding preimage
preimage_below f zero x k h = both_ways (has 0 k) h (has_zero k)
preimage_below f (suc n) x k h = go (preimage_below f n x k) (has x (f n)) refl
  where
    wider : (k < n) × (has x (f k) ≡ true) → (k < suc n) × (has x (f k) ≡ true)
    wider m = (omega (arith, m.0), m.1)

    go : (has (preimage f n x) k ≡ true → (k < n) × (has x (f k) ≡ true)) → (b : Bool) → has x (f n) ≡ b → (k < suc n) × (has x (f k) ≡ true)
    go before true e =
        ⊎_elim (λ m. wider (before m))
        (λ m. let here : n ≡ k = has_bit_eq n k m in (omega arith, subst (λ i. has x (f i) ≡ true) here e))
        (in_or (preimage f n x) (2 ^ n) k (rw (preimage_in f n x e) at h))
    go before false e = wider (before (rw (preimage_out f n x e) at h))

preimage_has : (f : ℕ → ℕ) (n x k : ℕ) → k < n → has x (f k) ≡ true → has (preimage f n x) k ≡ true
preimage_has f zero x k h m = absurd (omega arith)
preimage_has f (suc n) x k h m = go (preimage_has f n x k) (has x (f n)) refl
  where
    go : (k < n → has x (f k) ≡ true → has (preimage f n x) k ≡ true) → (b : Bool) → has x (f n) ≡ b → has (preimage f (suc n) x) k ≡ true
    go before true e =
        rw (preimage_in f n x e)
        (below_suc (λ i. has (bit_or (preimage f n x) (2 ^ n)) i ≡ true) k n h
        (λ less. or_within_l (preimage f n x) (2 ^ n) k (before less m))
        (or_within_r (preimage f n x) (2 ^ n) n (has_bit n)))
    go before false e =
        rw (preimage_out f n x e)
        (before (below_suc (λ i. has x (f i) ≡ true → i < n) k n h (λ less _. less) (λ here. both_ways (has x (f n)) here e) m) m)

pub way_back : WayBack
way_back f n x k h = iff (has (preimage f n x) k) (has x (f k)) (λ m. (preimage_below f n x k m).1) (preimage_has f n x k h)
