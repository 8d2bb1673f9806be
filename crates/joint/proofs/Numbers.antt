-- The unpaired options of the second book as a list, from option k on: each is followed by those after it, and the i-th of them has i unpaired ones more below it than
-- option k. With the partners' places this is what the numbering says, and nothing is left open: an ascending list is known by its members.
use mathlib.Core.Path.{◌≡◌, refl, sym, ap, ap₂, subst, ◌∙◌}
use mathlib.Core.Bool.{Bool, true, false}
use mathlib.Core.List.Memᴰ
use mathlib.Core.List.{List, [], ◌∷◌, Memᴰ}
use mathlib.Core.Logic.{◌⊎◌, inl, inr, ⊎_elim}
use Prim.Native.Nat.{ℕ, zero, suc, ◌+◌, ◌-◌, ◌≤◌, ◌<◌}
use native.Mathlib.Nat.{add-zero, zero-add}
use native.Mathlib.Omega.{arith}
use borrow.Author.Tests.{ltb-true, ltb-false}
use lib.Dec.{ltb}
use lib.ListN.{length, get_or}
use Rattle.words.specs.Words.{has}
use Rattle.words.specs.Demands.{Ascending}
use Rattle.words.proofs.Truth.{both_ways}
use Rattle.joint.specs.Pairs.{pair_count, option, side_fault, paired, unpaired_below, place}
use Rattle.joint.specs.Demands.{IsPair, Numbered, OneNumbering}
use Rattle.joint.proofs.Places.{NoPartner, partner_cases, below_zero, below_paired, below_unpaired, below_all, partner_paired, unpaired_free, place_cases, place_partner}

-- ---- pairs as two bytes

pub pair_below : (bytes : List ℕ) (i a b : ℕ) → IsPair bytes i a b → i < pair_count bytes
pair_below bytes i a b p = omega (arith, p.whole)

pub pair_first : (bytes : List ℕ) (i a b : ℕ) → IsPair bytes i a b → option 0 bytes i ≡ a
unfolding option
pair_first bytes i a b p = rw add-zero p.first

pub pair_second : (bytes : List ℕ) (i a b : ℕ) → IsPair bytes i a b → option 1 bytes i ≡ b
unfolding option
pair_second bytes i a b p = p.second

pub is_pair : (bytes : List ℕ) (i : ℕ) → i < pair_count bytes → IsPair bytes i (option 0 bytes i) (option 1 bytes i)
unfolding option
is_pair bytes i h = record { whole = omega arith; first = rw add-zero; second = refl }

-- ---- the unpaired options

module _ (bytes : List ℕ) where
  abbrev q : ℕ
  q = paired bytes

  -- those of the l options from k on
  free_from : ℕ → ℕ → List ℕ
  free_from zero k = []
  free_from (suc l) k = elim (has q k) [ true ↦ free_from l (suc k) | false ↦ k ∷ free_from l (suc k) ]

  free_paired : (l k : ℕ) → has q k ≡ true → free_from (suc l) k ≡ free_from l (suc k)
  unfolding free_from
  free_paired l k h = rw (h, free_from)

  free_unpaired : (l k : ℕ) → has q k ≡ false → free_from (suc l) k ≡ k ∷ free_from l (suc k)
  unfolding free_from
  free_unpaired l k h = rw (h, free_from)

  -- what is listed
  listed_free : (l k v : ℕ) → Memᴰ v (free_from l k) → (k ≤ v) × (v < k + l) × (has q v ≡ false)
  unfolding free_from
  listed_free zero k v m = absurd (Memᴰ.not-nil m)
  listed_free (suc l) k v m = go (listed_free l (suc k) v) (has q k) refl
    where
      later : (suc k ≤ v) × (v < suc k + l) × (has q v ≡ false) → (k ≤ v) × (v < k + suc l) × (has q v ≡ false)
      later r = (omega (arith, r.0), omega (arith, r.1), r.2)

      go :
          (Memᴰ v (free_from l (suc k)) → (suc k ≤ v) × (v < suc k + l) × (has q v ≡ false)) → (b : Bool) → has q k ≡ b →
          (k ≤ v) × (v < k + suc l) × (has q v ≡ false)
      go rest true h = later (rest (rw (free_paired l k h) at m))
      go rest false h =
          ⊎_elim (λ same. (omega (arith, same), omega (arith, same), ap (has q) same ∙ h)) (λ more. later (rest more))
          (Memᴰ.cases_cons (rw (free_unpaired l k h) at m))

  free_listed : (l k v : ℕ) → k ≤ v → v < k + l → has q v ≡ false → Memᴰ v (free_from l k)
  free_listed zero k v low high f = absurd (omega arith)
  free_listed (suc l) k v low high f = go (free_listed l (suc k) v) (ltb k v) refl (has q k) refl
    where
      go :
          (suc k ≤ v → v < suc k + l → has q v ≡ false → Memᴰ v (free_from l (suc k))) → (p : Bool) → ltb k v ≡ p → (b : Bool) → has q k ≡ b →
          Memᴰ v (free_from (suc l) k)
      go rest true p true h = rw (free_paired l k h) (rest (ltb-true k v p) (omega arith) f)
      go rest true p false h = rw (free_unpaired l k h) (Memᴰ.tail (rest (ltb-true k v p) (omega arith) f))
      go rest false p true h = let same : k ≡ v = omega (arith, ltb-false k v p) in both_ways (has q k) h (ap (has q) same ∙ f)
      go rest false p false h = let same : v ≡ k = omega (arith, ltb-false k v p) in rw (free_unpaired l k h) (Memᴰ.head same)

  -- ascending
  free_ascending : (l k : ℕ) → Ascending (free_from l k)
  unfolding free_from
  free_ascending zero k = tt
  free_ascending (suc l) k = go (free_ascending l (suc k)) (has q k) refl
    where
      go : Ascending (free_from l (suc k)) → (b : Bool) → has q k ≡ b → Ascending (free_from (suc l) k)
      go rest true h = rw (free_paired l k h) rest
      go rest false h = rw (free_unpaired l k h) (λ v m. (listed_free l (suc k) v m).0, rest)

  -- the i-th has i more below it than k
  free_follow : (l k i : ℕ) → i < length (free_from l k) → unpaired_below bytes (get_or (free_from l k) i 0) ≡ unpaired_below bytes k + i
  unfolding free_from
  free_follow zero k i h = absurd (omega arith)
  free_follow (suc l) k i h = go (free_follow l (suc k)) (has q k) refl
    where
      Follows : List ℕ → Type 0
      Follows r = (j : ℕ) → j < length r → unpaired_below bytes (get_or r j 0) ≡ unpaired_below bytes k + j

      next : (r : List ℕ) → ((j : ℕ) → j < length r → unpaired_below bytes (get_or r j 0) ≡ unpaired_below bytes (suc k) + j) → has q k ≡ false → (j : ℕ)
          → j < length (k ∷ r) → unpaired_below bytes (get_or (k ∷ r) j 0) ≡ unpaired_below bytes k + j
      next r rest f zero less = sym (add-zero _)
      next r rest f (suc j) less = omega (arith, rest j (omega arith), below_unpaired bytes k f)

      go :
          ((j : ℕ) → j < length (free_from l (suc k)) → unpaired_below bytes (get_or (free_from l (suc k)) j 0) ≡ unpaired_below bytes (suc k) + j) → (b : Bool) →
          has q k ≡ b → unpaired_below bytes (get_or (free_from (suc l) k) i 0) ≡ unpaired_below bytes k + i
      go rest true g =
          let less : i < length (free_from l (suc k)) = rw (free_paired l k g) at h in
          rw (free_paired l k g) (omega (arith, rest i less, below_paired bytes k g))
      go rest false g =
          let less : i < length (k ∷ free_from l (suc k)) = rw (free_unpaired l k g) at h in
          rw (free_unpaired l k g) (next (free_from l (suc k)) rest g i less)

  -- and there are as many as there are more below the end
  free_length : (l k : ℕ) → unpaired_below bytes (k + l) ≡ unpaired_below bytes k + length (free_from l k)
  unfolding free_from
  free_length zero k = rw add-zero (sym (add-zero _))
  free_length (suc l) k = go (free_length l (suc k)) (has q k) refl
    where
      go :
          unpaired_below bytes (suc k + l) ≡ unpaired_below bytes (suc k) + length (free_from l (suc k)) → (b : Bool) → has q k ≡ b →
          unpaired_below bytes (k + suc l) ≡ unpaired_below bytes k + length (free_from (suc l) k)
      go rest true h =
          let end : k + suc l ≡ suc k + l = omega arith in
          rw (end, free_paired l k h) (omega (arith, rest, below_paired bytes k h))
      go rest false h =
          let end : k + suc l ≡ suc k + l = omega arith in
          rw (end, free_unpaired l k h) (omega (arith, rest, below_unpaired bytes k h))

-- ---- the numbering

-- what stands at a number is a member
pub at_mem : (l : List ℕ) (i : ℕ) → i < length l → Memᴰ (get_or l i 0) l
at_mem [] i h = absurd (omega arith)
at_mem (a ∷ l) zero h = Memᴰ.head refl
at_mem (a ∷ l) (suc i) h = Memᴰ.tail (at_mem l i (omega arith))

module _ (n m : ℕ) (bytes : List ℕ) (e₀ : side_fault n 0 bytes (pair_count bytes) ≡ false) (e₁ : side_fault m 1 bytes (pair_count bytes) ≡ false) where
  pub numbered : Numbered n m bytes (n + (m - pair_count bytes)) (place n bytes)
  numbered =
      record {
        partner = λ i a b k p s.
            sym (pair_first bytes i a b p) ∙ place_partner n m bytes e₀ e₁ i k (pair_below bytes i a b p) (pair_second bytes i a b p ∙ s);
        unpaired = free_from bytes m 0;
        listed = λ k. (
          λ v.
              let r = listed_free bytes m 0 k v in (
                omega (arith, r.1),
                λ i a p.
                    both_ways (has (paired bytes) k)
                    (partner_paired n m bytes e₀ e₁ k _
                    (record { pair = i; below = pair_below bytes i a (suc k) p; second = pair_second bytes i a (suc k) p; first = refl }))
                    r.2,
              ),
          λ r.
              free_listed bytes m 0 k (omega arith) (omega (arith, r.0))
              (unpaired_free n m bytes e₀ e₁ k (λ i h s. r.1 i (option 0 bytes i) (subst (IsPair bytes i (option 0 bytes i)) s (is_pair bytes i h)))),
        );
        ascending = free_ascending bytes m 0;
        follow = λ i h.
            let v = get_or (free_from bytes m 0) i 0 in
            omega (arith, unpaired_place v (listed_free bytes m 0 v (at_mem (free_from bytes m 0) i h)).2, free_follow bytes m 0 i h, below_zero bytes);
        all = omega (arith, free_length bytes m 0, ap (unpaired_below bytes) (zero-add m), below_zero bytes, below_all n m bytes e₀ e₁);
      }
    where
      unpaired_place : (v : ℕ) → has (paired bytes) v ≡ false → place n bytes v ≡ n + unpaired_below bytes v
      unpaired_place v f =
          ⊎_elim (λ p. both_ways (has (paired bytes) v) (partner_paired n m bytes e₀ e₁ v _ p) f) (λ u. u.1) (place_cases n m bytes e₀ e₁ v)

-- ---- no other numbering

-- ascending lists with the same members are the same
same_lists :
    (l r : List ℕ) → Ascending l → Ascending r → ((v : ℕ) → Memᴰ v l → Memᴰ v r) → ((v : ℕ) → Memᴰ v r → Memᴰ v l) → l ≡ r
same_lists [] [] p q f g = refl
same_lists [] (b ∷ r) p q f g = absurd (Memᴰ.not-nil (g b (Memᴰ.head refl)))
same_lists (a ∷ l) [] p q f g = absurd (Memᴰ.not-nil (f a (Memᴰ.head refl)))
same_lists (a ∷ l) (b ∷ r) p q f g =
    let same : a ≡ b = first (Memᴰ.cases_cons (f a (Memᴰ.head refl))) (Memᴰ.cases_cons (g b (Memᴰ.head refl))) in
    ap₂ ◌∷◌ same
    (same_lists l r p.1 q.1
    (λ v m. ⊎_elim (λ e. absurd (omega (arith, e, same, p.0 v m))) (λ t. t) (Memᴰ.cases_cons (f v (Memᴰ.tail m))))
    (λ v m. ⊎_elim (λ e. absurd (omega (arith, e, same, q.0 v m))) (λ t. t) (Memᴰ.cases_cons (g v (Memᴰ.tail m)))))
  where
    first : (a ≡ b) ⊎ Memᴰ a r → (b ≡ a) ⊎ Memᴰ b l → a ≡ b
    first (inl e) y = e
    first (inr m) (inl e) = sym e
    first (inr m) (inr k) = absurd (omega (arith, q.0 a m, p.0 b k))

-- the number at which a member stands
place_of : (l : List ℕ) (v : ℕ) → Memᴰ v l → (i : ℕ) × (i < length l) × (get_or l i 0 ≡ v)
place_of [] v m = absurd (Memᴰ.not-nil m)
place_of (a ∷ l) v m =
    ⊎_elim (λ e. (0, omega arith, sym e)) (λ t. let i = place_of l v t in (suc i.0, omega (arith, i.1), i.2)) (Memᴰ.cases_cons m)

module _ (n m : ℕ) (bytes : List ℕ) (N N' : ℕ) (f g : ℕ → ℕ) (F : Numbered n m bytes N f) (G : Numbered n m bytes N' g) where
  same_unpaired : F.unpaired ≡ G.unpaired
  same_unpaired =
      same_lists F.unpaired G.unpaired F.ascending G.ascending (λ v r. (G.listed v).1 ((F.listed v).0 r))
      (λ v r. (F.listed v).1 ((G.listed v).0 r))

  -- an unpaired option stands at one number of the list
  same_follow : (k : ℕ) → k < m → NoPartner bytes (pair_count bytes) k → f k ≡ g k
  same_follow k h none =
      let i =
      place_of F.unpaired k ((F.listed k).1 (h, λ i a p. none i (pair_below bytes i a (suc k) p) (pair_second bytes i a (suc k) p)))
      in
      let there : get_or G.unpaired i.0 0 ≡ k = ap (λ l. get_or l i.0 0) (sym same_unpaired) ∙ i.2 in
      let less : i.0 < length G.unpaired = subst (λ l. i.0 < length l) same_unpaired i.1 in
      ap f (sym i.2) ∙ F.follow i.0 i.1 ∙ sym (G.follow i.0 less) ∙ ap g there

  same_place : (k : ℕ) → k < m → f k ≡ g k
  same_place k h =
      ⊎_elim
      (λ p.
      let pair = is_pair bytes p.pair p.below in
      omega (arith, F.partner p.pair _ _ k pair p.second, G.partner p.pair _ _ k pair p.second))
      (λ u. same_follow k h u.0)
      (partner_cases 0 bytes (pair_count bytes) k)

pub one_numbering : OneNumbering
one_numbering n m bytes N N' f g F G =
    (omega (arith, F.all, G.all, ap length (same_unpaired n m bytes N N' f g F G)), same_place n m bytes N N' f g F G)
