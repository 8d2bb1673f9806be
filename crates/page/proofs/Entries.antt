-- The entries of a rule. An entry of the list from variable v on is of an option there, with the sign of its word, and every option that a word has is in the list. So the options
-- ascend, and there are as many entries as the two words have members.
use mathlib.Core.Path.{◌≡◌, refl, sym, ap, ap₂, ◌∙◌, subst}
use mathlib.Core.Bool.{Bool, true, false, ◌||◌, true≢false}
use mathlib.Core.List.Memᴰ
use mathlib.Core.List.{◌++◌, map, Memᴰ}
use mathlib.Core.Logic.{⊎_elim}
use Prim.Native.Nat.{ℕ, zero, suc, ◌+◌, ◌/◌, ◌%◌, ◌^◌, ◌≤◌, ◌<◌}
use native.Mathlib.Nat.{div-one}
use native.Mathlib.Decide.{dec_lt}
use native.Mathlib.Omega.{arith}
use lib.Count.{ones, ones_step}
use lib.ListN.{length, length-append}
use lib.Pow.{shr-shr, shr_lt}
use lib.Arith.{lt-one}
use borrow.Author.Tests.{ltb-true}
use Rattle.words.specs.Words.{digit, has}
use Rattle.words.specs.Demands.{Ascending}
use Rattle.words.proofs.Truth.{both_ways, refuted}
use Rattle.words.proofs.Count.{ones_zero}
use Rattle.words.proofs.Membership.{lowest_digit, has_or, has_first_vars}
use Rattle.words.proofs.Sets.{meets_false, or_within_l, or_within_r}
use Rattle.steps.specs.Clause.{Clause, vars}
use Rattle.steps.specs.Shape.{Proper}
use Rattle.book.specs.Limits.{max_vars}
use Rattle.page.specs.Entries.{Entry, entry_at, entries_from, entries}
use Rattle.page.specs.Demands.{EntriesOf}

-- the entry e is of the variable j, with the sign that the words give it
record At (c : Clause) (j : ℕ) (e : Entry) : Type 0 where
  option : e.option ≡ suc j
  fitted : e.fitted ≡ has c.pos j
  named : has c.pos j ≡ false → has c.neg j ≡ true

-- the entry of one variable
at_one : (v : ℕ) (p q : Bool) (e : Entry) → Memᴰ e (entry_at v p q) → (e.option ≡ suc v) × (e.fitted ≡ p) × (p ≡ false → q ≡ true)
at_one v true q e m = let is = Memᴰ.eq_of_singleton m in (ap (λ (x : Entry). x.option) is, ap (λ (x : Entry). x.fitted) is, λ h. absurd (true≢false h))
at_one v false true e m = let is = Memᴰ.eq_of_singleton m in (ap (λ (x : Entry). x.option) is, ap (λ (x : Entry). x.fitted) is, λ h. refl)
at_one v false false e m = absurd (Memᴰ.not-nil m)

one_at : (v : ℕ) (p q : Bool) → (p ≡ false → q ≡ true) → Memᴰ (record { option = suc v; fitted = p }) (entry_at v p q)
one_at v true q h = Memᴰ.head refl
one_at v false true h = Memᴰ.head refl
one_at v false false h = absurd (true≢false (sym (h refl)))

one_few : (v : ℕ) (p q : Bool) → length (entry_at v p q) ≡ digit (p || q)
one_few v true q = refl
one_few v false true = refl
one_few v false false = refl

module _ (c : Clause) where
  -- an entry of the list
  listed : (k v : ℕ) (e : Entry) → Memᴰ e (entries_from k v c) → (j : ℕ) × At c j e × (v ≤ j) × (j < v + k)
  unfolding entries_from
  listed zero v e m = absurd (Memᴰ.not-nil m)
  listed (suc k) v e m =
      ⊎_elim
      (λ first. let is = at_one v (has c.pos v) (has c.neg v) e first in (v, record { option = is.0; fitted = is.1; named = is.2 }, omega arith, omega arith))
      (λ later. let is = listed k (suc v) e later in (is.0, is.1, omega (arith, is.2), omega (arith, is.3)))
      (Memᴰ.append_cases (entry_at v (has c.pos v) (has c.neg v)) m)

  -- an option that a word has
  is_listed : (k v j : ℕ) → (has c.pos j ≡ false → has c.neg j ≡ true) → v ≤ j → j < v + k → Memᴰ (record { option = suc j; fitted = has c.pos j }) (entries_from k v c)
  unfolding entries_from
  is_listed zero v j h l g = absurd (omega arith)
  is_listed (suc k) v j h l g = elim (dec_lt v j) [
    | yes later ↦ Memᴰ.append_right (entry_at v (has c.pos v) (has c.neg v)) (is_listed k (suc v) j h (omega arith) (omega arith))
    | no not-later ↦
        let here : j ≡ v = omega arith in
        rw here (Memᴰ.append_left (entries_from k (suc v) c) (one_at v (has c.pos v) (has c.neg v) (rw here at h)))
  ]

  -- the options ascend
  ascend : (k v : ℕ) → Ascending (map (λ (e : Entry). e.option) (entries_from k v c))
  unfolding entries_from
  ascend zero v = tt
  ascend (suc k) v = go (has c.pos v) (has c.neg v) (ascend k (suc v))
    where
      above : (w : ℕ) → Memᴰ w (map (λ (e : Entry). e.option) (entries_from k (suc v) c)) → suc v < w
      above w m =
          let from = Memᴰ.of_map (λ (e : Entry). e.option) (entries_from k (suc v) c) m in
          let is = listed k (suc v) from.0 from.1 in
          omega (arith, from.2, is.1.option, is.2)

      go : (p q : Bool) → Ascending (map (λ (e : Entry). e.option) (entries_from k (suc v) c)) → Ascending (map (λ (e : Entry). e.option) (entry_at v p q ++ entries_from k (suc v) c))
      go true q below = (above, below)
      go false true below = (above, below)
      go false false below = below

  -- how many they are
  pub entries_few : (k v : ℕ) → length (entries_from k v c) ≤ k
  unfolding entries_from
  entries_few zero v = omega arith
  entries_few (suc k) v = go (has c.pos v) (has c.neg v) (entries_few k (suc v))
    where
      go : (p q : Bool) → length (entries_from k (suc v) c) ≤ k → length (entry_at v p q ++ entries_from k (suc v) c) ≤ suc k
      go true q h = omega (arith, h)
      go false true h = omega (arith, h)
      go false false h = omega (arith, h)

  -- as many as the words have members from v on
  counted_from : (k v : ℕ) → vars c < 2 ^ (v + k) → length (entries_from k v c) ≡ ones (vars c / 2 ^ v)
  unfolding entries_from has vars
  counted_from zero v h = sym (ap ones (lt-one (shr_lt 0 v (subst (λ (i : ℕ). vars c < 2 ^ i) (omega arith) h))) ∙ ones_zero)
  counted_from (suc k) v h =
      let x = vars c / 2 ^ v in
      let one : length (entry_at v (has c.pos v) (has c.neg v)) ≡ x % 2 = one_few v (has c.pos v) (has c.neg v) ∙ ap digit (sym (has_or c.pos c.neg v)) ∙ sym (lowest_digit x) in
      let half : vars c / 2 ^ suc v ≡ x / 2 = ap (λ (i : ℕ). vars c / 2 ^ i) (omega arith) ∙ sym (shr-shr (vars c) v 1) in
      length-append (entry_at v (has c.pos v) (has c.neg v)) (entries_from k (suc v) c)
      ∙ ap₂ (λ (i j : ℕ). i + j) one (counted_from k (suc v) (subst (λ (i : ℕ). vars c < 2 ^ i) (omega arith) h) ∙ ap ones half)
      ∙ sym (ones_step x)

  -- those of the first k variables, where there are no others
  pub entries_counted : (k : ℕ) → vars c < 2 ^ k → length (entries_from k 0 c) ≡ ones (vars c)
  entries_counted k h = counted_from k 0 (subst (λ (i : ℕ). vars c < 2 ^ i) (omega arith) h) ∙ ap ones (div-one (vars c))

-- a rule has the first 64 options and none else, and none in both words
pub entries_of : (c : Clause) → Proper max_vars c → EntriesOf c (entries c)
unfolding vars
entries_of c proper =
    record {
      fitted = λ k. (
        λ m.
            let is = listed c max_vars 0 _ m in
            let same : is.0 ≡ k = omega (arith, is.1.option) in
            sym (is.1.fitted ∙ ap (has c.pos) same),
        λ h.
            let there = is_listed c max_vars 0 k (λ out. both_ways (has c.pos k) h out) (omega arith) (below k (or_within_l c.pos c.neg k h)) in
            subst (λ (b : Bool). Memᴰ (record { option = suc k; fitted = b }) (entries c)) h there,
      );
      left_out = λ k. (
        λ m.
            let is = listed c max_vars 0 _ m in
            let same : is.0 ≡ k = omega (arith, is.1.option) in
            ap (has c.neg) (sym same) ∙ is.1.named (sym is.1.fitted),
        λ h.
            let out = refuted (has c.pos k) (λ t. both_ways (has c.neg k) h (meets_false c.pos c.neg proper.consistent k t)) in
            let there = is_listed c max_vars 0 k (λ f. h) (omega arith) (below k (or_within_r c.pos c.neg k h)) in
            subst (λ (b : Bool). Memᴰ (record { option = suc k; fitted = b }) (entries c)) out there,
      );
      ascending = ascend c max_vars 0;
      options = λ e m. let is = listed c max_vars 0 e m in (omega (arith, is.1.option), omega (arith, is.1.option, is.3));
    }
  where
    below : (k : ℕ) → has (vars c) k ≡ true → k < max_vars
    below k h = ltb-true k max_vars (sym (has_first_vars max_vars k) ∙ proper.named k h)
