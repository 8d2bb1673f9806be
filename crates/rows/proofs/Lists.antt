-- Lists that are read off a table: `from f i k` is the k values of f from i on. A loop that looks for a value knows that none below its index passes
-- the test (`NoneBelow`), so the look through the whole table is the look through the rest from there on. A value more at the end is kept or dropped
-- by the test.
use mathlib.Core.Path.{◌≡◌, refl, sym, ap, ap₂, ◌∙◌}
use mathlib.Core.Logic.{◌≢◌}
use mathlib.Core.Bool.{Bool, true, false}
use mathlib.Core.List.{List, [], ◌∷◌, ◌++◌, append-nil, Memᴰ}
use mathlib.Core.Option.{some, none}
use Prim.Native.Nat.{ℕ, zero, suc, ◌+◌, ◌-◌, ◌≤◌, ◌<◌}
use native.Mathlib.Nat.{add-zero, zero-add, sub-zero}
use native.Mathlib.Numerals.{add-one}
use native.Mathlib.Omega.{arith}
use lib.Dec.{eqb}
use lib.ListN.{length, drop}
use borrow.Author.Tests.{eqb-true, eqb-false}
use Rattle.steps.specs.Lists.{find, any, filter}
use Rattle.rows.specs.Rows.{from}

module _ {A : Type 0} where
  -- the rest from i on, where there is one
  pub from_step : (f : ℕ → A) (i m : ℕ) → i < m → from f i (m - i) ≡ f i ∷ from f (i + 1) (m - (i + 1))
  from_step f i m h =
      let e : m - i ≡ suc (m - (i + 1)) = omega arith in
      rw (e, add-one i) refl

  -- nothing is left
  pub from_end : (f : ℕ → A) (i m : ℕ) → m ≤ i → from f i (m - i) ≡ []
  from_end f i m h = let e : m - i ≡ 0 = omega arith in rw e refl

  -- k values
  pub from_length : (f : ℕ → A) (i k : ℕ) → length (from f i k) ≡ k
  from_length f i zero = refl
  from_length f i (suc k) = ap suc (from_length f (suc i) k)

  -- each of them is among them
  pub from_has : (f : ℕ → A) (i k j : ℕ) → i ≤ j → j < i + k → Memᴰ (f j) (from f i k)
  from_has f i zero j h l = absurd (omega arith)
  from_has f i (suc k) j h l = go (λ other. from_has f (suc i) k j (omega arith) (omega arith)) (eqb i j) refl
    where
      go : (i ≢ j → Memᴰ (f j) (from f (suc i) k)) → (b : Bool) → eqb i j ≡ b → Memᴰ (f j) (from f i (suc k))
      go later true e = Memᴰ.head (ap f (sym (eqb-true i j e)))
      go later false e = Memᴰ.tail (later (eqb-false i j e))

  -- one more at the end
  pub from_snoc : (f : ℕ → A) (i k : ℕ) → from f i (suc k) ≡ from f i k ++ (f (i + k) ∷ [])
  from_snoc f i zero = rw add-zero refl
  from_snoc f i (suc k) =
      ap (λ (l : List A). f i ∷ l) (from_snoc f (suc i) k ∙ ap (λ (j : ℕ). from f (suc i) k ++ (f j ∷ [])) (omega arith))

  -- one more at the end, of those from the first on
  pub from_next : (f : ℕ → A) (k : ℕ) → from f 0 (k + 1) ≡ from f 0 k ++ (f k ∷ [])
  from_next f k = rw (add-one k) (rw (zero-add k) at (from_snoc f 0 k))

  -- what is left without the first m
  pub drop_from : (f : ℕ → A) (m i k : ℕ) → drop m (from f i k) ≡ from f (i + m) (k - m)
  drop_from f zero i k = sym (rw (add-zero i, sub-zero k) refl)
  drop_from f (suc m) i zero = sym (let e : 0 - suc m ≡ 0 = omega arith in rw e refl)
  drop_from f (suc m) i (suc k) =
      let e : suc i + m ≡ i + suc m = omega arith in
      let d : k - m ≡ suc k - suc m = omega arith in
      drop_from f m (suc i) k ∙ ap (λ (j : ℕ). from f j (k - m)) e ∙ ap (λ (n : ℕ). from f (i + suc m) n) d

  -- only the values in reach count
  pub from_same : (f g : ℕ → A) (i k : ℕ) → ((j : ℕ) → i ≤ j → j < i + k → f j ≡ g j) → from f i k ≡ from g i k
  from_same f g i zero h = refl
  from_same f g i (suc k) h =
      ap₂ (λ (x : A) (l : List A). x ∷ l) (h i (omega arith) (omega arith)) (from_same f g (suc i) k (λ j a b. h j (omega arith) (omega arith)))

  -- of m values none below i passes the test
  abbrev pub NoneBelow : (A → Bool) → (ℕ → A) → ℕ → ℕ → Type 0
  NoneBelow p f m i = (k : ℕ) → k < i → k < m → p (f k) ≡ false

  module _ (p : A → Bool) where
    -- what fails the test is passed over
    find_next : (x : A) (xs : List A) → p x ≡ false → find p (x ∷ xs) ≡ find p xs
    find_next x xs h = rw (h, find)

    any_next : (x : A) (xs : List A) → p x ≡ false → any p (x ∷ xs) ≡ any p xs
    any_next x xs h = rw h

    -- a look through the values that goes past each one that fails the test has, with all below i passed, the rest from i on to go through
    passed : {B : Type 0} (look : List A → B) (f : ℕ → A) (i m : ℕ)
        → ((x : A) (xs : List A) → p x ≡ false → look (x ∷ xs) ≡ look xs)
        → i ≤ m
        → NoneBelow p f m i
        → look (from f 0 m) ≡ look (from f i (m - i))
    passed look f zero m next h all = rw sub-zero
    passed look f (suc i) m next h all =
        passed look f i m next (omega arith) (λ k l b. all k (omega arith) b)
        ∙ rw (from_step, add-one i) (next (f i) _ (all i (omega arith) (omega arith)))

    -- with all below i failing, the one at i is the first that passes
    pub find_at : (f : ℕ → A) (i m : ℕ) → i < m → NoneBelow p f m i → p (f i) ≡ true → find p (from f 0 m) ≡ some (f i)
    find_at f i m h all here = passed (find p) f i m find_next (omega arith) all ∙ rw (from_step f i m h, here, find)

    -- with all failing, none is found
    pub find_none : (f : ℕ → A) (i m : ℕ) → m ≤ i → NoneBelow p f m i → find p (from f 0 m) ≡ none
    find_none f i m h all = passed (find p) f m m find_next (omega arith) (λ k l b. all k (omega arith) b) ∙ ap (find p) (from_end f m m (omega arith))

    -- the one at i passes
    pub any_at : (f : ℕ → A) (i m : ℕ) → i < m → NoneBelow p f m i → p (f i) ≡ true → any p (from f 0 m) ≡ true
    any_at f i m h all here = passed (any p) f i m any_next (omega arith) all ∙ rw (from_step f i m h, here)

    -- all fail
    pub any_none : (f : ℕ → A) (i m : ℕ) → m ≤ i → NoneBelow p f m i → any p (from f 0 m) ≡ false
    any_none f i m h all = passed (any p) f m m any_next (omega arith) (λ k l b. all k (omega arith) b) ∙ ap (any p) (from_end f m m (omega arith))

    -- what passes is kept of both parts
    filter_append : (xs ys : List A) → filter p (xs ++ ys) ≡ filter p xs ++ filter p ys
    filter_append [] ys = refl
    filter_append (x ∷ xs) ys = go (p x) refl (filter_append xs ys)
      where
        go : (b : Bool) → p x ≡ b → filter p (xs ++ ys) ≡ filter p xs ++ filter p ys → filter p (x ∷ (xs ++ ys)) ≡ filter p (x ∷ xs) ++ filter p ys
        go true e ih = rw (e, filter) (ap (λ (l : List A). x ∷ l) ih)
        go false e ih = rw (e, filter) ih

    -- one more at the end that passes
    pub filter_keep : (xs : List A) (x : A) → p x ≡ true → filter p (xs ++ (x ∷ [])) ≡ filter p xs ++ (x ∷ [])
    filter_keep xs x h = filter_append xs (x ∷ []) ∙ rw (h, filter)

    -- one more at the end that fails
    pub filter_drop : (xs : List A) (x : A) → p x ≡ false → filter p (xs ++ (x ∷ [])) ≡ filter p xs
    filter_drop xs x h = filter_append xs (x ∷ []) ∙ rw (h, filter) (append-nil _)
