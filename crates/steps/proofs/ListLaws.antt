-- What looking through a list tells of its elements: an element that is found is there and passes the test, and where none is found none passes.
-- Each law is an induction on the list, by the test at its head.
use mathlib.Core.Path.{◌≡◌, refl, sym, ap, ◌∙◌}
use mathlib.Core.Bool.{Bool, true, false, ◌||◌, true≢false, false≢true}
use mathlib.Core.List.Memᴰ
use mathlib.Core.List.{List, [], ◌∷◌, ◌++◌, Memᴰ}
use mathlib.Core.Logic.{⊎_elim}
use mathlib.Core.Option.{Option, some, none}
use Rattle.words.proofs.Truth.{both_ways, clash, confirmed}
use Rattle.steps.specs.Lists.{find, any, filter}

-- what `find` finds is in the list and passes the test
pub find_some : {A : Type 0} (p : A → Bool) (xs : List A) (x : A) → find p xs ≡ some x → Memᴰ x xs × (p x ≡ true)
find_some p [] x h = clash cc
find_some {A} p (y ∷ ys) x h = go (p y) refl (find_some p ys x)
  where
    go : (b : Bool) → p y ≡ b → (find p ys ≡ some x → Memᴰ x ys × (p x ≡ true)) → Memᴰ x (y ∷ ys) × (p x ≡ true)
    go true e f =
        let same : some y ≡ some x = rw (e, find) at h in
        let is : x ≡ y = cc in
        (Memᴰ.head is, ap p is ∙ e)
    go false e f =
        let r = f (rw (e, find) at h) in
        (Memᴰ.tail r.0, r.1)

-- where nothing is found, no element passes the test
pub find_none : {A : Type 0} (p : A → Bool) (l : List A) → find p l ≡ none → (a : A) → Memᴰ a l → p a ≡ false
find_none p [] e a m = elim m [ ]
find_none {A} p (x ∷ xs) e a m = go (p x) refl e (find_none p xs) m
  where
    go : (t : Bool) → p x ≡ t → ◌≡◌ {A = Option A} (elim t [ true ↦ some x | false ↦ find p xs ]) none
        → (find p xs ≡ none → (b : A) → Memᴰ b xs → p b ≡ false) → Memᴰ a (x ∷ xs) → p a ≡ false
    go true t e below m = clash cc
    go false t e below (Memᴰ.head h) = ap p h ∙ t
    go false t e below (Memᴰ.tail m) = below e a m

-- the first that passes is found
pub find_first :
    {A : Type 0} (p : A → Bool) (before after : List A) (x : A) → p x ≡ true → ((y : A) → Memᴰ y before → p y ≡ false) →
    find p (before ++ (x ∷ after)) ≡ some x
find_first p [] after x h f = rw (h, find) refl
find_first p (y ∷ before) after x h f = rw (f y (Memᴰ.head refl), find) (find_first p before after x h (λ z m. f z (Memᴰ.tail m)))

-- nothing is found where none passes
pub none_found : {A : Type 0} (p : A → Bool) (t : List A) → ((y : A) → Memᴰ y t → p y ≡ false) → find p t ≡ none
none_found p [] f = refl
none_found p (y ∷ t) f = rw (f y (Memᴰ.head refl), find) (none_found p t (λ z m. f z (Memᴰ.tail m)))

-- two tests that say the same of every element find the same
pub find_same : {A : Type 0} (p q : A → Bool) (t : List A) → ((y : A) → Memᴰ y t → p y ≡ q y) → find p t ≡ find q t
find_same p q [] f = refl
find_same {A} p q (y ∷ t) f = go (q y) refl (find_same p q t (λ z m. f z (Memᴰ.tail m)))
  where
    go : (b : Bool) → q y ≡ b → find p t ≡ find q t → find p (y ∷ t) ≡ find q (y ∷ t)
    go true e below = rw (f y (Memᴰ.head refl), e, find) refl
    go false e below = rw (f y (Memᴰ.head refl), e, find) below

-- some element passes
pub any_true : {A : Type 0} (p : A → Bool) (l : List A) → any p l ≡ true → (a : A) × Memᴰ a l × (p a ≡ true)
any_true p [] e = absurd (false≢true e)
any_true {A} p (x ∷ xs) e = go (p x) refl e (any_true p xs)
  where
    go : (t : Bool) → p x ≡ t → (t || any p xs) ≡ true → (any p xs ≡ true → (a : A) × Memᴰ a xs × (p a ≡ true))
        → (a : A) × Memᴰ a (x ∷ xs) × (p a ≡ true)
    go true t e below = (x, Memᴰ.head refl, t)
    go false t e below = let m = below e in (m.0, Memᴰ.tail m.1, m.2)

-- none passes
pub any_false : {A : Type 0} (p : A → Bool) (l : List A) → any p l ≡ false → (a : A) → Memᴰ a l → p a ≡ false
any_false p [] e a m = elim m [ ]
any_false {A} p (x ∷ xs) e a m = go (p x) refl e (any_false p xs) m
  where
    go : (t : Bool) → p x ≡ t → (t || any p xs) ≡ false → (any p xs ≡ false → (b : A) → Memᴰ b xs → p b ≡ false)
        → Memᴰ a (x ∷ xs) → p a ≡ false
    go true t e below m = absurd (true≢false e)
    go false t e below (Memᴰ.head h) = ap p h ∙ t
    go false t e below (Memᴰ.tail m) = below e a m

-- where an element passes, some does
pub any_intro : {A : Type 0} (p : A → Bool) (l : List A) (a : A) → Memᴰ a l → p a ≡ true → any p l ≡ true
any_intro p l a m h = confirmed (any p l) (λ e. both_ways (p a) h (any_false p l e a m))

-- an element that passes stays
pub in_filter : {A : Type 0} (p : A → Bool) (l : List A) (a : A) → Memᴰ a l → p a ≡ true → Memᴰ a (filter p l)
in_filter p [] a m h = elim m [ ]
in_filter {A} p (x ∷ xs) a m h = go (p x) refl m (λ m. in_filter p xs a m h)
  where
    go : (t : Bool) → p x ≡ t → Memᴰ a (x ∷ xs) → (Memᴰ a xs → Memᴰ a (filter p xs))
        → Memᴰ a (elim t [ true ↦ x ∷ filter p xs | false ↦ filter p xs ])
    go true t (Memᴰ.head e) below = Memᴰ.head e
    go true t (Memᴰ.tail m) below = Memᴰ.tail (below m)
    go false t (Memᴰ.head e) below = absurd (true≢false (sym h ∙ ap p e ∙ t))
    go false t (Memᴰ.tail m) below = below m

-- what `filter` leaves was in the list and passes the test
pub filter_member : {A : Type 0} (p : A → Bool) (xs : List A) (x : A) → Memᴰ x (filter p xs) → Memᴰ x xs × (p x ≡ true)
filter_member p [] x m = absurd (Memᴰ.not-nil m)
filter_member p (y ∷ ys) x m = go (p y) refl (filter_member p ys x)
  where
    go : (b : Bool) → p y ≡ b → (Memᴰ x (filter p ys) → Memᴰ x ys × (p x ≡ true)) → Memᴰ x (y ∷ ys) × (p x ≡ true)
    go true e f =
        ⊎_elim (λ is. (Memᴰ.head is, ap p is ∙ e)) (λ m'. (Memᴰ.tail (f m').0, (f m').1)) (Memᴰ.cases_cons (rw (e, filter) at m))
    go false e f =
        let r = f (rw (e, filter) at m) in
        (Memᴰ.tail r.0, r.1)
