-- Lists of D-sequents whose sets grow. Each set of a growing list is within the last one. A list stays growing with a larger set at its end, and
-- with some of its D-sequents left out, since what is before a gap is within what is after it.
use mathlib.Core.Path.{◌≡◌, refl}
use mathlib.Core.Logic.{◌≢◌, ⊎_elim}
use mathlib.Core.Bool.{Bool, true, false}
use mathlib.Core.List.Memᴰ
use mathlib.Core.List.{List, [], ◌∷◌, ◌++◌, Memᴰ}
use Prim.Native.Nat.{ℕ}
use Rattle.words.specs.Words.{Within}
use Rattle.words.proofs.Sets.{within_antisym}
use Rattle.steps.specs.Lists.{filter}
use Rattle.steps.specs.Clause.{DSequent, last_or}
use Rattle.steps.specs.Shape.{Growing}

-- the last of a list with one more at the end is that one
pub last_append : (d x : DSequent) (rs : List DSequent) → last_or d (rs ++ (x ∷ [])) ≡ x
last_append d x [] = refl
last_append d x (r ∷ rs) = last_append r x rs

-- what holds of each of a list, and of what the empty list stands for, holds of its last
pub last_has : (P : DSequent → Type 0) (d : DSequent) (rs : List DSequent) → P d → ((x : DSequent) → Memᴰ x rs → P x) → P (last_or d rs)
last_has P d [] h f = h
last_has P d (r ∷ rs) h f = last_has P r rs (f r (Memᴰ.head refl)) (λ x m. f x (Memᴰ.tail m))

-- one more at the end, with a larger set
pub growing_append :
    (d x : DSequent) (rs : List DSequent) → Growing d.redundant rs → Within (last_or d rs).redundant x.redundant →
    (last_or d rs).redundant ≢ x.redundant → Growing d.redundant (rs ++ (x ∷ []))
growing_append d x [] g w n = (w, n, tt)
growing_append d x (r ∷ rs) g w n = (g.0, g.1, growing_append r x rs g.2 w n)

-- the set that a list grows from is within the last
pub growing_last : (d : DSequent) (rs : List DSequent) → Growing d.redundant rs → Within d.redundant (last_or d rs).redundant
growing_last d [] g k h = h
growing_last d (r ∷ rs) g k h = growing_last r rs g.2 k (g.0 k h)

-- each set is within the last
pub growing_member :
    (d x : DSequent) (rs : List DSequent) → Growing d.redundant rs → Memᴰ x rs → Within x.redundant (last_or d rs).redundant
growing_member d x [] g m = absurd (Memᴰ.not-nil m)
growing_member d x (r ∷ rs) g m =
    ⊎_elim (λ e. rw e (growing_last r rs g.2)) (λ m'. growing_member r x rs g.2 m') (Memᴰ.cases_cons m)

-- a list that grows from a set grows from each set within it
pub growing_from : (k j : ℕ) (rs : List DSequent) → Within k j → Growing j rs → Growing k rs
growing_from k j [] w g = tt
growing_from k j (d ∷ ds) w g =
    (λ i h. g.0 i (w i h), λ e. g.1 (within_antisym j d.redundant g.0 (λ i h. w i (rw e h))), g.2)

-- some left out
pub growing_filter : (p : DSequent → Bool) (k : ℕ) (rs : List DSequent) → Growing k rs → Growing k (filter p rs)
growing_filter p k [] g = tt
growing_filter p k (d ∷ ds) g = go (p d) refl (growing_filter p d.redundant ds g.2)
  where
    go : (b : Bool) → p d ≡ b → Growing d.redundant (filter p ds) → Growing k (filter p (d ∷ ds))
    go true e h = rw (e, filter) (g.0, g.1, h)
    go false e h = rw (e, filter) (growing_from k d.redundant (filter p ds) g.0 h)
