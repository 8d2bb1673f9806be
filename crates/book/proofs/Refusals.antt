-- The first row that holds. A row that holds is the first, one that does not is passed over, and so are rows of which none holds. Where each row
-- decides its condition, the first row that holds is at the first condition that does: by the rows, one at a time, whether the first holds or not.
use mathlib.Core.Path.{◌≡◌, refl, sym, subst, ◌∙◌}
use mathlib.Core.Bool.{Bool, true, false}
use mathlib.Core.List.{List, [], ◌∷◌, ◌++◌}
use mathlib.Core.Logic.{◌⊎◌, ◌↔◌, inl, inr, ⊎_elim}
use mathlib.Core.Option.{some, none}
use Prim.Native.Nat.{ℕ, ◌≤◌}
use native.Mathlib.Omega.{arith}
use Rattle.words.proofs.Truth.{both_ways, clash, refuted}
use Rattle.steps.specs.Clause.{Clause}
use Rattle.book.specs.Bytes.{vars_in, rules_in}
use Rattle.book.specs.Refusals.{Row, first_row}
use Rattle.book.specs.Conditions.{Condition, First, NoRow, Decides, rule_conditions, book_conditions}

-- no row, none that holds
pub first_none : first_row [] ≡ none
unfolding first_row
first_none = refl

module _ (r : Row) (rs : List Row) where
  -- a row that holds is the first
  pub first_here : r.holds ≡ true → first_row (r ∷ rs) ≡ some r.number
  unfolding first_row
  first_here h = rw (h, first_row)

  -- one that does not is passed over
  pub first_later : r.holds ≡ false → first_row (r ∷ rs) ≡ first_row rs
  unfolding first_row
  first_later h = rw (h, first_row)

  -- where no row holds, the first does not, nor do those after it
  pub none_here : first_row (r ∷ rs) ≡ none → r.holds ≡ false
  none_here e = refuted r.holds (λ h. let f = first_here h in clash cc)

  pub none_later : first_row (r ∷ rs) ≡ none → first_row rs ≡ none
  none_later e = sym (first_later (none_here e)) ∙ e

-- a row that is found among the first rows is the one
pub first_among : (rs ss : List Row) (k : ℕ) → first_row rs ≡ some k → first_row (rs ++ ss) ≡ some k
first_among [] ss k e = clash (cc first_none)
first_among (r ∷ rs) ss k e = go (first_among rs ss k) r.holds refl
  where
    go : (first_row rs ≡ some k → first_row (rs ++ ss) ≡ some k) → (b : Bool) → r.holds ≡ b → first_row (r ∷ rs ++ ss) ≡ some k
    go rest true h = first_here r (rs ++ ss) h ∙ sym (first_here r rs h) ∙ e
    go rest false h = first_later r (rs ++ ss) h ∙ rest (sym (first_later r rs h) ∙ e)

-- and where none of them holds, the others decide
pub first_after : (rs ss : List Row) → first_row rs ≡ none → first_row (rs ++ ss) ≡ first_row ss
first_after [] ss e = refl
first_after (r ∷ rs) ss e = first_later r (rs ++ ss) (none_here r rs e) ∙ first_after rs ss (none_later r rs e)

-- where no row holds, none of the first ones does
pub none_among : (rs ss : List Row) → first_row (rs ++ ss) ≡ none → first_row rs ≡ none
none_among [] ss e = first_none
none_among (r ∷ rs) ss e =
    first_later r rs (none_here r (rs ++ ss) e) ∙ none_among rs ss (none_later r (rs ++ ss) e)

-- ---- rows and conditions

-- two tables, one after the other
pub decides_append :
    (rs ss : List Row) (cs bs : List Condition) → Decides rs cs → Decides ss bs → Decides (rs ++ ss) (cs ++ bs)
decides_append [] ss [] bs d e = e
decides_append [] ss (a ∷ cs) bs d e = absurd d
decides_append (r ∷ rs) ss [] bs d e = absurd d
decides_append (r ∷ rs) ss (a ∷ cs) bs d e = (d.0, d.1, decides_append rs ss cs bs d.2 e)

-- what is found is the first
found_first : (rs : List Row) (cs : List Condition) (k : ℕ) → Decides rs cs → first_row rs ≡ some k → First cs k
found_first [] [] k d e = clash (cc first_none)
found_first [] (a ∷ cs) k d e = absurd d
found_first (r ∷ rs) [] k d e = absurd d
found_first (r ∷ rs) (a ∷ cs) k d e = go (found_first rs cs k d.2) r.holds refl
  where
    go : (first_row rs ≡ some k → First cs k) → (b : Bool) → r.holds ≡ b → First (a ∷ cs) k
    go rest true h = let f = first_here r rs h in inl (d.1.0 h, cc d.0)
    go rest false h = inr (λ x. both_ways r.holds (d.1.1 x) h, rest (sym (first_later r rs h) ∙ e))

-- and the first is found
first_found : (rs : List Row) (cs : List Condition) (k : ℕ) → Decides rs cs → First cs k → first_row rs ≡ some k
first_found [] [] k d f = absurd f
first_found [] (a ∷ cs) k d f = absurd d
first_found (r ∷ rs) [] k d f = absurd d
first_found (r ∷ rs) (a ∷ cs) k d f =
    ⊎_elim
    (λ h. let e = first_here r rs (d.1.1 h.0) in cc (d.0, h.1))
    (λ h. first_later r rs (refuted r.holds (λ t. h.0 (d.1.0 t))) ∙ first_found rs cs k d.2 h.1)
    f

pub first_iff : (rs : List Row) (cs : List Condition) (k : ℕ) → Decides rs cs → (first_row rs ≡ some k) ↔ First cs k
first_iff rs cs k d = (found_first rs cs k d, first_found rs cs k d)

-- nothing is found where no condition holds, and only there
none_holds : (rs : List Row) (cs : List Condition) → Decides rs cs → first_row rs ≡ none → NoRow cs
none_holds [] [] d e = tt
none_holds [] (a ∷ cs) d e = absurd d
none_holds (r ∷ rs) [] d e = absurd d
none_holds (r ∷ rs) (a ∷ cs) d e =
    (λ x. both_ways r.holds (d.1.1 x) (none_here r rs e), none_holds rs cs d.2 (none_later r rs e))

none_found : (rs : List Row) (cs : List Condition) → Decides rs cs → NoRow cs → first_row rs ≡ none
none_found [] [] d h = first_none
none_found [] (a ∷ cs) d h = absurd d
none_found (r ∷ rs) [] d h = absurd d
none_found (r ∷ rs) (a ∷ cs) d h =
    first_later r rs (refuted r.holds (λ t. h.0 (d.1.0 t))) ∙ none_found rs cs d.2 h.1

pub none_iff : (rs : List Row) (cs : List Condition) → Decides rs cs → (first_row rs ≡ none) ↔ NoRow cs
none_iff rs cs d = (none_holds rs cs d, none_found rs cs d)

-- ---- two lists of conditions

-- the first condition of two lists is in one of them
pub first_split : (cs ds : List Condition) (k : ℕ) → First (cs ++ ds) k → First cs k ⊎ First ds k
first_split [] ds k f = inr f
first_split (a ∷ cs) ds k (inl here) = inl (inl here)
first_split (a ∷ cs) ds k (inr later) = ⊎_elim (λ f. inl (inr (later.0, f))) (λ f. inr f) (first_split cs ds k later.1)

-- the first condition of a list is the first of a longer one
pub first_front : (cs ds : List Condition) (k : ℕ) → First cs k → First (cs ++ ds) k
first_front [] ds k f = absurd f
first_front (a ∷ cs) ds k (inl here) = inl here
first_front (a ∷ cs) ds k (inr later) = inr (later.0, first_front cs ds k later.1)

-- no condition of two lists holds
pub no_rows : (cs ds : List Condition) → NoRow cs → NoRow ds → NoRow (cs ++ ds)
no_rows [] ds h g = g
no_rows (a ∷ cs) ds h g = (h.0, no_rows cs ds h.1 g)

pub no_first : (cs ds : List Condition) → NoRow (cs ++ ds) → NoRow cs
no_first [] ds h = tt
no_first (a ∷ cs) ds h = (h.0, no_first cs ds h.1)

pub no_second : (cs ds : List Condition) → NoRow (cs ++ ds) → NoRow ds
no_second [] ds h = h
no_second (a ∷ cs) ds h = no_second cs ds h.1

-- ---- numbers

-- P is true of the number of every condition
abbrev pub Numbers : (ℕ → Type 0) → List Condition → Type 0
Numbers P [] = Unit {0}
Numbers P (a ∷ cs) = P a.number × Numbers P cs

-- so it is of that of the first condition that holds
pub first_number : (P : ℕ → Type 0) (cs : List Condition) (k : ℕ) → Numbers P cs → First cs k → P k
first_number P [] k h f = absurd f
first_number P (a ∷ cs) k h (inl here) = subst P here.1 h.0
first_number P (a ∷ cs) k h (inr later) = first_number P cs k h.1 later.1

pub append_numbers : (P : ℕ → Type 0) (cs ds : List Condition) → Numbers P cs → Numbers P ds → Numbers P (cs ++ ds)
append_numbers P [] ds h g = g
append_numbers P (a ∷ cs) ds h g = (h.0, append_numbers P cs ds h.1 g)

-- of a book it is true where it is of 1 to 6
pub book_numbers : (P : ℕ → Type 0) → ((k : ℕ) → 1 ≤ k → k ≤ 6 → P k) → (bytes : List ℕ) → Numbers P (book_conditions bytes)
book_numbers P h bytes =
    (h 1 (omega arith) (omega arith), (h 2 (omega arith) (omega arith), (h 3 (omega arith) (omega arith), (h 4 (omega arith) (omega arith), rules (vars_in bytes) (rules_in bytes)))))
  where
    rules : (n : ℕ) (cs : List Clause) → Numbers P (rule_conditions n cs)
    rules n [] = tt
    rules n (c ∷ cs) = (h 5 (omega arith) (omega arith), (h 6 (omega arith) (omega arith), rules n cs))
