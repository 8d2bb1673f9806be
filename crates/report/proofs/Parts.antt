-- Laws of the lines: what is left is the next part and what is left after it, and at the end nothing is left.
use mathlib.Core.Path.{◌≡◌, refl, ap}
use mathlib.Core.Logic.{◌⊎◌, inl, inr}
use mathlib.Core.List.{List, [], ◌∷◌, ◌++◌}
use Prim.Native.Nat.{ℕ, ◌+◌, ◌≤◌, ◌<◌}
use native.Mathlib.Numerals.{add-one}
use native.Mathlib.Omega.{arith}
use lib.ListN.{length, take, drop, get_or, length-take, drop_of_length-le}
use lib.Seq.{drop-cons, get_or-take, length-take-le}
use Rattle.report.specs.Ascii.{ascii}
use Rattle.report.specs.Decimal.{decimal}
use Rattle.report.specs.Text.{fields, clause_line, clause_lines, record_line, record_lines}

-- a list from place i on is its element there and the list from the next place on
drop_more : (l : List ℕ) (i : ℕ) → i < length l → drop i l ≡ get_or l i 0 ∷ drop (i + 1) l
drop_more l i h = rw (add-one) (drop-cons l i 0 h)

-- the fields from place i on
pub fields_more : (ns : List ℕ) (i : ℕ) → i < length ns → fields (drop i ns) ≡ ascii " " ++ (decimal (get_or ns i 0) ++ fields (drop (i + 1) ns))
unfolding fields
fields_more ns i h = ap fields (drop_more ns i h)

pub fields_none : (ns : List ℕ) (i : ℕ) → length ns ≤ i → fields (drop i ns) ≡ ascii "\n"
unfolding fields
fields_none ns i h = ap fields (drop_of_length-le ns h)

-- the first k elements of a list from place i on
pub first_more : (k : ℕ) (l : List ℕ) (i : ℕ) → i < k → k ≤ length l → drop i (take k l) ≡ get_or l i 0 ∷ drop (i + 1) (take k l)
first_more k l i h fits = rw (drop_more (take k l) i (rw (length-take-le k l fits) h), get_or-take k l i 0 h)

pub first_none : (k : ℕ) (l : List ℕ) (i : ℕ) → k ≤ i → drop i (take k l) ≡ []
first_none k l i h = drop_of_length-le (take k l) {i = i} (simp length-take (omega arith))

-- the lines of clauses of which one is left at least
pub clauses_more :
    {p n : ℕ} {ps ps' ns ns' : List ℕ} → (ps ≡ p ∷ ps') × (ns ≡ n ∷ ns') → clause_lines ps ns ≡ clause_line p n ++ clause_lines ps' ns'
unfolding clause_lines
clauses_more e = rw (e.0, e.1) refl

-- and of none, where the one list or the other is at its end
pub clauses_none : (ps ns : List ℕ) → (length ps ≡ 0) ⊎ (length ns ≡ 0) → clause_lines ps ns ≡ []
unfolding clause_lines
clauses_none [] ns e = refl
clauses_none (p ∷ ps) [] e = refl
clauses_none (p ∷ ps) (n ∷ ns) (inl e) = absurd (omega arith)
clauses_none (p ∷ ps) (n ∷ ns) (inr e) = absurd (omega arith)

-- likewise of records
pub records_more :
    {d t r : ℕ} {ds ds' ts ts' rs rs' : List ℕ} → ((ds ≡ d ∷ ds') × (ts ≡ t ∷ ts')) × (rs ≡ r ∷ rs')
    → record_lines ds ts rs ≡ record_line d t r ++ record_lines ds' ts' rs'
unfolding record_lines
records_more e = rw (e.0.0, e.0.1, e.1) refl

pub records_none : (ds ts rs : List ℕ) → ((length ds ≡ 0) ⊎ (length ts ≡ 0)) ⊎ (length rs ≡ 0) → record_lines ds ts rs ≡ []
unfolding record_lines
records_none [] ts rs e = refl
records_none (d ∷ ds) [] rs e = refl
records_none (d ∷ ds) (t ∷ ts) [] e = refl
records_none (d ∷ ds) (t ∷ ts) (r ∷ rs) (inl (inl e)) = absurd (omega arith)
records_none (d ∷ ds) (t ∷ ts) (r ∷ rs) (inl (inr e)) = absurd (omega arith)
records_none (d ∷ ds) (t ∷ ts) (r ∷ rs) (inr e) = absurd (omega arith)
