-- The index of the clauses, beside their counts in the table of tallies. The clauses stand in blocks of 64. A block has the words of their counts, and after them a word
-- for each of its rows, in which a clause has the digit of its place in the block.
use Rattle.std.specs.Prelude.{Option, MatchOption, ◌≡◌, Bool, true, false, ◌&&◌, List, ◌⊎◌, ℕ, ◌+◌, ◌*◌, ◌/◌, ◌%◌, ◌≤◌, ◌<◌, length, get_or, set}
use Rattle.std.specs.Int.Bits.{bit_and, bit_or}
use Rattle.std.specs.Int.Count.{count_trailing_zeros}
use Rattle.words.specs.Words.{has}
use Rattle.rows.specs.declared.index.Row.{Row}
use Rattle.rows.specs.declared.index.Row.TheVariants as row
use Rattle.rows.specs.declared.index.Walk.{Walk}

-- how many blocks m clauses begin
abbrev pub blocks : ℕ → ℕ
blocks m = (m + 63) / 64

-- how many words the tallies of m clauses take: 131 for each of them
abbrev pub tally_words : ℕ → ℕ
tally_words m = 131 * blocks m

-- the counts of the clause at place b of block j, and of the clause of number i
abbrev pub count_at : List ℕ → ℕ → ℕ → ℕ
count_at q j b = get_or q (131 * j + b) 0

abbrev pub count_of : List ℕ → ℕ → ℕ
count_of q i = count_at q (i / 64) (i % 64)

-- the rows: the clauses in play, those that no decision satisfies, those that name a redundant variable, and those that name the variable v
abbrev pub playing : ℕ
playing = 0

abbrev pub unsatisfied : ℕ
unsatisfied = 1

abbrev pub struck : ℕ
struck = 2

abbrev pub naming : ℕ → ℕ
naming v = 3 + v

-- a row of the code by its number
abbrev pub row_of : Row → ℕ
row_of row.Playing = playing
row_of row.Unsatisfied = unsatisfied
row_of row.Struck = struck
row_of (row.Naming v) = naming v

-- the word of block j in row u
abbrev pub row_at : List ℕ → ℕ → ℕ → ℕ
row_at q j u = get_or q (131 * j + 64 + u) 0

-- the table with the word x there
abbrev pub put_row : List ℕ → ℕ → ℕ → ℕ → List ℕ
put_row q j u x = set q (131 * j + 64 + u) x

-- the clause of number i is in row u
abbrev pub is_in : List ℕ → ℕ → ℕ → Bool
is_in q u i = has (row_at q (i / 64) u) (i % 64)

-- ---- a walk through the clauses that are in two rows

-- the clauses of block j that are in both rows
abbrev pub both_at : List ℕ → ℕ → ℕ → ℕ → ℕ
both_at q u w j = bit_and (row_at q j u) (row_at q j w)

-- of the m clauses from number i on, before number k, none is in both rows
abbrev pub NoneIn : List ℕ → ℕ → ℕ → ℕ → ℕ → ℕ → Type 0
NoneIn q m u w i k = (x : ℕ) → i ≤ x → x < k → x < m → (is_in q u x && is_in q w x) ≡ false

-- those of block j, from the lowest member of x on, are the members of x
abbrev pub From : List ℕ → ℕ → ℕ → ℕ → ℕ → Type 0
From q u w j x = (b : ℕ) → b < 64 → count_trailing_zeros 64 x ≤ b → has x b ≡ has (both_at q u w j) b

-- the number at which a walk goes on: that of the lowest clause that is left in its block, or of the next block's first
abbrev pub coming : Walk → ℕ
coming s = 64 * s.block + count_trailing_zeros 64 s.left

-- s is a walk through those of the m clauses of q that are in the rows u and w, and has those from there on to come to
pub record Walks (q : List ℕ) (m u w : ℕ) (s : Walk) : Type 0 where
  pub table : s.q.now ≡ q
  pub number : s.m ≡ m
  pub first : s.u ≡ u
  pub second : s.w ≡ w
  pub room : tally_words m ≤ length q
  pub rows : (u < 67) × (w < 67)
  pub within : 64 * s.block ≤ m
  pub left : From q u w s.block s.left

-- the walk s goes on in block j, of which the clauses x are left
pub record Found (s : Walk) (j x : ℕ) : Type 0 where
  pub within : 64 * j ≤ s.m
  pub some : x ≡ 0 → ⊥
  pub left : From s.q.now s.u s.w j x
  pub after : coming s ≤ 64 * j + count_trailing_zeros 64 x
  pub none : NoneIn s.q.now s.m s.u s.w (coming s) (64 * j + count_trailing_zeros 64 x)

-- or it is at its end
abbrev pub Sought : Walk → Option (ℕ × ℕ) → Type 0
Sought s r = MatchOption r (NoneIn s.q.now s.m s.u s.w (coming s) s.m) (λ found. Found s found.0 found.1)

-- a turn that gives the clause of number i, where the walk was at s and is at t then
pub record ComesTo (s : Walk) (i : ℕ) (t : Walk) : Type 0 where
  pub goes : Walks s.q.now s.m s.u s.w t
  pub from : coming s ≤ i
  pub to : i < coming t
  pub below : i < s.m
  pub here : (is_in s.q.now s.u i && is_in s.q.now s.w i) ≡ true
  pub before : NoneIn s.q.now s.m s.u s.w (coming s) i
  pub after : NoneIn s.q.now s.m s.u s.w (i + 1) (coming t)

-- and one that ends it gives none
abbrev pub Comes : Walk → Option ℕ → Walk → Type 0
Comes s r t = MatchOption r (NoneIn s.q.now s.m s.u s.w (coming s) s.m) (λ i. ComesTo s i t)

-- ---- changes of a block

-- the word at p is none of block j
abbrev pub Outside : ℕ → ℕ → Type 0
Outside j p = (p < 131 * j) ⊎ (131 * j + 131 ≤ p)

-- no word but those of block j has changed
pub record Only (q q' : List ℕ) (j : ℕ) : Type 0 where
  pub same : length q' ≡ length q
  pub outside : (p : ℕ) → Outside j p → get_or q' p 0 ≡ get_or q p 0

-- x where p holds, and else nothing
abbrev pub masked : Bool → ℕ → ℕ
masked true x = x
masked false x = 0

-- the rows of block j are empty, and its counts as they were
pub record Emptied (q q' : List ℕ) (j : ℕ) : Type 0 where
  pub only : Only q q' j
  pub counts : (b : ℕ) → b < 64 → count_at q' j b ≡ count_at q j b
  pub rows : (u : ℕ) → u < 67 → row_at q' j u ≡ 0

-- the clause of the digit has entered the rows of the variables, and all else is as it was
pub record Entered (q q' : List ℕ) (j digit vars : ℕ) : Type 0 where
  pub only : Only q q' j
  pub counts : (b : ℕ) → b < 64 → count_at q' j b ≡ count_at q j b
  pub others : (u : ℕ) → u < 3 → row_at q' j u ≡ row_at q j u
  pub rows : (v : ℕ) → v < 64 → row_at q' j (naming v) ≡ bit_or (row_at q j (naming v)) (masked (has vars v) digit)
