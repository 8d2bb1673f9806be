-- What a store of the word x in row u of block j does to the index: that word is x, every other word of a row and all counts stay, and so does all outside the block. A store
-- of the counts x at place b changes those counts alone. Changes of one block make up a change of that block.
use mathlib.Core.Path.{◌≡◌, refl, sym, ap₂, ◌∙◌}
use mathlib.Core.Bool.{Bool, true, false}
use mathlib.Core.Logic.{◌≢◌, ⊎_elim}
use mathlib.Core.List.{List}
use Prim.Native.Nat.{ℕ, ◌+◌, ◌*◌, ◌^◌, ◌<◌}
use native.Mathlib.Omega.{arith}
use lib.ListN.{length, set, length-set}
use lib.Seq.{get_or-set_same, get_or-set_other}
use Rattle.words.specs.Words.{has, minus}
use Rattle.words.proofs.Membership.{has_zero, has_bit, has_bit_other}
use Rattle.rows.specs.Index.{count_at, row_at, playing, unsatisfied, struck, put_row, masked, Only}
use Rattle.rows.specs.Tally.{Put}

-- ---- a store in a row

module _ (q : List ℕ) (j u x : ℕ) where
  -- the table is as long as it was
  pub put_row_length : length (put_row q j u x) ≡ length q
  put_row_length = length-set q (131 * j + 64 + u) x

  -- the word is the one that was put
  pub put_row_here : 131 * j + 64 + u < length q → row_at (put_row q j u x) j u ≡ x
  put_row_here h = get_or-set_same q (131 * j + 64 + u) x 0 h

  -- every other row stays, and so does this row in every other block
  pub put_row_other : (j' u' : ℕ) → u < 67 → u' < 67 → (j' ≡ j → u' ≡ u → ⊥) → row_at (put_row q j u x) j' u' ≡ row_at q j' u'
  put_row_other j' u' h h' other = get_or-set_other q (131 * j + 64 + u) (131 * j' + 64 + u') x 0 (λ e. other (omega arith) (omega arith))

  -- all counts stay
  pub put_row_count : (j' b : ℕ) → u < 67 → b < 64 → count_at (put_row q j u x) j' b ≡ count_at q j' b
  put_row_count j' b h l = get_or-set_other q (131 * j + 64 + u) (131 * j' + b) x 0 (λ e. omega arith)

  -- nothing outside the block has changed
  pub put_row_only : u < 67 → Only q (put_row q j u x) j
  put_row_only h =
      record {
        same = put_row_length;
        outside = λ p. ⊎_elim (λ l. get_or-set_other q (131 * j + 64 + u) p x 0 (λ e. omega arith)) (λ l. get_or-set_other q (131 * j + 64 + u) p x 0 (λ e. omega arith));
      }

-- ---- a store of counts

-- the table with other counts at place b of block j
abbrev pub put_count : List ℕ → ℕ → ℕ → ℕ → List ℕ
put_count q j b x = set q (131 * j + b) x

module _ (q : List ℕ) (j b x : ℕ) where
  -- they are the ones that were put
  pub put_count_here : 131 * j + b < length q → count_at (put_count q j b x) j b ≡ x
  put_count_here h = get_or-set_same q (131 * j + b) x 0 h

  -- the other counts of the block stay
  pub put_count_other : (b' : ℕ) → b' ≢ b → count_at (put_count q j b x) j b' ≡ count_at q j b'
  put_count_other b' other = get_or-set_other q (131 * j + b) (131 * j + b') x 0 (λ e. omega arith)

  -- and so do its rows
  pub put_count_row : (u : ℕ) → b < 64 → row_at (put_count q j b x) j u ≡ row_at q j u
  put_count_row u h = get_or-set_other q (131 * j + b) (131 * j + 64 + u) x 0 (λ e. omega arith)

  -- nothing outside the block has changed
  pub put_count_only : b < 64 → Only q (put_count q j b x) j
  put_count_only h =
      record {
        same = length-set q (131 * j + b) x;
        outside = λ p. ⊎_elim (λ l. get_or-set_other q (131 * j + b) p x 0 (λ e. omega arith)) (λ l. get_or-set_other q (131 * j + b) p x 0 (λ e. omega arith));
      }

-- ---- the bit of a place, or none

-- it has its place where it is one
pub mark_here : (p : Bool) (k : ℕ) → has (masked p (2 ^ k)) k ≡ p
mark_here true k = has_bit k
mark_here false k = has_zero k

-- and no other
pub mark_other : (p : Bool) (k i : ℕ) → i ≢ k → has (masked p (2 ^ k)) i ≡ false
mark_other true k i other = has_bit_other k i (λ e. other (sym e))
mark_other false k i other = has_zero i

-- ---- changes of one block

-- no change is one
pub only_refl : (q : List ℕ) (j : ℕ) → Only q q j
only_refl q j = record { same = refl; outside = λ p out. refl }

-- and two are one
pub only_trans : {q r s : List ℕ} {j : ℕ} → Only q r j → Only r s j → Only q s j
only_trans a b = record { same = b.same ∙ a.same; outside = λ p out. b.outside p out ∙ a.outside p out }

-- where the rows of a block are put the clauses in play are those that no decision satisfies and that name no struck variable
pub put_active : {q q' : List ℕ} {j x y : ℕ} → Put q q' j x y → row_at q' j playing ≡ minus (row_at q' j unsatisfied) (row_at q' j struck)
put_active p = p.active ∙ sym (ap₂ minus p.unkept p.marked)
