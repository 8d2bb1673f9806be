-- `rows::tallies::change_block` meets its contract: the counts are those after the shift, and in the row of the clauses that no decision satisfies the others stay and those
-- named are as the shift says.
use mathlib.Core.Path.{◌≡◌, sym, ap, ap₂, ◌∙◌}
use mathlib.Core.Bool.{◌&&◌, ◌||◌, not}
use mathlib.Core.List.{List}
use Prim.Native.Nat.{ℕ, ◌+◌, ◌<◌}
use native.Mathlib.Omega.{arith}
use lib.Bits.{bit_or}
use Rattle.words.specs.Words.{has, minus}
use Rattle.words.proofs.Membership.{has_or, has_minus}
use Rattle.rows.specs.Index.{count_at, row_at, naming, unsatisfied, struck}
use Rattle.rows.specs.Tally.{is_unsatisfied, Shifted, Put, Changed}
use Rattle.rows.specs.declared.tally.Delta.{Delta}
use Rattle.rows.proofs.Blocks.{only_trans, put_active}
use Rattle.rows.proofs.tallies.change_block.Goals as goal

-- the shift and then the rows make up the change
shifted-put : {t q r q' : List ℕ} {j v : ℕ} {d : Delta} {found : ℕ}
    → Shifted t q r j v d (row_at q j (naming v)) found
    → Put r q' j (bit_or (minus (row_at r j unsatisfied) (row_at q j (naming v))) found) (row_at r j struck)
    → Changed t q q' j v d
shifted-put {t} {q} {r} {q'} {j} {v} {d} {found} s p =
    record {
      only = only_trans s.only p.only;
      counts = λ b h. p.counts b h ∙ s.counts b h;
      named = λ w h. p.named w h ∙ s.rows (3 + w) (omega arith);
      marked = p.marked ∙ s.rows 2 (omega arith);
      unkept = unkept;
      active = put_active p;
    }
  where
    unkept : (b : ℕ) → b < 64
        → has (row_at q' j unsatisfied) b
        ≡ ((has (row_at q j unsatisfied) b && not (has (row_at q j (naming v)) b)) || (has (row_at q j (naming v)) b && is_unsatisfied (count_at q' j b)))
    unkept b h =
        ap (λ (x : ℕ). has x b) p.unkept
        ∙ has_or (minus (row_at r j unsatisfied) (row_at q j (naming v))) found b
        ∙ ap₂ ◌||◌
        (has_minus (row_at r j unsatisfied) (row_at q j (naming v)) b ∙ ap (λ (x : ℕ). has x b && not (has (row_at q j (naming v)) b)) (s.rows 1 (omega arith)))
        (s.unkept b h ∙ ap (λ (x : ℕ). has (row_at q j (naming v)) b && is_unsatisfied x) (sym (p.counts b h)))

pub returns : goal.returns
returns c =
    shifted-put
    (rw c.word-named.ensures at c.shift-open.ensures)
    (rw (c.minus-others.ensures, c.word.ensures, c.word-2.ensures, c.word-named.ensures) at c.put_rows.ensures)
