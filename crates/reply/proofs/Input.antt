-- No reply depends on a byte past the readable part. More bytes than the largest book has are refused, by 2, 3 or 4: the three bytes of the sizes say which, whatever
-- follows them and whatever the order is. An input of so many bytes has the same sizes in its readable part, which has so many bytes too; a shorter one is its readable part.
use mathlib.Core.Path.{◌≡◌, refl, sym, ap, ap₂, ◌∙◌}
use mathlib.Core.Bool.{Bool, true, false}
use mathlib.Core.List.{List}
use mathlib.Core.Logic.{inl, inr}
use Prim.Native.Nat.{ℕ, ◌+◌, ◌*◌, ◌≤◌, ◌<◌}
use native.Mathlib.Decide.{dec_lt}
use native.Mathlib.Omega.{arith}
use borrow.Author.Tests.{ltb-true, ltb-false}
use lib.Dec.{ltb}
use lib.ListN.{length, take, drop, get_or, length-drop}
use lib.Seq.{take_all, length-take-le, get_or-take, get_or-drop}
use Rattle.order.specs.Order.{Order}
use Rattle.book.specs.Limits.{max_vars, max_clauses}
use Rattle.book.specs.Bytes.{book_bytes, vars_in, count_in}
use Rattle.contract.specs.Check.{Lengths, Result.refused, check}
use Rattle.contract.proofs.Checking.{refusals}
use Rattle.reply.specs.Reply.{allowance, order_bytes, order_in, result_in, places, text_of, reply_to, readable}
use Rattle.reply.specs.Demands.{ReadableDecides}
use Rattle.reply.proofs.Reply.{result_checked}

-- all checks of more bytes than the largest book has, of n options and m rules, are refused by the number k
abbrev Refuses : ℕ → ℕ → ℕ → Type 0
Refuses n m k =
    (bytes : List ℕ) (o : Order) (l : Lengths) → vars_in bytes ≡ n → count_in bytes ≡ m → book_bytes max_clauses < length bytes →
    check bytes o allowance l ≡ refused k

-- there is such a number
by_sizes : (n m : ℕ) → (k : ℕ) × Refuses n m k
by_sizes n m = elim (dec_lt max_vars n) [
  | yes over ↦ (2, λ bytes o l v c long. (refusals bytes o allowance l 2).1 (inr (λ few. omega arith, inl (omega arith, refl))))
  | no within ↦ elim (dec_lt max_clauses m) [
    | yes many ↦ (3, λ bytes o l v c long. (refusals bytes o allowance l 3).1 (inr (λ few. omega arith, inr (λ over. within (omega arith), inl (omega arith, refl)))))
    | no fewer ↦ (
      4,
      λ bytes o l v c long.
          (refusals bytes o allowance l 4).1
          (inr (λ few. omega arith, inr (λ over. within (omega arith), inr (λ many. fewer (omega arith), inl (λ e. omega arith, refl))))),
    )
  ]
]

-- an input with more bytes after the order than the largest book has
module _ (input : List ℕ) (long : readable ≤ length input) where
  -- the bytes of the sizes are within the part
  same_byte : (i : ℕ) → i < 3 → get_or (drop order_bytes (take readable input)) i 0 ≡ get_or (drop order_bytes input) i 0
  same_byte i h =
      get_or-drop order_bytes (take readable input) i 0 ∙ get_or-take readable input (order_bytes + i) 0 (omega arith) ∙ sym (get_or-drop order_bytes input i 0)

  same_count : count_in (drop order_bytes (take readable input)) ≡ count_in (drop order_bytes input)
  same_count = ap₂ (λ (x y : ℕ). x + 256 * y) (same_byte 1 (omega arith)) (same_byte 2 (omega arith))

  -- both are refused
  same_result : (l : Lengths) → result_in l (take readable input) ≡ result_in l input
  same_result l =
      let size = length-take-le readable input long in
      let by = (by_sizes (vars_in (drop order_bytes input)) (count_in (drop order_bytes input))).1 in
      result_checked l (take readable input) (omega arith)
      ∙ by (drop order_bytes (take readable input)) (order_in (take readable input)) l (same_byte 0 (omega arith)) same_count
      (omega (arith, length-drop order_bytes (take readable input)))
      ∙ sym (by (drop order_bytes input) (order_in input) l refl refl (omega (arith, length-drop order_bytes input)))
      ∙ sym (result_checked l input (omega arith))

-- the readable part has the same result
pub readable_result : (input : List ℕ) → result_in places (take readable input) ≡ result_in places input
readable_result input = by (ltb (length input) readable) refl
  where
    by : (short : Bool) → ltb (length input) readable ≡ short → result_in places (take readable input) ≡ result_in places input
    by true h = ap (result_in places) (take_all readable input (omega (arith, ltb-true (length input) readable h)))
    by false h = same_result input (ltb-false (length input) readable h) places

pub readable_decides : ReadableDecides
unfolding reply_to
readable_decides input = ap text_of (readable_result input)
