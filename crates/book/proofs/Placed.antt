-- Laws of bytes placed in a buffer, one by one: the buffer with b ∷ bs from a place on is the buffer with b stored there and bs from the
-- next place on.
use mathlib.Core.Path.{◌≡◌}
use mathlib.Core.List.{List, [], ◌∷◌, ◌++◌, append-nil}
use Prim.Native.Nat.{ℕ, ◌+◌, ◌≤◌, ◌<◌}
use native.Mathlib.Nat.{add-zero}
use native.Mathlib.Numerals.{add-one}
use native.Mathlib.Omega.{arith}
use lib.ListN.{length, take, drop, set, take-append-drop, length-set}
use lib.Seq.{take-suc-set, drop-set-lt, append_snoc}
use Rattle.book.specs.Written.{placed}

-- nothing placed
pub placed_nil : (out : List ℕ) (at : ℕ) → placed out at [] ≡ out
unfolding placed
placed_nil out at = rw (add-zero, append-nil) (take-append-drop at out)

-- the first byte is stored, the others are placed after it
pub placed_cons : (out : List ℕ) (at b : ℕ) (bs : List ℕ) → at < length out → placed out at (b ∷ bs) ≡ placed (set out at b) (at + 1) bs
unfolding placed
placed_cons out at b bs h =
    let after : drop (at + 1 + length bs) (set out at b) ≡ drop (at + 1 + length bs) out = drop-set-lt (at + 1 + length bs) out at b (omega arith) in
    let e : at + 1 + length bs ≡ at + length (b ∷ bs) = omega arith in
    let before : take (at + 1) (set out at b) ≡ take at out ++ (b ∷ []) = rw add-one (take-suc-set out at b h) in
    rw (after, e, before, append_snoc)

-- bytes placed one list after another
pub placed_append : (out : List ℕ) (at : ℕ) (fs bs : List ℕ) → at + length fs ≤ length out
    → placed out at (fs ++ bs) ≡ placed (placed out at fs) (at + length fs) bs
placed_append out at [] bs h = rw (placed_nil, add-zero)
placed_append out at (a ∷ fs) bs h =
    let inside : at < length out = omega arith in
    let e : at + length (a ∷ fs) ≡ at + 1 + length fs = omega arith in
    rw (placed_cons out at a fs inside, e, placed_cons out at a (fs ++ bs) inside)
    (placed_append (set out at a) (at + 1) fs bs (simp length-set (omega arith)))
