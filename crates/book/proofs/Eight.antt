-- Eight bytes as a word, as the standard library says it, and as the definitions here do.
use Rattle.std.proofs.Common.{◌≡◌, refl, sym, ◌∙◌, append_assoc, List, [], ◌∷◌, ◌++◌, ℕ, ◌+◌, ◌-◌, take, drop, length, arith, w64}
use lib.Seq.{drop-drop}
use Rattle.std.proofs.Math.Nat.{div-div-eq-div-mul}
use Rattle.std.specs.Int.{from_le_bytes, to_le_bytes}
use Rattle.book.specs.Bytes.{number, bytes_of}
use Rattle.book.specs.Written.{placed}
use Rattle.book.proofs.Bytes.{length_bytes_of}

-- their number
pub number_of_eight : (bs : List ℕ) → length bs ≡ 8 → from_le_bytes w64 bs ≡ number bs
unfolding number
number_of_eight [] n = omega (arith, n)
number_of_eight (a ∷ []) n = omega (arith, n)
number_of_eight (a ∷ b ∷ []) n = omega (arith, n)
number_of_eight (a ∷ b ∷ c ∷ []) n = omega (arith, n)
number_of_eight (a ∷ b ∷ c ∷ d ∷ []) n = omega (arith, n)
number_of_eight (a ∷ b ∷ c ∷ d ∷ e ∷ []) n = omega (arith, n)
number_of_eight (a ∷ b ∷ c ∷ d ∷ e ∷ f ∷ []) n = omega (arith, n)
number_of_eight (a ∷ b ∷ c ∷ d ∷ e ∷ f ∷ g ∷ []) n = omega (arith, n)
number_of_eight (a ∷ b ∷ c ∷ d ∷ e ∷ f ∷ g ∷ h ∷ []) n = omega arith
number_of_eight (a ∷ b ∷ c ∷ d ∷ e ∷ f ∷ g ∷ h ∷ i ∷ bs) n = omega (arith, n)

-- the bytes of a word
pub eight_of : (x : ℕ) → to_le_bytes w64 x ≡ bytes_of 8 x
unfolding bytes_of
eight_of x = simp div-div-eq-div-mul refl

-- they are put into a buffer at a place
pub eight_placed : (out bs : List ℕ) (at x : ℕ) → bs ≡ to_le_bytes w64 x
    → take at out ++ (bs ++ drop (at + 8 - at) (drop at out)) ≡ placed out at (bytes_of 8 x)
unfolding placed
eight_placed out bs at x e =
    let eight : at + 8 - at ≡ 8 = omega arith in
    rw (e ∙ eight_of x, eight, drop-drop 8 at out, length_bytes_of 8 x) (sym (append_assoc (take at out) (bytes_of 8 x) (drop (at + 8) out)))
