-- Laws of numbers as bytes, and of the clauses in book bytes, from the i-th on. The number of k + 1 bytes is the first byte and 256 times the number
-- of the k after it, so k bytes below 256 make a number below 256 to the power k.
use mathlib.Core.Path.{◌≡◌, refl, ap, ◌∙◌}
use mathlib.Core.List.{List, [], ◌∷◌}
use Prim.Native.Nat.{ℕ, zero, suc, ◌+◌, ◌-◌, ◌*◌, ◌/◌, ◌^◌, ◌≤◌, ◌<◌}
use native.Mathlib.Nat.{add-zero, sub-zero, pow-succ', one-le-pow}
use native.Mathlib.Omega.{arith}
use lib.ListN.{length, get_or, take, drop, length-append}
use lib.Seq.{drop-cons, drop-drop, get_or-drop}
use Rattle.steps.specs.Clause.{Clause}
use Rattle.book.specs.Bytes.{AllBytes, number, bytes_of, word_at, words_in, pair, clauses_in, flat}

-- one byte, and the bytes after it
pub number_step : (bs : List ℕ) (p k : ℕ) → p < length bs → number (take (suc k) (drop p bs)) ≡ get_or bs p 0 + 256 * number (take k (drop (suc p) bs))
unfolding number
number_step bs p k h = rw (drop-cons bs p 0)

-- the bytes from a place on
pub bytes_drop : (bs : List ℕ) (p : ℕ) → AllBytes bs → AllBytes (drop p bs)
bytes_drop bs p all i = rw get_or-drop (all (p + i))

-- k bytes make a number below 256 to the power k
pub number_lt : (k : ℕ) (bs : List ℕ) → AllBytes bs → number (take k bs) < 256 ^ k
unfolding number
number_lt zero bs all = omega arith
number_lt (suc k) [] all = one-le-pow (suc k) 256 (omega arith)
number_lt (suc k) (b ∷ bs) all = rw pow-succ' (omega (arith, all 0, number_lt k bs (λ i. all (suc i))))

-- as many bytes as were asked for
pub length_bytes_of : (k x : ℕ) → length (bytes_of k x) ≡ k
unfolding bytes_of
length_bytes_of zero x = refl
length_bytes_of (suc k) x = ap suc (length_bytes_of k (x / 256))

-- eight bytes for each word
pub length_flat : (ws : List ℕ) → length (flat ws) ≡ 8 * length ws
unfolding flat
length_flat [] = refl
length_flat (w ∷ ws) = omega (arith, length-append (bytes_of 8 w) (flat ws), length_bytes_of 8 w, length_flat ws)

-- ---- the clauses in book bytes

-- the clauses of two arrays of k words, one from place p on and one from place q on
abbrev arrays : List ℕ → ℕ → ℕ → ℕ → List Clause
arrays bs p q k = pair (words_in k (drop p bs)) (words_in k (drop q bs))

-- one clause, and the arrays after it
arrays_step : (bs : List ℕ) (p q k : ℕ)
    → arrays bs p q (suc k) ≡ record { pos = word_at bs p; neg = word_at bs q } ∷ arrays bs (p + 8) (q + 8) k
unfolding words_in pair word_at
arrays_step bs p q k = rw (← drop-drop 8 p bs, ← drop-drop 8 q bs)

-- the clauses of book bytes from the i-th on
abbrev pub clauses_from : List ℕ → ℕ → ℕ → List Clause
clauses_from bs m i = arrays bs (3 + 8 * i) (3 + 8 * (m + i)) (m - i)

-- all of them
pub from_zero : (bs : List ℕ) (m : ℕ) → clauses_in m bs ≡ clauses_from bs m 0
unfolding clauses_in
from_zero bs m = rw (add-zero, sub-zero)

-- none of them
pub from_end : (bs : List ℕ) (m i : ℕ) → m ≤ i → clauses_from bs m i ≡ []
unfolding words_in pair
from_end bs m i h =
    let none : m - i ≡ 0 = omega arith in
    rw none

-- the i-th, whose words are p and q, and those after it
pub from_step : (bs : List ℕ) (m i p q : ℕ) → i < m → p ≡ word_at bs (3 + 8 * i) → q ≡ word_at bs (3 + 8 * (m + i))
    → clauses_from bs m i ≡ record { pos = p; neg = q } ∷ clauses_from bs m (i + 1)
from_step bs m i p q h e f =
    let left : m - i ≡ suc (m - (i + 1)) = omega arith in
    let pos : 3 + 8 * (i + 1) ≡ 3 + 8 * i + 8 = omega arith in
    let neg : 3 + 8 * (m + (i + 1)) ≡ 3 + 8 * (m + i) + 8 = omega arith in
    rw (left, pos, neg, e, f) (arrays_step bs (3 + 8 * i) (3 + 8 * (m + i)) (m - (i + 1)))

-- there are k words, and as many clauses
pub length_words_in : (k : ℕ) (bs : List ℕ) → length (words_in k bs) ≡ k
unfolding words_in
length_words_in zero bs = refl
length_words_in (suc k) bs = ap suc (length_words_in k (drop 8 bs))

length_pair : (ps ns : List ℕ) → length ps ≡ length ns → length (pair ps ns) ≡ length ps
unfolding pair
length_pair [] ns e = refl
length_pair (p ∷ ps) [] e = absurd (omega arith)
length_pair (p ∷ ps) (n ∷ ns) e = ap suc (length_pair ps ns (omega arith))

pub length_clauses_in : (m : ℕ) (bs : List ℕ) → length (clauses_in m bs) ≡ m
unfolding clauses_in
length_clauses_in m bs =
    let p = length_words_in m (drop 3 bs) in
    let q = length_words_in m (drop (3 + 8 * m) bs) in
    length_pair (words_in m (drop 3 bs)) (words_in m (drop (3 + 8 * m) bs)) (omega arith) ∙ p
