-- The bytes of a book: how many there are, how they are written part by part, and what writing then gives.
use mathlib.Core.Path.{◌≡◌, sym, ap, ◌∙◌}
use mathlib.Core.Bool.{Bool, true, false}
use mathlib.Core.List.{List, ◌∷◌, ◌++◌, map}
use Prim.Native.Nat.{ℕ, ◌+◌, ◌-◌, ◌*◌, ◌≤◌, ◌<◌}
use native.Mathlib.Omega.{arith}
use borrow.Author.Tests.{lt-ltb, le-ltb}
use lib.ListN.{length, length-append, length-map}
use Rattle.steps.specs.Clause.{Clause, literals}
use Rattle.rows.specs.Rows.{from, clause_at}
use Rattle.book.specs.Bytes.{bytes_of, flat, book_bytes, encode}
use Rattle.book.specs.Reading.{Reading.book}
use Rattle.book.specs.Written.{placed, written_of, written_to, Written.Bytes, Written.Short}
use Rattle.book.proofs.Placed.{placed_append}
use Rattle.book.proofs.Bytes.{length_bytes_of, length_flat}

-- the bytes of the words of one sign, of the clauses from the i-th on
abbrev pub words_from : List ℕ → Bool → ℕ → ℕ → List ℕ
words_from t sign m i = flat (map (literals sign) (from (clause_at t) i (m - i)))

-- the bytes of one array
pub length_column : (b : Bool) (cs : List Clause) → length (flat (map (literals b) cs)) ≡ 8 * length cs
length_column b cs = length_flat (map (literals b) cs) ∙ ap (λ m. 8 * m) (length-map cs (literals b))

-- three bytes for the sizes, sixteen for each clause
pub length_encode : (n : ℕ) (cs : List Clause) → length (encode n cs) ≡ book_bytes (length cs)
unfolding encode
length_encode n cs =
    omega (
      arith,
      length-append ((n ∷ bytes_of 2 (length cs)) ++ flat (map (literals true) cs)) (flat (map (literals false) cs)),
      length-append (n ∷ bytes_of 2 (length cs)) (flat (map (literals true) cs)),
      length_bytes_of 2 (length cs),
      length_column true cs,
      length_column false cs,
    )

module _ (out : List ℕ) (n m : ℕ) (cs : List Clause) (count : length cs ≡ m) where
  -- the sizes, the one array and the other
  placed_encode : book_bytes m ≤ length out
      → placed out 0 (encode n cs) ≡ placed (placed (placed out 0 (n ∷ bytes_of 2 m)) 3 (flat (map (literals true) cs))) (3 + 8 * m) (flat (map (literals false) cs))
  unfolding encode
  placed_encode h =
      let head = n ∷ bytes_of 2 m in
      let pos = flat (map (literals true) cs) in
      let neg = flat (map (literals false) cs) in
      let sizes : 0 + length head ≡ 3 = omega (arith, length_bytes_of 2 m) in
      let arrays : 0 + length (head ++ pos) ≡ 3 + 8 * m = omega (arith, length-append head pos, length_bytes_of 2 m, length_column true cs) in
      rw count
      (placed_append out 0 (head ++ pos) neg (omega (arith, h))
      ∙ ap (λ k. placed (placed out 0 (head ++ pos)) k neg) arrays
      ∙ ap (λ t. placed t (3 + 8 * m) neg) (placed_append out 0 head pos (omega arith) ∙ ap (λ k. placed (placed out 0 head) k pos) sizes))

  -- a buffer that is too short is left as it was
  pub written_short : length out < book_bytes m → (Short ≡ written_of (length out) (book n cs)) × (out ≡ written_to out (book n cs))
  unfolding written_of written_to
  written_short h =
      let short : length out < length (encode n cs) = omega (arith, length_encode n cs) in
      (rw (lt-ltb _ _ short, written_of), rw (lt-ltb _ _ short, written_to))

  -- else the parts, written one after the other, are the book's bytes at its beginning
  pub written_bytes : (out₁ out₂ out₃ : List ℕ) → book_bytes m ≤ length out → out₁ ≡ placed out 0 (n ∷ bytes_of 2 m)
      → out₂ ≡ placed out₁ 3 (flat (map (literals true) cs)) → out₃ ≡ placed out₂ (3 + 8 * m) (flat (map (literals false) cs))
      → (Bytes (book_bytes m) ≡ written_of (length out) (book n cs)) × (out₃ ≡ written_to out (book n cs))
  unfolding written_of written_to
  written_bytes out₁ out₂ out₃ h e₁ e₂ e₃ =
      let long : length (encode n cs) ≤ length out = omega (arith, length_encode n cs) in
      let size : book_bytes m ≡ length (encode n cs) = omega (arith, length_encode n cs) in
      (rw (le-ltb _ _ long, written_of) (ap Bytes size), rw (le-ltb _ _ long, written_to, e₃, e₂, e₁) (sym (placed_encode h)))
