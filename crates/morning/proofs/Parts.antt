-- Parts of a table. What is put in a part is what the part then holds; every place outside it, before or after, is as it was, and so are the other parts and
-- the remainder. The parts do not overlap and fit the table, since k times the whole part of length / k is at most the length.
use mathlib.Core.Path.{◌≡◌, refl, sym, ap, subst, ◌∙◌}
use mathlib.Core.List.{List, ◌++◌, append_assoc}
use mathlib.Core.Bool.{Bool, true, false}
use mathlib.Core.Logic.{◌≢◌}
use Prim.Native.Nat.{ℕ, zero, suc, ◌+◌, ◌*◌, ◌-◌, ◌/◌, ◌≤◌, ◌<◌}
use native.Mathlib.Nat.{le_trans, add-zero, zero-add, zero-mul, suc-mul, mul-le-mul_right, mul-div-le, div-add-mod}
use native.Mathlib.Omega.{arith}
use borrow.Author.Tests.{ltb-true, ltb-false}
use lib.Dec.{ltb}
use lib.ListN.{length, take, drop, length-append, length-drop, take-append-drop}
use lib.Seq.{length-take-le, take_at, drop_at, take-append-le, drop-append-le, drop-append-add, drop-drop}
use Rattle.morning.specs.Parts.{share, begin, end, part, with_part, remainder}
use Rattle.morning.specs.Demands.{parts_from, Cutting}

-- ---- words put at a place

-- n words, from place a on, taken out of the first places
early : (front back : List ℕ) (m n : ℕ) → m + n ≤ length front → take n (drop m (front ++ back)) ≡ take n (drop m front)
early front back m n h =
    ap (take n) (drop-append-le m front back (omega (arith, h)))
    ∙ take-append-le n (drop m front) back (omega (arith, h, length-drop m front))

module _ (a n : ℕ) (t x : List ℕ) (fits : a + n ≤ length t) (e : length x ≡ n) where
  abbrev put : List ℕ
  put = take a t ++ (x ++ drop (a + n) t)

  head_length : length (take a t) ≡ a
  head_length = length-take-le a t (omega (arith, fits))

  put_length : length put ≡ length t
  put_length =
      length-append (take a t) (x ++ drop (a + n) t) ∙ omega (arith, head_length, length-append x (drop (a + n) t), length-drop (a + n) t, fits, e)

  -- they are there
  put_here : take n (drop a put) ≡ x
  put_here = ap (take n) (drop_at (take a t) _ a head_length) ∙ take_at x _ n e

  -- the places before are as they were
  put_before : (m p : ℕ) → m + p ≤ a → take p (drop m put) ≡ take p (drop m t)
  put_before m p h =
      early (take a t) _ m p (omega (arith, h, head_length))
      ∙ sym (early (take a t) (drop a t) m p (omega (arith, h, head_length)))
      ∙ ap (λ (l : List ℕ). take p (drop m l)) (take-append-drop a t)

  -- and those after
  put_after : (m : ℕ) → a + n ≤ m → drop m put ≡ drop m t
  put_after m h =
      let front : List ℕ = take a t ++ x in
      let there : a + n + (m - (a + n)) ≡ m = omega (arith, h) in
      let long : length front + (m - (a + n)) ≡ m = omega (arith, length-append (take a t) x, head_length, e, h) in
      ap (drop m) (sym (append_assoc (take a t) x (drop (a + n) t)))
      ∙ ap (λ (j : ℕ). drop j (front ++ drop (a + n) t)) (sym long)
      ∙ drop-append-add front (drop (a + n) t) (m - (a + n))
      ∙ drop-drop (m - (a + n)) (a + n) t
      ∙ ap (λ (j : ℕ). drop j t) there

-- ---- parts

-- the next part begins where one ends
next_begin : (k i : ℕ) (t : List ℕ) → begin k (suc i) t ≡ end k i t
next_begin k i t = suc-mul i (share k t)

-- and every later one begins there or after
later_begin : (k i j : ℕ) (t : List ℕ) → i < j → end k i t ≤ begin k j t
later_begin k i j t h = subst (λ (m : ℕ). m ≤ begin k j t) (next_begin k i t) (mul-le-mul_right (share k t) h)

-- the first parts fit, in a table of so many places
parts_fit : (k i size : ℕ) → i ≤ k → i * (size / k) ≤ size
parts_fit k i size h = le_trans (mul-le-mul_right (size / k) h) (mul-div-le size k)

module _ (k i : ℕ) (h : i < k) where
  -- so does part i
  pub places_fit : (size : ℕ) → i * (size / k) + size / k ≤ size
  places_fit size = subst (λ (m : ℕ). m ≤ size) (suc-mul i (size / k)) (parts_fit k (suc i) size h)

  part_fits : (t : List ℕ) → end k i t ≤ length t
  part_fits t = places_fit (length t)

  pub part_length : (t : List ℕ) → length (part k i t) ≡ share k t
  part_length t = length-take-le (share k t) (drop (begin k i t) t) (omega (arith, length-drop (begin k i t) t, part_fits t))

  module _ (t x : List ℕ) (e : length x ≡ share k t) where
    pub with_length : length (with_part k i t x) ≡ length t
    with_length = put_length (begin k i t) (share k t) t x (part_fits t) e

    -- the shares are the same
    same_share : share k (with_part k i t x) ≡ share k t
    same_share = ap (λ (n : ℕ). n / k) with_length

    -- part i holds the words
    pub part_with : part k i (with_part k i t x) ≡ x
    part_with =
        ap (λ (n : ℕ). take n (drop (i * n) (with_part k i t x))) same_share
        ∙ put_here (begin k i t) (share k t) t x (part_fits t) e

    -- every other part is as it was
    pub other_part : (j : ℕ) → j < k → j ≢ i → part k j (with_part k i t x) ≡ part k j t
    other_part j l d = ap (λ (n : ℕ). take n (drop (j * n) (with_part k i t x))) same_share ∙ go (ltb j i) refl
      where
        go : (b : Bool) → ltb j i ≡ b → take (share k t) (drop (begin k j t) (with_part k i t x)) ≡ part k j t
        go true f =
            put_before (begin k i t) (share k t) t x (part_fits t) e (begin k j t) (share k t) (later_begin k j i t (ltb-true j i f))
        go false f =
            ap (take (share k t))
            (put_after (begin k i t) (share k t) t x (part_fits t) e (begin k j t)
            (later_begin k i j t (omega (arith, ltb-false j i f, d))))

    -- and so is the remainder
    pub remainder_with : remainder k (with_part k i t x) ≡ remainder k t
    remainder_with =
        ap (λ (n : ℕ). drop (k * n) (with_part k i t x)) same_share
        ∙ put_after (begin k i t) (share k t) t x (part_fits t) e (begin k k t) (later_begin k i k t h)

-- ---- cutting

-- so many parts from part i on, and what comes after them, are the table from part i on
parts_in_turn : (k i more : ℕ) (t : List ℕ) → parts_from k i more t ++ drop (begin k (i + more) t) t ≡ drop (begin k i t) t
parts_in_turn k i zero t = ap (λ (j : ℕ). drop (begin k j t) t) (add-zero i)
parts_in_turn k i (suc more) t =
    let same : i + suc more ≡ suc i + more = omega arith in
    append_assoc (part k i t) (parts_from k (suc i) more t) _
    ∙ ap (λ (j : ℕ). part k i t ++ (parts_from k (suc i) more t ++ drop (begin k j t) t)) same
    ∙ ap (λ (l : List ℕ). part k i t ++ l) (parts_in_turn k (suc i) more t)
    ∙ ap (λ (j : ℕ). part k i t ++ drop j t) (next_begin k i t)
    ∙ ap (λ (l : List ℕ). part k i t ++ l) (sym (drop-drop (share k t) (begin k i t) t))
    ∙ take-append-drop (share k t) (drop (begin k i t) t)

pub cutting : Cutting
cutting k t =
    record {
      in_turn =
          sym
          (ap (λ (j : ℕ). parts_from k 0 k t ++ drop (begin k j t) t) (sym (zero-add k))
          ∙ parts_in_turn k 0 k t
          ∙ ap (λ (j : ℕ). drop j t) (zero-mul (share k t)));
      equal = λ i l. part_length k i l t;
      left_over = length-drop (begin k k t) t ∙ omega (arith, div-add-mod (length t) k);
    }
