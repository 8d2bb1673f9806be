-- No other digits say a number, and no other field holds a text. Digits of the same number that are equally many are the same, from the last on; and of two that are not, the shorter ones
-- with zeros before them would be the longer, whose first is no zero.
use mathlib.Core.Path.{◌≡◌, refl, sym, ap, ap₂, ◌∙◌}
use mathlib.Core.List.{List, [], ◌∷◌, ◌++◌}
use Prim.Native.Nat.{ℕ, zero, suc, ◌+◌, ◌-◌, ◌*◌, ◌≤◌, ◌<◌}
use native.Mathlib.Decide.{dec_lt}
use native.Mathlib.Omega.{arith}
use lib.Seq.{ext_get_or, get_or-take, get_or-drop}
use lib.ListN.{length, get_or, replicate, length-append, length-replicate}
use Rattle.report.specs.Demands.{value_after, Decimal, OneDecimal, AtLeft, AtRight, OneField}

-- bytes that are digits
abbrev Digits : List ℕ → Type 0
Digits ds = (i : ℕ) → i < length ds → (48 ≤ get_or ds i 0) × (get_or ds i 0 ≤ 57)

tail_digits : (d : ℕ) (ds : List ℕ) → Digits (d ∷ ds) → Digits ds
tail_digits d ds all i h = all (suc i) (omega arith)

-- equally many
same_digits : (k j : ℕ) (ds es : List ℕ) → length ds ≡ length es → Digits ds → Digits es → value_after k ds ≡ value_after j es → (k ≡ j) × (ds ≡ es)
same_digits k j [] [] l p q e = (e, refl)
same_digits k j [] (f ∷ es) l p q e = absurd (omega arith)
same_digits k j (d ∷ ds) [] l p q e = absurd (omega arith)
same_digits k j (d ∷ ds) (f ∷ es) l p q e =
    let rest = same_digits (k * 10 + (d - 48)) (j * 10 + (f - 48)) ds es (omega arith) (tail_digits d ds p) (tail_digits f es q) e in
    let this = p 0 (omega arith) in
    let that = q 0 (omega arith) in
    let first : d ≡ f = omega (arith, rest.0, this.0, this.1, that.0, that.1) in
    (omega (arith, rest.0, this.0, this.1, that.0, that.1), ap₂ (λ (x : ℕ) (xs : List ℕ). x ∷ xs) first rest.1)

-- zeros before digits
zeros_value : (k : ℕ) (ds : List ℕ) → value_after 0 (replicate k 48 ++ ds) ≡ value_after 0 ds
zeros_value zero ds = refl
zeros_value (suc k) ds = zeros_value k ds

zeros_digits : (k : ℕ) (ds : List ℕ) → Digits ds → Digits (replicate k 48 ++ ds)
zeros_digits zero ds p i h = p i h
zeros_digits (suc k) ds p zero h = (omega arith, omega arith)
zeros_digits (suc k) ds p (suc i) h = zeros_digits k ds p i (omega arith)

-- the shorter of two
not_shorter : (n : ℕ) (ds es : List ℕ) → Decimal n ds → Decimal n es → length ds < length es → ⊥
not_shorter n ds es p q h =
    let k = length es - length ds - 1 in
    let padded = replicate (suc k) 48 ++ ds in
    let long : length padded ≡ length es = length-append (replicate (suc k) 48) ds ∙ omega (arith, length-replicate {A = ℕ} (suc k) 48) in
    let same = same_digits 0 0 padded es long (zeros_digits (suc k) ds p.each) q.each (zeros_value (suc k) ds ∙ p.value ∙ sym q.value) in
    let first : 48 ≡ get_or es 0 0 = ap (λ (l : List ℕ). get_or l 0 0) same.1 in
    elim (dec_lt 0 n) [
      | yes some ↦ omega (arith, first, q.leading some)
      | no not_some ↦ omega (arith, h, p.zero (omega arith), q.zero (omega arith))
    ]

pub one_decimal : OneDecimal
one_decimal n ds es p q = elim (dec_lt (length ds) (length es)) [
  | yes less ↦ absurd (not_shorter n ds es p q less)
  | no not-less ↦ elim (dec_lt (length es) (length ds)) [
    | yes more ↦ absurd (not_shorter n es ds q p more)
    | no not_more ↦ (same_digits 0 0 ds es (omega arith) p.each q.each (p.value ∙ sym q.value)).1
  ]
]

-- ---- fields

-- a byte of the text, by its place in the field
left_byte : (width : ℕ) (text field : List ℕ) → AtLeft width text field → (i : ℕ) → i < length text → get_or field i 0 ≡ get_or text i 0
left_byte width text field h i l = sym (get_or-take (length text) field i 0 l) ∙ ap (λ (t : List ℕ). get_or t i 0) h.text_first

right_byte :
    (width : ℕ) (text field : List ℕ) → AtRight width text field → (i : ℕ) → width - length text ≤ i → get_or field i 0 ≡ get_or text (i - (width - length text)) 0
right_byte width text field h i l =
    let k = width - length text in
    let at : i ≡ k + (i - k) = omega arith in
    ap (λ (j : ℕ). get_or field j 0) at ∙ sym (get_or-drop k field (i - k) 0) ∙ ap (λ (t : List ℕ). get_or t (i - k) 0) h.text_last

pub one_field : OneField
one_field =
    record {
      left = λ width text field other p q.
          ext_get_or 0 field other (p.wide ∙ sym q.wide)
          (λ i h. elim (dec_lt i (length text)) [
            | yes in-text ↦ left_byte width text field p i in-text ∙ sym (left_byte width text other q i in-text)
            | no after ↦ p.blanks i (omega arith) (omega (arith, p.wide)) ∙ sym (q.blanks i (omega arith) (omega (arith, p.wide)))
          ]);
      right = λ width text field other p q.
          ext_get_or 0 field other (p.wide ∙ sym q.wide)
          (λ i h. elim (dec_lt i (width - length text)) [
            | yes before ↦ p.blanks i (omega arith) ∙ sym (q.blanks i (omega arith))
            | no in-text ↦ right_byte width text field p i (omega arith) ∙ sym (right_byte width text other q i (omega arith))
          ]);
    }
