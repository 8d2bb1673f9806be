-- The digits of a number say it. The last one says what is left by 10, and those before it, by induction, n / 10; the first is that of n / 10, and so on down to a number below 10.
use mathlib.Core.Path.{◌≡◌, refl, ap, ◌∙◌}
use mathlib.Core.List.{List, [], ◌∷◌, ◌++◌}
use Prim.Native.Nat.{ℕ, zero, suc, ◌+◌, ◌-◌, ◌*◌, ◌/◌, ◌%◌, ◌≤◌, ◌<◌}
use native.Mathlib.Decide.{dec_lt}
use native.Mathlib.Omega.{arith}
use lib.ListN.{length, length-append, get_or-append}
use lib.Seq.{get_or-append_seam}
use Rattle.report.specs.Decimal.{digit, decimal}
use Rattle.report.specs.Demands.{value_after, Decimal, Decimals}
use Rattle.report.proofs.Digits.{decimal_digit, decimal_more}

-- how many digits: one below 10, and else one more than n / 10 has
digits_one : (n : ℕ) → n < 10 → length (decimal n) ≡ 1
digits_one n h = ap length (decimal_digit n h)

digits_more : (n : ℕ) → 10 ≤ n → length (decimal n) ≡ length (decimal (n / 10)) + 1
digits_more n h = ap length (decimal_more n h) ∙ length-append (decimal (n / 10)) (digit (n % 10) ∷ [])

-- there is one
some_digit : (n : ℕ) → 0 < length (decimal n)
some_digit n = elim (dec_lt n 10) [
  | yes small ↦ omega (arith, digits_one n small)
  | no not-small ↦ omega (arith, digits_more n (omega arith))
]

-- a digit after others
value_last : (k : ℕ) (ds : List ℕ) (d : ℕ) → value_after k (ds ++ (d ∷ [])) ≡ value_after k ds * 10 + (d - 48)
value_last k [] d = refl
value_last k (e ∷ ds) d = value_last (k * 10 + (e - 48)) ds d

-- a number below 10
of_digit : (n : ℕ) → n < 10 → Decimal n (digit n ∷ [])
of_digit n h =
    record {
      each = λ i l. let first : i ≡ 0 = omega arith in rw first (omega arith, omega arith);
      value = omega arith;
      leading = λ p. omega arith;
      zero = λ e. refl;
    }

-- one from 10 on, after the digits of its tenth
of_more : (n : ℕ) (ds : List ℕ) → 10 ≤ n → 0 < length ds → Decimal (n / 10) ds → Decimal n (ds ++ (digit (n % 10) ∷ []))
of_more n ds large some tenth =
    let last = digit (n % 10) in
    record {
      each = λ i l. elim (dec_lt i (length ds)) [
        | yes before ↦ rw (get_or-append ds (last ∷ []) 0 i before) (tenth.each i before)
        | no not_before ↦
            let at : i ≡ length ds = omega (arith, length-append ds (last ∷ [])) in
            rw (at, get_or-append_seam ds last [] 0) (omega arith, omega arith)
      ];
      value = value_last 0 ds last ∙ omega (arith, tenth.value);
      leading = λ p. rw (get_or-append ds (last ∷ []) 0 0 some) (tenth.leading (omega arith));
      zero = λ e. absurd (omega arith);
    }

-- by induction on a number above n
decimal_below : (k n : ℕ) → n < k → Decimal n (decimal n)
decimal_below zero n h = absurd (omega arith)
decimal_below (suc k) n h = elim (dec_lt n 10) [
  | yes small ↦ rw (decimal_digit n small) (of_digit n small)
  | no not-small ↦
      let large : 10 ≤ n = omega arith in
      rw (decimal_more n large) (of_more n (decimal (n / 10)) large (some_digit (n / 10)) (decimal_below k (n / 10) (omega arith)))
]

pub decimals : Decimals
decimals n = decimal_below (suc n) n (omega arith)
