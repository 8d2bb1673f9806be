-- Laws of decimal numbers: the digits of a number below 10, of one from 10 on, and how many a number has. `decimal_up_to k n` is the same for every k above n, since n / 10 is
-- below n where n is 10 or more.
use mathlib.Core.Path.{◌≡◌, sym, ap, ◌∙◌}
use mathlib.Core.List.{List, [], ◌∷◌, ◌++◌}
use Prim.Native.Nat.{ℕ, zero, suc, ◌/◌, ◌%◌, ◌^◌, ◌<◌, ◌≤◌}
use native.Mathlib.Nat.{pow-suc}
use native.Mathlib.Decide.{dec_lt}
use native.Mathlib.Omega.{arith}
use lib.Dec.{lit≤}
use lib.ListN.{length, length-append}
use borrow.Author.Tests.{lt-ltb, le-ltb}
use Rattle.report.specs.Decimal.{digit, decimal_up_to, decimal}

-- the digits of a number below 10, and of one from 10 on, in any number of steps
one_digit : (k n : ℕ) → n < 10 → decimal_up_to (suc k) n ≡ digit n ∷ []
unfolding decimal_up_to
one_digit k n h = rw (lt-ltb n 10 h, decimal_up_to)

last_digit : (k n : ℕ) → 10 ≤ n → decimal_up_to (suc k) n ≡ decimal_up_to k (n / 10) ++ (digit (n % 10) ∷ [])
unfolding decimal_up_to
last_digit k n h = rw (le-ltb n 10 h, decimal_up_to)

-- any number of steps above n is enough
enough : (j k n : ℕ) → n < j → n < k → decimal_up_to j n ≡ decimal_up_to k n
enough zero k n h i = absurd (omega arith)
enough (suc j) zero n h i = absurd (omega arith)
enough (suc j) (suc k) n h i = elim (dec_lt n 10) [
  | yes small ↦ one_digit j n small ∙ sym (one_digit k n small)
  | no not-small ↦
      let large : 10 ≤ n = omega arith in
      last_digit j n large ∙ ap (λ (ds : List ℕ). ds ++ (digit (n % 10) ∷ [])) (enough j k (n / 10) (omega arith) (omega arith)) ∙ sym (last_digit k n large)
]

-- the digits of a number below 10
pub decimal_digit : (n : ℕ) → n < 10 → decimal n ≡ digit n ∷ []
unfolding decimal
decimal_digit n h = one_digit n n h

-- the digits of a number from 10 on
pub decimal_more : (n : ℕ) → 10 ≤ n → decimal n ≡ decimal (n / 10) ++ (digit (n % 10) ∷ [])
unfolding decimal
decimal_more n h = last_digit n n h ∙ ap (λ (ds : List ℕ). ds ++ (digit (n % 10) ∷ [])) (enough n (suc (n / 10)) (n / 10) (omega arith) (omega arith))

-- a number below 10 to the power k, k not 0, has at most k digits
pub decimal_length : (k n : ℕ) → n < 10 ^ suc k → length (decimal n) ≤ suc k
decimal_length zero n h = rw (decimal_digit n h) (lit≤ tt)
decimal_length (suc k) n h = elim (dec_lt n 10) [
  | yes small ↦ rw (decimal_digit n small) (omega arith)
  | no not-small ↦
      let large : 10 ≤ n = omega arith in
      rw (decimal_more n large, length-append) (omega (arith, decimal_length k (n / 10) (omega (arith, pow-suc 10 (suc k)))))
]
