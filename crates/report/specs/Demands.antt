-- The demands on numbers and fields, each as a named type that is proved in `proofs/`.
use Rattle.std.specs.Prelude.{◌≡◌, List, [], ◌∷◌, ℕ, ◌+◌, ◌-◌, ◌*◌, ◌≤◌, ◌<◌, length, get_or, take, drop}
use Rattle.report.specs.Decimal.{decimal}
use Rattle.report.specs.Fields.{set_left, set_right}

-- the number that digits say, after those that say k: 48 is the digit 0
abbrev pub value_after : ℕ → List ℕ → ℕ
value_after k [] = k
value_after k (d ∷ ds) = value_after (k * 10 + (d - 48)) ds

-- a number in decimal: digits that say it, with no 0 before others, and one 0 for 0
pub record Decimal (n : ℕ) (digits : List ℕ) : Type 0 where
  pub each : (i : ℕ) → i < length digits → (48 ≤ get_or digits i 0) × (get_or digits i 0 ≤ 57)
  pub value : value_after 0 digits ≡ n
  pub leading : 0 < n → 48 < get_or digits 0 0
  pub zero : n ≡ 0 → length digits ≡ 1

abbrev pub Decimals : Type 0
Decimals = (n : ℕ) → Decimal n (decimal n)

-- and no others
abbrev pub OneDecimal : Type 0
OneDecimal = (n : ℕ) (digits others : List ℕ) → Decimal n digits → Decimal n others → digits ≡ others

-- a text with nothing but blanks beside it, which fill up the width: at the left of its field
pub record AtLeft (width : ℕ) (text field : List ℕ) : Type 0 where
  pub wide : length field ≡ width
  pub text_first : take (length text) field ≡ text
  pub blanks : (i : ℕ) → length text ≤ i → i < width → get_or field i 0 ≡ 32

-- and at the right
pub record AtRight (width : ℕ) (text field : List ℕ) : Type 0 where
  pub wide : length field ≡ width
  pub text_last : drop (width - length text) field ≡ text
  pub blanks : (i : ℕ) → i + length text < width → get_or field i 0 ≡ 32

-- a text that is no longer than its field
pub record Fields : Type 0 where
  pub left : (width : ℕ) (text : List ℕ) → length text ≤ width → AtLeft width text (set_left width text)
  pub right : (width : ℕ) (text : List ℕ) → length text ≤ width → AtRight width text (set_right width text)

-- no other field has the text there
pub record OneField : Type 0 where
  pub left : (width : ℕ) (text field other : List ℕ) → AtLeft width text field → AtLeft width text other → field ≡ other
  pub right : (width : ℕ) (text field other : List ℕ) → AtRight width text field → AtRight width text other → field ≡ other

pub record Demands : Type 0 where
  pub decimals : Decimals
  pub one_decimal : OneDecimal
  pub fields : Fields
  pub one_field : OneField
