-- The library's decimal numbers are those of `specs/`.
use mathlib.Core.Path.{◌≡◌, sym, ap, ◌∙◌}
use mathlib.Core.List.{List, [], ◌∷◌, ◌++◌}
use Prim.Native.Nat.{ℕ, ◌%◌, ◌^◌, ◌<◌}
use Rattle.std.specs.Fmt.{decimal as written}
use Rattle.std.proofs.lemmas.Fmt.{decimal_by_steps}
use Rattle.report.specs.Decimal.{digit, decimal}
use Rattle.report.proofs.Digits.{decimal_digit, decimal_more}

pub decimal_written : (n : ℕ) → n < 2 ^ 64 → written n ≡ decimal n
decimal_written = decimal_by_steps (λ n ds. ds ≡ decimal n) (λ n small. sym (decimal_digit n small)) (λ n ds large same. ap (λ (l : List ℕ). l ++ (digit (n % 10) ∷ [])) same ∙ sym (decimal_more n large))
