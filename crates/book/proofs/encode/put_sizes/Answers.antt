use mathlib.Core.Path.{◌≡◌, sym, ◌∙◌}
use mathlib.Core.List.{List, [], ◌∷◌}
use Prim.Native.Nat.{ℕ, ◌/◌, ◌%◌, ◌≤◌}
use native.Mathlib.Omega.{arith}
use lib.ListN.{length, set, length-set}
use Rattle.book.specs.Limits.{max_vars}
use Rattle.book.specs.Written.{placed}
use Rattle.book.specs.Bytes.{bytes_of}
use Rattle.book.proofs.Placed.{placed_nil, placed_cons}
use Rattle.book.proofs.encode.put_sizes.Goals as goal

-- the three stores
three : (out : List ℕ) (n m : ℕ) → n ≤ max_vars → 3 ≤ length out
    → set (set (set out 0 (n % 256)) 1 (m % 256)) 2 (m / 256 % 256) ≡ placed out 0 (n ∷ bytes_of 2 m)
unfolding bytes_of
three out n m small long =
    let same : n % 256 ≡ n = omega arith in
    rw same
    (sym
    (placed_cons out 0 n _ (omega arith) ∙ placed_cons _ 1 (m % 256) _ (simp length-set (omega arith))
    ∙ placed_cons _ 2 (m / 256 % 256) [] (simp length-set (omega arith)) ∙ placed_nil _ 3))

pub returns : goal.returns
returns c = three _ _ _ (omega arith) (omega arith)
