-- A cleared table: zeros with words in the first places, cleared there, are zeros again.
use mathlib.Core.Path.{◌≡◌, sym, ap, ◌∙◌}
use mathlib.Core.List.{List, ◌++◌}
use Prim.Native.Nat.{ℕ, zero, suc, ◌+◌, ◌-◌, ◌≤◌}
use native.Mathlib.Omega.{arith}
use lib.ListN.{length, drop, replicate, length-replicate, replicate-append-replicate}
use lib.Seq.{drop_at}
use Rattle.std.proofs.lemmas.List.{drop-replicate}
use Rattle.contract.specs.Filled.{written}

-- words that were written into zeros, cleared
pub written_cleared : (k n : ℕ) (ws : List ℕ) → length ws ≡ k → k ≤ n → written (replicate k 0) (written ws (replicate n 0)) ≡ replicate n 0
written_cleared k n ws e h =
    ap (λ (j : ℕ). replicate k 0 ++ drop j (written ws (replicate n 0))) (length-replicate {A = ℕ} k 0)
    ∙ ap (λ (l : List ℕ). replicate k 0 ++ l)
    (drop_at ws (drop (length ws) (replicate n 0)) k e ∙ ap (λ (j : ℕ). drop j (replicate n 0)) e ∙ drop-replicate k n 0)
    ∙ replicate-append-replicate k (n - k) 0
    ∙ (let all : k + (n - k) ≡ n = omega (arith, h) in ap (λ (m : ℕ). replicate m 0) all)
