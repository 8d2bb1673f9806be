use Rattle.std.proofs.Common.{◌≡◌, ℕ, ◌<◌, length, get_or}
use Rattle.joint.specs.Pairs.{place}
use Rattle.joining.proofs.pairs.places.Given as goal

-- each option passed has its place in the array
abbrev pub invariant-loop-k : goal.invariant-loop-k
invariant-loop-k l =
    (length l.of ≡ 64) × ((j : ℕ) → j < l.k → get_or l.of j 0 ≡ place l.n l.pairs j) × ((j : ℕ) → get_or l.of j 0 < 64)
