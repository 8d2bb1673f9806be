-- What the exported function hands over: a number, the length in the caller's place, and the buffer.
use Rattle.std.specs.Prelude.{◌≡◌, List, ℕ}
use Rattle.joint.specs.Join.{join, Joined, Joined.Written, Joined.Refused}

-- 0 where the joint book is written, and else the number of the refusal
abbrev pub number_of : Joined → ℕ
number_of (Written k) = 0
number_of (Refused k) = k

-- the length in the caller's place, which a refusal leaves as it was
abbrev pub length_in : ℕ → Joined → ℕ
length_in place (Written k) = k
length_in place (Refused k) = place

-- `place` is what the caller's place held, and `place'` what it holds afterwards
pub record Hands (first second pairs before : List ℕ) (place r : ℕ) (after : List ℕ) (place' : ℕ) : Type 0 where
  pub number : r ≡ number_of (join first second pairs before).answer
  pub length : place' ≡ length_in place (join first second pairs before).answer
  pub out : after ≡ (join first second pairs before).out
