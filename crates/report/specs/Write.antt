-- Writing a text into a buffer at a place.
use Rattle.std.specs.Prelude.{◌≡◌, List, ◌++◌, ℕ, ◌+◌, ◌≤◌, length, take, drop}

-- the buffer with the text from place `at` on, and every other byte as it was
unfoldable pub placed : List ℕ → ℕ → List ℕ → List ℕ
placed out at text = take at out ++ text ++ drop (at + length text) out

-- the buffer has room for the text from place `at` on
pub record Room (out : List ℕ) (at : ℕ) (text : List ℕ) : Type 0 where
  pub fits : at + length text ≤ length out

-- writing the text at place `at` has turned the one buffer into the other, and `next` is the place after the text
pub record Wrote (before : List ℕ) (at : ℕ) (text : List ℕ) (after : List ℕ) (next : ℕ) : Type 0 where
  pub bytes : after ≡ placed before at text
  pub end : next ≡ at + length text
