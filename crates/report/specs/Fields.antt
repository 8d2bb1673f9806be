-- Texts and numbers set in fields of a fixed width, filled up with blanks.
use Rattle.std.specs.Prelude.{List, ◌++◌, ℕ, ◌-◌, length, replicate}

-- so many blanks
abbrev pub blanks : ℕ → List ℕ
blanks k = replicate k 32

-- the text at the left of a field
unfoldable pub set_left : ℕ → List ℕ → List ℕ
set_left width text = text ++ blanks (width - length text)

-- the text at the right of a field
unfoldable pub set_right : ℕ → List ℕ → List ℕ
set_right width text = blanks (width - length text) ++ text
