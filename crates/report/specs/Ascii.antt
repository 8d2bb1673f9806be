-- A quoted text as bytes, so that the definitions and examples of a text read as the text itself.
use Rattle.std.specs.Prelude.{List, [], ◌∷◌, ℕ}
use Prim.Native.Char.{code}
use Prim.Native.String.{String}
use Prim.Native.String.{[] as no_characters, ◌∷◌ as ◌and◌}

-- the codes of the characters of a text
abbrev pub ascii : String → List ℕ
ascii no_characters = []
ascii (c and cs) = code c ∷ ascii cs
