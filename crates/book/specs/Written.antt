-- What writing a book gives, and what the lent buffer then holds.
use Rattle.std.specs.Prelude.{true, false, List, ◌++◌, ℕ, ◌+◌, ltb, length, take, drop, Result, Ok, Err}
use Rattle.book.specs.Bytes.{encode}
use Rattle.book.specs.Reading.{Reading, Reading.book, Reading.refused}
use Rattle.answer.specs.Numbers.{refusal_number}
use Rattle.book.specs.declared.encode.WriteError.{WriteError}
use Rattle.book.specs.declared.encode.WriteError.TheVariants as error

-- `Refused` the number of a refusal, `Short` where the book's bytes do not fit, `Bytes` how many there are
pub data Written : Type 0 where
  Bytes : ℕ → Written
  Refused : ℕ → Written
  Short : Written

-- what the code gives
abbrev pub written_by : Result ℕ WriteError → Written
written_by (Ok size) = Bytes size
written_by (Err (error.Refused r)) = Refused (refusal_number r)
written_by (Err error.Short) = Short

-- the buffer with the bytes bs from place `at` on, and every other place as it was
unfoldable pub placed : List ℕ → ℕ → List ℕ → List ℕ
placed out at bs = take at out ++ bs ++ drop (at + length bs) out

-- what writing a book into a buffer of so many places gives
unfoldable pub written_of : ℕ → Reading → Written
written_of room (book n cs) = elim (ltb room (length (encode n cs))) [ true ↦ Short | false ↦ Bytes (length (encode n cs)) ]
written_of room (refused number) = Refused number

-- the buffer afterwards: the book's bytes from its first place on, and as it was where nothing is written
unfoldable pub written_to : List ℕ → Reading → List ℕ
written_to out (book n cs) = elim (ltb (length out) (length (encode n cs))) [ true ↦ out | false ↦ placed out 0 (encode n cs) ]
written_to out (refused number) = out
