-- What the functions under the entry point ask and promise.
use Rattle.std.specs.Prelude.{◌≡◌, Bool, true, false, Option, Some, None, ℕ, ◌+◌, ◌≤◌, ◌<◌, length, get_or}
use mathlib.Core.List.{List}
use Rattle.std.specs.Int.Count.{ones}
use Rattle.words.specs.Words.{minus, first_vars}
use Rattle.rows.specs.Rows.{clause_words, clauses}
use Rattle.book.specs.Limits.{max_vars, max_clauses}
use Rattle.book.specs.Bytes.{book_bytes, encode}
use Rattle.book.specs.Written.{placed}
use Rattle.book.specs.Refusals.{first_row}
use Rattle.book.specs.Reading.{WellFormed}
use Rattle.book.specs.declared.Book as declared
use Rattle.joint.specs.Pairs.{pair_count, option}
use Rattle.joint.specs.Join.{Book, joint_rows, left_by, Joined}

-- ---- books in work tables

-- the book whose clauses are the table's first
abbrev pub book_of : declared.Book → List ℕ → Book
book_of b t = record { vars = b.vars; rules = clauses t b.clauses }

-- a book that was read into a work table
pub record Held (b : declared.Book) (t : List ℕ) : Type 0 where
  pub room : clause_words max_clauses ≤ length t
  pub formed : WellFormed b.vars (clauses t b.clauses)

-- sizes within the limits
pub record Small (b : declared.Book) : Type 0 where
  pub vars : b.vars ≤ max_vars
  pub clauses : b.clauses ≤ max_clauses

-- the sizes of the joint book, where these options of the second are paired
pub record Sizes (a b : declared.Book) (paired : ℕ) (r : declared.Book) : Type 0 where
  pub vars : r.vars ≡ a.vars + ones (minus (first_vars b.vars) paired)
  pub clauses : r.clauses ≡ a.clauses + b.clauses

-- so many bytes of the book are written at the beginning of the buffer
pub record Writes (b : Book) (before : List ℕ) (size : ℕ) (after : List ℕ) : Type 0 where
  pub bytes : size ≡ book_bytes (length b.rules)
  pub out : after ≡ placed before 0 (encode b.vars b.rules)

-- both books were read: 22 and 23
pub record JoinsBooks (a b : Book) (pairs before : List ℕ) (r : Joined) (after : List ℕ) : Type 0 where
  pub left : record { answer = r; out = after } ≡ left_by a b pairs before (first_row (joint_rows a b pairs (length before)))

-- ---- pairs

-- nothing where they are at fault, and else these options
unfoldable pub judged_as : Bool → ℕ → Option ℕ
judged_as true options = None
judged_as false options = Some options

-- no pair has option 0 of the first book
abbrev pub NoneZero : List ℕ → Type 0
NoneZero pairs = (i : ℕ) → i < pair_count pairs → 0 < option 0 pairs i

-- ---- places

-- the place that the array has for variable k
abbrev pub place_in : List ℕ → ℕ → ℕ
place_in places k = get_or places k 0

-- the first `count` clauses of u can be put into t after its first m
pub record Appendable (m count : ℕ) (u t : List ℕ) : Type 0 where
  pub from : clause_words count ≤ length u
  pub room : clause_words (m + count) ≤ length t
