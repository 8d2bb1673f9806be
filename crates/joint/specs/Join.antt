-- The joint book of two books and pairs of their options, its refusals, and what joining leaves in a lent buffer.
use Rattle.std.specs.Prelude.{◌≡◌, Bool, ◌||◌, Result, Ok, Err, List, [], ◌∷◌, ◌++◌, map, ℕ, ◌+◌, ◌-◌, ◌≤◌, ltb, length}
use Rattle.std.proofs.Math.Option.{Option, some, none}
use Rattle.answer.specs.declared.refusal.Refusal.{Refusal}
use Rattle.answer.specs.Numbers.{refusal_number}
use Rattle.words.specs.Words.{odd}
use Rattle.steps.specs.Clause.{Clause}
use Rattle.book.specs.Limits.{max_vars, max_clauses}
use Rattle.book.specs.Bytes.{book_bytes, vars_in, rules_in, encode}
use Rattle.book.specs.Refusals.{Row, row, first_row, book_rows}
use Rattle.book.specs.Written.{placed}
use Rattle.renaming.specs.Renaming.{renamed}
use Rattle.joint.specs.Pairs.{pair_count, side_fault, place}

-- ---- the joint book

-- a book: how many options it has, and its rules
pub record Book : Type 0 where
  pub vars : ℕ
  pub rules : List Clause

-- the one in bytes
abbrev pub book_in : List ℕ → Book
book_in bytes = record { vars = vars_in bytes; rules = rules_in bytes }

-- the options of the joint book: the first's, and those of the second that are not paired
abbrev pub joint_vars : Book → Book → List ℕ → ℕ
joint_vars a b pairs = a.vars + (b.vars - pair_count pairs)

-- how many rules it has
abbrev pub joint_count : Book → Book → ℕ
joint_count a b = length a.rules + length b.rules

-- its rules: the first's, and then the second's with every option in its place
unfoldable pub joint_rules : Book → Book → List ℕ → List Clause
joint_rules a b pairs = a.rules ++ map (renamed (place a.vars pairs) b.vars) b.rules

-- its bytes
unfoldable pub joint_bytes : Book → Book → List ℕ → List ℕ
joint_bytes a b pairs = encode (joint_vars a b pairs) (joint_rules a b pairs)

-- ---- refusals

-- of books of n and of m options: a pair is incomplete, or has an option at fault
unfoldable pub pairs_fault : ℕ → ℕ → List ℕ → Bool
pairs_fault n m pairs = odd (length pairs) || (side_fault n 0 pairs (pair_count pairs) || side_fault m 1 pairs (pair_count pairs))

-- n options are too many, m rules are, or their bytes are for the buffer
unfoldable pub too_large : ℕ → ℕ → ℕ → Bool
too_large n m room = ltb max_vars n || (ltb max_clauses m || ltb room (book_bytes m))

-- where it does not hold: within the limits, and with room for the bytes
pub record Fitting (n m room : ℕ) : Type 0 where
  pub vars : n ≤ max_vars
  pub clauses : m ≤ max_clauses
  pub bytes : book_bytes m ≤ room

-- 22 and 23
abbrev pub joint_rows : Book → Book → List ℕ → ℕ → List Row
joint_rows a b pairs room = row 22 (pairs_fault a.vars b.vars pairs) ∷ row 23 (too_large (joint_vars a b pairs) (joint_count a b) room) ∷ []

-- 1 to 6 of the first book, 1 to 6 of the second, then 22 and 23
abbrev pub join_rows : List ℕ → List ℕ → List ℕ → ℕ → List Row
join_rows first second pairs room = book_rows first ++ (book_rows second ++ joint_rows (book_in first) (book_in second) pairs room)

-- ---- joining

-- how many bytes of the joint book were written, or the number of the refusal
pub data Joined : Type 0 where
  Written : ℕ → Joined
  Refused : ℕ → Joined

-- what the code gives
abbrev pub joined_of : Result ℕ Refusal → Joined
joined_of (Ok size) = Written size
joined_of (Err r) = Refused (refusal_number r)

-- what is left: the answer, and the buffer
pub record Left : Type 0 where
  pub answer : Joined
  pub out : List ℕ

-- refused by the row that was found, and else written at the buffer's beginning
unfoldable pub left_by : Book → Book → List ℕ → List ℕ → Option ℕ → Left
left_by a b pairs out (some k) = record { answer = Refused k; out = out }
left_by a b pairs out none = record { answer = Written (length (joint_bytes a b pairs)); out = placed out 0 (joint_bytes a b pairs) }

-- two books' bytes, the bytes of pairs, and the buffer
unfoldable pub join : List ℕ → List ℕ → List ℕ → List ℕ → Left
join first second pairs out = left_by (book_in first) (book_in second) pairs out (first_row (join_rows first second pairs (length out)))

-- what the entry point promises: its answer and the buffer are those of the definition
pub record Joins (first second pairs before : List ℕ) (r : Joined) (after : List ℕ) : Type 0 where
  pub left : record { answer = r; out = after } ≡ join first second pairs before
