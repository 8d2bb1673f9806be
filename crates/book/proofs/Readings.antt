-- Laws of readings: what a reading says of the rows, and which row refuses bytes and tables, test by test.
use mathlib.Core.Path.{◌≡◌, refl, sym, ap, ◌∙◌}
use mathlib.Core.Bool.{Bool}
use mathlib.Core.List.{List, ◌++◌}
use mathlib.Core.Logic.{◌≢◌}
use mathlib.Core.Option.{Option, some, none}
use Prim.Native.Nat.{ℕ, ◌≤◌, ◌<◌}
use borrow.Author.Tests.{lt-ltb, le-ltb, eq-eqb, ne_eqb}
use lib.Dec.{ltb, eqb}
use lib.ListN.{length}
use Rattle.words.proofs.Truth.{clash}
use Rattle.steps.specs.Clause.{Clause}
use Rattle.rows.specs.Rows.{clause_words, clauses}
use Rattle.book.specs.Limits.{max_vars, max_clauses}
use Rattle.book.specs.Bytes.{book_bytes, vars_in, count_in, rules_in}
use Rattle.book.specs.Refusals.{Row, row, first_row, size_rows, rule_rows, book_rows}
use Rattle.book.specs.Reading.{Reading.book, Reading.refused, judged, read, read_rules, read_table}
use Rattle.book.proofs.Refusals.{first_here, first_later}
use Rattle.book.proofs.Tests.{sizes_length, sizes_passed}

-- a book is where no row holds
pub judged_book : (x : Option ℕ) (n n' : ℕ) (cs cs' : List Clause) → judged x n cs ≡ book n' cs' → (x ≡ none) × (n ≡ n') × (cs ≡ cs')
unfolding judged
judged_book none n n' cs cs' e = (refl, cc, cc)
judged_book (some k) n n' cs cs' e = clash cc

-- a refusal is by the row that was found
pub judged_refused : (x : Option ℕ) (n k : ℕ) (cs : List Clause) → judged x n cs ≡ refused k → x ≡ some k
unfolding judged
judged_refused none n k cs e = clash cc
judged_refused (some j) n k cs e = ap some (cc)

-- and back
pub refused_by : (x : Option ℕ) (n k : ℕ) (cs : List Clause) → x ≡ some k → refused k ≡ judged x n cs
unfolding judged
refused_by x n k cs e = rw (e, judged)

pub book_by : (x : Option ℕ) (n : ℕ) (cs : List Clause) → x ≡ none → book n cs ≡ judged x n cs
unfolding judged
book_by x n cs e = rw (e, judged)

-- ---- book bytes

module _ (bytes : List ℕ) where
  -- the rows of the rules
  abbrev rules : List Row
  rules = rule_rows (vars_in bytes) (rules_in bytes)

  -- as many bytes as they take
  abbrev pub whole : Bool
  whole = eqb (length bytes) (book_bytes (count_in bytes))

  -- 2 and the rows after it
  abbrev pub sizes : List Row
  sizes = size_rows (vars_in bytes) (count_in bytes) whole ++ rules

  -- 1
  pub read_short : length bytes < 3 → refused 1 ≡ read bytes
  unfolding read book_rows
  read_short h = refused_by (first_row (book_rows bytes)) (vars_in bytes) 1 (rules_in bytes) (first_here (row 1 (ltb (length bytes) 3)) sizes (lt-ltb _ _ h))

  module _ (long : 3 ≤ length bytes) where
    -- past 1, the sizes and the rules decide
    rows_long : first_row (book_rows bytes) ≡ first_row sizes
    unfolding book_rows
    rows_long = first_later (row 1 (ltb (length bytes) 3)) sizes (le-ltb _ _ long)

    -- a row from 2 on
    pub read_by : (k : ℕ) → first_row sizes ≡ some k → refused k ≡ read bytes
    unfolding read
    read_by k e = refused_by (first_row (book_rows bytes)) (vars_in bytes) k (rules_in bytes) (rows_long ∙ e)

    module _ (few : vars_in bytes ≤ max_vars) where
      -- 4
      pub read_length : count_in bytes ≤ max_clauses → length bytes ≢ book_bytes (count_in bytes) → refused 4 ≡ read bytes
      read_length h other = read_by 4 (sizes_length (vars_in bytes) (count_in bytes) whole rules few h (ne_eqb _ _ other))

      -- past 4, the rules decide
      pub read_rules_lem : count_in bytes ≤ max_clauses → length bytes ≡ book_bytes (count_in bytes)
          → read_rules (vars_in bytes) (rules_in bytes) ≡ read bytes
      unfolding read
      read_rules_lem h e =
          ap (λ x. judged x (vars_in bytes) (rules_in bytes))
          (sym (rows_long ∙ sizes_passed (vars_in bytes) (count_in bytes) whole rules (record { vars_few = few; clauses_few = h; is_whole = eq-eqb _ _ e })))

-- ---- a table

module _ (n m : ℕ) (t : List ℕ) where
  -- as many words as m clauses take
  abbrev pub exact : Bool
  exact = eqb (length t) (clause_words m)

  -- the rows of a table
  abbrev pub table_rows : List Row
  table_rows = size_rows n m exact ++ rule_rows n (clauses t m)

  -- a row from 2 on
  pub table_by : (k : ℕ) → first_row table_rows ≡ some k → refused k ≡ read_table n m t
  unfolding read_table
  table_by k e = refused_by (first_row table_rows) n k (clauses t m) e

  module _ (few : n ≤ max_vars) where
    -- 4
    pub table_length : m ≤ max_clauses → length t ≢ clause_words m → refused 4 ≡ read_table n m t
    table_length h other = table_by 4 (sizes_length n m exact (rule_rows n (clauses t m)) few h (ne_eqb _ _ other))

    -- past 4, the rules decide
    pub table_rules : m ≤ max_clauses → length t ≡ clause_words m → read_rules n (clauses t m) ≡ read_table n m t
    unfolding read_table
    table_rules h e =
        ap (λ x. judged x n (clauses t m))
        (sym (sizes_passed n m exact (rule_rows n (clauses t m)) (record { vars_few = few; clauses_few = h; is_whole = eq-eqb _ _ e })))
