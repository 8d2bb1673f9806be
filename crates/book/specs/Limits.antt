-- The limits of a book and of the lent tables. The constants of `Book` are these numbers in the code: the contracts of `Book` and of its callers hold for no others.
use Rattle.std.specs.Prelude.{ℕ}

-- the most variables of a book
abbrev pub max_vars : ℕ
max_vars = 64

-- the most clauses of a book
abbrev pub max_clauses : ℕ
max_clauses = 1024

-- the most places for derived clauses
abbrev pub max_derived : ℕ
max_derived = 2048

-- the fewest places for records
abbrev pub min_records : ℕ
min_records = 64
