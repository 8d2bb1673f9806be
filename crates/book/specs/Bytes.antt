-- Numbers as bytes, low byte first, the parts of book bytes, and the bytes of a book.
use Rattle.std.specs.Prelude.{true, false, List, [], ◌∷◌, ◌++◌, map, ℕ, zero, suc, ◌+◌, ◌*◌, ◌/◌, ◌%◌, ◌<◌, length, get_or, take, drop}
use Rattle.steps.specs.Clause.{Clause, literals}

-- every element is a byte
abbrev pub AllBytes : List ℕ → Type 0
AllBytes bs = (i : ℕ) → get_or bs i 0 < 256

-- the number of some bytes, low byte first
unfoldable pub number : List ℕ → ℕ
number [] = 0
number (b ∷ bs) = b + 256 * number bs

-- the k low bytes of x, low byte first
unfoldable pub bytes_of : ℕ → ℕ → List ℕ
bytes_of zero x = []
bytes_of (suc k) x = x % 256 ∷ bytes_of k (x / 256)

-- the word whose eight bytes begin at place `at`
unfoldable pub word_at : List ℕ → ℕ → ℕ
word_at bs at = number (take 8 (drop at bs))

-- k words, from the first byte on
unfoldable pub words_in : ℕ → List ℕ → List ℕ
words_in zero bs = []
words_in (suc k) bs = number (take 8 bs) ∷ words_in k (drop 8 bs)

-- the clauses of two parallel arrays
unfoldable pub pair : List ℕ → List ℕ → List Clause
pair [] ns = []
pair (p ∷ ps) [] = []
pair (p ∷ ps) (n ∷ ns) = record { pos = p; neg = n } ∷ pair ps ns

-- how many bytes a book of m clauses takes
abbrev pub book_bytes : ℕ → ℕ
book_bytes m = 3 + 16 * m

-- one byte n
abbrev pub vars_in : List ℕ → ℕ
vars_in bs = get_or bs 0 0

-- two bytes m, low byte first
abbrev pub count_in : List ℕ → ℕ
count_in bs = get_or bs 1 0 + 256 * get_or bs 2 0

-- m fitted words, then m left-out words
unfoldable pub clauses_in : ℕ → List ℕ → List Clause
clauses_in m bs = pair (words_in m (drop 3 bs)) (words_in m (drop (3 + 8 * m) bs))

-- the rules in book bytes, as many as the bytes say
abbrev pub rules_in : List ℕ → List Clause
rules_in bs = clauses_in (count_in bs) bs

-- the bytes of some words
unfoldable pub flat : List ℕ → List ℕ
flat [] = []
flat (w ∷ ws) = bytes_of 8 w ++ flat ws

-- the bytes of a book
unfoldable pub encode : ℕ → List Clause → List ℕ
encode n cs = n ∷ bytes_of 2 (length cs) ++ flat (map (literals true) cs) ++ flat (map (literals false) cs)
