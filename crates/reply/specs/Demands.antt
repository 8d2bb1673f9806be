-- The demands on a reply, each as a named type that is proved in `proofs/`. `reply_to` is the definition: the program prints just this.
use Rattle.std.specs.Prelude.{◌≡◌, List, [], ◌∷◌, ◌++◌, ℕ, take, replicate}
use Rattle.book.specs.Bytes.{flat}
use Rattle.report.specs.Ascii.{ascii}
use Rattle.reply.specs.Reply.{reply_to, readable}

-- no reply depends on a byte past the readable part, so an input of any length has its own
abbrev pub ReadableDecides : Type 0
ReadableDecides = (input : List ℕ) → reply_to (take readable input) ≡ reply_to input

-- an order, n, m below 256 and the words of a book
abbrev pub input_of : List ℕ → ℕ → ℕ → List ℕ → List ℕ
input_of order n m words = flat order ++ (n ∷ m ∷ 0 ∷ flat words)

-- replies written out: the example of docs/FORMAT.md, inputs with no whole order or no whole book, orders that are refused, and standard options
pub record Examples : Type 0 where
  pub documented :
      reply_to (input_of (0 ∷ 0 ∷ 0 ∷ []) 2 4 (3 ∷ 2 ∷ 1 ∷ 0 ∷ 0 ∷ 1 ∷ 2 ∷ 3 ∷ [])) ≡ ascii "cannot 0 3 3 1\nd 1 0\nd 0 1\nd 0 0\nr 0 0 3\n"
  pub nothing : reply_to [] ≡ ascii "refused 1 0 0 0\n"
  pub no_whole_order : reply_to (replicate 23 0) ≡ ascii "refused 1 0 0 0\n"
  pub no_book : reply_to (replicate 24 0) ≡ ascii "refused 1 0 0 0\n"
  pub faulty_order : reply_to (input_of (1 ∷ 1 ∷ 0 ∷ []) 1 0 []) ≡ ascii "refused 8 0 0 0\n"
  -- option 2 of one option: standard, and wanted too
  pub standard_above : reply_to (input_of (0 ∷ 0 ∷ 2 ∷ []) 1 0 []) ≡ ascii "refused 12 0 0 0\n"
  pub wanted_above : reply_to (input_of (2 ∷ 0 ∷ 2 ∷ []) 1 0 []) ≡ ascii "refused 7 0 0 0\n"
  -- the rule is "not 1". Option 1 is standard, and so wanted; and then it is unwanted too, and stays out
  pub standard_wanted : reply_to (input_of (0 ∷ 0 ∷ 1 ∷ []) 1 1 (0 ∷ 1 ∷ [])) ≡ ascii "cannot 0 1 1 1\nd 0 0\nr 0 0 1\n"
  pub standard_unwanted : reply_to (input_of (0 ∷ 1 ∷ 1 ∷ []) 1 1 (0 ∷ 1 ∷ [])) ≡ ascii "can 0 0 0 1\nr 0 0 1\n"

pub record Demands : Type 0 where
  pub readable_decides : ReadableDecides
  pub examples : Examples
