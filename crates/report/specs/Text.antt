-- The printed outcome (docs/FORMAT.md), as bytes in ASCII: its lines, the whole text, and how long it can be.
use Rattle.std.specs.Prelude.{◌≡◌, List, [], ◌∷◌, ◌++◌, ℕ, ◌+◌, ◌*◌, ◌≤◌, length, take, drop}
use Rattle.answer.specs.Answer.{tally_in, number_in, Answer, Answer.Can, Answer.Cannot, Answer.Refused, Answer.Stopped}
use Rattle.answer.specs.declared.Tally.{Tally}
use Rattle.report.specs.Ascii.{ascii}
use Rattle.report.specs.Decimal.{decimal}

-- the first word of the text
abbrev pub word_text : Answer → List ℕ
word_text (Can t) = ascii "can"
word_text (Cannot t) = ascii "cannot"
word_text (Refused k) = ascii "refused"
word_text (Stopped k t) = ascii "stopped"

-- the numbers in decimal, one blank before each, and a line feed
unfoldable pub fields : List ℕ → List ℕ
fields [] = ascii "\n"
fields (n ∷ ns) = ascii " " ++ (decimal n ++ fields ns)

-- a line: a word and numbers
abbrev pub line : List ℕ → List ℕ → List ℕ
line word ns = word ++ fields ns

-- the first line: the word, the number of the refusal or stop (0 for a verdict), and the counts of branchings, derived clauses and records
abbrev pub first_line : List ℕ → ℕ → Tally → List ℕ
first_line word number t = line word (number ∷ t.branchings ∷ t.derived ∷ t.records ∷ [])

-- the line of a derived clause: d
abbrev pub clause_line : ℕ → ℕ → List ℕ
clause_line pos neg = line (ascii "d") (pos ∷ neg ∷ [])

-- the line of a record: r, the decided variables, those of them that are true, the redundant ones
abbrev pub record_line : ℕ → ℕ → ℕ → List ℕ
record_line decided trues redundant = line (ascii "r") (decided ∷ trues ∷ redundant ∷ [])

-- the lines of derived clauses whose two words stand side by side in two lists
unfoldable pub clause_lines : List ℕ → List ℕ → List ℕ
clause_lines [] ns = []
clause_lines (p ∷ ps) [] = []
clause_lines (p ∷ ps) (n ∷ ns) = clause_line p n ++ clause_lines ps ns

-- the lines of records whose three words stand side by side in three lists
unfoldable pub record_lines : List ℕ → List ℕ → List ℕ → List ℕ
record_lines [] ts rs = []
record_lines (d ∷ ds) [] rs = []
record_lines (d ∷ ds) (t ∷ ts) [] = []
record_lines (d ∷ ds) (t ∷ ts) (r ∷ rs) = record_line d t r ++ record_lines ds ts rs

-- the whole text: the first line, a line for each derived clause, a line for each record
unfoldable pub outcome_text : Answer → List ℕ → List ℕ → List ℕ → List ℕ → List ℕ → List ℕ
outcome_text a pos neg decided trues redundant =
    first_line (word_text a) (number_in a) (tally_in a) ++ (clause_lines pos neg ++ record_lines decided trues redundant)

-- the same, where the derived clauses and the records are the first words of the tables, as many as are counted
abbrev pub text_from : Answer → List ℕ → List ℕ → List ℕ → List ℕ → List ℕ → List ℕ
text_from a pos neg decided trues redundant =
    outcome_text
    a
    (take (tally_in a).derived pos)
    (take (tally_in a).derived neg)
    (take (tally_in a).records decided)
    (take (tally_in a).records trues)
    (take (tally_in a).records redundant)

-- the counts are within the tables
pub record Counted (t : Tally) (ps ns ds ts rs : List ℕ) : Type 0 where
  pub pos : t.derived ≤ length ps
  pub neg : t.derived ≤ length ns
  pub decided : t.records ≤ length ds
  pub trues : t.records ≤ length ts
  pub redundant : t.records ≤ length rs

-- the text stands at the start of the buffer `after`, which else is as `before`, and r is the text's length
pub record Printed (text before after : List ℕ) (r : ℕ) : Type 0 where
  pub bytes : after ≡ text ++ drop (length text) before
  pub size : r ≡ length text

-- no line of a word of so many letters and so many numbers is longer: a number takes a blank and at most 20 digits, and the line feed is one byte
abbrev pub line_bound : ℕ → ℕ → ℕ
line_bound letters numbers = letters + 21 * numbers + 1

-- no text of so many derived clauses and records is longer
abbrev pub bound : ℕ → ℕ → ℕ
bound derived records = line_bound 7 4 + line_bound 1 2 * derived + line_bound 1 3 * records
