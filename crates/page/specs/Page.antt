-- The page: a first line for the answer, and a line for each derived rule, with its number among them.
-- Each line has 40 characters and a line feed, which is a demand and not seen here: a text or a number that is longer than its field would push the others on.
use Rattle.std.specs.Prelude.{List, [], ◌∷◌, ◌++◌, ℕ, suc, ◌+◌, ◌*◌}
use Rattle.steps.specs.Clause.{Clause}
use Rattle.answer.specs.Answer.{of_outcome, tally_in, number_in, Answer, Answer.Refused}
use Rattle.book.specs.Limits.{max_derived}
use Rattle.contract.specs.Check.{Result, Result.refused, Result.ran}
use Rattle.report.specs.Ascii.{ascii}
use Rattle.report.specs.Decimal.{decimal}
use Rattle.report.specs.Fields.{set_left, set_right}
use Rattle.report.specs.Text.{word_text}
use Rattle.reply.specs.Reply.{result_in, places}
use Rattle.page.specs.Entries.{entries, rule_room, shown}

-- the first line: the word, the number of the refusal or stop (0 for a verdict), the branchings and how many rules were derived
unfoldable pub first_line : Answer → List ℕ
first_line a =
    set_left 10 (word_text a)
    ++ (set_right 10 (decimal (number_in a))
    ++ (set_right 10 (decimal (tally_in a).branchings)
    ++ (set_right 10 (decimal (tally_in a).derived)
    ++ ascii "\n")))

-- the line of the derived rule of a number
unfoldable pub rule_line : ℕ → Clause → List ℕ
rule_line number c = set_right 4 (decimal number) ++ (ascii " " ++ (set_left rule_room (shown (entries c)) ++ ascii "\n"))

-- the lines of derived rules, the first of which has this number
unfoldable pub rule_lines : ℕ → List Clause → List ℕ
rule_lines number [] = []
rule_lines number (c ∷ cs) = rule_line number c ++ rule_lines (suc number) cs

-- the page of an answer and the derived rules
unfoldable pub page_text : Answer → List Clause → List ℕ
page_text a rules = first_line a ++ rule_lines 1 rules

-- the page of a check
unfoldable pub page_of : Result → List ℕ
page_of (refused k) = page_text (Refused k) []
page_of (ran r) = page_text (of_outcome r) r.derived

-- what the program prints
unfoldable pub page_to : List ℕ → List ℕ
page_to input = page_of (result_in places input)

-- a line has 40 characters and a line feed
abbrev pub line_bytes : ℕ
line_bytes = 41

-- no page is longer
abbrev pub longest : ℕ
longest = line_bytes * (1 + max_derived)
