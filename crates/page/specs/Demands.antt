-- The demands on the page, each as a named type that is proved in `proofs/`. `page_of` is the definition: the program and the exported function write just this.
-- Bytes are numbers: 10 is a line feed, 32 a blank, 45 a minus, 48 to 57 the digits 0 to 9, and 122 a small z.
use Rattle.std.specs.Prelude.{◌≡◌, true, false, ◌↔◌, ℕ, suc, ◌+◌, ◌-◌, ◌*◌, ◌%◌, ◌^◌, ◌≤◌, ◌<◌, length, get_or, take, drop}
use mathlib.Core.List.{List, [], ◌∷◌, ◌++◌, map, Memᴰ}
use Rattle.words.specs.Words.{has}
use Rattle.words.specs.Demands.{Ascending}
use Rattle.steps.specs.Clause.{Clause}
use Rattle.order.specs.Order.{Order}
use Rattle.book.specs.Bytes.{flat}
use Rattle.answer.specs.Answer.{tally_in, number_in, Answer}
use Rattle.contract.specs.Check.{Result, Result.refused, Result.ran, check}
use Rattle.contract.specs.Filled.{answer_of}
use Rattle.report.specs.Ascii.{ascii}
use Rattle.report.specs.Text.{word_text}
use Rattle.report.specs.Demands.{Decimal, AtLeft, AtRight}
use Rattle.reply.specs.Reply.{places, order_in, result_in, text_of, reply_to, readable}
use Rattle.reply.specs.Demands.{input_of}
use Rattle.page.specs.Entries.{Entry}
use Rattle.page.specs.Page.{rule_line, page_of, page_to, longest}
use Rattle.page.specs.Filed.{Filed}

-- ---- what a page is of

-- a check of a book and an order with an allowance of 32 bits, which the exported function is asked, or one of an input of the program
pub data Asked : Result → Type 0 where
  book : (bytes : List ℕ) (o : Order) (allowance : ℕ) → allowance < 2 ^ 32 → Asked (check bytes o allowance places)
  input : (bytes : List ℕ) → Asked (result_in places bytes)

-- the derived rules
abbrev pub derived_of : Result → List Clause
derived_of (refused k) = []
derived_of (ran r) = r.derived

-- the program's page is of the check whose outcome the first program prints: refusal 1 where there is no whole order, and else that of the book after it, with 1,000,000 branchings,
-- 2,048 places for derived rules and 64 for records
pub record SameCheck : Type 0 where
  pub one : (bytes : List ℕ) → (x : Result) × Asked x × (reply_to bytes ≡ text_of x) × (page_to bytes ≡ page_of x)
  pub short : (bytes : List ℕ) → length bytes < 24 → page_to bytes ≡ page_of (refused 1)
  pub whole : (bytes : List ℕ) → 24 ≤ length bytes → page_to bytes ≡ page_of (check (drop 24 bytes) (order_in bytes) 1000000 places)
  pub tables : places ≡ record { pos = 2048; neg = 2048; decided = 64; trues = 64; redundant = 64 }

-- no page depends on a byte past the readable part, so an input of any length has its own
abbrev pub ReadableDecides : Type 0
ReadableDecides = (bytes : List ℕ) → page_to (take readable bytes) ≡ page_to bytes

-- ---- its lines

-- so many lines, each of 40 characters and a line feed
pub record Lines (count : ℕ) (page : List ℕ) : Type 0 where
  pub size : length page ≡ 41 * count
  pub feeds : (i : ℕ) → i < length page → i % 41 ≡ 40 → get_or page i 0 ≡ 10
  pub characters : (i : ℕ) → i < length page → i % 41 < 40 → (32 ≤ get_or page i 0) × (get_or page i 0 ≤ 122)

-- the characters of line i, from 0 on, and so many of them from a place on
abbrev pub line_at : ℕ → List ℕ → List ℕ
line_at i page = take 40 (drop (41 * i) page)

abbrev pub field_at : ℕ → ℕ → List ℕ → List ℕ
field_at from width line = take width (drop from line)

-- a number set right: its digits, and blanks before them
pub record NumberAt (width n : ℕ) (field : List ℕ) : Type 0 where
  pub digits : List ℕ
  pub decimal : Decimal n digits
  pub placed : AtRight width digits field

-- the first line
pub record FirstLine (a : Answer) (derived : ℕ) (line : List ℕ) : Type 0 where
  pub word : AtLeft 10 (word_text a) (field_at 0 10 line)
  pub number : NumberAt 10 (number_in a) (field_at 10 10 line)
  pub branchings : NumberAt 10 (tally_in a).branchings (field_at 20 10 line)
  pub rules : NumberAt 10 derived (field_at 30 10 line)

-- ---- the text of a rule

-- an entry: the digits of the option, and a minus before them where it is to be left out
pub data EntryRead : Entry → List ℕ → Type 0 where
  fitted : {k : ℕ} {digits : List ℕ} → Decimal k digits → EntryRead (record { option = k; fitted = true }) digits
  left_out : {k : ℕ} {digits : List ℕ} → Decimal k digits → EntryRead (record { option = k; fitted = false }) (45 ∷ digits)

-- entries, with one blank between
pub data EntriesRead : List Entry → List ℕ → Type 0 where
  one : {e : Entry} {text : List ℕ} → EntryRead e text → EntriesRead (e ∷ []) text
  more : {e : Entry} {es : List Entry} {text rest : List ℕ} → EntryRead e text → EntriesRead es rest → EntriesRead (e ∷ es) (text ++ (32 ∷ rest))

-- the entries are those of the rule, each once, by ascending options: 1 to 64
pub record EntriesOf (c : Clause) (es : List Entry) : Type 0 where
  pub fitted : (k : ℕ) → Memᴰ (record { option = suc k; fitted = true }) es ↔ (has c.pos k ≡ true)
  pub left_out : (k : ℕ) → Memᴰ (record { option = suc k; fitted = false }) es ↔ (has c.neg k ≡ true)
  pub ascending : Ascending (map (λ (e : Entry). e.option) es)
  pub options : (e : Entry) → Memᴰ e es → (1 ≤ e.option) × (e.option ≤ 64)

-- what stands for so many entries, whose text is too long
pub record Counted (n : ℕ) (text : List ℕ) : Type 0 where
  pub digits : List ℕ
  pub decimal : Decimal n digits
  pub is : text ≡ ascii "(" ++ digits ++ ascii " entries)"

-- the text of a rule: "none" without entries; else the entries where they have up to 35 characters, and how many they are where they have more
pub record RuleText (c : Clause) (text : List ℕ) : Type 0 where
  pub entries : List Entry
  pub rule : EntriesOf c entries
  pub none : length entries ≡ 0 → text ≡ ascii "none"
  pub some : 0 < length entries → (full : List ℕ) × EntriesRead entries full × (length full ≤ 35 → text ≡ full) × (35 < length full → Counted (length entries) text)

-- the line of a derived rule
pub record RuleLine (number : ℕ) (c : Clause) (line : List ℕ) : Type 0 where
  pub numbered : NumberAt 4 number (field_at 0 4 line)
  pub blank : field_at 4 1 line ≡ 32 ∷ []
  pub text : List ℕ
  pub shows : RuleText c text
  pub placed : AtLeft 35 text (field_at 5 35 line)

-- ---- the page

-- what is due of a page: one line more than derived rules, and what stands in them
pub record Due (x : Result) (page : List ℕ) : Type 0 where
  pub lines : Lines (suc (length (derived_of x))) page
  pub first : FirstLine (answer_of x) (length (derived_of x)) (line_at 0 page)
  -- wherever c stands among the derived rules, its number there, from 1 on, is that of its line, and the line shows it
  pub rules :
      (before after : List Clause) (c : Clause) → derived_of x ≡ before ++ (c ∷ after) →
      RuleLine (suc (length before)) c (line_at (suc (length before)) page)

abbrev pub AsDue : Type 0
AsDue = (x : Result) → Asked x → Due x (page_of x)

-- nothing is left open: no two texts are as is due
abbrev pub OnePage : Type 0
OnePage = (x : Result) (page other : List ℕ) → Due x page → Due x other → page ≡ other

-- a buffer of `longest` bytes, which is 41 × 2,049, is long enough
pub record AlwaysFits : Type 0 where
  pub most : longest ≡ 84009
  pub fits : (x : Result) → Asked x → length (page_of x) ≤ longest

-- ---- the exported function

-- what a caller takes from a buffer that was lent, and from r: 0 exactly where the buffer might have been too short; else r is the length of the page, which stands at
-- the start. Every byte from r on is as it was, and so all are where r is 0
pub record Taken (page before after : List ℕ) (r : ℕ) : Type 0 where
  pub none : (r ≡ 0) ↔ (length before < 84009)
  pub written : 0 < r → (r ≡ length page) × (take r after ≡ page)
  pub later : (i : ℕ) → r ≤ i → get_or after i 0 ≡ get_or before i 0
  pub same_length : length after ≡ length before

abbrev pub Taking : Type 0
Taking =
    (bytes : List ℕ) (o : Order) (allowance : ℕ) (before after : List ℕ) (r : ℕ) → allowance < 2 ^ 32 → Filed bytes o allowance before after r →
    Taken (page_of (check bytes o allowance places)) before after r

-- ---- cases

-- pages and lines written out
pub record Examples : Type 0 where
  -- the example of docs/FORMAT.md: a verdict, a fitted entry, a left-out one, and the empty rule
  pub documented :
      page_to (input_of (0 ∷ 0 ∷ 0 ∷ []) 2 4 (3 ∷ 2 ∷ 1 ∷ 0 ∷ 0 ∷ 1 ∷ 2 ∷ 3 ∷ [])) ≡
      ascii "cannot             0         3         3\n   1 1                                  \n   2 -1                                 \n   3 none                               \n"
  pub nothing : page_to [] ≡ ascii "refused            1         0         0\n"
  pub standard_above : page_to (input_of (0 ∷ 0 ∷ 2 ∷ []) 1 0 []) ≡ ascii "refused           12         0         0\n"
  pub can : page_to (input_of (1 ∷ 0 ∷ 0 ∷ []) 1 0 []) ≡ ascii "can                0         0         0\n"
  -- the book of the example with an allowance of 2, which is spent before the second rule
  pub stopped :
      page_of (check (2 ∷ 4 ∷ 0 ∷ flat (3 ∷ 2 ∷ 1 ∷ 0 ∷ 0 ∷ 1 ∷ 2 ∷ 3 ∷ [])) (record { wanted = 0; unwanted = 0; standard = 0 }) 2 places) ≡
      ascii "stopped           10         2         1\n   1 1                                  \n"
  -- options 1 to 15: 35 characters. With option 1 left out: 36
  pub of_35 : rule_line 9 (record { pos = 2 ^ 15 - 1; neg = 0 }) ≡ ascii "   9 1 2 3 4 5 6 7 8 9 10 11 12 13 14 15\n"
  pub of_36 : rule_line 10 (record { pos = 2 ^ 15 - 2; neg = 1 }) ≡ ascii "  10 (15 entries)                       \n"
  -- both signs, option 64, and the highest number
  pub both_signs : rule_line 2048 (record { pos = 2 + 2 ^ 63; neg = 5 }) ≡ ascii "2048 -1 2 -3 64                         \n"
  pub last_left_out : rule_line 100 (record { pos = 0; neg = 2 ^ 63 }) ≡ ascii " 100 -64                                \n"
  pub all_options : rule_line 1 (record { pos = 2 ^ 63; neg = 2 ^ 63 - 1 }) ≡ ascii "   1 (64 entries)                       \n"

pub record Demands : Type 0 where
  pub same_check : SameCheck
  pub readable_decides : ReadableDecides
  pub as_due : AsDue
  pub one_page : OnePage
  pub always_fits : AlwaysFits
  pub taking : Taking
  pub examples : Examples
