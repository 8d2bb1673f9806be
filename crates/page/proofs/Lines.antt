-- The lines of a page. Each is a body of 40 characters and a line feed, so that the place of a byte, by 41, says whether it is a line feed; and what stands in a line before a field,
-- or on a page before a line, is as long as the place says.
use mathlib.Core.Path.{◌≡◌, refl, sym, ap, ◌∙◌, subst}
use mathlib.Core.Bool.{true}
use mathlib.Core.List.{List, [], ◌∷◌, ◌++◌, append_assoc}
use Prim.Native.Nat.{ℕ, suc, ◌+◌, ◌-◌, ◌*◌, ◌^◌, ◌≤◌, ◌<◌}
use native.Mathlib.Decide.{dec_lt}
use native.Mathlib.Omega.{arith}
use lib.ListN.{length, get_or, take, drop, length-append, get_or-append}
use lib.Seq.{take_at, take-take, take-add, drop_at, get_or_at, get_or-append-add, length-take-le}
use Rattle.steps.specs.Clause.{Clause}
use Rattle.steps.specs.Shape.{Proper}
use Rattle.answer.specs.Answer.{tally_in, number_in, Answer}
use Rattle.book.specs.Limits.{max_vars}
use Rattle.report.specs.Ascii.{ascii}
use Rattle.report.specs.Decimal.{decimal}
use Rattle.report.specs.Fields.{set_left, set_right}
use Rattle.report.specs.Demands.{AtLeft}
use Rattle.report.specs.Text.{word_text}
use Rattle.report.proofs.Digits.{decimal_length}
use Rattle.report.proofs.Decimals.{decimals}
use Rattle.report.proofs.Widths.{fields, left_wide, right_wide}
use Rattle.report.proofs.Length.{word_at_most}
use Rattle.page.specs.Entries.{entries, rule_room, shown}
use Rattle.page.specs.Page.{first_line, rule_line, rule_lines, page_text}
use Rattle.page.specs.Demands.{Lines, line_at, field_at, NumberAt, FirstLine, RuleLine}
use Rattle.page.proofs.Entries.{entries_few}
use Rattle.page.proofs.Text.{shown_short, rule_text}
use Rattle.page.proofs.Printable.{printable, printable_at, printable_append, printable_left, printable_right, printable_word, printable_shown}

-- ---- lines

lines_none : Lines 0 []
lines_none = record { size = refl; feeds = λ i h e. absurd (omega arith); characters = λ i h e. absurd (omega arith) }

module _ (n : ℕ) (body rest : List ℕ) (wide : length body ≡ 40) (print : printable body ≡ true) (others : Lines n rest) where
  -- a byte of a later line
  later : (i : ℕ) → 41 ≤ i → get_or (body ++ (10 ∷ rest)) i 0 ≡ get_or rest (i - 41) 0
  later i h =
      let at : i ≡ length body + suc (i - 41) = omega arith in
      ap (λ (j : ℕ). get_or (body ++ (10 ∷ rest)) j 0) at ∙ get_or-append-add body (10 ∷ rest) (suc (i - 41)) 0

  size : length (body ++ (10 ∷ rest)) ≡ 41 + length rest
  size = length-append body (10 ∷ rest) ∙ omega arith

  lines_more : Lines (suc n) (body ++ (10 ∷ rest))
  lines_more =
      record {
        size = size ∙ omega (arith, others.size);
        feeds = λ i h e. elim (dec_lt i 41) [
          | yes first ↦ let last : i ≡ 40 = omega arith in rw last (get_or_at body 10 rest 0 40 wide)
          | no not_first ↦ later i (omega arith) ∙ others.feeds (i - 41) (omega (arith, size)) (omega arith)
        ];
        characters = λ i h e. elim (dec_lt i 41) [
          | yes first ↦
              let within : i < length body = omega arith in
              rw (get_or-append body (10 ∷ rest) 0 i within) (printable_at body print i within)
          | no not_first ↦ rw (later i (omega arith)) (others.characters (i - 41) (omega (arith, size)) (omega arith))
        ];
      }

-- ---- the first line

-- what fits the fields of the first line
pub record Narrow (a : Answer) : Type 0 where
  pub number : number_in a < 10 ^ 10
  pub branchings : (tally_in a).branchings < 10 ^ 10
  pub derived : (tally_in a).derived < 10 ^ 10

-- a number of at most ten digits
in_ten : (n : ℕ) → n < 10 ^ 10 → length (set_right 10 (decimal n)) ≡ 10
in_ten n h = right_wide 10 (decimal n) (decimal_length 9 n h)

word_wide : (a : Answer) → length (set_left 10 (word_text a)) ≡ 10
word_wide a = left_wide 10 (word_text a) (omega (arith, word_at_most a))

-- the number is in its field
number_at : (width n : ℕ) → length (decimal n) ≤ width → NumberAt width n (set_right width (decimal n))
number_at width n h = record { digits = decimal n; decimal = decimals n; placed = fields.right width (decimal n) h }

module _ (a : Answer) where
  abbrev number : List ℕ
  number = set_right 10 (decimal (number_in a))

  abbrev branchings : List ℕ
  branchings = set_right 10 (decimal (tally_in a).branchings)

  abbrev derived : List ℕ
  derived = set_right 10 (decimal (tally_in a).derived)

  -- its characters
  abbrev first_body : List ℕ
  first_body = set_left 10 (word_text a) ++ (number ++ (branchings ++ derived))

  first_is : (rest : List ℕ) → first_line a ++ rest ≡ first_body ++ (10 ∷ rest)
  unfolding first_line
  first_is rest = simp append_assoc

  first_printable : printable first_body ≡ true
  first_printable =
      printable_append (set_left 10 (word_text a)) (number ++ (branchings ++ derived)) (printable_left 10 (word_text a) (printable_word a))
      (printable_append number (branchings ++ derived) (printable_right 10 (number_in a))
      (printable_append branchings derived (printable_right 10 (tally_in a).branchings) (printable_right 10 (tally_in a).derived)))

  first_wide : Narrow a → length first_body ≡ 40
  first_wide h =
      simp length-append (omega (arith, word_wide a, in_ten (number_in a) h.number, in_ten (tally_in a).branchings h.branchings, in_ten (tally_in a).derived h.derived))

-- ---- the line of a rule

module _ (n : ℕ) (c : Clause) where
  abbrev rule_body : List ℕ
  rule_body = set_right 4 (decimal n) ++ (ascii " " ++ set_left rule_room (shown (entries c)))

  rule_is : (rest : List ℕ) → rule_line n c ++ rest ≡ rule_body ++ (10 ∷ rest)
  unfolding rule_line
  rule_is rest = simp append_assoc

  rule_printable : printable rule_body ≡ true
  rule_printable =
      printable_append (set_right 4 (decimal n)) (ascii " " ++ set_left rule_room (shown (entries c))) (printable_right 4 n)
      (printable_left rule_room (shown (entries c)) (printable_shown (entries c)))

  -- the text fits its field
  pub text_fits : length (shown (entries c)) ≤ rule_room
  text_fits = shown_short (entries c) (omega (arith, entries_few c max_vars 0))

  text_wide : length (set_left rule_room (shown (entries c))) ≡ rule_room
  text_wide = left_wide rule_room (shown (entries c)) text_fits

  module _ (h : n < 10 ^ 4) where
    number_wide : length (set_right 4 (decimal n)) ≡ 4
    number_wide = right_wide 4 (decimal n) (decimal_length 3 n h)

    rule_wide : length rule_body ≡ 40
    rule_wide = simp length-append (omega (arith, number_wide, text_wide))

-- ---- all lines

rule_lines_lem : (n : ℕ) (cs : List Clause) → n + length cs ≤ 10 ^ 4 → Lines (length cs) (rule_lines n cs)
unfolding rule_lines
rule_lines_lem n [] h = lines_none
rule_lines_lem n (c ∷ cs) h =
    rw (rule_is n c (rule_lines (suc n) cs))
    (lines_more (length cs) (rule_body n c) (rule_lines (suc n) cs) (rule_wide n c (omega arith)) (rule_printable n c) (rule_lines_lem (suc n) cs (omega arith)))

pub page_lines : (a : Answer) (cs : List Clause) → Narrow a → length cs < 10 ^ 4 → Lines (suc (length cs)) (page_text a cs)
unfolding page_text
page_lines a cs narrow h =
    rw (first_is a (rule_lines 1 cs))
    (lines_more (length cs) (first_body a) (rule_lines 1 cs) (first_wide a narrow) (first_printable a) (rule_lines_lem 1 cs (omega arith)))

-- ---- fields

-- a field of a line, by what stands before it
field_is :
    (from width : ℕ) (line before field after : List ℕ) → line ≡ before ++ (field ++ after) → length before ≡ from → length field ≡ width → from + width ≤ 40 →
    field_at from width (take 40 line) ≡ field
field_is from width line before field after e b f h =
    let long = ap length e ∙ length-append before (field ++ after) in
    let whole : from + (40 - from) ≡ 40 = omega arith in
    let split : take 40 line ≡ take from line ++ take (40 - from) (drop from line) = ap (λ (i : ℕ). take i line) (sym whole) ∙ take-add from (40 - from) line in
    ap (λ (l : List ℕ). take width (drop from l)) split
    ∙ ap (take width) (drop_at (take from line) (take (40 - from) (drop from line)) from (length-take-le from line (omega (arith, long))))
    ∙ take-take width (40 - from) (drop from line) (omega arith)
    ∙ ap (λ (l : List ℕ). take width (drop from l)) e
    ∙ ap (take width) (drop_at before (field ++ after) from b)
    ∙ take_at field after width f

pub first_fields : (a : Answer) (rest : List ℕ) → Narrow a → FirstLine a (tally_in a).derived (take 40 (first_line a ++ rest))
unfolding first_line
first_fields a rest h =
    let word = set_left 10 (word_text a) in
    let after-derived = ascii "\n" ++ rest in
    let after-branchings = derived a ++ after-derived in
    let after-number = branchings a ++ after-branchings in
    let after-word = number a ++ after-number in
    let line = first_line a ++ rest in
    let w = word_wide a in
    let n = in_ten (number_in a) h.number in
    let b = in_ten (tally_in a).branchings h.branchings in
    let d = in_ten (tally_in a).derived h.derived in
    record {
      word =
          subst (AtLeft 10 (word_text a)) (sym (field_is 0 10 line [] word after-word (simp append_assoc) refl w (omega arith)))
          (fields.left 10 (word_text a) (omega (arith, word_at_most a)));
      number =
          subst (NumberAt 10 (number_in a)) (sym (field_is 10 10 line word (number a) after-number (simp append_assoc) w n (omega arith)))
          (number_at 10 (number_in a) (decimal_length 9 (number_in a) h.number));
      branchings =
          subst (NumberAt 10 (tally_in a).branchings)
          (sym (field_is 20 10 line (word ++ number a) (branchings a) after-branchings (simp append_assoc) (simp length-append (omega (arith, w, n))) b (omega arith)))
          (number_at 10 (tally_in a).branchings (decimal_length 9 (tally_in a).branchings h.branchings));
      rules =
          subst (NumberAt 10 (tally_in a).derived)
          (sym (field_is 30 10 line (word ++ (number a ++ branchings a)) (derived a) after-derived (simp append_assoc) (simp length-append (omega (arith, w, n, b))) d (omega arith)))
          (number_at 10 (tally_in a).derived (decimal_length 9 (tally_in a).derived h.derived));
    }

pub rule_fields : (n : ℕ) (c : Clause) (rest : List ℕ) → n < 10 ^ 4 → Proper max_vars c → RuleLine n c (take 40 (rule_line n c ++ rest))
unfolding rule_line
rule_fields n c rest h proper =
    let number = set_right 4 (decimal n) in
    let text = shown (entries c) in
    let after_text = ascii "\n" ++ rest in
    let after-blank = set_left rule_room text ++ after_text in
    let line = rule_line n c ++ rest in
    let w = number_wide n c h in
    record {
      numbered =
          subst (NumberAt 4 n) (sym (field_is 0 4 line [] number (ascii " " ++ after-blank) (simp append_assoc) refl w (omega arith)))
          (number_at 4 n (decimal_length 3 n h));
      blank = field_is 4 1 line number (ascii " ") after-blank (simp append_assoc) w refl (omega arith);
      text = text;
      shows = rule_text c proper;
      placed =
          subst (AtLeft 35 text)
          (sym (field_is 5 35 line (number ++ ascii " ") (set_left rule_room text) after_text (simp append_assoc) (simp length-append (omega (arith, w))) (text_wide n c) (omega arith)))
          (fields.left rule_room text (text_fits n c));
    }

-- ---- a line by its number

rules_split : (n : ℕ) (before cs : List Clause) → rule_lines n (before ++ cs) ≡ rule_lines n before ++ rule_lines (n + length before) cs
unfolding rule_lines
rules_split n [] cs = ap (λ (i : ℕ). rule_lines i cs) (omega arith)
rules_split n (b ∷ before) cs =
    ap (λ (l : List ℕ). rule_line n b ++ l) (rules_split (suc n) before cs ∙ ap (λ (i : ℕ). rule_lines (suc n) before ++ rule_lines i cs) (omega arith))
    ∙ sym (append_assoc (rule_line n b) (rule_lines (suc n) before) (rule_lines (n + length (b ∷ before)) cs))

pub line_is :
    (a : Answer) (before after : List Clause) (c : Clause) → Narrow a → length before < 10 ^ 4 →
    line_at (suc (length before)) (page_text a (before ++ (c ∷ after))) ≡ take 40 (rule_line (suc (length before)) c ++ rule_lines (suc (suc (length before))) after)
unfolding page_text rule_lines
line_is a before after c narrow h =
    let n = length before in
    let front = first_line a ++ rule_lines 1 before in
    let rest = rule_lines (suc n) (c ∷ after) in
    let split : rule_lines 1 (before ++ (c ∷ after)) ≡ rule_lines 1 before ++ rest = rules_split 1 before (c ∷ after) ∙ ap (λ (i : ℕ). rule_lines 1 before ++ rule_lines i (c ∷ after)) (omega arith) in
    ap (line_at (suc n)) (ap (λ (l : List ℕ). first_line a ++ l) split ∙ sym (append_assoc (first_line a) (rule_lines 1 before) rest))
    ∙ ap (take 40) (drop_at front rest (41 * suc n) (page_lines a before narrow h).size)
