-- The text of a rule in a buffer of its own, and its line: the blank before the text is written with it.
use mathlib.Core.Path.{◌≡◌, refl, sym, ap, ◌∙◌, subst}
use mathlib.Core.List.{List, [], ◌∷◌, ◌++◌}
use mathlib.Core.Logic.{◌⊎◌, inl, inr}
use Prim.Native.Nat.{ℕ, suc, ◌+◌, ◌-◌, ◌^◌, ◌≤◌, ◌<◌}
use native.Mathlib.Numerals.{add-one}
use native.Mathlib.Omega.{arith}
use lib.Bits.{bit_or}
use lib.Count.{ones, ones-le}
use lib.ListN.{length, take, drop}
use lib.Seq.{take_at}
use Rattle.words.specs.Words.{first_vars}
use Rattle.words.proofs.Sets.{within_lt, lt_within, or_within}
use Rattle.steps.specs.Clause.{Clause, vars}
use Rattle.contract.specs.Demands.{rules_of}
use Rattle.report.specs.Ascii.{ascii}
use Rattle.report.specs.Decimal.{decimal}
use Rattle.report.specs.Fields.{blanks, set_left, set_right}
use Rattle.report.specs.Text.{Printed}
use Rattle.report.specs.Writer.{Free, Writes}
use Rattle.report.specs.declared.writer.Writer.{Writer}
use Rattle.report.proofs.Writing.{printed, printed_within, wrote_long}
use Rattle.page.specs.Entries.{entries, spaced, counted, rule_room, shown}
use Rattle.page.specs.Page.{rule_line, rule_lines}
use Rattle.page.proofs.Entries.{entries_counted}
use Rattle.page.proofs.Text.{shown_counted, entries_short}
use Rattle.layout.specs.Layout.{Begins, Started}

-- a text that was written at the start of a buffer, by another name
begins : {text same : List ℕ} {before after : Writer} → text ≡ same → before.at ≡ 0 → Writes before text after → Begins same after.out.now after.at
begins {text} {same} {before} {after} e start w =
    let p : Printed text before.out.now after.out.now after.at = printed (rw start at w.wrote) in
    subst (λ (t : List ℕ). Begins t after.out.now after.at) e
    (record { first = ap (take after.at) p.bytes ∙ take_at text (drop (length text) before.out.now) after.at (sym p.size); size = p.size; within = printed_within p })

-- by a writer that wrote there before
pub started_after : {text same : List ℕ} {before over after : Writer} → over.out.ghost_name ≡ before.out.ghost_name → text ≡ same → over.at ≡ 0 → Writes over text after → Started before same after
started_after is e start w = record { begins = begins e start w; same = w.same ∙ is }

pub started : {text same : List ℕ} {before after : Writer} → text ≡ same → before.at ≡ 0 → Writes before text after → Started before same after
started = started_after refl

-- the buffer ends as what the writer holds, which is the same one
pub begun : {before after : Writer} {text out : List ℕ} → Started before text after → (before.out.ghost_name ≡ after.out.ghost_name → out ≡ after.out.now) → Begins text out after.at
begun s ends = rw (ends (sym s.same)) s.begins

-- the entries of a rule have room in a buffer of 256 bytes
pub entries_free : (w : Writer) (c : Clause) → w.at ≡ 0 → 256 ≤ length w.out.now → Free w (spaced (entries c))
entries_free w c start long = record { room = record { fits = omega (arith, entries_short c) } }

-- which stays as long as it was
pub entries_long : {w next : Writer} (c : Clause) → w.at ≡ 0 → 256 ≤ length w.out.now → Writes w (spaced (entries c)) next → 256 ≤ length next.out.now
entries_long {w} c start long wrote = omega (arith, wrote_long (entries_free w c start long).room wrote.wrote)

-- two words of 64 bits, and both together
module _ (c : Clause) (p : c.pos < 2 ^ 64) (n : c.neg < 2 ^ 64) where
  both : vars c < 2 ^ 64
  unfolding vars
  both = within_lt 64 (bit_or c.pos c.neg) (or_within c.pos c.neg (first_vars 64) (lt_within 64 c.pos p) (lt_within 64 c.neg n))

  -- how many members they have
  module _ (k : ℕ) (e : k ≡ ones (vars c)) where
    pub count_few : k ≤ 64
    count_few = omega (arith, e, ones-le 64 (vars c) both)

    -- is how many entries there are
    pub shown_count : suc rule_room < length (spaced (entries c)) → ascii " " ++ counted k ≡ ascii " " ++ shown (entries c)
    shown_count h =
        let same : k ≡ length (entries c) = e ∙ sym (entries_counted c 64 both) in
        ap (λ (l : List ℕ). ascii " " ++ l) (ap counted same ∙ sym (shown_counted (entries c) h))

-- the line, by a blank and the text together
pub rule_written : (n : ℕ) (c : Clause) (t : List ℕ) → t ≡ ascii " " ++ shown (entries c) → rule_line n c ≡ set_right 4 (decimal n) ++ (set_left (suc rule_room) t ++ ascii "\n")
unfolding rule_line set_left
rule_written n c t e =
    let text = shown (entries c) in
    let same : rule_room - length text ≡ suc rule_room - suc (length text) = omega arith in
    ap (λ (k : ℕ). set_right 4 (decimal n) ++ (ascii " " ++ ((text ++ blanks k) ++ ascii "\n"))) same
    ∙ ap (λ (l : List ℕ). set_right 4 (decimal n) ++ ((l ++ blanks (suc rule_room - length l)) ++ ascii "\n")) (sym e)

-- the lines of rules of which one is left at least
pub rules_more :
    (k : ℕ) {p n : ℕ} {ps ps' ns ns' : List ℕ} → (ps ≡ p ∷ ps') × (ns ≡ n ∷ ns')
    → rule_lines k (rules_of ps ns) ≡ rule_line k (record { pos = p; neg = n }) ++ rule_lines (k + 1) (rules_of ps' ns')
unfolding rule_lines
rules_more k e = rw (e.0, e.1, add-one) refl

-- and of none, where the one table or the other is at its end
pub rules_none : (k : ℕ) (ps ns : List ℕ) → (length ps ≡ 0) ⊎ (length ns ≡ 0) → rule_lines k (rules_of ps ns) ≡ []
unfolding rule_lines
rules_none k [] ns e = refl
rules_none k (p ∷ ps) [] e = refl
rules_none k (p ∷ ps) (n ∷ ns) (inl e) = absurd (omega arith)
rules_none k (p ∷ ps) (n ∷ ns) (inr e) = absurd (omega arith)
