-- No other text meets the demands. The entries of a rule ascend, so that two lists of the same ones are the same, and their text is the joined one or its count; a field has one content,
-- and so each byte of a line has, by the field that it is in, and each byte of a page, by its line.
use mathlib.Core.Path.{◌≡◌, refl, sym, ap, ap₂, ◌∙◌, subst}
use mathlib.Core.Bool.{Bool, true, false}
use mathlib.Core.List.Memᴰ
use mathlib.Core.List.{List, [], ◌∷◌, ◌++◌, map, Memᴰ, append-nil}
use mathlib.Core.Logic.{⊎_elim}
use Prim.Native.Nat.{ℕ, zero, suc, ◌+◌, ◌-◌, ◌*◌, ◌/◌, ◌%◌, ◌≤◌, ◌<◌}
use native.Mathlib.Decide.{dec_lt}
use native.Mathlib.Omega.{arith}
use lib.ListN.{length, get_or, drop}
use lib.Seq.{ext_get_or, get_or-take, get_or-drop}
use Rattle.words.specs.Demands.{Ascending}
use Rattle.steps.specs.Clause.{Clause}
use Rattle.contract.specs.Check.{Result}
use Rattle.answer.specs.Answer.{Answer}
use Rattle.report.specs.Ascii.{ascii}
use Rattle.report.specs.Decimal.{decimal}
use Rattle.report.specs.Text.{word_text}
use Rattle.report.specs.Demands.{AtLeft, AtRight}
use Rattle.report.proofs.Decimals.{decimals}
use Rattle.report.proofs.Unique.{one_decimal, one_field}
use Rattle.page.specs.Entries.{Entry, entry_text, spaced, joined, shown}
use Rattle.page.specs.Demands.{EntryRead, EntryRead.fitted, EntryRead.left_out, EntriesRead, EntriesRead.one, EntriesRead.more, EntriesOf, Counted, RuleText, derived_of, line_at, field_at, NumberAt, FirstLine, RuleLine, Due, OnePage}
use Rattle.page.proofs.Text.{shown_long, shown_fits}

-- ---- the entries

entry_read_is : (e : Entry) (text : List ℕ) → EntryRead e text → text ≡ entry_text e
entry_read_is e text (fitted {k = k} {digits = ds} d) = one_decimal k ds (decimal k) d (decimals k)
entry_read_is e text (left_out {k = k} {digits = ds} d) = ap (λ (l : List ℕ). 45 ∷ l) (one_decimal k ds (decimal k) d (decimals k))

entries_read_is : (es : List Entry) (text : List ℕ) → EntriesRead es text → (text ≡ joined es) × (spaced es ≡ ascii " " ++ joined es)
unfolding spaced
entries_read_is es text (one {e = e} {text = t} r) = (entry_read_is e t r ∙ sym (append-nil (entry_text e)), refl)
entries_read_is es text (more {e = e} {es = fs} {text = t} {rest = rest} r rs) =
    let later = entries_read_is fs rest rs in
    (ap₂ (λ (l m : List ℕ). l ++ m) (entry_read_is e t r) (ap (λ (l : List ℕ). 32 ∷ l) later.0 ∙ sym later.1), refl)

-- the text of a rule is that of its listed entries
text_is : (c : Clause) (text : List ℕ) (t : RuleText c text) → text ≡ shown t.entries
unfolding shown
text_is c text t = go t.entries t.none t.some
  where
    go :
        (es : List Entry) → (length es ≡ 0 → text ≡ ascii "none") →
        (0 < length es → (full : List ℕ) × EntriesRead es full × (length full ≤ 35 → text ≡ full) × (35 < length full → Counted (length es) text)) → text ≡ shown es
    go [] none some = none refl
    go (e ∷ es) none some =
        let given = some (omega arith) in
        let is = (entries_read_is (e ∷ es) given.0 given.1).0 in
        elim (dec_lt 35 (length given.0)) [
          | yes long ↦
              let count = given.3 long in
              count.is ∙ ap (λ (l : List ℕ). ascii "(" ++ l ++ ascii " entries)") (one_decimal _ _ _ count.decimal (decimals (length (e ∷ es)))) ∙ sym (shown_long (e ∷ es) (subst (λ (l : List ℕ). 35 < length l) is long))
          | no short ↦ given.2 (omega arith) ∙ is ∙ sym (shown_fits e es (subst (λ (l : List ℕ). length l ≤ 35) is (omega arith)))
        ]

-- ascending lists of the same entries
abbrev options : List Entry → List ℕ
options es = map (λ (e : Entry). e.option) es

above : (e : Entry) (es : List Entry) → Ascending (options (e ∷ es)) → (f : Entry) → Memᴰ f es → e.option < f.option
above e es up f m = up.0 f.option (Memᴰ.map (λ (x : Entry). x.option) m)

-- what is in the one list is in the other, behind the same first one
behind : (e : Entry) (es fs : List Entry) → Ascending (options (e ∷ es)) → ((g : Entry) → Memᴰ g (e ∷ es) → Memᴰ g (e ∷ fs)) → (g : Entry) → Memᴰ g es → Memᴰ g fs
behind e es fs up into g m =
    ⊎_elim (λ is. absurd (omega (arith, above e es up g m, ap (λ (x : Entry). x.option) is))) (λ later. later) (Memᴰ.cases_cons (into g (Memᴰ.tail m)))

same_entries :
    (es fs : List Entry) → Ascending (options es) → Ascending (options fs) → ((g : Entry) → Memᴰ g es → Memᴰ g fs) → ((g : Entry) → Memᴰ g fs → Memᴰ g es) → es ≡ fs
same_entries [] [] p q to from = refl
same_entries [] (f ∷ fs) p q to from = absurd (Memᴰ.not-nil (from f (Memᴰ.head refl)))
same_entries (e ∷ es) [] p q to from = absurd (Memᴰ.not-nil (to e (Memᴰ.head refl)))
same_entries (e ∷ es) (f ∷ fs) p q to from =
    let first : e ≡ f =
    ⊎_elim (λ is. is)
    (λ m. ⊎_elim (λ is. sym is) (λ n. absurd (omega (arith, above f fs q e m, above e es p f n))) (Memᴰ.cases_cons (from f (Memᴰ.head refl))))
    (Memᴰ.cases_cons (to e (Memᴰ.head refl)))
    in
    let to_here : (g : Entry) → Memᴰ g (e ∷ es) → Memᴰ g (e ∷ fs) = subst (λ (x : Entry). (g : Entry) → Memᴰ g (e ∷ es) → Memᴰ g (x ∷ fs)) (sym first) to in
    let from_here : (g : Entry) → Memᴰ g (e ∷ fs) → Memᴰ g (e ∷ es) = subst (λ (x : Entry). (g : Entry) → Memᴰ g (x ∷ fs) → Memᴰ g (e ∷ es)) (sym first) from in
    let up : Ascending (options (e ∷ fs)) = subst (λ (x : Entry). Ascending (options (x ∷ fs))) (sym first) q in
    ap₂ (λ (x : Entry) (xs : List Entry). x ∷ xs) first (same_entries es fs p.1 q.1 (behind e es fs p to_here) (behind e fs es up from_here))

shared : (c : Clause) (es fs : List Entry) → EntriesOf c es → EntriesOf c fs → (g : Entry) → Memᴰ g es → Memᴰ g fs
shared c es fs p q g m = go g.option g.fitted m
  where
    go : (k : ℕ) (b : Bool) → Memᴰ (record { option = k; fitted = b }) es → Memᴰ (record { option = k; fitted = b }) fs
    go zero b m = absurd (omega (arith, (p.options _ m).0))
    go (suc k) true m = (q.fitted k).1 ((p.fitted k).0 m)
    go (suc k) false m = (q.left_out k).1 ((p.left_out k).0 m)

-- a rule has one text
pub one_text : (c : Clause) (text other : List ℕ) → RuleText c text → RuleText c other → text ≡ other
one_text c text other t u =
    text_is c text t ∙ ap shown (same_entries t.entries u.entries t.rule.ascending u.rule.ascending (shared c _ _ t.rule u.rule) (shared c _ _ u.rule t.rule)) ∙ sym (text_is c other u)

-- ---- fields and lines

-- a byte of a line is one of the field that it is in
field_byte : (from width : ℕ) (line : List ℕ) (i : ℕ) → from ≤ i → i < from + width → get_or line i 0 ≡ get_or (field_at from width line) (i - from) 0
field_byte from width line i l h =
    let at : i ≡ from + (i - from) = omega arith in
    ap (λ (j : ℕ). get_or line j 0) at ∙ sym (get_or-drop from line (i - from) 0) ∙ sym (get_or-take width (drop from line) (i - from) 0 (omega arith))

same_field :
    (from width : ℕ) (line other : List ℕ) → field_at from width line ≡ field_at from width other → (i : ℕ) → from ≤ i → i < from + width → get_or line i 0 ≡ get_or other i 0
same_field from width line other e i l h =
    field_byte from width line i l h ∙ ap (λ (f : List ℕ). get_or f (i - from) 0) e ∙ sym (field_byte from width other i l h)

one_number : (width n : ℕ) (field other : List ℕ) → NumberAt width n field → NumberAt width n other → field ≡ other
one_number width n field other p q =
    one_field.right width p.digits field other p.placed (subst (λ (ds : List ℕ). AtRight width ds other) (one_decimal n q.digits p.digits q.decimal p.decimal) q.placed)

-- the first line, and that of a rule, byte by byte
first_same : (a : Answer) (n : ℕ) (line other : List ℕ) → FirstLine a n line → FirstLine a n other → (i : ℕ) → i < 40 → get_or line i 0 ≡ get_or other i 0
first_same a n line other p q i h = elim (dec_lt i 10) [
  | yes w ↦ same_field 0 10 line other (one_field.left 10 (word_text a) _ _ p.word q.word) i (omega arith) (omega arith)
  | no not-word ↦ elim (dec_lt i 20) [
    | yes k ↦ same_field 10 10 line other (one_number 10 _ _ _ p.number q.number) i (omega arith) (omega arith)
    | no not-number ↦ elim (dec_lt i 30) [
      | yes b ↦ same_field 20 10 line other (one_number 10 _ _ _ p.branchings q.branchings) i (omega arith) (omega arith)
      | no not-branchings ↦ same_field 30 10 line other (one_number 10 _ _ _ p.rules q.rules) i (omega arith) (omega arith)
    ]
  ]
]

rule_same : (n : ℕ) (c : Clause) (line other : List ℕ) → RuleLine n c line → RuleLine n c other → (i : ℕ) → i < 40 → get_or line i 0 ≡ get_or other i 0
rule_same n c line other p q i h = elim (dec_lt i 4) [
  | yes k ↦ same_field 0 4 line other (one_number 4 n _ _ p.numbered q.numbered) i (omega arith) (omega arith)
  | no not-number ↦ elim (dec_lt i 5) [
    | yes b ↦ same_field 4 1 line other (p.blank ∙ sym q.blank) i (omega arith) (omega arith)
    | no not-blank ↦
        let same = one_text c q.text p.text q.shows p.shows in
        same_field 5 35 line other (one_field.left 35 p.text _ _ p.placed (subst (λ (t : List ℕ). AtLeft 35 t (field_at 5 35 other)) same q.placed)) i (omega arith) (omega arith)
  ]
]

-- ---- the page

-- the rule at a place of a list, with those before and after it
split_at : (p : ℕ) (l : List Clause) → p < length l → (before : List Clause) × (c : Clause) × (after : List Clause) × (l ≡ before ++ (c ∷ after)) × (length before ≡ p)
split_at p [] h = absurd (omega arith)
split_at zero (c ∷ l) h = ([], c, l, refl, refl)
split_at (suc p) (c ∷ l) h = let rest = split_at p l (omega arith) in (c ∷ rest.0, rest.1, rest.2, ap (λ (m : List Clause). c ∷ m) rest.3, ap suc rest.4)

module _ (x : Result) (page other : List ℕ) (p : Due x page) (q : Due x other) where
  -- a byte of line k
  by_line : (k i : ℕ) → k < suc (length (derived_of x)) → 41 * k ≤ i → i < 41 * k + 40 → get_or page i 0 ≡ get_or other i 0
  by_line zero i few l h =
      field_byte 0 40 page i l h ∙ first_same _ _ (line_at 0 page) (line_at 0 other) p.first q.first (i - 0) (omega arith) ∙ sym (field_byte 0 40 other i l h)
  by_line (suc k) i few l h =
      let at = split_at k (derived_of x) (omega arith) in
      let line : (page : List ℕ) → Due x page → RuleLine (suc k) at.1 (line_at (suc k) page) =
      λ page due. subst (λ (n : ℕ). RuleLine (suc n) at.1 (line_at (suc n) page)) at.4 (due.rules at.0 at.2 at.1 at.3)
      in
      field_byte (41 * suc k) 40 page i l h ∙ rule_same (suc k) at.1 (line_at (suc k) page) (line_at (suc k) other) (line page p) (line other q) (i - 41 * suc k) (omega arith)
      ∙ sym (field_byte (41 * suc k) 40 other i l h)

  same_page : page ≡ other
  same_page =
      ext_get_or 0 page other (p.lines.size ∙ sym q.lines.size)
      (λ i h. elim (dec_lt (i % 41) 40) [
        | yes character ↦ by_line (i / 41) i (omega (arith, p.lines.size)) (omega arith) (omega arith)
        | no feed ↦ p.lines.feeds i h (omega arith) ∙ sym (q.lines.feeds i (omega (arith, p.lines.size, q.lines.size)) (omega arith))
      ])

pub one_page : OnePage
one_page = same_page
