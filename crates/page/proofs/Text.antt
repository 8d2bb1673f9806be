-- The text of a rule: how long it can be, what is shown by its length, and that it reads as the rule's entries.
use mathlib.Core.Path.{◌≡◌, refl, sym, ap, ◌∙◌}
use mathlib.Core.Bool.{Bool, true, false}
use mathlib.Core.List.{List, [], ◌∷◌, ◌++◌, append_assoc, append-nil}
use Prim.Native.Nat.{ℕ, zero, suc, ◌+◌, ◌-◌, ◌*◌, ◌≤◌, ◌<◌}
use native.Mathlib.Numerals.{add-one}
use native.Mathlib.Omega.{arith}
use borrow.Author.Tests.{ltb-true, ltb-false, lt-ltb, le-ltb}
use lib.Dec.{ltb}
use lib.ListN.{length, length-append}
use Rattle.words.specs.Words.{digit, has}
use Rattle.words.proofs.Truth.{clash}
use Rattle.steps.specs.Clause.{Clause}
use Rattle.steps.specs.Shape.{Proper}
use Rattle.book.specs.Limits.{max_vars}
use Rattle.report.specs.Ascii.{ascii}
use Rattle.report.specs.Decimal.{decimal}
use Rattle.report.proofs.Digits.{decimal_length}
use Rattle.report.proofs.Decimals.{decimals}
use Rattle.page.specs.Entries.{Entry, entry_at, entries_from, entries, entry_text, spaced, joined, counted, rule_room, shown}
use Rattle.page.specs.Demands.{EntryRead, EntryRead.fitted, EntryRead.left_out, EntriesRead, EntriesRead.one, EntriesRead.more, Counted, RuleText}
use Rattle.page.proofs.Entries.{entries_of}

-- ---- a blank before each

spaced_append : (xs ys : List Entry) → spaced (xs ++ ys) ≡ spaced xs ++ spaced ys
unfolding spaced
spaced_append [] ys = refl
spaced_append (e ∷ xs) ys =
    ap (λ (l : List ℕ). ascii " " ++ (entry_text e ++ l)) (spaced_append xs ys)
    ∙ ap (λ (l : List ℕ). ascii " " ++ l) (sym (append_assoc (entry_text e) (spaced xs) (spaced ys)))

-- the first variable's entry, and those of the others
spaced_more : (k v : ℕ) (c : Clause) → spaced (entries_from (suc k) v c) ≡ spaced (entry_at v (has c.pos v) (has c.neg v)) ++ spaced (entries_from k (suc v) c)
unfolding entries_from
spaced_more k v c = spaced_append (entry_at v (has c.pos v) (has c.neg v)) (entries_from k (suc v) c)

spaced_none : (v : ℕ) (c : Clause) → spaced (entries_from 0 v c) ≡ []
unfolding entries_from spaced
spaced_none v c = refl

-- the entry of a variable, by the digits that say whether the words have it
pub entry_fitted : (v : ℕ) (p q : Bool) → digit p ≡ 1 → spaced (entry_at v p q) ≡ ascii " " ++ decimal (v + 1)
unfolding spaced
entry_fitted v true q e = ap (λ (l : List ℕ). ascii " " ++ l) (append-nil (decimal (suc v)) ∙ ap decimal (sym (add-one v)))
entry_fitted v false q e = clash e

pub entry_left_out : (v : ℕ) (p q : Bool) → (digit p ≡ 1 → ⊥) → digit q ≡ 1 → spaced (entry_at v p q) ≡ ascii " -" ++ decimal (v + 1)
unfolding spaced
entry_left_out v true q n e = absurd (n refl)
entry_left_out v false true n e = ap (λ (l : List ℕ). ascii " -" ++ l) (append-nil (decimal (suc v)) ∙ ap decimal (sym (add-one v)))
entry_left_out v false false n e = clash e

pub entry_none : (v : ℕ) (p q : Bool) → (digit p ≡ 1 → ⊥) → (digit q ≡ 1 → ⊥) → spaced (entry_at v p q) ≡ []
unfolding spaced
entry_none v true q n m = absurd (n refl)
entry_none v false true n m = absurd (m refl)
entry_none v false false n m = refl

-- what is left of a rule's entries before variable v, and after the last one
pub spaced_turn :
    (v : ℕ) (c : Clause) → v < max_vars →
    spaced (entries_from (max_vars - v) v c) ≡ spaced (entry_at v (has c.pos v) (has c.neg v)) ++ spaced (entries_from (max_vars - (v + 1)) (v + 1) c)
spaced_turn v c h =
    let one : max_vars - v ≡ suc (max_vars - (v + 1)) = omega arith in
    ap (λ (k : ℕ). spaced (entries_from k v c)) one ∙ spaced_more (max_vars - (v + 1)) v c
    ∙ ap (λ (w : ℕ). spaced (entry_at v (has c.pos v) (has c.neg v)) ++ spaced (entries_from (max_vars - (v + 1)) w c)) (sym (add-one v))

pub spaced_end : (v : ℕ) (c : Clause) → max_vars ≤ v → spaced (entries_from (max_vars - v) v c) ≡ []
spaced_end v c h =
    let over : max_vars - v ≡ 0 = omega arith in
    ap (λ (k : ℕ). spaced (entries_from k v c)) over ∙ spaced_none v c

-- an entry has a blank, perhaps a minus, and one or two digits
entry_short : (v : ℕ) (p q : Bool) → v < 64 → length (spaced (entry_at v p q)) ≤ 4
unfolding spaced
entry_short v true q h = simp length-append (omega (arith, decimal_length 1 (suc v) (omega arith)))
entry_short v false true h = simp length-append (omega (arith, decimal_length 1 (suc v) (omega arith)))
entry_short v false false h = omega arith

spaced_short : (k v : ℕ) (c : Clause) → v + k ≤ 64 → length (spaced (entries_from k v c)) ≤ 4 * k
spaced_short zero v c h = rw (spaced_none v c) (omega arith)
spaced_short (suc k) v c h =
    rw (spaced_more k v c, length-append (spaced (entry_at v (has c.pos v) (has c.neg v))) (spaced (entries_from k (suc v) c)))
    (omega (arith, entry_short v (has c.pos v) (has c.neg v) (omega arith), spaced_short k (suc v) c (omega arith)))

pub entries_short : (c : Clause) → length (spaced (entries c)) ≤ 256
entries_short c = spaced_short max_vars 0 c (omega arith)

-- ---- what is shown

-- the count, where the text is too long, and else the text
pub shown_long : (es : List Entry) → rule_room < length (joined es) → shown es ≡ counted (length es)
unfolding shown
shown_long [] h = absurd (omega arith)
shown_long (e ∷ es) h = rw (lt-ltb rule_room (length (joined (e ∷ es))) h, shown)

pub shown_fits : (e : Entry) (es : List Entry) → length (joined (e ∷ es)) ≤ rule_room → shown (e ∷ es) ≡ joined (e ∷ es)
unfolding shown
shown_fits e es h = rw (le-ltb rule_room (length (joined (e ∷ es))) h, shown)

pub counted_short : (n : ℕ) → n < 100 → length (counted n) ≤ 12
counted_short n h = simp length-append (omega (arith, decimal_length 1 n (omega arith)))

-- so it always fits
pub shown_short : (es : List Entry) → length es < 100 → length (shown es) ≤ rule_room
unfolding shown
shown_short [] h = omega arith
shown_short (e ∷ es) h = go (ltb rule_room (length (joined (e ∷ es)))) refl
  where
    go : (b : Bool) → ltb rule_room (length (joined (e ∷ es))) ≡ b → length (shown (e ∷ es)) ≤ rule_room
    go true t = rw (shown_long (e ∷ es) (ltb-true _ _ t)) (omega (arith, counted_short (suc (length es)) h))
    go false t = let fits = ltb-false rule_room (length (joined (e ∷ es))) t in rw (shown_fits e es fits) fits

-- ---- what it reads as

entry_read : (k : ℕ) (b : Bool) → EntryRead (record { option = k; fitted = b }) (entry_text (record { option = k; fitted = b }))
entry_read k true = fitted (decimals k)
entry_read k false = left_out (decimals k)

entries_read : (e : Entry) (es : List Entry) → EntriesRead (e ∷ es) (joined (e ∷ es))
unfolding spaced
entries_read e [] = one {e = e} {text = entry_text e ++ []} (rw (append-nil (entry_text e)) (entry_read e.option e.fitted))
entries_read e (f ∷ es) = more (entry_read e.option e.fitted) (entries_read f es)

-- the text of a rule shows its entries
pub rule_text : (c : Clause) → Proper max_vars c → RuleText c (shown (entries c))
unfolding shown
rule_text c proper = record { entries = entries c; rule = entries_of c proper; none = none (entries c); some = some (entries c) }
  where
    none : (es : List Entry) → length es ≡ 0 → shown es ≡ ascii "none"
    none [] e = refl
    none (f ∷ es) e = absurd (omega arith)

    some : (es : List Entry) → 0 < length es → (full : List ℕ) × EntriesRead es full × (length full ≤ 35 → shown es ≡ full) × (35 < length full → Counted (length es) (shown es))
    some [] h = absurd (omega arith)
    some (e ∷ es) h = (
      joined (e ∷ es),
      entries_read e es,
      λ fits. shown_fits e es fits,
      λ long. record { digits = decimal (suc (length es)); decimal = decimals (suc (length es)); is = shown_long (e ∷ es) long },
    )

-- ---- by the length of the spaced entries

pub shown_none : (es : List Entry) → length (spaced es) ≡ 0 → shown es ≡ ascii "none"
unfolding spaced shown
shown_none [] e = refl
shown_none (f ∷ es) e = absurd (omega arith)

pub shown_counted : (es : List Entry) → suc rule_room < length (spaced es) → shown es ≡ counted (length es)
unfolding spaced
shown_counted [] h = absurd (omega arith)
shown_counted (e ∷ es) h = shown_long (e ∷ es) (omega arith)

pub shown_spaced : (es : List Entry) → (length (spaced es) ≡ 0 → ⊥) → length (spaced es) ≤ suc rule_room → spaced es ≡ ascii " " ++ shown es
unfolding spaced
shown_spaced [] h l = absurd (h refl)
shown_spaced (e ∷ es) h l = ap (λ (t : List ℕ). ascii " " ++ t) (sym (shown_fits e es (omega arith)))
