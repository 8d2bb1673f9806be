-- Texts of characters: a blank to a small z. A number's digits are, and so is all that stands on a page but the line feeds.
use mathlib.Core.Path.{◌≡◌, refl}
use mathlib.Core.Bool.{Bool, true, false, ◌&&◌}
use mathlib.Core.List.{List, [], ◌∷◌, ◌++◌}
use Prim.Native.Nat.{ℕ, zero, suc, ◌-◌, ◌≤◌, ◌<◌}
use native.Mathlib.Omega.{arith}
use borrow.Author.Tests.{ltb-true, lt-ltb}
use lib.Dec.{ltb}
use lib.ListN.{length, get_or}
use Rattle.words.proofs.Truth.{and_left, and_right, and_both}
use Rattle.answer.specs.Answer.{Answer, Answer.Can, Answer.Cannot, Answer.Refused, Answer.Stopped}
use Rattle.report.specs.Ascii.{ascii}
use Rattle.report.specs.Decimal.{decimal}
use Rattle.report.specs.Fields.{blanks, set_left, set_right}
use Rattle.report.specs.Text.{word_text}
use Rattle.report.proofs.Decimals.{decimals}
use Rattle.page.specs.Entries.{Entry, entry_text, spaced, joined, counted, rule_room, shown}

-- the byte of a character
abbrev character : ℕ → Bool
character b = ltb 31 b && ltb b 123

-- all are
abbrev pub printable : List ℕ → Bool
printable [] = true
printable (b ∷ bs) = character b && printable bs

pub printable_at : (l : List ℕ) → printable l ≡ true → (i : ℕ) → i < length l → (32 ≤ get_or l i 0) × (get_or l i 0 ≤ 122)
printable_at [] p i h = absurd (omega arith)
printable_at (b ∷ bs) p zero h =
    let this = and_left (character b) (printable bs) p in
    (omega (arith, ltb-true 31 b (and_left (ltb 31 b) (ltb b 123) this)), omega (arith, ltb-true b 123 (and_right (ltb 31 b) (ltb b 123) this)))
printable_at (b ∷ bs) p (suc i) h = printable_at bs (and_right (character b) (printable bs) p) i (omega arith)

at_printable : (l : List ℕ) → ((i : ℕ) → i < length l → (48 ≤ get_or l i 0) × (get_or l i 0 ≤ 57)) → printable l ≡ true
at_printable [] f = refl
at_printable (b ∷ bs) f =
    let this = f 0 (omega arith) in
    and_both (character b) (printable bs) (and_both (ltb 31 b) (ltb b 123) (lt-ltb 31 b (omega (arith, this.0))) (lt-ltb b 123 (omega (arith, this.1))))
    (at_printable bs (λ i h. f (suc i) (omega arith)))

pub printable_append : (xs ys : List ℕ) → printable xs ≡ true → printable ys ≡ true → printable (xs ++ ys) ≡ true
printable_append [] ys p q = q
printable_append (b ∷ xs) ys p q =
    and_both (character b) (printable (xs ++ ys)) (and_left (character b) (printable xs) p) (printable_append xs ys (and_right (character b) (printable xs) p) q)

printable_blanks : (k : ℕ) → printable (blanks k) ≡ true
printable_blanks zero = refl
printable_blanks (suc k) = printable_blanks k

printable_decimal : (n : ℕ) → printable (decimal n) ≡ true
printable_decimal n = at_printable (decimal n) (decimals n).each

pub printable_left : (width : ℕ) (text : List ℕ) → printable text ≡ true → printable (set_left width text) ≡ true
unfolding set_left
printable_left width text p = printable_append text (blanks (width - length text)) p (printable_blanks (width - length text))

pub printable_right : (width n : ℕ) → printable (set_right width (decimal n)) ≡ true
unfolding set_right
printable_right width n = printable_append (blanks (width - length (decimal n))) (decimal n) (printable_blanks (width - length (decimal n))) (printable_decimal n)

pub printable_word : (a : Answer) → printable (word_text a) ≡ true
printable_word (Can t) = refl
printable_word (Cannot t) = refl
printable_word (Refused k) = refl
printable_word (Stopped k t) = refl

printable_entry : (k : ℕ) (b : Bool) → printable (entry_text (record { option = k; fitted = b })) ≡ true
printable_entry k true = printable_decimal k
printable_entry k false = printable_decimal k

printable_spaced : (es : List Entry) → printable (spaced es) ≡ true
unfolding spaced
printable_spaced [] = refl
printable_spaced (e ∷ es) = printable_append (entry_text e) (spaced es) (printable_entry e.option e.fitted) (printable_spaced es)

printable_counted : (n : ℕ) → printable (counted n) ≡ true
printable_counted n = printable_append (decimal n) (ascii " entries)") (printable_decimal n) refl

pub printable_shown : (es : List Entry) → printable (shown es) ≡ true
unfolding shown
printable_shown [] = refl
printable_shown (e ∷ es) = go (ltb rule_room (length (joined (e ∷ es))))
  where
    go : (b : Bool) → printable (elim b as (λ _. List ℕ) [ true ↦ counted (length (e ∷ es)) | false ↦ joined (e ∷ es) ]) ≡ true
    go true = printable_counted (suc (length es))
    go false = printable_append (entry_text e) (spaced es) (printable_entry e.option e.fitted) (printable_spaced es)
