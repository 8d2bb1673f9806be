-- How long a text can be: a number below 2 to the power 64 is below 10 to the power 20 and so has at most 20 digits, a field has one byte more, and a word at most seven letters.
use mathlib.Core.List.{List, [], ◌∷◌, ◌++◌}
use Prim.Native.Nat.{ℕ, zero, suc, ◌+◌, ◌*◌, ◌^◌, ◌≤◌, ◌<◌}
use native.Mathlib.Nat.{mul-suc}
use native.Mathlib.Omega.{arith}
use lib.ListN.{length, take, get_or, length-append}
use Rattle.answer.specs.Answer.{Answer, Answer.Can, Answer.Cannot, Answer.Refused, Answer.Stopped}
use Rattle.report.specs.Text.{word_text, fields, line, clause_lines, record_lines, line_bound, bound}
use Rattle.report.proofs.Digits.{decimal_length}

-- each element of the list is below 2 to the power 64
pub data Words : List ℕ → Type 0 where
  none : Words []
  more : {n : ℕ} {ns : List ℕ} → n < 2 ^ 64 → Words ns → Words (n ∷ ns)

-- as what is known of a slice says it
pub words_of : (ns : List ℕ) → ((i : ℕ) → get_or ns i 0 < 2 ^ 64) → Words ns
words_of [] w = none
words_of (n ∷ ns) w = more (w 0) (words_of ns (λ i. w (suc i)))

-- the fields of a line
fields_at_most : {ns : List ℕ} → Words ns → length (fields ns) ≤ 21 * length ns + 1
unfolding fields
fields_at_most none = omega arith
fields_at_most (more {n} h w) = simp length-append (omega (arith, decimal_length 19 n (omega arith), fields_at_most w))

-- the first word
pub word_at_most : (a : Answer) → length (word_text a) ≤ 7
word_at_most (Can t) = omega arith
word_at_most (Cannot t) = omega arith
word_at_most (Refused k) = omega arith
word_at_most (Stopped k t) = omega arith

-- the lines of the first k clauses
clauses_at_most : (k : ℕ) {ps ns : List ℕ} → Words ps → Words ns → length (clause_lines (take k ps) (take k ns)) ≤ line_bound 1 2 * k
unfolding clause_lines
clauses_at_most zero wp wn = omega arith
clauses_at_most (suc k) none wn = omega arith
clauses_at_most (suc k) (more p wp) none = omega arith
clauses_at_most (suc k) (more p wp) (more n wn) = simp length-append (omega (arith, fields_at_most (more p (more n none)), clauses_at_most k wp wn, mul-suc (line_bound 1 2) k))

-- the lines of the first k records
records_at_most : (k : ℕ) {ds ts rs : List ℕ} → Words ds → Words ts → Words rs → length (record_lines (take k ds) (take k ts) (take k rs)) ≤ line_bound 1 3 * k
unfolding record_lines
records_at_most zero wd wt wr = omega arith
records_at_most (suc k) none wt wr = omega arith
records_at_most (suc k) (more d wd) none wr = omega arith
records_at_most (suc k) (more d wd) (more t wt) none = omega arith
records_at_most (suc k) (more d wd) (more t wt) (more r wr) = simp length-append (omega (arith, fields_at_most (more d (more t (more r none))), records_at_most k wd wt wr, mul-suc (line_bound 1 3) k))

-- the bound on the whole text, by its word, its number and its counts
pub text_at_most :
    (word : List ℕ) (number branchings derived records : ℕ) {pos neg decided trues redundant : List ℕ} → length word ≤ 7
    → Words (number ∷ branchings ∷ derived ∷ records ∷ []) → Words pos → Words neg → Words decided → Words trues → Words redundant
    → length (line word (number ∷ branchings ∷ derived ∷ records ∷ []) ++ (clause_lines (take derived pos) (take derived neg) ++ record_lines (take records decided) (take records trues) (take records redundant)))
    ≤ bound derived records
text_at_most word number branchings derived records short w wp wn wd wt wr = simp length-append (
    omega (arith, fields_at_most w, clauses_at_most derived wp wn, records_at_most records wd wt wr)
    )
