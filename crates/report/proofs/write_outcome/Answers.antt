use mathlib.Core.Path.{◌≡◌, refl, ap}
use mathlib.Core.List.{List, [], ◌∷◌, ◌++◌}
use Prim.Native.Nat.{ℕ}
use native.Mathlib.Omega.{arith}
use borrow.Author.Rules.{rules}
use lib.ListN.{take, length}
use Rattle.answer.specs.Answer.{Answer, tally_in, number_in}
use Rattle.answer.specs.Numbers.{by_number}
use Rattle.answer.specs.declared.Tally.{Tally}
use Rattle.report.specs.Text.{word_text, line, clause_lines, record_lines, outcome_text, text_from}
use Rattle.report.proofs.Length.{none, more, words_of, word_at_most, text_at_most}
use Rattle.report.proofs.Writing.{printed_by, printed_as}
use Rattle.report.proofs.write_outcome.Goals as goal

-- the text, by what was read off the answer
told :
    (a : Answer) (pos neg decided trues redundant : List ℕ) {word : List ℕ} {number : ℕ} {t : Tally} → word ≡ word_text a → number ≡ number_in a → t ≡ tally_in a
    → line word (number ∷ t.branchings ∷ t.derived ∷ t.records ∷ []) ++ (clause_lines (take t.derived pos) (take t.derived neg) ++ record_lines (take t.records decided) (take t.records trues) (take t.records redundant))
    ≡ text_from a pos neg decided trues redundant
unfolding outcome_text
told a pos neg decided trues redundant is_word is_number is_tally = rw (is_word, is_number, is_tally) refl

pub lines-requires : goal.lines-requires
lines-requires c =
    let a = c.args in
    let n = c.number_of in
    let t = c.tally_of-tally in
    let short = text_at_most c.printed_word.result.now n.result t.result.branchings t.result.derived t.result.records
    (omega (arith, ap length c.printed_word.ensures, word_at_most (by_number a.a)))
    (more (omega (arith, n.type_inv)) (more (omega (arith, t.type_inv)) (more (omega (arith, t.type_inv)) (more (omega (arith, t.type_inv)) none))))
    (words_of a.pos.now (λ i. (c.type_inv.pos i).fits))
    (words_of a.neg.now (λ i. (c.type_inv.neg i).fits))
    (words_of a.decided.now (λ i. (c.type_inv.decided i).fits))
    (words_of a.trues.now (λ i. (c.type_inv.trues i).fits))
    (words_of a.redundant.now (λ i. (c.type_inv.redundant i).fits)) in
    record { room = record { fits = omega (arith, short, c.requires.a_in_bounds, ap (λ (t : Tally). t.derived) t.ensures, ap (λ (t : Tally). t.records) t.ensures) } }

pub returns : goal.returns
returns c =
    let a = c.args in
    printed_as
    (told (by_number a.a) a.pos.now a.neg.now a.decided.now a.trues.now a.redundant.now c.printed_word.ensures c.number_of.ensures c.tally_of-tally.ensures)
    (printed_by c.lines.ensures refl (λ same. search rules))
