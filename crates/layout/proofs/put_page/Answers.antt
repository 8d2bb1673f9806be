use mathlib.Core.Path.{◌≡◌, refl, ap}
use mathlib.Core.List.{List}
use Prim.Native.Nat.{ℕ}
use native.Mathlib.Omega.{arith}
use borrow.Author.Rules.{rules}
use lib.ListN.{length, take}
use Rattle.answer.specs.Answer.{Answer, tally_in}
use Rattle.answer.specs.declared.Tally.{Tally}
use Rattle.contract.specs.Demands.{rules_of}
use Rattle.report.proofs.Writing.{printed_as, printed_by}
use Rattle.page.specs.Page.{page_text}
use Rattle.layout.specs.Layout.{numbered, page_in}
use Rattle.layout.proofs.Checked.{page_fits}
use Rattle.layout.proofs.put_page.Goals as goal

-- the page, by the counts that were read off the answer
told : (a : Answer) (ps ns : List ℕ) {t : Tally} → t ≡ tally_in a → page_text a (rules_of (take t.derived ps) (take t.derived ns)) ≡ page_in a ps ns
told a ps ns e = ap (λ (t : Tally). page_text a (rules_of (take t.derived ps) (take t.derived ns))) e

pub put_lines-requires-clause-room : goal.put_lines-requires-clause-room
put_lines-requires-clause-room c =
    let a = c.args in
    let same = told (numbered a.a) a.pos.now a.neg.now c.tally-derived.ensures in
    record { room = record { fits = omega (arith, ap length same, page_fits (numbered a.a) a.pos.now a.neg.now c.requires.fit, c.requires.longest_in_bounds) } }

pub returns : goal.returns
returns c =
    printed_as (told (numbered c.args.a) c.args.pos.now c.args.neg.now c.tally-derived.ensures) (printed_by c.put_lines.ensures refl (λ same. search rules))
