use Rattle.std.proofs.Common.{◌<◌, ◌^◌, rules, subst}
use Rattle.order.specs.Order.{Order}
use Rattle.contract.specs.Filled.{Tables, lent}
use Rattle.checker.specs.Lent.{tables_of}
use Rattle.sites.specs.Values.{served_of}
use Rattle.sites.specs.Handed.{terminal_of, HandsSite}
use Rattle.sites.proofs.Handing.{word_fits, hands_site}
use Rattle.optcheck_c.proofs.optcheck_site.Goals as goal

pub word_of-requires : goal.word_of-requires
word_of-requires c =
    let a = c.args in
    let few : a.left.now < 2 ^ 32 = search rules in
    word_fits a.book.now (terminal_of a.left.now a.part a.sites.now) _ (lent a.pos.now a.neg.now a.decided.now a.trues.now a.redundant.now)
    (served_of c.serve-served.result) (tables_of c.serve-served.new.tables) c.serve-served.ensures.serves few

pub returns : goal.returns
returns c =
    let a = c.args in
    let t = terminal_of a.left.now a.part a.sites.now in
    let o : Order = record { wanted = a.wanted; unwanted = a.unwanted; standard = a.standard } in
    let before = lent a.pos.now a.neg.now a.decided.now a.trues.now a.redundant.now in
    let r = served_of c.serve-served.result in
    subst (λ (x : Tables). HandsSite a.book.now t o before c.word_of.result (terminal_of r.terminal.left a.part r.terminal.sites) x)
    (search rules)
    (hands_site a.book.now t o before r (tables_of c.serve-served.new.tables) c.serve-served.ensures.serves _ c.word_of.ensures)
