use mathlib.Core.Path.{sym, ◌∙◌}
use Rattle.book.proofs.Readings.{refused_by, book_by}
use Rattle.book.proofs.Tests.{order_above, order_both, order_standard, order_passed}
use Rattle.book.proofs.judge.judge_order.Goals as goal

pub returns-then-above : goal.returns-then-above
returns-then-above c t = refused_by _ _ _ _ (order_above _ _ (sym c.names_above-above.ensures ∙ c.if-above.true))

pub returns-then-both : goal.returns-then-both
returns-then-both c t =
    refused_by _ _ _ _
    (order_both _ _ (sym c.names_above-above.ensures ∙ c.if-above.false) (sym c.meets-both.ensures ∙ c.if-both.true))

pub returns-then-standard : goal.returns-then-standard
returns-then-standard c t =
    refused_by _ _ _ _
    (order_standard _ _
    (sym c.names_above-above.ensures ∙ c.if-above.false)
    (sym c.meets-both.ensures ∙ c.if-both.false)
    (sym c.names_above-standard.ensures ∙ c.if-standard.true))

pub returns : goal.returns
returns c t =
    book_by _ _ _
    (order_passed _ _
    (record {
      below = sym c.names_above-above.ensures ∙ c.if-above.false;
      apart = sym c.meets-both.ensures ∙ c.if-both.false;
      standard = sym c.names_above-standard.ensures ∙ c.if-standard.false;
    }))
