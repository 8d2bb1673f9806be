use Rattle.std.proofs.Common.{sym, ◌∙◌, arith}
use Rattle.trying.proofs.Rows.{too_many, too_high, decided_too, tables_faulty, nothing_faulty}
use Rattle.trying.proofs.judge.after_order.Goals as goal
use Rattle.trying.proofs.judge.after_order.Goals.{then-count_of-gt-MAX_OPEN-via-then-count_of-gt-MAX_OPEN, then-count_of-gt-MAX_OPEN-via-else-count_of-gt-MAX_OPEN+then-names_above}

pub returns-then-count_of-gt-MAX_OPEN : goal.returns-then-count_of-gt-MAX_OPEN
returns-then-count_of-gt-MAX_OPEN c =
    elim c.then-count_of-gt-MAX_OPEN.branch [
      | then-count_of-gt-MAX_OPEN-via-then-count_of-gt-MAX_OPEN w ↦ too_many _ _ _ _ (omega (arith, w.if-count_of-gt-MAX_OPEN.true, c.count_of.ensures))
      | then-count_of-gt-MAX_OPEN-via-else-count_of-gt-MAX_OPEN+then-names_above w ↦ too_high _ _ _ _ (sym w.names_above.ensures ∙ w.if-names_above.true)
    ]

pub returns-then-meets : goal.returns-then-meets
returns-then-meets c =
    decided_too _ _ _ _ (omega (arith, c.if-count_of-gt-MAX_OPEN.false, c.count_of.ensures)) (sym c.names_above.ensures ∙ c.if-names_above.false)
    (sym c.meets.ensures ∙ c.if-meets.true)

pub returns-then-fault : goal.returns-then-fault
returns-then-fault c =
    tables_faulty _ _ _ _ (omega (arith, c.if-count_of-gt-MAX_OPEN.false, c.count_of.ensures)) (sym c.names_above.ensures ∙ c.if-names_above.false)
    (sym c.meets.ensures ∙ c.if-meets.false) (sym c.fault.ensures ∙ c.if-fault.true)

pub returns : goal.returns
returns c =
    nothing_faulty _ _ _ _ (omega (arith, c.if-count_of-gt-MAX_OPEN.false, c.count_of.ensures)) (sym c.names_above.ensures ∙ c.if-names_above.false)
    (sym c.meets.ensures ∙ c.if-meets.false) (sym c.fault.ensures ∙ c.if-fault.false)
