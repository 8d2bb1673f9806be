use Rattle.std.proofs.Common.{arith}
use Rattle.sites.proofs.Handing.{opens_refused, opens_opened}
use Rattle.terminal.proofs.open_for.Goals as goal
use Rattle.terminal.proofs.open_for.Goals.{then-count-lt1-via-then-count-lt1, then-count-lt1-via-else-count-lt1+then-count-gt-MAX_SITES}

pub returns-then-count-lt1 : goal.returns-then-count-lt1
returns-then-count-lt1 c =
    opens_refused _ _
    (λ m. elim c.then-count-lt1.branch [
      | then-count-lt1-via-then-count-lt1 w ↦ omega (arith, w.if-count-lt1.true, m.one)
      | then-count-lt1-via-else-count-lt1+then-count-gt-MAX_SITES w ↦ omega (arith, w.if-count-gt-MAX_SITES.true, m.eight)
    ])

pub returns : goal.returns
returns c = opens_opened _ _ (record { one = c.if-count-lt1.false; eight = c.if-count-gt-MAX_SITES.false })
