-- What the exported function does with a lent buffer.
use Rattle.std.specs.Prelude.{◌≡◌, List, ℕ, ◌≤◌, ◌<◌, length}
use Rattle.order.specs.Order.{Order}
use Rattle.contract.specs.Check.{check}
use Rattle.report.specs.Text.{Printed}
use Rattle.reply.specs.Reply.{places}
use Rattle.page.specs.Page.{longest, page_of}

-- the page of a check stands at the start of the buffer, and r is its length; in a buffer that might be too short nothing is written, and r is 0
pub record Filed (bytes : List ℕ) (o : Order) (allowance : ℕ) (before after : List ℕ) (r : ℕ) : Type 0 where
  pub short : length before < longest → (r ≡ 0) × (after ≡ before)
  pub page : longest ≤ length before → Printed (page_of (check bytes o allowance places)) before after r
