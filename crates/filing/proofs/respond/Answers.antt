use Rattle.std.proofs.Common.{◌≡◌, ◌∙◌, sym, ap, ◌≤◌, ℕ, ◌-◌, List, length, take, drop, arith}
use Rattle.order.specs.Order.{Order}
use Rattle.contract.specs.Check.{check}
use Rattle.report.proofs.Writing.{printed_as}
use Rattle.reply.specs.Reply.{allowance, places, order_bytes, order_in}
use Rattle.reply.proofs.Reply.{result_read}
use Rattle.page.specs.Page.{page_of, page_to}
use Rattle.page.proofs.Demands.{same_check}
use Rattle.layout.proofs.Checked.{short_told}
use Rattle.filing.proofs.respond.Goals as goal

-- the page of the book that follows the order
whole :
    (input : List ℕ) (o : Order) → order_bytes ≤ length input → o ≡ order_in input →
    page_of (check (take (length input - order_bytes) (drop order_bytes input)) o allowance places) ≡ page_to input
unfolding page_to
whole input o h e = ap page_of (result_read places input o h e)

pub returns-then-input-lt-ORDER_BYTES : goal.returns-then-input-lt-ORDER_BYTES
returns-then-input-lt-ORDER_BYTES c = printed_as (short_told.page ∙ sym (same_check.short _ (omega arith))) (rw c.from.ensures at c.put_page.ensures)

pub returns : goal.returns
returns c = printed_as (whole _ _ (omega arith) c.order_in.ensures) c.put_check.ensures
