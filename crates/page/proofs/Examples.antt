-- The pages and lines that are written out, by computation.
use mathlib.Core.Path.{refl}
use lib.Count.{ones, ones_in}
use Rattle.words.specs.Words.{has, minus, meets, first_vars, lowest, members_up_to, members}
use Rattle.steps.specs.Clause.{vars, keepers, satisfied, falsified, names, undecided_in, without}
use Rattle.steps.specs.State.{undecided, live}
use Rattle.steps.specs.Sweep.{all_inactive, monotone, first_monotone, sweep}
use Rattle.steps.specs.Enter.{unit, swept, falsified_naming, enter}
use Rattle.steps.specs.Merge.{covers, resolvent, join, merge}
use Rattle.steps.specs.Search.{step, search}
use Rattle.steps.specs.Run.{units, finish, searched, run}
use Rattle.order.specs.Order.{complete}
use Rattle.book.specs.Bytes.{bytes_of, number, word_at, words_in, pair, clauses_in, flat}
use Rattle.book.specs.Refusals.{first_row, above, rule_rows, book_rows, order_rows, admit_rows}
use Rattle.contract.specs.Check.{check, tables_fault}
use Rattle.report.specs.Decimal.{decimal, decimal_up_to}
use Rattle.report.specs.Fields.{set_left, set_right}
use Rattle.reply.specs.Reply.{result_in}
use Rattle.page.specs.Entries.{entries_from, spaced, shown}
use Rattle.page.specs.Page.{first_line, rule_line, rule_lines, page_text, page_of, page_to}
use Rattle.page.specs.Demands.{Examples}

pub examples : Examples
unfolding
    page_to page_of page_text first_line rule_line rule_lines entries_from spaced shown set_left set_right result_in check complete tables_fault first_row above rule_rows book_rows order_rows admit_rows bytes_of number word_at words_in pair clauses_in flat
    decimal decimal_up_to has minus meets first_vars lowest members_up_to members ones ones_in vars keepers satisfied falsified names undecided_in without undecided live
    all_inactive monotone first_monotone sweep unit swept falsified_naming enter covers resolvent join merge step search units finish searched run
examples =
    record {
      documented = refl;
      nothing = refl;
      standard_above = refl;
      can = refl;
      stopped = refl;
      of_35 = refl;
      of_36 = refl;
      both_signs = refl;
      last_left_out = refl;
      all_options = refl;
    }
