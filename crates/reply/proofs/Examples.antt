-- The replies that are written out, by computation.
use mathlib.Core.Path.{refl}
use lib.Count.{ones, ones_in}
use Rattle.words.specs.Words.{minus, meets, first_vars, lowest, members_up_to, members}
use Rattle.steps.specs.Clause.{vars, keepers, satisfied, falsified, names, undecided_in, without}
use Rattle.steps.specs.State.{undecided, live}
use Rattle.steps.specs.Sweep.{all_inactive, monotone, first_monotone, sweep}
use Rattle.steps.specs.Enter.{unit, swept, falsified_naming, enter}
use Rattle.steps.specs.Merge.{covers, resolvent, join, merge}
use Rattle.steps.specs.Search.{step, search}
use Rattle.steps.specs.Run.{units, finish, searched, run}
use Rattle.order.specs.Order.{complete}
use Rattle.book.specs.Bytes.{bytes_of, number, word_at, words_in, pair, clauses_in, flat}
use Rattle.book.specs.Refusals.{first_row, above, rule_rows, book_rows, order_rows, admit_rows}
use Rattle.contract.specs.Check.{check, tables_fault}
use Rattle.report.specs.Decimal.{decimal, decimal_up_to}
use Rattle.report.specs.Text.{outcome_text, fields, clause_lines, record_lines}
use Rattle.reply.specs.Reply.{result_in, text_of, reply_to}
use Rattle.reply.specs.Demands.{Examples}

pub examples : Examples
unfolding
    reply_to result_in text_of check complete tables_fault first_row above rule_rows book_rows order_rows admit_rows bytes_of number word_at words_in pair clauses_in flat
    outcome_text fields clause_lines record_lines decimal decimal_up_to
    minus meets first_vars lowest members_up_to members ones ones_in vars keepers satisfied falsified names undecided_in without undecided live
    all_inactive monotone first_monotone sweep unit swept falsified_naming enter covers resolvent join merge step search units finish searched run
examples =
    record {
      documented = refl;
      nothing = refl;
      no_whole_order = refl;
      no_book = refl;
      faulty_order = refl;
      standard_above = refl;
      wanted_above = refl;
      standard_wanted = refl;
      standard_unwanted = refl;
    }
