-- The cases that are written out, by computation.
use mathlib.Core.Path.{refl}
use lib.Count.{ones, ones_in}
use Rattle.words.specs.Words.{minus, meets, first_vars, lowest, members_up_to, members}
use Rattle.steps.specs.Clause.{vars, keepers, satisfied, falsified, names, undecided_in, without}
use Rattle.steps.specs.State.{undecided as unfixed, live}
use Rattle.steps.specs.Sweep.{all_inactive, monotone, first_monotone, sweep}
use Rattle.steps.specs.Enter.{unit, swept, falsified_naming, enter}
use Rattle.steps.specs.Merge.{covers, resolvent, join, merge}
use Rattle.steps.specs.Search.{step, search}
use Rattle.steps.specs.Run.{units, finish, searched, run}
use Rattle.order.specs.Order.{complete}
use Rattle.book.specs.Bytes.{bytes_of, number, word_at, words_in, pair, clauses_in, flat, encode}
use Rattle.book.specs.Refusals.{first_row, above, rule_rows, book_rows, order_rows, admit_rows}
use Rattle.contract.specs.Check.{check, tables_fault}
use Rattle.contract.specs.Filled.{answer_of, filled}
use Rattle.undecided.specs.Settings.{subsets}
use Rattle.undecided.specs.Undecided.{open_rows, with_setting, tried_all, undecided}
use Rattle.undecided.specs.Demands.{Examples}

pub examples : Examples
unfolding
    undecided tried_all with_setting open_rows subsets answer_of filled
    check complete tables_fault first_row above rule_rows book_rows order_rows admit_rows bytes_of number word_at words_in pair clauses_in flat encode
    minus meets first_vars lowest members_up_to members ones ones_in vars keepers satisfied falsified names undecided_in without unfixed live
    all_inactive monotone first_monotone sweep unit swept falsified_naming enter covers resolvent join merge step search units finish searched run
examples = record { sometimes = refl; stopped = refl; always = refl; never = refl; beside = refl; refused = refl; eleven = refl; above_n = refl; ten = refl; unwanted_too = refl; then_nine = refl; twelve_first = refl }
