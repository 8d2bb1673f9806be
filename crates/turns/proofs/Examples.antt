-- The cases that are written out, by computation.
use mathlib.Core.Path.{refl}
use lib.Count.{ones, ones_in}
use Rattle.words.specs.Words.{minus, meets, first_vars, lowest, members_up_to, members}
use Rattle.steps.specs.Meaning.{satisfies, obeys}
use Rattle.order.specs.Order.{complete, free}
use Rattle.book.specs.Bytes.{bytes_of, number, word_at, words_in, pair, clauses_in, flat, encode}
use Rattle.book.specs.Refusals.{first_row, above, rule_rows, book_rows, order_rows, admit_rows}
use Rattle.turns.specs.Turns.{free_rows, wins, forces, response, responses, played, turns}
use Rattle.turns.specs.Demands.{Examples}

pub examples : Examples
unfolding
    turns played responses response forces wins free_rows complete free first_row above rule_rows book_rows order_rows admit_rows bytes_of number word_at words_in pair clauses_in
    flat encode satisfies obeys minus meets first_vars lowest members_up_to members ones ones_in
examples =
    record {
      the_same = refl;
      the_buyers = refl;
      the_planners = refl;
      not_the_buyers = refl;
      one_of_both = refl;
      of_both = refl;
      either = refl;
      wanted = refl;
      standard = refl;
      left_out = refl;
      three = refl;
      three_open = refl;
      one = refl;
      one_open = refl;
      kept = refl;
      broken = refl;
      twelve = refl;
      thirteen = refl;
      twelve_first = refl;
    }
