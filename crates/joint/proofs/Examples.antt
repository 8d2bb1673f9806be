-- The examples, by computation.
use mathlib.Core.Path.{refl}
use lib.Count.{ones}
use Rattle.words.specs.Words.{has, minus, meets, first_vars}
use Rattle.book.specs.Bytes.{number, bytes_of, words_in, pair, clauses_in, flat, encode}
use Rattle.book.specs.Refusals.{first_row, above, rule_rows, book_rows}
use Rattle.book.specs.Written.{placed}
use Rattle.renaming.specs.Renaming.{image, renamed}
use Rattle.joint.specs.Pairs.{option, options_of, side_fault, partner_or, unpaired_below, place}
use Rattle.joint.specs.Join.{joint_rules, joint_bytes, pairs_fault, too_large, left_by, join}
use Rattle.joint.specs.Demands.{Examples}

pub examples : Examples
unfolding has minus meets first_vars ones number bytes_of words_in pair clauses_in flat encode first_row above rule_rows book_rows placed image renamed option options_of side_fault partner_or unpaired_below place joint_rules joint_bytes pairs_fault too_large left_by join
examples =
    record {
      two_pairs = refl;
      no_pairs = refl;
      all_paired = refl;
      one_byte_short = refl;
      left_over = refl;
      zero_first = refl;
      zero_second = refl;
      above_first = refl;
      above_second = refl;
      first_twice = refl;
      second_twice = refl;
      sixty_four = refl;
      sixty_five = refl;
      pairs_first = refl;
      books_first = refl;
      first_first = refl;
    }
