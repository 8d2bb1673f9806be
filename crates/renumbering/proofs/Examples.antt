-- The cases that are written out, by computation.
use mathlib.Core.Path.{refl}
use Prim.Native.Nat.{◌+◌, ◌-◌, ◌%◌}
use native.Mathlib.Omega.{arith}
use lib.Count.{ones, ones_in}
use Rattle.words.specs.Words.{has, minus, meets, first_vars, lowest, members_up_to, members}
use Rattle.steps.specs.Clause.{vars, keepers, satisfied, falsified, names, undecided_in, without}
use Rattle.steps.specs.State.{undecided, live}
use Rattle.steps.specs.Sweep.{all_inactive, monotone, first_monotone, sweep}
use Rattle.steps.specs.Enter.{unit, swept, falsified_naming, enter}
use Rattle.steps.specs.Merge.{covers, resolvent, join, merge}
use Rattle.steps.specs.Search.{step, search}
use Rattle.steps.specs.Run.{units, finish, searched, run}
use Rattle.order.specs.Order.{complete}
use Rattle.book.specs.Bytes.{bytes_of, number, word_at, words_in, pair, clauses_in, flat, encode}
use Rattle.book.specs.Refusals.{first_row, above, rule_rows, book_rows, order_rows, admit_rows}
use Rattle.contract.specs.Check.{check, tables_fault}
use Rattle.renaming.specs.Renaming.{image}
use Rattle.renumbering.specs.Renumbering.{Permutes, exchanged, carried, renumbered_rule, renumbered_order}
use Rattle.renumbering.specs.Demands.{Examples}
use Rattle.renumbering.proofs.Identity.{leaves}

-- two numbers exchanged, and three in a circle
exchange : Permutes (λ k. 1 - k) 2
exchange = record { into = λ k h. omega arith; apart = λ j k g h e. omega (arith, e) }

circle : Permutes (λ k. (k + 1) % 3) 3
circle = record { into = λ k h. omega arith; apart = λ j k g h e. omega (arith, e) }

pub examples : Examples
unfolding
    check complete tables_fault first_row above rule_rows book_rows order_rows admit_rows bytes_of number word_at words_in pair clauses_in flat encode
    has minus meets first_vars lowest members_up_to members ones ones_in vars keepers satisfied falsified names undecided_in without undecided live
    all_inactive monotone first_monotone sweep unit swept falsified_naming enter covers resolvent join merge step search units finish searched run
    image exchanged carried renumbered_rule renumbered_order
examples =
    record {
      permuted = record { becomes = record { permutes = exchange; options = refl; rules = refl; order = refl }; before = refl; after = refl };
      stopped = record { becomes = record { permutes = exchange; options = refl; rules = refl; order = refl }; before = refl; after = refl };
      reversed = record { becomes = record { permutes = (leaves 2).permutes; options = refl; rules = refl; order = refl }; before = refl; after = refl };
      both = record { becomes = record { permutes = circle; options = refl; rules = refl; order = refl }; before = refl; after = refl };
      standard = record { becomes = record { permutes = (leaves 2).permutes; options = refl; rules = refl; order = refl }; before = refl; after = refl };
    }
