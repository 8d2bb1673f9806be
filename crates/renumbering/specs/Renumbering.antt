-- Options under other numbers and with reversed names: what a rule, a completed order and a choice become. Each is two sets of options, those that it has as fitted and those
-- that it has as left out. A reversed option changes from the one to the other, under its old number, and then each option gets its new number (crate `renaming`). Nothing here
-- depends on how many digits a word has.
use Rattle.std.specs.Prelude.{List, map, ℕ}
use Rattle.std.specs.Int.Bits.{bit_and, bit_or}
use Rattle.words.specs.Words.{minus, first_vars}
use Rattle.steps.specs.Clause.{Clause}
use Rattle.steps.specs.Run.{Assumptions}
use Rattle.order.specs.Order.{Order, complete}
use Rattle.order.specs.Demands.{order}
use Rattle.book.specs.Bytes.{vars_in, rules_in, encode}
use Rattle.renaming.specs.Renaming.{image, Apart, Into}

-- the new number of each option, and the options that are reversed, which are named by their old numbers
pub record Renumbering : Type 0 where
  pub number : ℕ → ℕ
  pub reversed : ℕ

-- f is a permutation of the first n: their new numbers are among the first n, and no two have the same
pub record Permutes (f : ℕ → ℕ) (n : ℕ) : Type 0 where
  pub into : Into f n n
  pub apart : Apart f n

-- what p has, but what q has of the options r
unfoldable pub exchanged : ℕ → ℕ → ℕ → ℕ
exchanged r p q = bit_or (minus p r) (bit_and q r)

-- of two sets p and q, the one of fitted and the other of left-out options or the other way round, the first as it becomes: with what q has of the reversed options, and then
-- under the new numbers
unfoldable pub carried : Renumbering → ℕ → ℕ → ℕ → ℕ
carried m n p q = image m.number n (exchanged m.reversed p q)

-- a rule of n options: where a reversed option kept it when fitted, it keeps it when left out
unfoldable pub renumbered_rule : Renumbering → ℕ → Clause → Clause
renumbered_rule m n c = record { pos = carried m n c.pos c.neg; neg = carried m n c.neg c.pos }

-- a completed order: a reversed wanted option is unwanted
unfoldable pub renumbered_order : Renumbering → ℕ → Assumptions → Assumptions
renumbered_order m n o = record { pos = carried m n o.pos o.neg; neg = carried m n o.neg o.pos }

-- a choice: a reversed fitted option is left out
unfoldable pub renumbered_choice : Renumbering → ℕ → ℕ → ℕ
renumbered_choice m n x = carried m n x (minus (first_vars n) x)

-- the rules of a book, each in its place
abbrev pub renumbered_rules : Renumbering → ℕ → List Clause → List Clause
renumbered_rules m n rules = map (renumbered_rule m n) rules

-- the bytes of the renumbered book
unfoldable pub renumbered_book : Renumbering → List ℕ → List ℕ
renumbered_book m bytes = encode (vars_in bytes) (renumbered_rules m (vars_in bytes) (rules_in bytes))

-- an order of a book of n options, completed and renumbered: two words, and no standard options
unfoldable pub renumbered_words : Renumbering → ℕ → Order → Order
renumbered_words m n o = order (renumbered_order m n (complete o)).pos (renumbered_order m n (complete o)).neg 0

-- nothing is renumbered, and nothing reversed
abbrev pub identity : Renumbering
identity = record { number = λ k. k; reversed = 0 }
