-- The rows, test by test: each test that is passed leads to the next row.
use mathlib.Core.Path.{◌≡◌, sym, ap, ◌∙◌}
use mathlib.Core.Bool.{Bool, true, false, not}
use mathlib.Core.List.{List, [], ◌∷◌, ◌++◌}
use mathlib.Core.Option.{some, none}
use Prim.Native.Nat.{ℕ, ◌≤◌, ◌<◌}
use borrow.Author.Tests.{ltb-false, lt-ltb, le-ltb, not-false}
use lib.Dec.{ltb}
use Rattle.words.specs.Words.{meets}
use Rattle.steps.specs.Clause.{Clause}
use Rattle.order.specs.Order.{Order}
use Rattle.book.specs.Limits.{max_vars, max_clauses}
use Rattle.book.specs.Refusals.{Row, row, first_row, above, size_rows, rule_rows, order_rows}
use Rattle.book.proofs.Refusals.{first_none, first_here, first_later, none_here, none_later}

-- ---- 2 to 4, which bytes and tables share

-- sizes within the limits, and as many bytes or words as they take
pub record Sized (n m : ℕ) (whole : Bool) : Type 0 where
  pub vars_few : n ≤ max_vars
  pub clauses_few : m ≤ max_clauses
  pub is_whole : whole ≡ true

module _ (n m : ℕ) (whole : Bool) (rest : List Row) where
  -- the rows from 4 on, and from 3 on
  abbrev four : List Row
  four = row 4 (not whole) ∷ rest

  abbrev three : List Row
  three = row 3 (ltb max_clauses m) ∷ four

  -- 2
  pub sizes_vars : max_vars < n → first_row (size_rows n m whole ++ rest) ≡ some 2
  sizes_vars h = first_here (row 2 (ltb max_vars n)) three (lt-ltb _ _ h)

  -- 3
  pub sizes_clauses : n ≤ max_vars → max_clauses < m → first_row (size_rows n m whole ++ rest) ≡ some 3
  sizes_clauses h k = first_later (row 2 (ltb max_vars n)) three (le-ltb _ _ h) ∙ first_here (row 3 (ltb max_clauses m)) four (lt-ltb _ _ k)

  -- 4
  pub sizes_length : n ≤ max_vars → m ≤ max_clauses → whole ≡ false → first_row (size_rows n m whole ++ rest) ≡ some 4
  sizes_length h k e =
      first_later (row 2 (ltb max_vars n)) three (le-ltb _ _ h) ∙ first_later (row 3 (ltb max_clauses m)) four (le-ltb _ _ k)
      ∙ first_here (row 4 (not whole)) rest (ap not e)

  -- past 4
  pub sizes_passed : Sized n m whole → first_row (size_rows n m whole ++ rest) ≡ first_row rest
  sizes_passed s =
      first_later (row 2 (ltb max_vars n)) three (le-ltb _ _ s.vars_few)
      ∙ first_later (row 3 (ltb max_clauses m)) four (le-ltb _ _ s.clauses_few) ∙ first_later (row 4 (not whole)) rest (ap not s.is_whole)

  -- where no row holds, all were passed
  pub none_sizes : first_row (size_rows n m whole ++ rest) ≡ none → Sized n m whole
  none_sizes e =
      let e₃ = none_later (row 2 (ltb max_vars n)) three e in
      let e₄ = none_later (row 3 (ltb max_clauses m)) four e₃ in
      record {
        vars_few = ltb-false _ _ (none_here (row 2 (ltb max_vars n)) three e);
        clauses_few = ltb-false _ _ (none_here (row 3 (ltb max_clauses m)) four e₃);
        is_whole = not-false _ (none_here (row 4 (not whole)) rest e₄);
      }

  pub none_rest : first_row (size_rows n m whole ++ rest) ≡ none → first_row rest ≡ none
  none_rest e = sym (sizes_passed (none_sizes e)) ∙ e

-- ---- 5 and 6

-- the rows of a clause
abbrev pub five : ℕ → Clause → Row
five n c = row 5 (above n c.pos c.neg)

abbrev pub six : Clause → Row
six c = row 6 (meets c.pos c.neg)

module _ (n : ℕ) (c : Clause) (cs : List Clause) where
  -- a clause that names no variable above n, and none with both signs, is passed over
  pub rule_passed : above n c.pos c.neg ≡ false → meets c.pos c.neg ≡ false → first_row (rule_rows n (c ∷ cs)) ≡ first_row (rule_rows n cs)
  unfolding rule_rows
  rule_passed h k = first_later (five n c) (six c ∷ rule_rows n cs) h ∙ first_later (six c) (rule_rows n cs) k

  -- 5
  pub rule_above : above n c.pos c.neg ≡ true → first_row (rule_rows n (c ∷ cs)) ≡ some 5
  unfolding rule_rows
  rule_above h = first_here (five n c) (six c ∷ rule_rows n cs) h

  -- 6
  pub rule_both : above n c.pos c.neg ≡ false → meets c.pos c.neg ≡ true → first_row (rule_rows n (c ∷ cs)) ≡ some 6
  unfolding rule_rows
  rule_both h k = first_later (five n c) (six c ∷ rule_rows n cs) h ∙ first_here (six c) (rule_rows n cs) k

-- ---- 7, 8 and 12

-- an order whose options are among the first n, and none both wanted and unwanted
pub record Ordered (n : ℕ) (o : Order) : Type 0 where
  pub below : above n o.wanted o.unwanted ≡ false
  pub apart : meets o.wanted o.unwanted ≡ false
  pub standard : above n o.standard 0 ≡ false

module _ (n : ℕ) (o : Order) where
  -- the rows of an order
  abbrev seven : Row
  seven = row 7 (above n o.wanted o.unwanted)

  abbrev eight : Row
  eight = row 8 (meets o.wanted o.unwanted)

  abbrev twelve : Row
  twelve = row 12 (above n o.standard 0)

  -- 7
  pub order_above : above n o.wanted o.unwanted ≡ true → first_row (order_rows n o) ≡ some 7
  unfolding order_rows
  order_above h = first_here seven (eight ∷ twelve ∷ []) h

  -- 8
  pub order_both : above n o.wanted o.unwanted ≡ false → meets o.wanted o.unwanted ≡ true → first_row (order_rows n o) ≡ some 8
  unfolding order_rows
  order_both h k = first_later seven (eight ∷ twelve ∷ []) h ∙ first_here eight (twelve ∷ []) k

  -- 12
  pub order_standard : above n o.wanted o.unwanted ≡ false → meets o.wanted o.unwanted ≡ false → above n o.standard 0 ≡ true →
      first_row (order_rows n o) ≡ some 12
  unfolding order_rows
  order_standard h k l = first_later seven (eight ∷ twelve ∷ []) h ∙ first_later eight (twelve ∷ []) k ∙ first_here twelve [] l

  -- none of them
  pub order_passed : Ordered n o → first_row (order_rows n o) ≡ none
  unfolding order_rows
  order_passed p =
      first_later seven (eight ∷ twelve ∷ []) p.below ∙ first_later eight (twelve ∷ []) p.apart ∙ first_later twelve [] p.standard ∙ first_none

  pub none_ordered : first_row (order_rows n o) ≡ none → Ordered n o
  unfolding order_rows
  none_ordered e =
      let e₈ = none_later seven (eight ∷ twelve ∷ []) e in
      record {
        below = none_here seven (eight ∷ twelve ∷ []) e;
        apart = none_here eight (twelve ∷ []) e₈;
        standard = none_here twelve [] (none_later eight (twelve ∷ []) e₈);
      }
