-- What bytes are that no row refuses, and an order with them. Each row that does not hold gives its fact: the sizes are within the limits, the
-- length is right, each clause is proper, and the completed order is one over the book's variables (`Orders`).
use mathlib.Core.Path.{◌≡◌, refl, sym, ap, subst, ◌∙◌}
use mathlib.Core.Logic.{⊎_elim}
use mathlib.Core.List.Memᴰ
use mathlib.Core.List.{List, [], ◌∷◌}
use mathlib.Core.Option.{some, none}
use Prim.Native.Nat.{ℕ, ◌≤◌}
use native.Mathlib.Omega.{arith}
use borrow.Author.Tests.{eqb-true}
use lib.Dec.{ltb}
use lib.ListN.{length}
use Rattle.steps.specs.Clause.{Clause, vars}
use Rattle.steps.specs.Run.{units}
use Rattle.steps.specs.Shape.{Proper, AllProper, Input}
use Rattle.order.specs.Order.{Order, complete}
use Rattle.rows.specs.Rows.{clause_words, clauses}
use Rattle.rows.proofs.Tables.{clauses_length}
use Rattle.book.specs.Limits.{max_vars, max_clauses}
use Rattle.book.specs.Bytes.{book_bytes, vars_in, count_in, rules_in}
use Rattle.book.specs.Refusals.{row, first_row, rule_rows, book_rows, order_rows, admit_rows}
use Rattle.book.specs.Reading.{Reading.book, Reading.refused, read, admit, read_order, read_table, WellFormed}
use Rattle.book.specs.Values.{Held}
use Rattle.book.specs.declared.Book.{Book}
use Rattle.book.proofs.Refusals.{first_none, none_here, none_later, first_among, first_after, none_among}
use Rattle.book.proofs.Tests.{five, six, none_sizes, none_rest, rule_passed}
use Rattle.book.proofs.Bytes.{length_clauses_in}
use Rattle.book.proofs.Readings.{judged_book, judged_refused, refused_by, book_by, whole, sizes, read_rules_lem, exact, table_rows}
use Rattle.book.proofs.Orders.{within_above, above_within, Consistent, passed_consistent, order_input, order_few, same_passes}

-- ---- the clauses

module _ (n : ℕ) (c : Clause) (cs : List Clause) where
  -- where no row holds, the clause is proper, and no row of those after it holds
  none_proper : first_row (rule_rows n (c ∷ cs)) ≡ none → Proper n c × (first_row (rule_rows n cs) ≡ none)
  unfolding rule_rows vars
  none_proper e =
      let e₆ = none_later (five n c) (six c ∷ rule_rows n cs) e in (
        record { named = within_above n c.pos c.neg (none_here (five n c) (six c ∷ rule_rows n cs) e); consistent = none_here (six c) (rule_rows n cs) e₆ },
        none_later (six c) (rule_rows n cs) e₆,
      )

-- clauses of which no row holds are proper
pub rules_proper : (n : ℕ) (cs : List Clause) → first_row (rule_rows n cs) ≡ none → AllProper n cs
rules_proper n [] e c m = absurd (Memᴰ.not-nil m)
rules_proper n (d ∷ cs) e c m =
    let p = none_proper n d cs e in
    ⊎_elim (λ same. rw same p.0) (λ later. rules_proper n cs p.1 c later) (Memᴰ.cases_cons m)

-- and no row of proper clauses holds
proper_rules : (n : ℕ) (cs : List Clause) → AllProper n cs → first_row (rule_rows n cs) ≡ none
unfolding rule_rows vars
proper_rules n [] all = first_none
proper_rules n (c ∷ cs) all =
    let p = all c (Memᴰ.head refl) in
    rule_passed n c cs (above_within n c.pos c.neg p.named) p.consistent ∙ proper_rules n cs (λ d m. all d (Memᴰ.tail m))

-- ---- the bytes

-- what bytes are that no row refuses
pub record Passed (bytes : List ℕ) : Type 0 where
  pub vars_few : vars_in bytes ≤ max_vars
  pub clauses_few : count_in bytes ≤ max_clauses
  pub length_is : length bytes ≡ book_bytes (count_in bytes)
  pub proper : AllProper (vars_in bytes) (rules_in bytes)

bytes_passed : (bytes : List ℕ) → first_row (book_rows bytes) ≡ none → Passed bytes
unfolding book_rows
bytes_passed bytes e =
    let rules = rule_rows (vars_in bytes) (rules_in bytes) in
    let e₂ = none_later (row 1 (ltb (length bytes) 3)) (sizes bytes) e in
    let s = none_sizes (vars_in bytes) (count_in bytes) (whole bytes) rules e₂ in
    record {
      vars_few = s.vars_few;
      clauses_few = s.clauses_few;
      length_is = eqb-true _ _ s.is_whole;
      proper = rules_proper (vars_in bytes) (rules_in bytes) (none_rest (vars_in bytes) (count_in bytes) (whole bytes) rules e₂);
    }

-- and such bytes are read as the book in them
pub passed_read : (bytes : List ℕ) → Passed bytes → read bytes ≡ book (vars_in bytes) (rules_in bytes)
passed_read bytes p =
    let long : 3 ≤ length bytes = omega (arith, p.length_is) in
    sym
    (book_by (first_row (rule_rows (vars_in bytes) (rules_in bytes))) (vars_in bytes) (rules_in bytes) (proper_rules (vars_in bytes) (rules_in bytes) p.proper)
    ∙ read_rules_lem bytes long p.vars_few p.clauses_few p.length_is)

-- the book in them is well formed
passed_formed : (bytes : List ℕ) → Passed bytes → WellFormed (vars_in bytes) (rules_in bytes)
passed_formed bytes p =
    record { vars_few = p.vars_few; clauses_few = omega (arith, length_clauses_in (count_in bytes) bytes, p.clauses_few); proper = p.proper }

-- ---- the bytes and the order

-- bytes that are refused are refused with every order
pub admit_refused : (bytes : List ℕ) (o : Order) (k : ℕ) → refused k ≡ read bytes → refused k ≡ admit bytes o
unfolding read admit admit_rows
admit_refused bytes o k e =
    refused_by (first_row (admit_rows bytes o)) (vars_in bytes) k (rules_in bytes)
    (first_among (book_rows bytes) (order_rows (vars_in bytes) o) k (judged_refused (first_row (book_rows bytes)) (vars_in bytes) k (rules_in bytes) (sym e)))

-- and with a book the order decides
pub admit_book : (bytes : List ℕ) (o : Order) (n : ℕ) (cs : List Clause) → book n cs ≡ read bytes
    → read_order n cs o ≡ admit bytes o
unfolding read admit admit_rows
admit_book bytes o n cs e =
    let j = judged_book (first_row (book_rows bytes)) (vars_in bytes) n (rules_in bytes) cs (sym e) in
    let rows : first_row (admit_rows bytes o) ≡ first_row (order_rows n o) =
    first_after (book_rows bytes) (order_rows (vars_in bytes) o) j.0 ∙ ap (λ k. first_row (order_rows k o)) j.1
    in
    sym (rw (rows, j.1, j.2))

-- ---- what an answer means to a caller

-- a fact of the sizes and clauses that were read, said of those that were answered
said : (P : ℕ → List Clause → Type 0) (n n' : ℕ) (cs cs' : List Clause) → n ≡ n' → cs ≡ cs' → P n cs → P n' cs'
said P n n' cs cs' e f x = subst (λ k. P k cs') e (subst (P n) f x)

-- a book that was read from bytes
pub record FromBytes (bytes : List ℕ) (n : ℕ) (cs : List Clause) : Type 0 where
  pub vars_are : vars_in bytes ≡ n
  pub clauses_are : rules_in bytes ≡ cs
  pub length_is : length bytes ≡ book_bytes (count_in bytes)
  pub well_formed : WellFormed n cs

pub bytes_book : (bytes : List ℕ) (n : ℕ) (cs : List Clause) → book n cs ≡ read bytes → FromBytes bytes n cs
unfolding read
bytes_book bytes n cs e =
    let j = judged_book (first_row (book_rows bytes)) (vars_in bytes) n (rules_in bytes) cs (sym e) in
    let p = bytes_passed bytes j.0 in
    said (FromBytes bytes) (vars_in bytes) n (rules_in bytes) cs j.1 j.2
    (record { vars_are = refl; clauses_are = refl; length_is = p.length_is; well_formed = passed_formed bytes p })

-- a book that was read from a table has the sizes that were given and the table's clauses
pub record FromTable (n m : ℕ) (t : List ℕ) (n' : ℕ) (cs : List Clause) : Type 0 where
  pub vars_are : n ≡ n'
  pub clauses_are : clauses t m ≡ cs
  pub length_is : length t ≡ clause_words m
  pub well_formed : WellFormed n' cs

pub table_book : (n m : ℕ) (t : List ℕ) (n' : ℕ) (cs : List Clause) → book n' cs ≡ read_table n m t → FromTable n m t n' cs
unfolding read_table
table_book n m t n' cs e =
    let j = judged_book (first_row (table_rows n m t)) n n' (clauses t m) cs (sym e) in
    let rules = rule_rows n (clauses t m) in
    let s = none_sizes n m (exact n m t) rules j.0 in
    said (FromTable n m t) n n' (clauses t m) cs j.1 j.2
    (record {
      vars_are = refl;
      clauses_are = refl;
      length_is = eqb-true _ _ s.is_whole;
      well_formed = record {
        vars_few = s.vars_few;
        clauses_few = omega (arith, clauses_length t m, s.clauses_few);
        proper = rules_proper n (clauses t m) (none_rest n m (exact n m t) rules j.0);
      };
    })

-- a book and an order that were admitted: with the order completed, in which no option is wanted and unwanted, an input of the steps, with at most as many order clauses as
-- variables
pub record Admitted (bytes : List ℕ) (o : Order) (n : ℕ) (cs : List Clause) : Type 0 where
  pub vars_are : vars_in bytes ≡ n
  pub clauses_are : rules_in bytes ≡ cs
  pub no_row : first_row (admit_rows bytes o) ≡ none
  pub well_formed : WellFormed n cs
  pub consistent : Consistent n (complete o)
  pub input : Input n cs (complete o)
  pub few : length (units (complete o)) ≤ n

-- where no row holds, the book in the bytes is admitted
pub none_admitted : (bytes : List ℕ) (o : Order) → first_row (admit_rows bytes o) ≡ none → Admitted bytes o (vars_in bytes) (rules_in bytes)
unfolding admit_rows
none_admitted bytes o e =
    let book-rows = none_among (book_rows bytes) (order_rows (vars_in bytes) o) e in
    let order-rows = sym (first_after (book_rows bytes) (order_rows (vars_in bytes) o) book-rows) ∙ e in
    let p = bytes_passed bytes book-rows in
    record {
      vars_are = refl;
      clauses_are = refl;
      no_row = e;
      well_formed = passed_formed bytes p;
      consistent = passed_consistent (vars_in bytes) o order-rows;
      input = order_input (vars_in bytes) o order-rows (rules_in bytes) p.proper;
      few = order_few (vars_in bytes) o order-rows;
    }

-- `admit` answers with a book
pub admitted_book : (bytes : List ℕ) (o : Order) (n : ℕ) (cs : List Clause) → book n cs ≡ admit bytes o → Admitted bytes o n cs
unfolding admit
admitted_book bytes o n cs e =
    let j = judged_book (first_row (admit_rows bytes o)) (vars_in bytes) n (rules_in bytes) cs (sym e) in
    said (Admitted bytes o) (vars_in bytes) n (rules_in bytes) cs j.1 j.2 (none_admitted bytes o j.0)

-- and the book stands in a table that has room for the largest
pub held : (bytes : List ℕ) (o : Order) (b : Book) (t : List ℕ) → clause_words max_clauses ≤ length t → book b.vars (clauses t b.clauses) ≡ admit bytes o → Held b t
held bytes o b t room e =
    let formed = (admitted_book bytes o b.vars (clauses t b.clauses) e).well_formed in
    let few : b.clauses ≤ max_clauses = omega (arith, formed.clauses_few, clauses_length t b.clauses) in
    record { vars = formed.vars_few; few = few; room = omega (arith, room, few) }

-- `admit` answers with a refusal
pub admitted_row : (bytes : List ℕ) (o : Order) (k : ℕ) → refused k ≡ admit bytes o → first_row (admit_rows bytes o) ≡ some k
unfolding admit
admitted_row bytes o k e = judged_refused (first_row (admit_rows bytes o)) (vars_in bytes) k (rules_in bytes) (sym e)

-- whether no row holds goes by the completed order
pub same_admitted : (bytes : List ℕ) (o o' : Order) → complete o ≡ complete o' → first_row (admit_rows bytes o) ≡ none → first_row (admit_rows bytes o') ≡ none
unfolding admit_rows
same_admitted bytes o o' same e =
    let book-rows = none_among (book_rows bytes) (order_rows (vars_in bytes) o) e in
    let order-rows = sym (first_after (book_rows bytes) (order_rows (vars_in bytes) o) book-rows) ∙ e in
    first_after (book_rows bytes) (order_rows (vars_in bytes) o') book-rows ∙ same_passes (vars_in bytes) o o' same order-rows
