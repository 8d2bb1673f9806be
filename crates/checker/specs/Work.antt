-- The work tables of a check: what its parts ask of them, and what they leave there.
use Rattle.std.specs.Prelude.{◌≡◌, true, false, List, ℕ, ◌+◌, ◌≤◌, length}
use Rattle.steps.specs.Clause.{Clause}
use Rattle.steps.specs.Run.{Assumptions, units, given, run}
use Rattle.steps.specs.Shape.{Input}
use Rattle.answer.specs.Answer.{Answer}
use Rattle.answer.specs.Numbers.{by_number}
use Rattle.answer.specs.declared.Tally.{Tally}
use Rattle.book.specs.Limits.{max_vars, max_clauses, max_derived}
use Rattle.book.specs.Reading.{WellFormed}
use Rattle.book.specs.declared.Book.{Book}
use Rattle.rows.specs.Rows.{clause_words, clauses, sequent_words}
use Rattle.rows.specs.Index.{tally_words}
use Rattle.search.specs.Values.{Handed}
use Rattle.contract.specs.Check.{Lengths, tables_fault, Result, Result.refused, Result.ran}
use Rattle.contract.specs.Filled.{Tables, lengths, answer_of, filled}
use Rattle.checker.specs.declared.decide.Done.{Done}

-- the result for a book that was admitted: 9, or the run
abbrev pub result_of : ℕ → List Clause → Assumptions → ℕ → Lengths → Result
result_of n cs o allowance l = elim (tables_fault l) [ true ↦ refused 9 | false ↦ ran (run n cs o allowance l.pos) ]

-- a book that was admitted with its order, its clauses in a work table with room for the largest run
pub record Workable (b : Book) (o : Assumptions) (t : List ℕ) : Type 0 where
  pub well_formed : WellFormed b.vars (clauses t b.clauses)
  pub input : Input b.vars (clauses t b.clauses) o
  pub order_few : length (units o) ≤ b.vars
  pub room : clause_words (max_clauses + max_vars + max_derived) ≤ length t

-- the answer and the tables of that result
pub record Promised (n : ℕ) (cs : List Clause) (o : Assumptions) (allowance : ℕ) (before : Tables) (r : Answer) (after : Tables) : Type 0 where
  pub answer : r ≡ answer_of (result_of n cs o allowance (lengths before))
  pub tables : after ≡ filled (result_of n cs o allowance (lengths before)) before

-- such a book, with room for so many places, for the tallies of the largest run and for a D-sequent for each variable
pub record Runnable (b : Book) (o : Assumptions) (places : ℕ) (t q rs : List ℕ) : Type 0 where
  pub workable : Workable b o t
  pub places_few : places ≤ max_derived
  pub tally_room : tally_words (max_clauses + max_vars + max_derived) ≤ length q
  pub list_room : sequent_words max_vars ≤ length rs

-- the work tables hold the outcome of the run, the derived clauses after book and order
pub record HasRun (n : ℕ) (cs : List Clause) (o : Assumptions) (allowance places : ℕ) (d : Done) (t rs : List ℕ) : Type 0 where
  pub handed : Handed t rs d.given (by_number d.answer) (run n cs o allowance places)
  pub given_is : d.given ≡ length (given cs o)

-- the counted places are there, in the work tables and in the lent ones
pub record Fitting (t rs : List ℕ) (m : ℕ) (c : Tally) (l : Tables) : Type 0 where
  pub table : clause_words (m + c.derived) ≤ length t
  pub list : sequent_words c.records ≤ length rs
  pub pos : c.derived ≤ length l.pos
  pub neg : c.derived ≤ length l.neg
  pub decided : c.records ≤ length l.decided
  pub trues : c.records ≤ length l.trues
  pub redundant : c.records ≤ length l.redundant
