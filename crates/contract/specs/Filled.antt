-- The answer to a check, and what the lent tables hold afterwards.
use Rattle.std.specs.Prelude.{◌≡◌, List, ◌++◌, map, ℕ, length, drop}
use Rattle.steps.specs.Clause.{Clause, DSequent}
use Rattle.order.specs.Order.{Order}
use Rattle.answer.specs.Answer.{of_outcome, Answer, Answer.Refused}
use Rattle.contract.specs.Check.{Lengths, Result, Result.refused, Result.ran, check}

-- the answer that tells a result
unfoldable pub answer_of : Result → Answer
answer_of (refused k) = Refused k
answer_of (ran r) = of_outcome r

-- the five lent tables
pub record Tables : Type 0 where
  pub pos : List ℕ
  pub neg : List ℕ
  pub decided : List ℕ
  pub trues : List ℕ
  pub redundant : List ℕ

-- five slices as tables
abbrev pub lent : List ℕ → List ℕ → List ℕ → List ℕ → List ℕ → Tables
lent pos neg decided trues redundant = record { pos = pos; neg = neg; decided = decided; trues = trues; redundant = redundant }

abbrev pub lengths : Tables → Lengths
lengths t =
    record {
      pos = length t.pos;
      neg = length t.neg;
      decided = length t.decided;
      trues = length t.trues;
      redundant = length t.redundant;
    }

-- the words at the first places of a table, and every later place as it was
abbrev pub written : List ℕ → List ℕ → List ℕ
written ws t = ws ++ drop (length ws) t

-- the tables with derived clauses and D-sequents in their first places
abbrev pub filled_with : List Clause → List DSequent → Tables → Tables
filled_with cs ds t =
    record {
      pos = written (map (λ (c : Clause). c.pos) cs) t.pos;
      neg = written (map (λ (c : Clause). c.neg) cs) t.neg;
      decided = written (map (λ (d : DSequent). d.decisions.decided) ds) t.decided;
      trues = written (map (λ (d : DSequent). d.decisions.trues) ds) t.trues;
      redundant = written (map (λ (d : DSequent). d.redundant) ds) t.redundant;
    }

-- the tables afterwards: the derived rules and the records in their first places; all as they were on a refusal
unfoldable pub filled : Result → Tables → Tables
filled (refused k) t = t
filled (ran r) t = filled_with r.derived r.records t

-- what the entry point promises: its answer and all five tables are those of the definition
pub record Checked (bytes : List ℕ) (o : Order) (allowance : ℕ) (before : Tables) (r : Answer) (after : Tables) : Type 0 where
  pub answer : r ≡ answer_of (check bytes o allowance (lengths before))
  pub tables : after ≡ filled (check bytes o allowance (lengths before)) before
