-- What a run hands out, and what a turn that does not branch comes to.
use Rattle.std.specs.Prelude.{◌≡◌, List, map, ℕ, ◌-◌, length}
use Rattle.steps.specs.Clause.{Assignment}
use Rattle.steps.specs.State as state
use Rattle.steps.specs.State.{Side.up, Side.ended}
use Rattle.steps.specs.Enter as step
use Rattle.steps.specs.Enter.{Turn.back, Turn.satisfiable, Turn.branch}
use Rattle.steps.specs.Tally.{tallies_left}
use Rattle.steps.specs.Run.{Outcome, no_decisions}
use Rattle.answer.specs.Answer.{tally_in, of_outcome, Answer}
use Rattle.answer.specs.declared.Tally.{Tally}
use Rattle.rows.specs.Rows.{from, clauses_from, sequents}
use Rattle.rows.specs.Tally.{word_of, tally_at}
use Rattle.rows.specs.declared.state.Counts.{Counts}

-- the counts, where the first m clauses are book and order
abbrev pub tally_from : Counts → ℕ → Tally
tally_from s m = record { branchings = s.branchings; derived = s.clauses - m; records = s.records }

-- an answer that tells the outcome x, whose derived clauses stand after the first m of the one table, and whose D-sequents begin the other
pub record Handed (t rs : List ℕ) (m : ℕ) (r : Answer) (x : Outcome) : Type 0 where
  pub answer : r ≡ of_outcome x
  pub derived : clauses_from t m (tally_in r).derived ≡ x.derived
  pub records : sequents rs (tally_in r).records ≡ x.records

-- what a turn that does not branch comes to
abbrev pub halted : Assignment → step.Turn → state.Side
halted a (back s) = up s
halted a (satisfiable s) = ended state.Ending.can a s
halted a (branch v b s) = up s

-- the tallies that a run from no decisions leaves in q are those of the rules, in order, where it went up or ended
abbrev pub LeftTallied : List ℕ → state.Side → Type 0
LeftTallied q side = from (tally_at q) 0 (length (tallies_left no_decisions side)) ≡ map word_of (tallies_left no_decisions side)
