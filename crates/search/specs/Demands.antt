-- What is demanded of the tallies that a run leaves, as a named type that is proved in `proofs/`. `LeftTallied q x` is the contract of `run`: x is what the search from
-- the starting point comes to, and q the table of tallies at the end. `tallies_left` has the decisions and the list of the place where the run went up or ended; the page
-- of the steps has it computed for each of the four endings (`TalliesLeft`).
use Rattle.std.specs.Prelude.{◌≡◌, List, ◌∷◌, ◌++◌, ℕ, length}
use Rattle.steps.specs.Clause.{Clause, Assignment}
use Rattle.steps.specs.State.{State, Ending, Side.up, Side.ended, redundant}
use Rattle.steps.specs.Tally.{tally_of}
use Rattle.steps.specs.Run.{no_decisions}
use Rattle.rows.specs.Tally.{word_of, tally_at}
use Rattle.search.specs.Values.{LeftTallied}

-- every rule c of the table at the end, derived ones among them: what is held at its number is its tallies, at a verdict and at a stop those of the decisions d and of
-- the list there, be it "cannot", whose list is replaced afterwards; and where the run went back up from the starting point, those of no decisions
pub record RuleByRule : Type 0 where
  pub ended :
      (q : List ℕ) (x : Ending) (d : Assignment) (s : State) → LeftTallied q (ended x d s) → (before after : List Clause) (c : Clause) →
      s.table ≡ before ++ (c ∷ after) → tally_at q (length before) ≡ word_of (tally_of d (redundant s) c)
  pub up :
      (q : List ℕ) (s : State) → LeftTallied q (up s) → (before after : List Clause) (c : Clause) →
      s.table ≡ before ++ (c ∷ after) → tally_at q (length before) ≡ word_of (tally_of no_decisions (redundant s) c)

pub record Demands : Type 0 where
  pub rule_by_rule : RuleByRule
