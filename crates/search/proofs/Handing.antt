-- What a run hands out, and the tallies that it leaves. The counts of a state are those of its outcome: the clauses after the first m are as many as there are more than m, and stand after
-- them in the table.
use mathlib.Core.Path.{◌≡◌, sym, ap, ◌∙◌}
use mathlib.Core.List.{List, map}
use Prim.Native.Nat.{ℕ, ◌-◌}
use lib.ListN.{length, length-map}
use Rattle.steps.specs.Clause as clause
use Rattle.steps.specs.State.{Ending, redundant}
use Rattle.steps.specs.Tally.{tally_of as tally_at, tallies_at}
use Rattle.steps.specs.Run.{no_decisions, outcome}
use Rattle.answer.specs.Answer.{tally_of, end_of, tally_in, Answer}
use Rattle.answer.specs.declared.Tally.{Tally}
use Rattle.answer.proofs.Ending.{tally_told}
use Rattle.rows.specs.Rows.{from, clause_at, clauses, clauses_from, sequents, state_of}
use Rattle.rows.specs.Tally.{word_of, tally_at as held_at, TalliedAt}
use Rattle.rows.specs.Values.{assignment_of}
use Rattle.rows.specs.declared.state.Counts.{Counts}
use Rattle.rows.proofs.Lists.{from_length}
use Rattle.rows.proofs.Tables.{clauses_length, clauses_after, sequents_length}
use Rattle.rows.proofs.Demands.{demands}
use Rattle.merge.specs.Sides.{side_of, TalliedSide}
use Rattle.merge.specs.declared.Side.{Side}
use Rattle.merge.specs.declared.Side.TheVariants as side
use Rattle.search.specs.Values.{tally_from, Handed, LeftTallied}

-- an answer with the counts of the state tells its outcome
pub handed : (t rs : List ℕ) (m : ℕ) (x : Ending) (s : Counts) (n : Tally) (r : Answer) → n ≡ tally_from s m → r ≡ end_of x n →
    Handed t rs m r (outcome m x (sequents rs s.records) (state_of t rs s))
handed t rs m x s n r counts is =
    let tally : tally_in r ≡ tally_from s m = ap tally_in is ∙ tally_told x n ∙ counts in
    record {
      answer = is ∙ ap (end_of x) (counts ∙ same);
      derived = ap (λ (y : Tally). clauses_from t m y.derived) tally ∙ sym (clauses_after t m s.clauses);
      records = ap (λ (y : Tally). sequents rs y.records) tally;
    }
  where
    same : tally_from s m ≡ tally_of (outcome m x (sequents rs s.records) (state_of t rs s))
    same = λ i.
        record {
          branchings = s.branchings;
          derived = sym (ap length (clauses_after t m s.clauses) ∙ from_length (clause_at t) m (s.clauses - m)) i;
          records = sym (sequents_length rs s.records) i;
        }

-- the tallies at a state are its clauses' tallies, in order
at_state : (t q rs : List ℕ) (a : clause.Assignment) (s : Counts) → TalliedAt t q rs a s →
    from (held_at q) 0 (length (tallies_at a (state_of t rs s))) ≡ map word_of (tallies_at a (state_of t rs s))
unfolding tallies_at
at_state t q rs a s h =
    ap (from (held_at q) 0) (length-map (clauses t s.clauses) (tally_at a (redundant (state_of t rs s))) ∙ clauses_length t s.clauses)
    ∙ demands.in_order t q s.clauses a (redundant (state_of t rs s)) h

-- so those of a side are what a run to it leaves
pub left_tallied : (t q rs : List ℕ) (r : Side) → TalliedSide t q rs (record { decided = 0; trues = 0 }) r → LeftTallied q (side_of t rs r)
left_tallied t q rs (side.Up s) h = at_state t q rs no_decisions s h
left_tallied t q rs (side.Ended x d s) h = at_state t q rs (assignment_of d) s h
