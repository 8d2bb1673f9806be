-- Each demand, with its proof. Demand 2 is soundness: an invariant of every point of a run. Demand 3's allowances all follow from lockstep, its bound
-- from counting a point's branchings by its undecided options, and its nesting from the one option that a branching decides.
use Rattle.steps.specs.Demands.{Demands}
use Rattle.steps.proofs.Soundness.{demand2}
use Rattle.steps.proofs.Examples.{joint, input, test_fails}
use Rattle.steps.proofs.Marked.{marked_cases, further_cases, covered_cases}
use Rattle.steps.proofs.Allowances.{demand3, stops_spent, derived_begin}
use Rattle.steps.proofs.Bound.{always_enough}
use Rattle.steps.proofs.Nesting.{one_deeper, never_passes}
use Rattle.steps.proofs.Sweeping.{sweep_tests, sweep_ends}
use Rattle.steps.proofs.NotesTaken.{notes_taken}
use Rattle.steps.proofs.Notes.{noted_exactly, same_choice, same_sweep}
use Rattle.steps.proofs.TalliesLeft.{tallies_left_lem}
use Rattle.steps.proofs.Tally.{by_tally, tallying}
use Rattle.steps.proofs.Parents.{never_deeper, parents_exist}
use Rattle.steps.proofs.Covers.{covering}
use Rattle.steps.proofs.Resolving.{resolving}
use Rattle.steps.proofs.NeverCovered.{never_covered}
use Rattle.steps.proofs.FullClauses.{all_rules_lem}
use Rattle.steps.proofs.Worst.{worst_book}

pub demands : Demands
demands =
    record {
      right = demand2;
      joint = joint;
      input = input;
      buys = demand3;
      stops_spent = stops_spent;
      derived_begin = derived_begin;
      always_enough = always_enough;
      one_deeper = one_deeper;
      never_passes = never_passes;
      never_deeper = never_deeper;
      sweep_tests = sweep_tests;
      sweep_ends = sweep_ends;
      noted = noted_exactly;
      same_choice = same_choice;
      same_sweep = same_sweep;
      notes_taken = notes_taken;
      parents_exist = parents_exist;
      test_fails = test_fails;
      covering = covering;
      resolving = resolving;
      never_covered = never_covered;
      by_tally = by_tally;
      tallying = tallying;
      tallies_left = tallies_left_lem;
      all_rules = all_rules_lem;
      worst_book = worst_book;
      marked_cases = marked_cases;
      further_cases = further_cases;
      covered_cases = covered_cases;
    }
