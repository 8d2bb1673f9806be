-- An outcome as an answer, with the words and numbers of docs/FORMAT.md, and the parts of an answer.
use Rattle.std.specs.Prelude.{ℕ, length}
use Rattle.steps.specs.State.{Ending, Ending.can, Ending.cannot, Ending.out_of_branchings, Ending.out_of_clauses}
use Rattle.steps.specs.Run.{Outcome}
use Rattle.answer.specs.declared.Tally.{Tally}

-- a verdict, a refusal by its number, or a stop by its number, with the counts
pub data Answer : Type 0 where
  Can : Tally → Answer
  Cannot : Tally → Answer
  Refused : ℕ → Answer
  Stopped : ℕ → Tally → Answer

-- the numbers of the stops: the allowance is used up, and no place is left for a derived rule
abbrev pub stop_branchings : ℕ
stop_branchings = 10

abbrev pub stop_places : ℕ
stop_places = 11

-- the counts: branchings, derived rules, records
abbrev pub tally_of : Outcome → Tally
tally_of r = record { branchings = r.branchings; derived = length r.derived; records = length r.records }

-- a verdict, or the number of the stop, with the counts
abbrev pub end_of : Ending → Tally → Answer
end_of can t = Can t
end_of cannot t = Cannot t
end_of out_of_branchings t = Stopped stop_branchings t
end_of out_of_clauses t = Stopped stop_places t

-- the answer that tells an outcome
abbrev pub of_outcome : Outcome → Answer
of_outcome r = end_of r.ending (tally_of r)

-- the counts of an answer; zeros for a refusal
abbrev pub tally_in : Answer → Tally
tally_in (Can t) = t
tally_in (Cannot t) = t
tally_in (Refused k) = record { branchings = 0; derived = 0; records = 0 }
tally_in (Stopped k t) = t

-- the number of a refusal or a stop; 0 for a verdict
abbrev pub number_in : Answer → ℕ
number_in (Can t) = 0
number_in (Cannot t) = 0
number_in (Refused k) = k
number_in (Stopped k t) = k
