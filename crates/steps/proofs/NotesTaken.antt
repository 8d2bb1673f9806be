-- The example of notes, by computing them.
use mathlib.Core.Path.{refl}
use Rattle.words.specs.Words.{minus, meets, first_vars, lowest, members_up_to, members}
use Rattle.steps.specs.Clause.{vars, keepers, satisfied, names, inactive}
use Rattle.steps.specs.State.{undecided, live}
use Rattle.steps.specs.Notes.{note, walk, notes, choice, keeper, gather, rounds}
use Rattle.steps.specs.Demands.{NotesTaken}

pub notes_taken : NotesTaken
unfolding minus meets lowest members_up_to members vars keepers satisfied names inactive note walk notes choice keeper gather rounds undecided live first_vars
notes_taken = record { one_rule = refl; by_fitted = refl; no_rule = refl; by_left_out = refl; all_rules = refl; none_picked = refl; in_turn = refl }
