use mathlib.Core.Path.{refl, ap}
use native.Mathlib.Omega.{arith}
use Rattle.answer.specs.declared.Tally.{Tally}
use Rattle.report.proofs.Digits.{decimal_length}
use Rattle.report.proofs.Writing.{left_all, left_room, left_next, left_last}
use Rattle.page.specs.Page.{first_line}
use Rattle.layout.proofs.lines.put_first.Goals as goal

pub left-requires-clause-room : goal.left-requires-clause-room
unfolding first_line
left-requires-clause-room c =
    rw c.word.ensures (left_room _ refl (left_all c.requires.room))

pub right-requires-clause-n_len_bound : goal.right-requires-clause-n_len_bound
right-requires-clause-n_len_bound c =
    decimal_length 9 c.number.result (omega (arith, c.number.type_inv))

pub right-requires-clause-room : goal.right-requires-clause-room
unfolding first_line
right-requires-clause-room c =
    let word = left_next _ refl (left_all c.requires.room) (rw c.word.ensures at c.left.ensures) in
    rw c.number.ensures (left_room _ refl word)

pub right-requires-2-clause-n_len_bound : goal.right-requires-2-clause-n_len_bound
right-requires-2-clause-n_len_bound c =
    decimal_length 9 c.tally-tally.result.branchings (omega (arith, c.tally-tally.type_inv))

pub right-requires-2-clause-room : goal.right-requires-2-clause-room
unfolding first_line
right-requires-2-clause-room c =
    let word = left_next _ refl (left_all c.requires.room) (rw c.word.ensures at c.left.ensures) in
    let number = left_next _ refl word (rw c.number.ensures at c.right.ensures) in
    rw c.tally-tally.ensures (left_room _ refl number)

pub right-requires-3-clause-n_len_bound : goal.right-requires-3-clause-n_len_bound
right-requires-3-clause-n_len_bound c =
    decimal_length 9 c.tally-tally.result.derived (omega (arith, ap (λ (t : Tally). t.derived) c.tally-tally.ensures, c.requires.a_bound))

pub right-requires-3-clause-room : goal.right-requires-3-clause-room
unfolding first_line
right-requires-3-clause-room c =
    let word = left_next _ refl (left_all c.requires.room) (rw c.word.ensures at c.left.ensures) in
    let number = left_next _ refl word (rw c.number.ensures at c.right.ensures) in
    let branchings = left_next _ refl number (rw c.tally-tally.ensures at c.right-2.ensures) in
    rw c.tally-tally.ensures (left_room _ refl branchings)

pub byte-requires : goal.byte-requires
unfolding first_line
byte-requires c =
    let word = left_next _ refl (left_all c.requires.room) (rw c.word.ensures at c.left.ensures) in
    let number = left_next _ refl word (rw c.number.ensures at c.right.ensures) in
    let branchings = left_next _ refl number (rw c.tally-tally.ensures at c.right-2.ensures) in
    let derived = left_next _ refl branchings (rw c.tally-tally.ensures at c.right-3.ensures) in
    derived.room

pub returns : goal.returns
unfolding first_line
returns c =
    let word = left_next _ refl (left_all c.requires.room) (rw c.word.ensures at c.left.ensures) in
    let number = left_next _ refl word (rw c.number.ensures at c.right.ensures) in
    let branchings = left_next _ refl number (rw c.tally-tally.ensures at c.right-2.ensures) in
    let derived = left_next _ refl branchings (rw c.tally-tally.ensures at c.right-3.ensures) in
    left_last derived c.byte.ensures
