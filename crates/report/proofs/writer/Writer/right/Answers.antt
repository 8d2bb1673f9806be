use mathlib.Core.Path.{◌≡◌, sym, ap}
use mathlib.Core.List.{List, ◌++◌}
use Prim.Native.Nat.{ℕ, ◌-◌}
use native.Mathlib.Omega.{arith}
use lib.ListN.{length}
use Rattle.report.specs.Fields.{blanks, set_right}
use Rattle.report.proofs.Writing.{left_all, left_room, left_next, left_last}
use Rattle.report.proofs.writer.Writer.right.Goals as goal

-- the field, by the digits as they were made
made : (width : ℕ) {digits text : List ℕ} → text ≡ digits → set_right width digits ≡ blanks (width - length text) ++ text
unfolding set_right
made width e = ap (λ (l : List ℕ). blanks (width - length l) ++ l) (sym e)

pub overflow_sub-width : goal.overflow_sub-width
overflow_sub-width c = omega (arith, ap length c.digits_of-digits.ensures)

pub blanks-requires : goal.blanks-requires
blanks-requires c = left_room _ (made c.args.width c.digits_of-digits.ensures) (left_all c.requires.room)

pub text-requires : goal.text-requires
text-requires c = (left_next _ (made c.args.width c.digits_of-digits.ensures) (left_all c.requires.room) c.blanks.ensures).room

pub returns : goal.returns
returns c = left_last (left_next _ (made c.args.width c.digits_of-digits.ensures) (left_all c.requires.room) c.blanks.ensures) c.text.ensures
