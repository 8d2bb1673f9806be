use mathlib.Core.Path.{◌≡◌, ap, ◌∙◌}
use mathlib.Core.List.{List}
use Prim.Native.Nat.{ℕ}
use native.Mathlib.Omega.{arith}
use Rattle.answer.specs.Numbers.{by_number}
use Rattle.contract.specs.Check.{Lengths}
use Rattle.checker.specs.Lent.{tables_of}
use Rattle.report.proofs.Writing.{printed_as}
use Rattle.reply.specs.Reply.{places, result_in, text_of, reply_to}
use Rattle.reply.proofs.Reply.{counts_fit, counts_few, text_printed}
use Rattle.reply.proofs.write_reply.Goals as goal

-- what is printed, by the lengths of the tables
reply : (input : List ℕ) (l : Lengths) → l ≡ places → text_of (result_in l input) ≡ reply_to input
unfolding reply_to
reply input l same = ap (λ (l : Lengths). text_of (result_in l input)) same

pub write_outcome-requires-clause-counted : goal.write_outcome-requires-clause-counted
write_outcome-requires-clause-counted c =
    counts_fit c.args.input.now (tables_of c.args.tables) (tables_of c.check_input-found.new.tables) (by_number c.check_input-found.result) c.check_input-found.ensures.answered

pub write_outcome-requires-clause-a_in_bounds : goal.write_outcome-requires-clause-a_in_bounds
write_outcome-requires-clause-a_in_bounds c =
    let few = counts_few c.args.input.now (tables_of c.args.tables) (tables_of c.check_input-found.new.tables) (by_number c.check_input-found.result) c.check_input-found.ensures.answered in
    omega (arith, few.0, few.1, ap (λ (l : Lengths). l.pos) c.requires.places, c.requires.longest_in_bounds)

pub returns : goal.returns
returns c =
    printed_as
    (text_printed c.args.input.now (tables_of c.args.tables) (tables_of c.check_input-found.new.tables) (by_number c.check_input-found.result) c.check_input-found.ensures.answered ∙ reply _ _ c.requires.places)
    c.write_outcome.ensures
