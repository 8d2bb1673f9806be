-- Every ending but "cannot" hands out the list as it is, and "cannot" that of `everything`.
use Rattle.std.proofs.Common.{ℕ, List, ◌≡◌, refl, ap, ap₂, sym, subst, ◌∙◌, drop}
use Rattle.steps.specs.Clause.{Assignment, DSequent}
use Rattle.steps.specs.State.{State, Side.ended}
use Rattle.steps.specs.Run.{Outcome, outcome, finish}
use Rattle.answer.specs.Numbers.{by_number}
use Rattle.rows.specs.Rows.{clauses, state_of}
use Rattle.merge.specs.Sides.{ending_of}
use Rattle.merge.specs.declared.Ending.{Ending}
use Rattle.merge.specs.declared.Ending.TheVariants as ending
use Rattle.search.specs.Values.{Handed}
use Rattle.search.proofs.Handing.{handed}
use Rattle.search.proofs.run.ended.Goals as goal

-- an ending that is not "cannot" hands out the list as it is
as_it_is : (n m : ℕ) (x : Ending) (a : Assignment) (s : State) → (x ≡ ending.Cannot → ⊥) → outcome m (ending_of x) s.records s ≡ finish n m (ended (ending_of x) a s)
unfolding finish
as_it_is n m ending.Can a s k = refl
as_it_is n m ending.Cannot a s k = absurd (k refl)
as_it_is n m ending.OutOfBranchings a s k = refl
as_it_is n m ending.OutOfClauses a s k = refl

pub returns-in_default : goal.returns-in_default
returns-in_default c t a =
    let x = c.args in
    subst
    (λ (o : Outcome). Handed t x.rs.now x.m (by_number c.told.result) o)
    (as_it_is x.vars x.m x.ending a (state_of t x.rs.now x.s) c.in_default.not-Cannot)
    (handed t x.rs.now x.m (ending_of x.ending) x.s c.tally.result (by_number c.told.result) c.tally.ensures c.told.ensures)

pub returns : goal.returns
unfolding finish
returns c t a =
    let x = c.args in
    let all = c.everything-k in
    let out : Ending → List DSequent → Outcome =
    λ y l. record { ending = ending_of y; branchings = x.s.branchings; derived = drop x.m (clauses t x.s.clauses); records = l } in
    subst
    (λ (o : Outcome). Handed t all.new.rs x.m (by_number c.told-2.result) o)
    (ap₂ out c.in-Cannot.is all.ensures ∙ sym (ap (λ (y : Ending). finish x.vars x.m (ended (ending_of y) a (state_of t x.rs.now x.s))) c.in-Cannot.is))
    (handed t all.new.rs x.m (ending_of x.ending) (record { clauses = x.s.clauses; records = all.result; branchings = x.s.branchings }) c.tally-2.result
    (by_number c.told-2.result) c.tally-2.ensures c.told-2.ensures)
