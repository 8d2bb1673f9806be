-- `rows::records::last` meets its contract. With no D-sequent the list is empty; else its last one is of number k - 1, since the first k are the first k - 1 and that one.
use mathlib.Core.Path.{◌≡◌, sym, ap, ◌∙◌}
use Prim.Native.Nat.{ℕ, ◌+◌, ◌-◌}
use native.Mathlib.Omega.{arith}
use Rattle.steps.specs.Clause.{no_dSequent, last}
use Rattle.steps.proofs.ShapeLists.{last_append}
use Rattle.rows.specs.Rows.{sequent_at, sequents}
use Rattle.rows.proofs.Tables.{sequents_next}
use Rattle.rows.proofs.records.last.Goals as goal

pub returns-then-k-eq0 : goal.returns-then-k-eq0
unfolding sequents
returns-then-k-eq0 c = ap (λ (n : ℕ). last (sequents c.args.rs.now n)) (sym c.if-k-eq0.true)

pub returns : goal.returns
returns c =
    let k = c.args.k in
    let rs = c.args.rs.now in
    let e : k ≡ k - 1 + 1 = omega arith in
    c.sequent_at.ensures ∙ sym (last_append no_dSequent (sequent_at rs (k - 1)) (sequents rs (k - 1))) ∙ rw (← sequents_next, ← e)
