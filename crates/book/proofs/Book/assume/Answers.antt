use mathlib.Core.Path.{◌≡◌, sym, ap, ◌∙◌}
use mathlib.Core.Bool.{true, false}
use mathlib.Core.List.{List, ◌++◌, append_assoc}
use Prim.Native.Nat.{ℕ}
use native.Mathlib.Omega.{arith}
use Rattle.steps.specs.Clause.{Clause}
use Rattle.steps.specs.Run.{Assumptions, given}
use Rattle.order.specs.Values.{assumptions_of}
use Rattle.rows.specs.Rows.{clauses}
use Rattle.book.specs.Units.{units_of}
use Rattle.book.proofs.UnitClauses.{units_sides, length_units}
use Rattle.book.proofs.Putting.{more_clauses}
use Rattle.book.proofs.Book.assume.Goals as goal

-- first the wanted, then the unwanted
both : (t t₁ t₂ : List ℕ) (m r₁ r₂ : ℕ) (o : Assumptions) → clauses t₁ r₁ ≡ clauses t m ++ units_of true o.pos
    → clauses t₂ r₂ ≡ clauses t₁ r₁ ++ units_of false o.neg → clauses t₂ r₂ ≡ given (clauses t m) o
both t t₁ t₂ m r₁ r₂ o e₁ e₂ =
    e₂ ∙ ap (λ (l : List Clause). l ++ units_of false o.neg) e₁ ∙ append_assoc (clauses t m) (units_of true o.pos) (units_of false o.neg)
    ∙ ap (λ (l : List Clause). clauses t m ++ l) (sym (units_sides o))

pub add_units-count-requires : goal.add_units-count-requires
add_units-count-requires c = omega (arith, length_units (assumptions_of c.args.o))

pub add_units-requires : goal.add_units-requires
add_units-requires c =
    omega (
      arith,
      length_units (assumptions_of c.args.o),
      more_clauses _ _ _ _ _ c.add_units-count.ensures,
      c.add_units-count.auto.t,
    )

pub returns : goal.returns
returns c = both _ _ _ _ _ _ (assumptions_of c.args.o) c.add_units-count.ensures c.add_units.ensures
