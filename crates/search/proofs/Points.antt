-- What a point of the search gives: it is ready for `enter`, and a side that goes back up leaves a point again. For a search keeps the shape of a point
-- and stays within its allowances (`steps`).
use mathlib.Core.Path.{◌≡◌, subst⁻¹}
use mathlib.Core.List.{List}
use Prim.Native.Nat.{ℕ}
use native.Mathlib.Omega.{arith}
use lib.ListN.{length}
use Rattle.steps.specs.State.{Side, Side.up}
use Rattle.steps.specs.Search.{search}
use Rattle.steps.specs.Shape.{SideShape}
use Rattle.steps.proofs.LockstepSpent.{Fits, kept_search}
use Rattle.steps.proofs.LockstepSpent as spent
use Rattle.steps.proofs.ShapeSearch.{shape_search}
use Rattle.rows.specs.Values.{assignment_of, env_of}
use Rattle.rows.specs.Rows.{state_of}
use Rattle.rows.specs.declared.clause.Assignment.{Assignment}
use Rattle.rows.specs.declared.state.Counts.{Counts}
use Rattle.rows.specs.declared.state.Env.{Env}
use Rattle.rows.proofs.Tables.{clauses_length}
use Rattle.sweep.specs.Sweep.{Ready}
use Rattle.search.specs.Needs.{Point}
use Rattle.steps.proofs.NoneEmpty.{Stays, stays_search}

-- a point is ready for `enter`
pub ready : {t rs : List ℕ} {e : Env} {a : Assignment} {s : Counts} → Point t rs e a s → Ready t rs e a s
ready p =
    record {
      vars = p.vars;
      table = omega (arith, p.capacity, p.clauses);
      room = p.room;
      shape = p.shape;
    }

-- a side that goes back up leaves a point with the same decisions
pub up_point :
    {t rs t₁ rs₁ : List ℕ} {e : Env} {a : Assignment} {s one : Counts} (v k : ℕ) → Point t rs e a s → length t₁ ≡ length t →
    length rs₁ ≡ length rs → up (state_of t₁ rs₁ one) ≡ search (env_of e) k (assignment_of a) v (state_of t rs s) → Point t₁ rs₁ e a one
up_point {t} {rs} {t₁} {rs₁} {e} {a} {s} {one} v k p st sr side =
    let within : Fits (env_of e) (state_of t rs s) =
    record { branchings = p.branchings; clauses = omega (arith, clauses_length t s.clauses, p.clauses) } in
    let kept : Fits (env_of e) (state_of t₁ rs₁ one) =
    subst⁻¹ (λ (x : Side). spent.Kept (env_of e) x) side (kept_search (env_of e) k (assignment_of a) v (state_of t rs s) within) in
    record {
      vars = p.vars;
      capacity = omega (arith, st, p.capacity);
      clauses = omega (arith, kept.clauses, clauses_length t₁ one.clauses);
      branchings = kept.branchings;
      none_empty = subst⁻¹ Stays side (stays_search (env_of e) k (assignment_of a) v (state_of t rs s) p.none_empty);
      room = omega (arith, sr, p.room);
      shape = subst⁻¹ (λ (x : Side). SideShape (env_of e) (assignment_of a) x) side (shape_search (env_of e) k (assignment_of a) v (state_of t rs s) p.shape);
    }
