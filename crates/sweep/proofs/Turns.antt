-- A turn of the sweep's loop, which has chosen a literal from the notes: the steps find its variable, which is one of the 64, and one more D-sequent fits.
use Rattle.std.proofs.Common.{◌≡◌, ℕ, ◌+◌, ◌≤◌, List, length, Some, sym, ap, ◌∙◌}
use Rattle.std.specs.declared.option.Option.{Option}
use Rattle.words.specs.Words.{members}
use Rattle.steps.specs.State.{redundant, live}
use Rattle.steps.specs.Notes.{Notes, notes, choice, found_by}
use Rattle.steps.specs.Sweep.{variable}
use Rattle.rows.specs.Values.{assignment_of, env_of}
use Rattle.rows.specs.Rows.{sequent_words, state_of}
use Rattle.rows.specs.Tally.{Variable}
use Rattle.rows.specs.declared.clause.Assignment.{Assignment}
use Rattle.rows.specs.declared.state.Counts.{Counts}
use Rattle.rows.specs.declared.state.Env.{Env}
use Rattle.sweep.specs.declared.Literal.{Literal}
use Rattle.sweep.specs.Sweep.{literal_of, choice_of, Ready}
use Rattle.sweep.proofs.Points.{next_fits, live_variable}
use Rattle.sweep.proofs.Strikes.{found, found_is, found_live, found_nonzero, reasons}

pub record Turn (t rs : List ℕ) (e : Env) (a : Assignment) (s : Counts) (l : Literal) : Type 0 where
  pub found :
      let x = state_of t rs s in
      found (env_of e) (assignment_of a) x ≡ variable l.var (reasons (assignment_of a) x (literal_of l))
  pub variable : Variable l.var
  pub next : sequent_words (s.records + 1) ≤ length rs

-- x are the live variables, n the notes and o the choice
pub turn : {t rs : List ℕ} {e : Env} {a : Assignment} {s : Counts} {x : ℕ} {n : Notes} {o : Option Literal} {l : Literal}
    → let y = state_of t rs s in
    Ready t rs e a s
    → n ≡ notes (assignment_of a) (redundant y) y.table
    → x ≡ live (env_of e) (assignment_of a) y
    → choice_of o ≡ choice (members x) n
    → o ≡ Some l
    → Turn t rs e a s l
turn {t} {rs} {e} {a} {s} {x} {n} {o} {l} ready noted lives chosen by =
    let y = state_of t rs s in
    let struck : found (env_of e) (assignment_of a) y ≡ variable l.var (reasons (assignment_of a) y (literal_of l)) =
    sym (found_is (env_of e) (assignment_of a) y x n (choice_of o) chosen lives noted)
    ∙ ap (λ (p : Option Literal). found_by (assignment_of a) y (choice_of p)) by in
    record {
      found = struck;
      variable = live_variable ready (found_live _ _ _ _ _ struck);
      next = next_fits ready (found_nonzero _ _ _ _ _ struck);
    }
