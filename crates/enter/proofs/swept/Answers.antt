-- Each way out is the definition once its tests are known (`Turns`). A unit clause leaves one variable undecided, whose number the trailing zeros give (`single`).
use Rattle.std.proofs.Common.{refl, ap, ap₂, sym, ◌∙◌, Bool, false, not, ℕ, arith}
use Rattle.words.specs.Words.{is_zero, lowest}
use Rattle.words.proofs.Sets.{nonzero, is_zero_test}
use Rattle.steps.specs.Enter.{Turn.branch}
use Rattle.steps.proofs.ShapeKeep.{last_recorded}
use Rattle.rows.specs.Values.{env_of, found_of}
use Rattle.rows.specs.Rows.{state_of}
use Rattle.sweep.proofs.Points.{list_fits}
use Rattle.enter.proofs.Turns.{apart, swept_back, swept_can, swept_lowest, swept_unit, single}
use Rattle.enter.proofs.swept.Goals as goal

pub last-d-requires : goal.last-d-requires
last-d-requires c = list_fits c.requires.0

pub returns-then-any_falsified : goal.returns-then-any_falsified
returns-then-any_falsified c =
    let lives = c.live-live.ensures (state_of c.args.t.now c.args.rs.now c.args.s) c.last-d.ensures in
    let some = c.any_falsified.ensures _ _ _ (apart (env_of c.args.e) _ _ (last_recorded _ _ _ c.requires.0.shape).off) c.requires.1 in
    (swept_back _ _ _ (ap is_zero (sym lives ∙ c.if-live-eq0.true)) (sym some ∙ c.if-any_falsified.true), refl)

pub returns-then-live-eq0 : goal.returns-then-live-eq0
returns-then-live-eq0 c =
    let lives = c.live-live.ensures (state_of c.args.t.now c.args.rs.now c.args.s) c.last-d.ensures in
    let some = c.any_falsified.ensures _ _ _ (apart (env_of c.args.e) _ _ (last_recorded _ _ _ c.requires.0.shape).off) c.requires.1 in
    (swept_can _ _ _ (ap is_zero (sym lives ∙ c.if-live-eq0.true)) (sym some ∙ c.if-any_falsified.false), refl)

pub returns-in_default : goal.returns-in_default
returns-in_default c =
    let x = c.args in
    let lives = c.live-live.ensures (state_of c.args.t.now c.args.rs.now c.args.s) c.last-d.ensures in
    let found = c.unit_clause.ensures _ _ c.requires.1 in (
      ap (λ (w : ℕ). branch w false (state_of x.t.now x.rs.now x.s)) (c.lowest_of.ensures ∙ ap lowest lives)
          ∙ swept_lowest _ _ _ (ap is_zero (sym lives) ∙ nonzero c.live-live.result c.if-live-eq0.false) (sym found ∙ ap found_of c.in_default.is),
      refl,
    )

pub word_of-requires : goal.word_of-requires
word_of-requires c =
    let found = sym (c.unit_clause.ensures _ _ c.requires.1) ∙ ap found_of c.in-Some.is in
    (single c.requires.0.shape found c.vars.ensures c.minus.ensures (omega (arith, c.minus.type_inv)) c.lowest_var-number.ensures).below

pub returns : goal.returns
returns c =
    let x = c.args in
    let s = state_of x.t.now x.rs.now x.s in
    let lives = c.live-live.ensures s c.last-d.ensures in
    let found = sym (c.unit_clause.ensures _ _ c.requires.1) ∙ ap found_of c.in-Some.is in
    let one = single c.requires.0.shape found c.vars.ensures c.minus.ensures (omega (arith, c.minus.type_inv)) c.lowest_var-number.ensures in (
      ap₂ (λ (w : ℕ) (b : Bool). branch w b s) (c.word_of.ensures ∙ one.word)
          (ap not (is_zero_test c.minus-2.result ∙ ap is_zero c.minus-2.ensures))
          ∙ swept_unit _ _ _ _ (ap is_zero (sym lives) ∙ nonzero c.live-live.result c.if-live-eq0.false) found,
      refl,
    )
