-- `sweep::gather` meets its contract. A clause that the walk passes does not name the variable, and adds nothing.
use mathlib.Core.Path.{◌≡◌, sym, ap, ◌∙◌}
use mathlib.Core.Bool.{true, false, ◌&&◌}
use mathlib.Core.List.{List}
use Prim.Native.Nat.{ℕ, ◌+◌, ◌<◌}
use native.Mathlib.Omega.{arith}
use lib.Count.{count_trailing_zeros}
use Rattle.words.specs.Words.{meets}
use Rattle.words.proofs.Truth.{both_ways, refuted, and_both}
use Rattle.steps.specs.Clause.{literals, Assignment, names}
use Rattle.steps.specs.Notes.{Literal, keeper}
use Rattle.steps.proofs.Notes.{without_literal}
use Rattle.rows.specs.Rows.{clause_at}
use Rattle.rows.specs.Index.{is_in, naming, coming}
use Rattle.rows.specs.Tally.{Tallied, Variable}
use Rattle.rows.proofs.Both.{turn, none_after}
use Rattle.rows.proofs.Reading.{named_is, struck_is, literal_named}
use Rattle.rows.proofs.Walks.{variable_below}
use Rattle.sweep.specs.Sweep.{literal_of}
use Rattle.sweep.proofs.Walks.{gathering_begins, gathering_turn, gathering_skips, gathering_ends}
use Rattle.sweep.proofs.gather.Goals as goal

-- a clause that is not in the row of the variable adds nothing
passed : {t q : List ℕ} {m : ℕ} {a : Assignment} {k : ℕ} (l : Literal) {v : ℕ}
    → v ≡ count_trailing_zeros 64 l.var
    → Variable l.var
    → Tallied t q m a k
    → (i : ℕ) → i < m → (is_in q (naming v) i && is_in q (naming v) i) ≡ false → keeper l a k (clause_at t i) ≡ 0
passed {t} {q} {a = a} {k} l {v} is var x i h out =
    let c = clause_at t i in
    let there : meets (literals l.sign c) l.var ≡ true → is_in q (naming v) i ≡ true =
    λ with-literal. named_is x i h v (variable_below is var) ∙ literal_named l.sign c is var with-literal in
    without_literal _ _ _ _
    (refuted (meets (literals l.sign c) l.var)
    (λ with-literal. both_ways (is_in q (naming v) i && is_in q (naming v) i) (and_both _ _ (there with-literal) (there with-literal)) out))

pub both-i-items-requires : goal.both-i-items-requires
both-i-items-requires c =
    let below = variable_below c.lowest_var-number.ensures c.requires.2 in (c.requires.1, omega (arith, below), omega (arith, below))

pub loop-i-init : goal.loop-i-init
loop-i-init c =
    let none = c.both-i-items.ensures.1 in
    rw c.into_iter-i-iterator.ensures.into_iter_gives (
      c.both-i-items.ensures.0,
      λ k x.
          gathering_skips _ _ _ k _ _ _ 0 _ (omega arith)
          (λ y l u h. passed (literal_of c.args.l) c.lowest_var-number.ensures c.requires.2 x y h (none y l u h))
          (gathering_begins _ _ _ k _ _),
    )

pub loop-i-preserved : goal.loop-i-preserved
loop-i-preserved c =
    let w = turn c.loop-i.invariant.0 c.in-Some.ensures.steps in
    let l = literal_of c.args.l in (
      w.goes,
      λ k x.
          gathering_skips _ _ _ k _ _ _ (c.in-Some.i + 1) _ (omega (arith, w.to))
          (λ y g u h. passed l c.lowest_var-number.ensures c.requires.2 x y h (w.after y g u h))
          (gathering_turn _ _ _ k _ _ _ _ _ _ w.below
          (gathering_skips _ _ _ k _ _ _ _ _ w.from (λ y g u h. passed l c.lowest_var-number.ensures c.requires.2 x y h (w.before y g u h)) (c.loop-i.invariant.1 k x))
          c.clause_at.ensures
          (c.keeper-reasons.ensures k (c.is_in-struck.ensures ∙ struck_is x _ w.below ∙ ap (names k) (sym c.clause_at.ensures)))),
    )

pub returns : goal.returns
returns c k x =
    let none = none_after c.loop-i.invariant.0 c.in-None.ensures.steps in
    gathering_ends _ _ _ k _ _ _ (coming c.loop-i.i-iterator + c.args.m) (omega arith)
    (gathering_skips _ _ _ k _ _ _ _ _ (omega arith)
    (λ y l u h. passed (literal_of c.args.l) c.lowest_var-number.ensures c.requires.2 x y h (none y l h h))
    (c.loop-i.invariant.1 k x))
