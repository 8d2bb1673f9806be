-- `sweep::notes` meets its contract. A clause that the walk passes is inactive, and adds nothing; the one that comes is in play.
use mathlib.Core.Path.{◌≡◌, refl, sym, ap, ◌∙◌}
use mathlib.Core.Bool.{Bool, true, false, ◌&&◌}
use mathlib.Core.List.{List}
use Prim.Native.Nat.{ℕ, ◌+◌, ◌<◌}
use native.Mathlib.Omega.{arith}
use borrow.Author.Tests.{not-true, not-false}
use lib.Count.{ones}
use Rattle.words.proofs.Truth.{and_left}
use Rattle.steps.specs.Clause.{Assignment, keepers, inactive}
use Rattle.rows.specs.Rows.{clause_at}
use Rattle.rows.specs.Index.{is_in, playing, coming}
use Rattle.rows.specs.Tally.{Tallied}
use Rattle.rows.proofs.Both.{turn, none_after}
use Rattle.rows.proofs.Counts.{few_at}
use Rattle.rows.proofs.Reading.{playing_is}
use Rattle.sweep.proofs.Walks.{noting_begins, noting_turn, noting_skips, noting_ends}
use Rattle.sweep.proofs.notes.Goals as goal

-- a clause that is not in play is inactive
passed : {t q : List ℕ} {m : ℕ} {a : Assignment} {k : ℕ}
    → Tallied t q m a k
    → ((i : ℕ) → ones (keepers a (clause_at t i)) < 128)
    → (i : ℕ) → i < m → (is_in q playing i && is_in q playing i) ≡ false → inactive a k (clause_at t i) ≡ true
passed {t} {q} {m} {a} {k} x few i h out = not-false (inactive a k (clause_at t i)) (sym (playing_is x i h (few i)) ∙ once (is_in q playing i) out)
  where
    once : (p : Bool) → (p && p) ≡ false → p ≡ false
    once true e = e
    once false e = refl

pub loop-i-init : goal.loop-i-init
loop-i-init c =
    let none = c.both-i-items.ensures.1 in
    let few = λ (a : Assignment). few_at c.args.t.now (λ j. (c.type_inv.t j).fits) a in
    rw c.into_iter-i-iterator.ensures.into_iter_gives
    (c.both-i-items.ensures.0, λ a k x. noting_skips _ _ a k _ 0 _ (omega arith) (λ y l u h. passed x (few a) y h (none y l u h)) (noting_begins _ _ a k))

pub loop-i-preserved : goal.loop-i-preserved
loop-i-preserved c =
    let w = turn c.loop-i.invariant.0 c.in-Some.ensures.steps in (
      w.goes,
      λ a k x.
          let few = few_at c.args.t.now (λ j. (c.type_inv.t j).fits) a in
          let active : inactive a k _ ≡ false = not-true _ (sym (playing_is x _ w.below (few _)) ∙ and_left _ _ w.here) in
          noting_skips _ _ a k _ (c.in-Some.i + 1) _ (omega (arith, w.to)) (λ y l u h. passed x few y h (w.after y l u h))
          (noting_turn _ _ a k _ _ _ _ w.below
          (noting_skips _ _ a k _ _ _ w.from (λ y l u h. passed x few y h (w.before y l u h)) (c.loop-i.invariant.1 a k x))
          c.clause_at.ensures
          (c.note-seen.ensures a k (ap (inactive a k) c.clause_at.ensures ∙ active))),
    )

pub returns : goal.returns
returns c a k x =
    let m = c.args.m in
    let few = few_at c.args.t.now (λ j. (c.type_inv.t j).fits) a in
    let none = none_after c.loop-i.invariant.0 c.in-None.ensures.steps in
    noting_ends _ _ a k _ (coming c.loop-i.i-iterator + m) (omega arith)
    (noting_skips _ _ a k _ _ _ (omega arith) (λ y l u h. passed x few y h (none y l h h)) (c.loop-i.invariant.1 a k x))
