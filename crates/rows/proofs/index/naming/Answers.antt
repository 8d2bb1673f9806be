-- `rows::index::naming` meets its contract: a turn finds the clauses that name the variable that is taken, and leaves the others.
use mathlib.Core.Path.{refl, sym, ap, ◌∙◌}
use mathlib.Core.Bool.{Bool, ◌||◌, or_assoc, or-false}
use Prim.Native.Nat.{ℕ}
use native.Mathlib.Omega.{arith}
use Rattle.words.specs.Words.{has, meets}
use Rattle.words.proofs.Membership.{has_or, has_zero}
use Rattle.words.proofs.Sets.{meets_zero}
use Rattle.words.proofs.Listing.{meets_taken}
use Rattle.rows.proofs.index.naming.Goals as goal

pub loop-v-init : goal.loop-v-init
loop-v-init c = (
  tt,
  tt,
  λ b x is. rw (c.into_iter-v-iterator.ensures.into_iter_gives, c.members-v-items.ensures, has_zero b) refl,
)

pub word-all-requires : goal.word-all-requires
word-all-requires c = (c.requires, omega (arith, c.in-Some.ensures.steps.below))

pub loop-v-preserved : goal.loop-v-preserved
loop-v-preserved c = (
  tt,
  tt,
  λ b x is.
      let t = c.in-Some.ensures.steps in
      c.loop-v.invariant.2 b x is
      ∙ ap (λ (p : Bool). has c.loop-v.all b || p) (meets_taken t x ∙ ap (λ (p : Bool). p || meets x c.next.new.self.left) (sym (is c.in-Some.v t.below) ∙ ap (λ (r : ℕ). has r b) (sym c.word-all.ensures)))
      ∙ sym (or_assoc (has c.loop-v.all b) (has c.word-all.result b) (meets x c.next.new.self.left))
      ∙ ap (λ (p : Bool). p || meets x c.next.new.self.left) (sym (has_or c.loop-v.all c.word-all.result b)),
)

pub returns : goal.returns
returns c b x is =
    let left = c.in-None.ensures.steps.0 in
    sym (c.loop-v.invariant.2 b x is ∙ ap (λ (p : Bool). has c.loop-v.all b || p) (ap (meets x) left ∙ meets_zero x) ∙ or-false (has c.loop-v.all b))
