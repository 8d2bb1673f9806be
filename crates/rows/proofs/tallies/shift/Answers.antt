-- `rows::tallies::shift` meets its contract: a turn changes one of the clauses named, and finds it where no decision satisfies it then.
use mathlib.Core.Path.{◌≡◌, refl, sym, ap, ap₂, ◌∙◌}
use mathlib.Core.Bool.{Bool, true, false, not, ◌&&◌, ◌||◌, and-true, or-false}
use mathlib.Core.List.{List}
use Prim.Native.Nat.{ℕ, ◌+◌, ◌*◌, ◌^◌, ◌≤◌, ◌<◌}
use native.Mathlib.Omega.{arith}
use borrow.Author.Tests.{eqb-true, eqb-false}
use lib.Bits.{bit_or}
use lib.Dec.{eqb}
use lib.ListN.{length}
use Rattle.words.specs.Words.{has, Taken}
use Rattle.words.proofs.Membership.{has_zero, has_or}
use Rattle.words.proofs.Sets.{within_refl, within_trans}
use Rattle.words.proofs.Listing.{left_other, left_here, left_within}
use Rattle.rows.specs.Index.{count_at, masked}
use Rattle.rows.specs.Tally.{is_unsatisfied}
use Rattle.rows.specs.declared.tally.Delta.{Delta}
use Rattle.rows.proofs.Blocks.{put_count, put_count_here, put_count_other, put_count_row, put_count_only, mark_here, mark_other, only_refl, only_trans}
use Rattle.rows.proofs.tallies.shift.Invariants.{Done, after, picked, Shifting}
use Rattle.rows.proofs.tallies.shift.Goals as goal

-- at the start all are left
begins : (t q : List ℕ) (j v : ℕ) (d : Delta) (named : ℕ) → Shifting t q q j v d named 0 named
begins t q j v d named =
    record {
      within = within_refl named;
      only = only_refl q j;
      rows = λ u l. refl;
      counts = λ b l. sym (ap (picked t q j v d b) (none (has named b)));
      unkept = λ b l. has_zero b ∙ sym (ap (λ (p : Bool). p && is_unsatisfied (count_at q j b)) (none (has named b)));
    }
  where
    none : (p : Bool) → (p && not p) ≡ false
    none true = refl
    none false = refl

-- a turn changes the one that is taken
module _ {t q₀ q : List ℕ} {j v : ℕ} {d : Delta} {named found left low rest : ℕ} (n : Taken left low rest) (w : Shifting t q₀ q j v d named found left) where
  in-named : has named low ≡ true
  in-named = w.within low n.member

  -- it is not done yet
  not_done : Done named left low ≡ false
  not_done = rw (in-named, n.member) refl

  -- so its counts are as at the start
  old : count_at q j low ≡ count_at q₀ j low
  old = w.counts low n.below ∙ ap (picked t q₀ j v d low) not_done

  -- after the turn it is done
  now-done : Done named rest low ≡ true
  now-done = rw (in-named, left_here n) refl

  -- so once its counts are put, and it is found where no decision satisfies it then, the others are left
  one_more : 131 * j + 131 ≤ length q
      → (x : ℕ)
      → x ≡ after t j v d low (count_at q j low)
      → Shifting t q₀ (put_count q j low x) j v d named (bit_or found (masked (is_unsatisfied x) (2 ^ low))) rest
  one_more room x e =
      record {
        within = within_trans rest left named (left_within n) w.within;
        only = only_trans w.only (put_count_only q j low x n.below);
        rows = λ u l. put_count_row q j low x u n.below ∙ w.rows u l;
        counts = λ b l. counted b l (eqb b low) refl;
        unkept = λ b l. marked b l (eqb b low) refl;
      }
    where
      q' : List ℕ
      q' = put_count q j low x

      here : count_at q' j low ≡ x
      here = put_count_here q j low x (omega (arith, n.below))

      same : (b : ℕ) → eqb b low ≡ false → Done named rest b ≡ Done named left b
      same b f = ap (λ (p : Bool). has named b && not p) (left_other n b (eqb-false b low f))

      counted : (b : ℕ) → b < 64 → (p : Bool) → eqb b low ≡ p → count_at q' j b ≡ picked t q₀ j v d b (Done named rest b)
      counted b l true f = rw (eqb-true b low f) (here ∙ e ∙ ap (after t j v d low) old ∙ sym (ap (picked t q₀ j v d low) now-done))
      counted b l false f =
          put_count_other q j low x b (eqb-false b low f)
          ∙ w.counts b l
          ∙ sym (ap (picked t q₀ j v d b) (same b f))

      marked : (b : ℕ) → b < 64 → (p : Bool) → eqb b low ≡ p → has (bit_or found (masked (is_unsatisfied x) (2 ^ low))) b ≡ (Done named rest b && is_unsatisfied (count_at q' j b))
      marked b l true f =
          rw (eqb-true b low f)
          (has_or found (masked (is_unsatisfied x) (2 ^ low)) low
          ∙ ap₂ ◌||◌ (w.unkept low n.below ∙ ap (λ (p : Bool). p && is_unsatisfied (count_at q j low)) not_done) (mark_here (is_unsatisfied x) low)
          ∙ sym (ap₂ (λ (p : Bool) (y : ℕ). p && is_unsatisfied y) now-done here))
      marked b l false f =
          has_or found (masked (is_unsatisfied x) (2 ^ low)) b
          ∙ ap₂ ◌||◌ (w.unkept b l) (mark_other (is_unsatisfied x) low b (eqb-false b low f))
          ∙ or-false _
          ∙ sym (ap₂ (λ (p : Bool) (y : ℕ). p && is_unsatisfied y) (same b f) (put_count_other q j low x b (eqb-false b low f)))

pub loop-b-init : goal.loop-b-init
loop-b-init c = (tt, tt, rw (c.into_iter-b-iterator.ensures.into_iter_gives, c.members-b-items.ensures) (begins _ _ _ _ _ _))

pub loop-b-preserved : goal.loop-b-preserved
loop-b-preserved c = (
  tt,
  tt,
  rw c.mark-open.ensures
      (rw c.is_unsatisfied.ensures (one_more c.in-Some.ensures.steps c.loop-b.invariant.2 (omega (arith, c.loop-b.auto.q, c.requires.0.room)) c.change-x.result (c.change-x.ensures ∙ rw c.literals_at-lits.ensures refl))),
)

pub returns : goal.returns
returns c =
    let w = c.loop-b.invariant.2 in
    record {
      only = w.only;
      rows = w.rows;
      counts = λ b h. w.counts b h ∙ rw (c.in-None.ensures.steps.0, has_zero b, and-true) refl;
      unkept = λ b h. w.unkept b h ∙ rw (c.in-None.ensures.steps.0, has_zero b, and-true) refl;
    }
