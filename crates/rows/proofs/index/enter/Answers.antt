-- `rows::index::enter` meets its contract: a turn enters the clause in the row of one variable more.
use mathlib.Core.Path.{◌≡◌, refl, sym, ap, ◌∙◌}
use mathlib.Core.Bool.{Bool, true, false, not, ◌&&◌, and-true}
use mathlib.Core.List.{List}
use Prim.Native.Nat.{ℕ, ◌+◌, ◌*◌, ◌≤◌, ◌<◌}
use native.Mathlib.Omega.{arith}
use borrow.Author.Tests.{eqb-true, eqb-false}
use lib.Bits.{bit_or, or_zero_r}
use lib.Dec.{eqb}
use lib.ListN.{length}
use Rattle.words.specs.Words.{has, Taken}
use Rattle.words.proofs.Membership.{has_zero}
use Rattle.words.proofs.Sets.{within_refl, within_trans}
use Rattle.words.proofs.Listing.{left_other, left_here, left_within}
use Rattle.rows.specs.Index.{row_at, put_row, naming, masked}
use Rattle.rows.proofs.Blocks.{put_row_here, put_row_other, put_row_count, put_row_only, only_refl, only_trans}
use Rattle.rows.proofs.index.enter.Invariants.{Entering}
use Rattle.rows.proofs.index.enter.Goals as goal

-- at the start all are left
begins : (q : List ℕ) (j digit vars : ℕ) → Entering q q j digit vars vars
begins q j digit vars =
    record {
      within = within_refl vars;
      only = only_refl q j;
      counts = λ b l. refl;
      others = λ u l. refl;
      rows = λ v l. nothing (row_at q j (naming v)) (has vars v);
    }
  where
    nothing : (x : ℕ) (p : Bool) → x ≡ bit_or x (masked (p && not p) digit)
    nothing x true = sym (or_zero_r x)
    nothing x false = sym (or_zero_r x)

-- a turn enters one row more
one_more : {q₀ q : List ℕ} {j digit vars left k rest : ℕ}
    → Taken left k rest
    → 131 * j + 131 ≤ length q
    → Entering q₀ q j digit vars left
    → Entering q₀ (put_row q j (naming k) (bit_or (row_at q j (naming k)) digit)) j digit vars rest
one_more {q₀} {q} {j} {digit} {vars} {left} {k} {rest} t room w =
    record {
      within = within_trans rest left vars (left_within t) w.within;
      only = only_trans w.only (put_row_only q j u x h);
      counts = λ b l. put_row_count q j u x j b h l ∙ w.counts b l;
      others = λ o l. put_row_other q j u x j o h (omega arith) (λ e f. omega arith) ∙ w.others o l;
      rows = λ v l. go v l (eqb v k) refl;
    }
  where
    u : ℕ
    u = naming k

    x : ℕ
    x = bit_or (row_at q j u) digit

    h : u < 67
    h = omega (arith, t.below)

    in-vars : has vars k ≡ true
    in-vars = w.within k t.member

    -- the row of the variable was as at the start
    old : row_at q j u ≡ row_at q₀ j u
    old = w.rows k t.below ∙ rw (t.member, in-vars) (or_zero_r _)

    here : row_at (put_row q j u x) j u ≡ bit_or (row_at q₀ j u) (masked (has vars k && not (has rest k)) digit)
    here = put_row_here q j u x (omega (arith, h)) ∙ ap (λ (y : ℕ). bit_or y digit) old ∙ rw (left_here t, in-vars) refl

    go : (v : ℕ) → v < 64 → (p : Bool) → eqb v k ≡ p → row_at (put_row q j u x) j (naming v) ≡ bit_or (row_at q₀ j (naming v)) (masked (has vars v && not (has rest v)) digit)
    go v l true e = rw (eqb-true v k e) here
    go v l false e =
        put_row_other q j u x j (naming v) h (omega arith) (λ a b. eqb-false v k e (omega arith))
        ∙ w.rows v l
        ∙ rw (left_other t v (eqb-false v k e)) refl

pub loop-v-init : goal.loop-v-init
loop-v-init c = (tt, tt, rw (c.into_iter-v-iterator.ensures.into_iter_gives, c.members-v-items.ensures) (begins _ _ _ _))

pub loop-v-preserved : goal.loop-v-preserved
loop-v-preserved c = (
  tt,
  tt,
  rw (c.put_row.ensures, c.word-before.ensures) (one_more c.in-Some.ensures.steps (omega (arith, c.loop-v.auto.q)) c.loop-v.invariant.2),
)

pub returns : goal.returns
returns c =
    let w = c.loop-v.invariant.2 in
    record {
      only = w.only;
      counts = w.counts;
      others = w.others;
      rows = λ v h. w.rows v h ∙ rw (c.in-None.ensures.steps.0, has_zero v, and-true) refl;
    }
