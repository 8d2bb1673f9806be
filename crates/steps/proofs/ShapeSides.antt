-- The two sides of a branching. A decision takes its variable out of the undecided ones and leaves every other value, so a D-sequent that names the
-- variable neither among its decisions nor in its set is recorded on both sides and, with the variable undecided again, above them. Before the
-- first side no D-sequent names the variable, since it is live; after it, those whose decisions do are left out.
use mathlib.Core.Path.{◌≡◌, refl, sym, ◌∙◌}
use mathlib.Core.Logic.{⊎_elim}
use mathlib.Core.Bool.{Bool, true, false, not, ◌&&◌}
use mathlib.Core.List.{List, Memᴰ}
use Prim.Native.Nat.{ℕ}
use lib.Bits.{bit_and, bit_or}
use borrow.Author.Tests.{not-true}
use Rattle.words.specs.Words.{has, minus, meets, first_vars, Within}
use Rattle.words.proofs.Truth.{both_ways, refuted}
use Rattle.words.proofs.Membership.{has_and, ext}
use Rattle.words.proofs.Sets.{within_trans, or_within, or_within_l, or_within_r, meets_false, meets_false_intro, minus_within, in_or, in_minus, minus_out, minus_both}
use Rattle.steps.specs.Clause.{Assignment, decide, DSequent, no_dSequent, without}
use Rattle.steps.specs.State.{Env, State, undecided, redundant, live, recorded, counted}
use Rattle.steps.specs.Shape.{Recorded, Growing, Shape, OneOf, TurnShape}
use Rattle.steps.specs.Enter.{Turn.branch}
use Rattle.steps.proofs.Places.{decided_more, trues_other, one_within}
use Rattle.steps.proofs.ListLaws.{filter_member}
use Rattle.steps.proofs.ShapeLists.{growing_member, growing_filter}
use Rattle.steps.proofs.ShapeKeep.{undecided_within, undecided_not_decided, live_undecided, live_not_redundant, live_one}

-- a decision leaves one undecided variable fewer
pub undecided_fewer : (e : Env) (a : Assignment) (w : ℕ) (b : Bool) → undecided e (decide a w b) ≡ minus (undecided e a) w
unfolding undecided
undecided_fewer e a w b = rw (decided_more a w b) (minus_both (first_vars e.n) a.decided w)

-- the values of decisions that do not name the variable are those from before
values_other : (a : Assignment) (w : ℕ) (b : Bool) (r : ℕ) → meets r w ≡ false → bit_and r (decide a w b).trues ≡ bit_and r a.trues
values_other a w b r m =
    ext
    (bit_and r (decide a w b).trues)
    (bit_and r a.trues)
    (λ k. rw (has_and r (decide a w b).trues k, has_and r a.trues k) (go k (has r k) refl))
  where
    go : (k : ℕ) (p : Bool) → has r k ≡ p → (p && has (decide a w b).trues k) ≡ (p && has a.trues k)
    go k true h = trues_other a w b k (meets_false r w m k h)
    go k false h = refl

-- a D-sequent that does not name the variable is recorded below its decision
recorded_down :
    (e : Env) (a : Assignment) (w : ℕ) (b : Bool) (d : DSequent) → Recorded e a d → meets d.decisions.decided w ≡ false → meets d.redundant w ≡ false →
    Recorded e (decide a w b) d
recorded_down e a w b d h r k =
    record {
      on = rw (decided_more a w b) (within_trans d.decisions.decided a.decided (bit_or a.decided w) h.on (or_within_l a.decided w));
      values = h.values ∙ sym (values_other a w b d.decisions.decided r);
      off = rw (undecided_fewer e a w b) (λ j m. in_minus (undecided e a) w j (h.off j m) (meets_false d.redundant w k j m));
    }

-- and one below whose decisions do not name it is recorded above, and does not name it in its set
pub recorded_up :
    (e : Env) (a : Assignment) (w : ℕ) (b : Bool) (d : DSequent) → Recorded e (decide a w b) d → meets d.decisions.decided w ≡ false →
    Recorded e a d × (meets d.redundant w ≡ false)
recorded_up e a w b d h r =
    let on : Within d.decisions.decided (bit_or a.decided w) = rw (decided_more a w b) at h.on in
    let off : Within d.redundant (minus (undecided e a) w) = rw (undecided_fewer e a w b) at h.off in (
      record {
        on = λ k m. ⊎_elim (λ p. p) (λ p. both_ways (has w k) p (meets_false d.decisions.decided w r k m)) (in_or a.decided w k (on k m));
        values = h.values ∙ values_other a w b d.decisions.decided r;
        off = λ k m. minus_within (undecided e a) w k (off k m);
      },
      meets_false_intro d.redundant w (λ k m. minus_out (undecided e a) w k (off k m)),
    )

-- the D-sequents of a list that do not name the variable
pub without_member :
    (w : ℕ) (rs : List DSequent) (d : DSequent) → Memᴰ d (without w rs) → Memᴰ d rs × (meets d.decisions.decided w ≡ false)
unfolding without
without_member w rs d m =
    let h = filter_member (λ (r : DSequent). not (meets r.decisions.decided w)) rs d m in
    (h.0, not-true (meets d.decisions.decided w) h.1)

-- their sets grow as before
pub without_growing : (w : ℕ) (rs : List DSequent) → Growing 0 rs → Growing 0 (without w rs)
unfolding without
without_growing w rs g = growing_filter (λ (r : DSequent). not (meets r.decisions.decided w)) 0 rs g

-- the true variables are decided after a decision exactly where the others were, or are the new one
trues_after : (a : Assignment) (w : ℕ) (b : Bool) → Within a.trues (bit_or a.decided w) → Within (decide a w b).trues (decide a w b).decided
trues_after a w true t = or_within a.trues w (bit_or a.decided w) t (or_within_r a.decided w)
trues_after a w false t = t

-- and the other way
trues_before : (a : Assignment) (w : ℕ) (b : Bool) → Within (decide a w b).trues (decide a w b).decided → Within a.trues (bit_or a.decided w)
trues_before a w true t = within_trans a.trues (bit_or a.trues w) (bit_or a.decided w) (or_within_l a.trues w) t
trues_before a w false t = t

-- step 5: the first side is a point
pub shape_first :
    (e : Env) (a : Assignment) (w : ℕ) (b : Bool) (s : State) → Shape e a s → OneOf w (live e a s) → Shape e (decide a w b) (counted s)
shape_first e a w b s h one =
    record {
      trues = trues_after a w b (within_trans a.trues a.decided (bit_or a.decided w) h.trues (or_within_l a.decided w));
      decided = rw (decided_more a w b) (or_within a.decided w (first_vars e.n) h.decided (λ k m. undecided_within e a k (chosen k m)));
      clauses = h.clauses;
      records = λ d m. recorded_down e a w b d (h.records d m) (unnamed d m) (unstruck d m);
      growing = h.growing;
    }
  where
    chosen : (k : ℕ) → has w k ≡ true → has (undecided e a) k ≡ true
    chosen k m = live_undecided e a s k (one_within w (live e a s) one k m)

    unnamed : (d : DSequent) → Memᴰ d s.records → meets d.decisions.decided w ≡ false
    unnamed d m =
        meets_false_intro
        d.decisions.decided
        w
        (λ k p. refuted (has w k) (λ q. both_ways (has a.decided k) ((h.records d m).on k p) (undecided_not_decided e a k (chosen k q))))

    unstruck : (d : DSequent) → Memᴰ d s.records → meets d.redundant w ≡ false
    unstruck d m =
        meets_false_intro
        d.redundant
        w
        (λ k p.
        refuted
        (has w k)
        (λ q.
        both_ways
        (has (redundant s) k)
        (growing_member no_dSequent d s.records h.growing m k p)
        (live_not_redundant e a s k (one_within w (live e a s) one k q))))

-- a branching is over an undecided variable, and its first side is a point
pub shape_branch :
    (e : Env) (a : Assignment) (w : ℕ) (b : Bool) (s : State) → TurnShape e a (branch w b s) →
    OneOf w (undecided e a) × Shape e (decide a w b) (counted s)
shape_branch e a w b s h = (live_one e a s w h.1, shape_first e a w b s h.0 h.1)

-- step 6: the second side is a point
pub shape_second :
    (e : Env) (a : Assignment) (w : ℕ) (b : Bool) (s : State) → Shape e (decide a w b) s →
    Shape e (decide a w (not b)) (recorded (without w s.records) s)
shape_second e a w b s h =
    record {
      trues = trues_after a w (not b) (trues_before a w b h.trues);
      decided = rw (decided_more a w (not b)) (rw (decided_more a w b) at h.decided);
      clauses = h.clauses;
      records =
          λ d m.
          let left = without_member w s.records d m in
          let up = recorded_up e a w b d (h.records d left.0) left.1 in
          recorded_down e a w (not b) d up.0 left.1 up.1;
      growing = without_growing w s.records h.growing;
    }
