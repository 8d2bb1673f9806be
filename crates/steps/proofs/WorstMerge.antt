-- Two clean sides come together. The clauses added on a side have the literal that the side's value of w makes false, and so the other side satisfies them. Of all clauses the one
-- that forbids a side's decisions is the only one that the side falsifies. After the join both of these are in play, so w does not pass the test, and their resolvent forbids the
-- decisions here. It is new: a clause that covers it would be falsified here, where w is undecided, and none is.
use mathlib.Core.Path.{◌≡◌, sym, ap, ◌∙◌, subst}
use mathlib.Core.Bool.{Bool, true, not, not-not}
use mathlib.Core.List.Memᴰ
use mathlib.Core.List.{List, ◌++◌, Memᴰ}
use mathlib.Core.Logic.{◌⊎◌, inl, inr, ⊎_elim}
use mathlib.Core.Option.{none}
use Prim.Native.Nat.{ℕ}
use borrow.Author.Tests.{not-true}
use Rattle.words.specs.Words.{has, minus, meets, first_vars, Within}
use Rattle.words.proofs.Truth.{both_ways, refuted, confirmed, not_same, and_left, and_right, and_both}
use Rattle.words.proofs.Sets.{or_within_l, or_within_r, in_or}
use Rattle.steps.specs.Clause.{Clause, literals, Assignment, decide, satisfied, falsified, names, inactive}
use Rattle.steps.specs.State.{Env, State, undecided, redundant}
use Rattle.steps.specs.Sweep.{monotone}
use Rattle.steps.specs.Merge.{covers, resolvent, learn, merge_on}
use Rattle.steps.specs.Shape.{Shape, OneOf}
use Rattle.steps.proofs.Places.{decided_more, trues_other, one_has, one_within}
use Rattle.steps.proofs.ShapeKeep.{undecided_within, undecided_not_decided, undecided_free}
use Rattle.steps.proofs.ShapeSweep.{keepers_within}
use Rattle.steps.proofs.Literals.{satisfied_keeper, keeper_literal, unsatisfied_literal, names_intro, Falsified, true_falsified, naming_some}
use Rattle.steps.proofs.Resolvent.{literal_resolvent, resolvent_falsified}
use Rattle.steps.proofs.Covers.{none_cover, covers_falsified}
use Rattle.steps.proofs.SoundJoin.{decided_value}
use Rattle.steps.proofs.Parents.{same_clauses, parent}
use Rattle.steps.proofs.WorstPoint.{Forbids, falsified_literal, kept_or_broken, test_fails, Clean, none_broken}

-- the clause is in the table, the decisions falsify it, and it has a literal for each of them
pub record Own (a : Assignment) (t : List Clause) : Type 0 where
  pub clause : Clause
  pub member : Memᴰ clause t
  pub broken : Falsified a clause
  pub forbids : Forbids a clause

-- ---- the two sides of a branching over w

module _ (e : Env) (a : Assignment) (trues : Within a.trues a.decided) (w : ℕ) (one : OneOf w (undecided e a)) where
  -- a side decides w
  pub w_decided : (b : Bool) → has (decide a w b).decided one.var ≡ true
  w_decided b = rw (decided_more a w b) (or_within_r a.decided w one.var (one_has w (undecided e a) one))

  -- and keeps what was decided
  still_decided : (b : Bool) (k : ℕ) → has a.decided k ≡ true → has (decide a w b).decided k ≡ true
  still_decided b k d = rw (decided_more a w b) (or_within_l a.decided w k d)

  -- w has the side's value
  w_value : (b : Bool) → has (decide a w b).trues one.var ≡ b
  w_value b = decided_value e a w one trues b one.var (one_has w (undecided e a) one)

  -- what was satisfied is satisfied on both sides
  pub still_kept : (b : Bool) (c : Clause) → satisfied a c ≡ true → satisfied (decide a w b) c ≡ true
  still_kept b c s =
      let j = satisfied_keeper a c s in
      let l = keeper_literal a c j.0 j.1 in
      let d = keepers_within a c trues j.0 j.1 in
      confirmed (satisfied (decide a w b) c)
      (λ f.
      not_same l.0
      (sym l.2 ∙ sym (trues_other a w b j.0 (undecided_free e a w one j.0 d)) ∙ unsatisfied_literal (decide a w b) c f l.0 j.0 l.1 (still_decided b j.0 d)))

  -- a clause that forbids a side's decisions has the literal of w that the side makes false
  w_literal : (b : Bool) (c : Clause) → Forbids (decide a w b) c → has (literals (not b) c) one.var ≡ true
  w_literal b c f = subst (λ (p : Bool). has (literals (not p) c) one.var ≡ true) (w_value b) (f one.var (w_decided b))

  -- so the other side satisfies it
  pub other_keeps : (b : Bool) (c : Clause) → Forbids (decide a w b) c → satisfied (decide a w (not b)) c ≡ true
  other_keeps b c f =
      confirmed (satisfied (decide a w (not b)) c)
      (λ s. not_same (not b) (sym (w_value (not b)) ∙ unsatisfied_literal (decide a w (not b)) c s (not b) one.var (w_literal b c f) (w_decided (not b))))

  -- and only that side may falsify it
  same_side : (b side : Bool) (c : Clause) → Forbids (decide a w b) c → Falsified (decide a w side) c → b ≡ side
  same_side b side c f g = sym (not-not b) ∙ sym (g (not b) one.var (w_literal b c f)).1 ∙ w_value side

  -- it is not falsified before
  not_before : (b : Bool) (c : Clause) → Forbids (decide a w b) c → Falsified a c → ⊥
  not_before b c f g =
      both_ways (has a.decided one.var) (g (not b) one.var (w_literal b c f)).0 (undecided_not_decided e a one.var one.member)

  -- and forbids the decisions before
  pub forbids_before : (b : Bool) (c : Clause) → Forbids (decide a w b) c → Forbids a c
  forbids_before b c f k d =
      subst (λ (p : Bool). has (literals (not p) c) k ≡ true) (trues_other a w b k (undecided_free e a w one k d)) (f k (still_decided b k d))

-- ---- coming together

-- from a clean point, where both sides have added clauses that forbid their decisions, and each has its own
module _ (e : Env) (a : Assignment) (s : State) (clean : Clean e a s) (w : ℕ) (one : OneOf w (undecided e a)) (more : List Clause)
    (sides : (c : Clause) → Memᴰ c more → (b : Bool) × Forbids (decide a w b) c) (j : State) (table : j.table ≡ s.table ++ more) (shape : Shape e a j)
    (others : redundant j ≡ minus (undecided e a) w) (own : (b : Bool) → Own (decide a w b) j.table) where
  -- a clause of the table was there before, or was added on a side
  before_or_side : (c : Clause) → Memᴰ c j.table → Memᴰ c s.table ⊎ ((b : Bool) × Forbids (decide a w b) c)
  before_or_side c m = ⊎_elim inl (λ i. inr (sides c i)) (Memᴰ.append_cases s.table (rw table at m))

  -- w does not pass the test: a side's own clause is in play with the literal of w that the side makes false
  w_fails : monotone a j w ≡ none
  w_fails =
      test_fails a j w
      (λ b.
      let x = own (not b) in
      let c = x.clause in
      let literal = w_literal e a clean.shape.trues w one (not b) c x.forbids in
      let plays =
      same_clauses e a w one j shape others (not b) c x.member ∙
      and_both (names w c) (falsified (decide a w (not b)) c) (names_intro w c (not (not b)) one.var literal (one_has w (undecided e a) one)) (true_falsified (decide a w (not b)) c x.broken) in (
        c,
        x.member,
        subst (λ (p : Bool). meets (literals p c) w ≡ true) (not-not b) (and_right (not (inactive a (redundant j) c)) (meets (literals (not (not b)) c) w) plays),
        not-true (inactive a (redundant j) c) (and_left (not (inactive a (redundant j) c)) (meets (literals (not (not b)) c) w) plays),
      ))

  -- a clause of the table that a side falsifies forbids the side's decisions
  broken_forbids : (b : Bool) (c : Clause) → Memᴰ c j.table → Falsified (decide a w b) c → Forbids (decide a w b) c
  broken_forbids b c m f =
      ⊎_elim
      (λ i.
      ⊎_elim
      (λ full k d. falsified_literal (decide a w b) c f k (rw full.every (named k d)))
      (λ kept. absurd (kept_or_broken (decide a w b) c (still_kept e a clean.shape.trues w one b c kept) f))
      (clean.only c i))
      (λ x. subst (λ (p : Bool). Forbids (decide a w p) c) (same_side e a clean.shape.trues w one x.0 b c x.1 f) x.1)
      (before_or_side c m)
    where
      named : (k : ℕ) → has (decide a w b).decided k ≡ true → has (first_vars e.n) k ≡ true
      named k d =
          ⊎_elim (clean.shape.decided k) (λ i. undecided_within e a k (one_within w (undecided e a) one k i))
          (in_or a.decided w k (ap (λ (x : ℕ). has x k) (sym (decided_more a w b)) ∙ d))

  -- no clause is falsified here
  none_broken_here : (c : Clause) → Memᴰ c j.table → Falsified a c → ⊥
  none_broken_here c m f =
      ⊎_elim
      (λ i. none_broken e a s clean one.var one.member c i f)
      (λ x. not_before e a clean.shape.trues w one x.0 c x.1 f)
      (before_or_side c m)

  -- so step 7 adds a clause that forbids the decisions here, if there is a place
  pub comes_together : (b : Bool) → (c : Clause) × Falsified a c × Forbids a c × (merge_on e a w b j (monotone a j w) ≡ learn e a j c none)
  comes_together b =
      let p = parent e a w one j shape others w_fails b in
      let q = parent e a w one j shape others w_fails (not b) in
      let f = naming_some w (decide a w b) j.table p.0 p.1 in
      let g = naming_some w (decide a w (not b)) j.table q.0 q.1 in
      let c = resolvent w p.0 q.0 in
      let broken = resolvent_falsified a w b p.0 q.0 f.1 g.1 in
      let before = forbids_before e a clean.shape.trues w one b p.0 (broken_forbids b p.0 f.0 f.1) in (
        c,
        broken,
        λ k d. literal_resolvent w p.0 q.0 (not (has a.trues k)) k (undecided_free e a w one k d) (inl (before k d)),
        rw (w_fails, p.1, q.1)
            (ap (learn e a j c) (none_cover c j.table (λ d m. refuted (covers d c) (λ h. none_broken_here d m (covers_falsified a d c h broken))))),
      )
