-- The two clauses that step 7 resolves exist. Every point that a run reaches has its shape and no more undecided variables than the search may go
-- deeper, by induction over how it is reached. So both sides leave points, and after the join every undecided variable but the branching's is
-- redundant. Where the test fails by a sign, an active clause with that literal has only decided variables beside, and the other side falsifies it.
use mathlib.Core.Path.{◌≡◌, refl, sym, ap, ◌∙◌, subst}
use mathlib.Core.Logic.{⊎_elim}
use mathlib.Core.Bool.{Bool, true, false, not, ◌&&◌, not-not}
use mathlib.Core.List.{List, Memᴰ}
use mathlib.Core.Option.{Option, some, none}
use Prim.Native.Nat.{ℕ, ◌≤◌}
use native.Mathlib.Omega.{arith}
use borrow.Author.Tests.{not-true}
use lib.Count.{ones}
use Rattle.words.specs.Words.{has, minus, meets, Within}
use Rattle.words.proofs.Truth.{both_ways, refuted, and_left, and_right, and_both, or_neither, iff, same_or_not}
use Rattle.words.proofs.Sets.{meets_intro, meets_true, or_within_l, or_within_r, minus_within, minus_out, in_or, in_minus}
use Rattle.steps.specs.Clause.{Clause, literals, vars, Assignment, decide, keepers, satisfied, falsified, names, inactive, last}
use Rattle.steps.specs.Lists.{find}
use Rattle.steps.specs.Notes.{in_play}
use Rattle.steps.specs.State.{Env, State, Side.up, undecided, redundant, counted}
use Rattle.steps.specs.Sweep.{monotone}
use Rattle.steps.specs.Enter.{Turn.branch, falsified_naming}
use Rattle.steps.specs.Merge.{join}
use Rattle.steps.specs.Search.{search}
use Rattle.steps.specs.Run.{given, no_decisions}
use Rattle.steps.specs.Reached.{Branches, Reached, Reached.starting, Reached.first, Reached.second}
use Rattle.steps.specs.Shape.{AllProper, Proper, Shape, OneOf, TurnShape, SideShape}
use Rattle.steps.specs.Demands.{NeverDeeper, ParentsExist}
use Rattle.steps.proofs.Places.{decided_more, trues_other, one_is}
use Rattle.steps.proofs.ShapeKeep.{last_recorded, live_one, undecided_not_decided, undecided_free, decided_unless}
use Rattle.steps.proofs.ShapeSweep.{keepers_within}
use Rattle.steps.proofs.ShapeEnter.{shape_enter}
use Rattle.steps.proofs.ShapeSides.{shape_second, shape_branch}
use Rattle.steps.proofs.ShapeMerge.{join_redundant, shape_join}
use Rattle.steps.proofs.ShapeSearch.{shape_search}
use Rattle.steps.proofs.ShapeStart.{given_proper, shape_root}
use Rattle.steps.proofs.Nesting.{undecided_one_fewer, undecided_at_most_n}
use Rattle.steps.proofs.Models.{literal_named}
use Rattle.steps.proofs.Literals.{literal_of_lem, names_false, names_intro, one_sign, keeper_satisfies, satisfied_keeper, unsatisfied_literal, Falsified, falsified_true, falsified_never, true_falsified, naming_none}
use Rattle.steps.proofs.ListLaws.{find_same}
use Rattle.steps.proofs.Monotone.{Active, active, monotone_none}
use Rattle.steps.proofs.Sweeping.{neither_active}
use Rattle.steps.proofs.SoundJoin.{decided_value}

-- ---- the points of a run

-- a branching at a point is over an undecided variable, and its first side is a point
branches_shape :
    (e : Env) {a : Assignment} {v : ℕ} {s : State} {w : ℕ} {b : Bool} {u : State} → Shape e a s → Branches e a v s w b u →
    OneOf w (undecided e a) × Shape e (decide a w b) (counted u)
branches_shape e {a} {v} {s} {w} {b} {u} h x = shape_branch e a w b u (subst (TurnShape e a) x.turn (shape_enter e a v s h))

-- a search that goes back up from a point leaves one
back_shape : (e : Env) (k : ℕ) (a : Assignment) (v : ℕ) (s x : State) → Shape e a s → search e k a v s ≡ up x → Shape e a x
back_shape e k a v s x h back = subst (SideShape e a) back (shape_search e k a v s h)

-- a reached point has its shape, and the search may go as deep as there are undecided variables
reached_shape :
    (e : Env) (t : List Clause) → AllProper e.n t → {k : ℕ} {a : Assignment} {v : ℕ} {s : State} → Reached e t k a v s →
    Shape e a s × (ones (undecided e a) ≤ k)
reached_shape e t proper starting = (shape_root e t proper, undecided_at_most_n e no_decisions)
reached_shape e t proper (first {a} {w} {b} r x) =
    let above = reached_shape e t proper r in
    let side = branches_shape e above.0 x in
    (side.1, omega (arith, undecided_one_fewer e a w b side.0))
reached_shape e t proper (second {k} {a} {w} {b} {u} {x = y} r x back) =
    let above = reached_shape e t proper r in
    let side = branches_shape e above.0 x in
    (shape_second e a w b y (back_shape e k (decide a w b) 0 (counted u) y side.1 back), omega (arith, undecided_one_fewer e a w (not b) side.0))

-- where nothing is undecided there is no branching
pub never_deeper : NeverDeeper
never_deeper n book o i allowance capacity a v s r w b u turn =
    let e : Env = record { n = n; allowance = allowance; capacity = capacity } in
    let point = reached_shape e (given book o) (given_proper n book o i) r in
    let next : TurnShape e a (branch w b u) = rw turn at (shape_enter e a v s point.0) in
    omega (arith, undecided_one_fewer e a w b (live_one e a u w next.1))

-- ---- the parents

-- a clause that is not inactive is neither satisfied nor does it name a redundant variable
neither : (a : Assignment) (k : ℕ) (c : Clause) → inactive a k c ≡ false → (satisfied a c ≡ false) × (names k c ≡ false)
unfolding inactive
neither a k c h = or_neither (satisfied a c) (names k c) h

-- a named variable has a literal
named_literal : (u : ℕ) (c : Clause) → names u c ≡ true → (σ : Bool) × (k : ℕ) × (has (literals σ c) k ≡ true) × (has u k ≡ true)
unfolding names
named_literal u c h = let m = meets_true (vars c) u h in let l = literal_of_lem c m.0 m.1 in (l.0, m.0, l.1, m.2)

module _ (e : Env) (a : Assignment) (w : ℕ) (one : OneOf w (undecided e a)) (trues : Within a.trues a.decided) where
  -- an active clause with the literal of w and sign b is falsified on the side that makes the literal false
  active_falsified :
      (t : List Clause) → ((c : Clause) → Memᴰ c t → Proper e.n c) → (b : Bool) (x : Active b w a (minus (undecided e a) w) t) →
      (names w x.clause ≡ true) × Falsified (decide a w (not b)) x.clause
  active_falsified t proper b x =
      let c = x.clause in
      let j = meets_true (literals b c) w x.literal in
      (names_intro w c b j.0 j.1 j.2, λ σ k l. false_literal j.0 j.1 j.2 σ k l (has w k) refl)
    where
      false_literal : (j : ℕ) → has (literals b x.clause) j ≡ true → has w j ≡ true → (σ : Bool) (k : ℕ) → has (literals σ x.clause) k ≡ true
          → (p : Bool) → has w k ≡ p → (has (decide a w (not b)).decided k ≡ true) × (has (decide a w (not b)).trues k ≡ not σ)
      false_literal j m h σ k l true f =
          let is : j ≡ k = sym (one_is w (undecided e a) one j h) ∙ one_is w (undecided e a) one k f in
          let only : σ ≡ b =
          ⊎_elim (λ p. p) (λ p. absurd (one_sign e.n x.clause (proper x.clause x.member) b k (rw is at m) (rw p at l))) (same_or_not σ b) in
          (rw (decided_more a w (not b)) (or_within_r a.decided w k f), decided_value e a w one trues (not b) k f ∙ ap not (sym only))
      false_literal j m h σ k l false f =
          let d : has a.decided k ≡ true =
          decided_unless e a k ((proper x.clause x.member).named k (literal_named σ x.clause k l))
          (refuted (has (undecided e a) k)
          (λ u. both_ways (has (minus (undecided e a) w) k) (in_minus (undecided e a) w k u f) (names_false (minus (undecided e a) w) x.clause x.unnamed σ k l))) in
          (rw (decided_more a w (not b)) (or_within_l a.decided w k d), trues_other a w (not b) k f ∙ unsatisfied_literal a x.clause x.unsatisfied σ k l d)

module _ (e : Env) (a : Assignment) (w : ℕ) (one : OneOf w (undecided e a)) (j : State) (shape : Shape e a j) (others : redundant j ≡ minus (undecided e a) w) where
  -- a clause in play with the literal that w's value b makes false is one that names w and that this value falsifies, and the other way round
  pub same_clauses : (b : Bool) (c : Clause) → Memᴰ c j.table → in_play (record { var = w; sign = not b }) a (redundant j) c ≡ (names w c && falsified (decide a w b) c)
  same_clauses b c m = iff (in_play (record { var = w; sign = not b }) a (redundant j) c) (names w c && falsified (decide a w b) c) falsified_here playing
    where
      falsified_here : in_play (record { var = w; sign = not b }) a (redundant j) c ≡ true → (names w c && falsified (decide a w b) c) ≡ true
      falsified_here h =
          let out = not-true (inactive a (redundant j) c) (and_left (not (inactive a (redundant j) c)) (meets (literals (not b) c) w) h) in
          let x : Active (not b) w a (minus (undecided e a) w) j.table =
          record {
            clause = c;
            member = m;
            literal = and_right (not (inactive a (redundant j) c)) (meets (literals (not b) c) w) h;
            unnamed = ap (λ (k : ℕ). names k c) (sym others) ∙ (neither a (redundant j) c out).1;
            unsatisfied = (neither a (redundant j) c out).0;
          } in
          let f = active_falsified e a w one shape.trues j.table shape.clauses (not b) x in
          and_both (names w c) (falsified (decide a w b) c) f.0 (true_falsified (decide a w b) c (subst (λ (p : Bool). Falsified (decide a w p) c) (not-not b) f.1))

      playing : (names w c && falsified (decide a w b) c) ≡ true → in_play (record { var = w; sign = not b }) a (redundant j) c ≡ true
      playing h =
          let f = falsified_true (decide a w b) c (and_right (names w c) (falsified (decide a w b) c) h) in
          let l = named_literal w c (and_left (names w c) (falsified (decide a w b) c) h) in
          let value : b ≡ not l.0 = sym (decided_value e a w one shape.trues b l.1 l.3) ∙ (f l.0 l.1 l.2).1 in
          let sign : l.0 ≡ not b = sym (not-not l.0) ∙ ap not (sym value) in
          let unsatisfied : satisfied a c ≡ false = refuted (satisfied a c) (λ s. still_kept f (satisfied_keeper a c s)) in
          let unnamed : names (redundant j) c ≡ false =
          refuted (names (redundant j) c) (λ n. not_struck f (named_literal (minus (undecided e a) w) c (ap (λ (k : ℕ). names k c) (sym others) ∙ n))) in
          and_both (not (inactive a (redundant j) c)) (meets (literals (not b) c) w)
          (ap not (neither_active a (redundant j) c unsatisfied unnamed))
          (meets_intro (literals (not b) c) w l.1 (ap (λ (p : Bool). has (literals p c) l.1) (sym sign) ∙ l.2) l.3)
        where
          -- a decision that satisfies the clause at a satisfies it on the side
          still_kept : Falsified (decide a w b) c → (k : ℕ) × (has (keepers a c) k ≡ true) → ⊥
          still_kept f (k, h) =
              falsified_never (decide a w b).trues (decide a w b) c f (λ i g. refl)
              (keeper_satisfies (decide a w b).trues a c k h (trues_other a w b k (undecided_free e a w one k (keepers_within a c shape.trues k h))))

          -- a variable but w that is undecided at a is so on the side
          not_struck : Falsified (decide a w b) c → (σ : Bool) × (k : ℕ) × (has (literals σ c) k ≡ true) × (has (minus (undecided e a) w) k ≡ true) → ⊥
          not_struck f (σ, k, l, u) =
              ⊎_elim
              (λ d. both_ways (has a.decided k) d (undecided_not_decided e a k (minus_within (undecided e a) w k u)))
              (λ o. both_ways (has w k) o (minus_out (undecided e a) w k u))
              (in_or a.decided w k (ap (λ (x : ℕ). has x k) (sym (decided_more a w b)) ∙ (f σ k l).0))

  -- so they are the two sides' parents
  pub parent_found : (b : Bool) → find (in_play (record { var = w; sign = not b }) a (redundant j)) j.table ≡ falsified_naming w (decide a w b) j.table
  unfolding falsified_naming
  parent_found b = find_same _ _ j.table (same_clauses b)

  -- where the test fails, the side with w's value b falsifies a clause that names w
  falsified_there :
      monotone a j w ≡ none → (b : Bool) → (c : Clause) × Memᴰ c j.table × (names w c ≡ true) × Falsified (decide a w b) c
  falsified_there test b =
      let r = (last j.records).decisions.decided in
      let x : Active (not b) w a (minus (undecided e a) w) j.table =
      rw others at (active (not b) w a (redundant j) r j.table (monotone_none a j w test (not b))) in
      let f = active_falsified e a w one shape.trues j.table shape.clauses (not b) x in
      (x.clause, x.member, f.0, subst (λ (p : Bool). Falsified (decide a w p) x.clause) (not-not b) f.1)

  -- so one is found
  pub parent : monotone a j w ≡ none → (b : Bool) → (c : Clause) × (falsified_naming w (decide a w b) j.table ≡ some c)
  parent test b = go (falsified_naming w (decide a w b) j.table) refl
    where
      go : (o : Option Clause) → falsified_naming w (decide a w b) j.table ≡ o → (c : Clause) × (falsified_naming w (decide a w b) j.table ≡ some c)
      go none f = let x = falsified_there test b in absurd (naming_none w (decide a w b) j.table f x.0 x.1 x.2 x.3)
      go (some c) f = (c, f)

-- both exist wherever the test fails in a run
pub parents_exist : ParentsExist
parents_exist n book o i allowance capacity a w b x y m =
    let e : Env = record { n = n; allowance = allowance; capacity = capacity } in
    let r = (last x.records).decisions.decided in
    let point = (reached_shape e (given book o) (given_proper n book o i) m.reached).0 in
    let side = branches_shape e point m.branches in
    let before = back_shape e m.depth (decide a w b) 0 (counted m.u) x side.1 m.back_first in
    let after = back_shape e m.depth (decide a w (not b)) w _ y (shape_second e a w b x before) m.back_second in
    parent e a w side.0 (join e a w r y)
    (shape_join e a w b r y after point.trues (last_recorded e (decide a w b) x before).on)
    (join_redundant e a w r y)
