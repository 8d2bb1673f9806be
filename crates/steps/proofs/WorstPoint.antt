-- A clean point of a worst book: its list is empty, and its table has every full clause and beside them only clauses that the decisions satisfy. Of the full clauses that the
-- decisions do not satisfy there is one for each value of each undecided variable, so no variable passes the test of step 3; and while a variable is undecided no clause is
-- falsified. So a clean point branches, in the state as it is, or goes back up with it where nothing is undecided.
use mathlib.Core.Path.{◌≡◌, refl, sym, ap, ◌∙◌, subst}
use mathlib.Core.Bool.{Bool, true, false, not, not-not}
use mathlib.Core.List.{List, [], Memᴰ}
use mathlib.Core.Logic.{◌⊎◌, ⊎_elim}
use mathlib.Core.Option.{Option, some, none}
use Prim.Native.Nat.{ℕ, zero, suc, ◌<◌}
use borrow.Author.Tests.{not-true, lt-ltb}
use Rattle.words.specs.Words.{is_zero, has, minus, meets, first_vars, members, lowest, Within}
use Rattle.words.proofs.Truth.{both_ways, refuted, confirmed, and_right, clash}
use Rattle.words.proofs.Membership.{has_zero, has_first_vars}
use Rattle.words.proofs.Sets.{some_member, member_nonzero, meets_intro, meets_zero, minus_within, in_minus, minus_out}
use Rattle.steps.specs.Lists.{find, any}
use Rattle.steps.specs.Clause.{Clause, literals, vars, Assignment, satisfied, falsified, names, inactive, DSequent, last}
use Rattle.steps.specs.State.{Env, State, undecided, redundant, live}
use Rattle.steps.specs.Sweep.{monotone, Found, Found.nothing, Found.variable, first_monotone, sweep_on, sweep}
use Rattle.steps.specs.Enter.{Turn.back, Turn.branch, unit, swept, falsified_naming, conflict, enter}
use Rattle.steps.specs.Search.{is_empty}
use Rattle.steps.specs.Worst.{Full, forbidding}
use Rattle.steps.specs.Shape.{Shape, OneOf}
use Rattle.steps.proofs.Places.{one_has, one_of_members}
use Rattle.steps.proofs.ListLaws.{any_true, any_intro}
use Rattle.steps.proofs.ShapeKeep.{undecided_within, undecided_not_decided, decided_unless, live_undecided, live_one}
use Rattle.steps.proofs.ShapeSweep.{first_monotone_is}
use Rattle.steps.proofs.Models.{Agrees, literal_named}
use Rattle.steps.proofs.Literals.{literal_of_lem, satisfied_keeper, keeper_literal, Falsified, true_falsified, naming_some}
use Rattle.steps.proofs.Monotone.{monotone_some}
use Rattle.steps.proofs.Sweeping.{neither_active, sweep_tests}
use Rattle.steps.proofs.FullClauses.{forbidding_full, forbidden_unsatisfied}

-- the clause has, for every decision, the literal that the decision makes false
abbrev pub Forbids : Assignment → Clause → Type 0
Forbids a c = (k : ℕ) → has a.decided k ≡ true → has (literals (not (has a.trues k)) c) k ≡ true

-- a falsified clause has it for every variable that it names
pub falsified_literal : (a : Assignment) (c : Clause) → Falsified a c → (k : ℕ) → has (vars c) k ≡ true → has (literals (not (has a.trues k)) c) k ≡ true
falsified_literal a c f k m =
    let l = literal_of_lem c k m in
    let sign : not (has a.trues k) ≡ l.0 = ap not (f l.0 k l.1).1 ∙ not-not l.0 in
    subst (λ (b : Bool). has (literals b c) k ≡ true) (sym sign) l.1

-- no clause is both satisfied and falsified
pub kept_or_broken : (a : Assignment) (c : Clause) → satisfied a c ≡ true → Falsified a c → ⊥
unfolding falsified
kept_or_broken a c s f = both_ways (satisfied a c) s (not-true (satisfied a c) (and_right (is_zero (minus (vars c) a.decided)) (not (satisfied a c)) (true_falsified a c f)))

-- where each of a variable's literals is in a clause that is not inactive, the variable does not pass the test
pub test_fails :
    (a : Assignment) (s : State) (w : ℕ) →
    ((b : Bool) → (c : Clause) × Memᴰ c s.table × (meets (literals b c) w ≡ true) × (inactive a (redundant s) c ≡ false)) → monotone a s w ≡ none
test_fails a s w f = go (monotone a s w) refl
  where
    go : (o : Option ℕ) → monotone a s w ≡ o → o ≡ none
    go none e = refl
    go (some r) e =
        let by = monotone_some a s w r e in
        let x = f by.0 in
        both_ways (inactive a (redundant s) x.0) ((sweep_tests a s w by.0).0 (r, by.1) x.0 x.1 x.2) x.3

-- a clean point
pub record Clean (e : Env) (a : Assignment) (s : State) : Type 0 where
  pub shape : Shape e a s
  pub fresh : s.records ≡ []
  pub every : (c : Clause) → Full e.n c → Memᴰ c s.table
  pub only : (c : Clause) → Memᴰ c s.table → Full e.n c ⊎ (satisfied a c ≡ true)

module _ (e : Env) (a : Assignment) (s : State) (clean : Clean e a s) where
  -- nothing is struck
  none_struck : redundant s ≡ 0
  none_struck = ap (λ (rs : List DSequent). (last rs).redundant) clean.fresh

  -- the choice that has the decisions, and the other variables so that they do not have the literal b
  abbrev against : Bool → ℕ
  against true = a.trues
  against false = minus (first_vars e.n) (minus a.decided a.trues)

  against_within : (b : Bool) → Within (against b) (first_vars e.n)
  against_within true k h = clean.shape.decided k (clean.shape.trues k h)
  against_within false k h = minus_within (first_vars e.n) (minus a.decided a.trues) k h

  against_agrees : (b : Bool) → Agrees (against b) a
  against_agrees true k d = refl
  against_agrees false k d = go (has a.trues k) refl
    where
      go : (t : Bool) → has a.trues k ≡ t → has (against false) k ≡ t
      go true h =
          in_minus (first_vars e.n) (minus a.decided a.trues) k (clean.shape.decided k d)
          (refuted (has (minus a.decided a.trues) k) (λ m. both_ways (has a.trues k) h (minus_out a.decided a.trues k m)))
      go false h =
          refuted (has (against false) k)
          (λ m. both_ways (has (minus a.decided a.trues) k) (in_minus a.decided a.trues k d h) (minus_out (first_vars e.n) (minus a.decided a.trues) k m))

  -- so the clause that it breaks has the literal b of every undecided variable
  against_literal : (b : Bool) (k : ℕ) → has (undecided e a) k ≡ true → has (literals b (forbidding e.n (against b))) k ≡ true
  unfolding forbidding
  against_literal true k u =
      in_minus (first_vars e.n) a.trues k (undecided_within e a k u)
      (refuted (has a.trues k) (λ t. both_ways (has a.decided k) (clean.shape.trues k t) (undecided_not_decided e a k u)))
  against_literal false k u =
      in_minus (first_vars e.n) (minus a.decided a.trues) k (undecided_within e a k u)
      (refuted (has (minus a.decided a.trues) k) (λ m. both_ways (has a.decided k) (minus_within a.decided a.trues k m) (undecided_not_decided e a k u)))

  -- no undecided variable passes the test
  quiet : (w : ℕ) → OneOf w (undecided e a) → monotone a s w ≡ none
  unfolding names
  quiet w one =
      test_fails a s w
      (λ b.
      let c = forbidding e.n (against b) in
      let unsatisfied = forbidden_unsatisfied e.n (against b) a clean.shape.trues (against_agrees b) in (
        c,
        clean.every c (forbidding_full e.n (against b) (against_within b)),
        meets_intro (literals b c) w one.var (against_literal b one.var one.member) (one_has w (undecided e a) one),
        neither_active a (redundant s) c unsatisfied (rw none_struck (meets_zero (vars c))),
      ))

  -- so the sweep finds nothing
  quiet_sweep : (k : ℕ) → sweep e a k s ≡ s
  unfolding sweep
  quiet_sweep zero = refl
  quiet_sweep (suc k) = go (first_monotone a s (members (live e a s))) refl
    where
      go : (f : Found) → first_monotone a s (members (live e a s)) ≡ f → sweep_on a (sweep e a k) s f ≡ s
      go nothing h = refl
      go (variable w r) h =
          let found = first_monotone_is a s (members (live e a s)) w r h in
          let fails = quiet w (live_one e a s w (one_of_members (live e a s) w found.0)) in
          let passes = found.1 in
          clash cc

  -- step 1 finds nothing either, where there are options
  pub none_empty : 0 < e.n → any is_empty s.table ≡ false
  none_empty positive = refuted (any is_empty s.table) (λ h. let x = any_true is_empty s.table h in named x.0 x.2 (clean.only x.0 x.1))
    where
      named : (c : Clause) → is_empty c ≡ true → Full e.n c ⊎ (satisfied a c ≡ true) → ⊥
      named c z p =
          ⊎_elim
          (λ f. both_ways (is_zero (vars c)) z (rw f.every (member_nonzero (first_vars e.n) 0 (has_first_vars e.n 0 ∙ lt-ltb 0 e.n positive))))
          (λ kept.
          let j = satisfied_keeper a c kept in
          let l = keeper_literal a c j.0 j.1 in
          both_ways (is_zero (vars c)) z (member_nonzero (vars c) j.0 (literal_named l.0 c j.0 l.1)))
          p

  -- while a variable is undecided no clause is falsified
  pub none_broken : (k : ℕ) → has (undecided e a) k ≡ true → (c : Clause) → Memᴰ c s.table → Falsified a c → ⊥
  none_broken k u c m f =
      ⊎_elim
      (λ full.
      let l = literal_of_lem c k (rw full.every (undecided_within e a k u)) in
      both_ways (has a.decided k) (f l.0 k l.1).0 (undecided_not_decided e a k u))
      (λ kept. kept_or_broken a c kept f)
      (clean.only c m)

  -- steps 4 and 5 then branch
  swept_branches : is_zero (live e a s) ≡ false → (w : ℕ) × (b : Bool) × (swept e a s ≡ branch w b s)
  unfolding swept
  swept_branches z = go (find (unit a (redundant s)) s.table) refl
    where
      go : (o : Option Clause) → find (unit a (redundant s)) s.table ≡ o → (w : ℕ) × (b : Bool) × (swept e a s ≡ branch w b s)
      go none f = (lowest (live e a s), false, rw (z, f, swept) refl)
      go (some c) f = (minus (vars c) a.decided, not (is_zero (minus c.pos a.decided)), rw (z, f, swept) refl)

  -- and so do steps 2 to 5, in the state as it is
  pub clean_branches : (k : ℕ) → has (undecided e a) k ≡ true → (v : ℕ) → (w : ℕ) × (b : Bool) × (enter e a v s ≡ branch w b s)
  unfolding enter live
  clean_branches k u v = go (falsified_naming v a s.table) refl
    where
      alive : is_zero (live e a s) ≡ false
      alive = member_nonzero (live e a s) k (in_minus (undecided e a) (redundant s) k u (rw none_struck (has_zero k)))

      go : (o : Option Clause) → falsified_naming v a s.table ≡ o → (w : ℕ) × (b : Bool) × (conflict e a s o ≡ branch w b s)
      go (some c) f = let found = naming_some v a s.table c f in absurd (none_broken k u c found.0 found.1)
      go none f = rw (quiet_sweep e.n) (swept_branches alive)

  -- where nothing is undecided, the clause that the decisions break is falsified
  pub own_broken : is_zero (undecided e a) ≡ true → (c : Clause) × Memᴰ c s.table × Falsified a c × Forbids a c
  unfolding forbidding
  own_broken z =
      let c = forbidding e.n a.trues in
      let full = forbidding_full e.n a.trues (against_within true) in
      (c, clean.every c full, broken, λ k d. falsified_literal a c broken k (rw full.every (clean.shape.decided k d)))
    where
      all_decided : (k : ℕ) → has (first_vars e.n) k ≡ true → has a.decided k ≡ true
      all_decided k h = decided_unless e a k h (refuted (has (undecided e a) k) (λ u. both_ways (is_zero (undecided e a)) z (member_nonzero (undecided e a) k u)))

      broken : Falsified a (forbidding e.n a.trues)
      broken true k l = (all_decided k (minus_within (first_vars e.n) a.trues k l), minus_out (first_vars e.n) a.trues k l)
      broken false k l = (clean.shape.trues k l, l)

  -- and the point goes back up
  pub clean_back : is_zero (undecided e a) ≡ true → (v : ℕ) → enter e a v s ≡ back s
  unfolding enter swept
  clean_back z v = go (falsified_naming v a s.table) refl
    where
      dead : is_zero (live e a s) ≡ true
      dead =
          confirmed (is_zero (live e a s))
          (λ f.
          let m = some_member (live e a s) f in
          both_ways (is_zero (undecided e a)) z (member_nonzero (undecided e a) m.0 (live_undecided e a s m.0 m.1)))

      go : (o : Option Clause) → falsified_naming v a s.table ≡ o → conflict e a s o ≡ back s
      go (some c) f = rw (dead, conflict) refl
      go none f =
          let own = own_broken z in
          rw (quiet_sweep e.n) (rw (dead, any_intro (falsified a) s.table own.0 own.1 (true_falsified a own.0 own.2), swept) refl)
