-- The planner can force it by turns exactly if he has a way of answering. The way is to fit an option where leaving it out does not serve: a choice that comes out by it
-- stays, from option to option, where the planner can force it, and at the last option that is to keep every rule and wish. The other way round, a way that always wins
-- stays a way that wins whatever the buyer says next, so what is reached by it can be forced, by induction on how many options are left.
use mathlib.Core.Path.{◌≡◌, refl, sym, ap, subst, ◌∙◌}
use mathlib.Core.Bool.{Bool, true, false, not, ◌&&◌, ◌||◌, or-true}
use mathlib.Core.List.{List}
use mathlib.Core.Logic.{◌≢◌, ◌↔◌}
use Prim.Native.Nat.{ℕ, zero, suc, ◌+◌, ◌^◌, ◌≤◌, ◌<◌}
use native.Mathlib.Nat.{le_refl}
use native.Mathlib.Decide.{dec_lt, ℕ_discrete, le_ind}
use native.Mathlib.Omega.{arith}
use lib.Bits.{bit_or, or_comm}
use lib.Count.{ones}
use Rattle.words.specs.Words.{odd, has, minus, first_vars, members, Within}
use Rattle.words.proofs.Truth.{both_ways, and_left, and_right, and_both}
use Rattle.words.proofs.Membership.{has_or, ext}
use Rattle.words.proofs.Sets.{within_refl, within_antisym, and_within_l, and_within_r, and_whole, bit_within, or_within_l, or_within, within_lt, lt_within}
use Rattle.steps.specs.Clause.{Clause}
use Rattle.steps.specs.Meaning.{Builds}
use Rattle.order.specs.Order.{Order, complete, free}
use Rattle.turns.specs.Turns.{settled, wins, forces}
use Rattle.turns.specs.Meaning.{Free, lower, Planners, Way, ComesOut, CanForceFrom}
use Rattle.turns.proofs.Listing.{is_free}
use Rattle.turns.proofs.Turning.{wins_builds, settled_within}
use Rattle.turns.proofs.Rounds.{below, below_lt, lower_next, settled_other, settled_at, settled_lower, turn_at, forced_from, passed, buyers, planners, ended}

-- ---- the free options of an order

pub not_free : (n : ℕ) (o : Order) (k : ℕ) → has (free n o) k ≡ false → Free n o k → ⊥
not_free n o k h f = both_ways (has (free n o) k) ((is_free n o k).1 f) h

-- a choice among n options has none above them
pub option_of : (n x k : ℕ) → x < 2 ^ n → has x k ≡ true → k < n
option_of n x k h m = below_lt n k (lt_within n x h k m)

-- ---- a point of the turns

-- y has what is fitted once the options below option j + 1 are settled
pub record SoFar (n : ℕ) (o : Order) (j y : ℕ) : Type 0 where
  pub choice : y < 2 ^ n
  pub fixed : (k : ℕ) → k < n → (Free n o k → ⊥) → has y k ≡ has (complete o).pos k
  pub later : (k : ℕ) → j ≤ k → Free n o k → has y k ≡ false

-- a free option is settled, and those before it are left out
pub settle : (n : ℕ) (o : Order) (j k y : ℕ) (b : Bool) → SoFar n o j y → Free n o k → j ≤ k → SoFar n o (suc k) (settled b (2 ^ k) y)
settle n o j k y b s f low =
    record {
      choice = within_lt n _ (settled_within b (2 ^ k) y (first_vars n) (bit_within (first_vars n) k (below n k f.option)) (lt_within n y s.choice));
      fixed = λ i l g. settled_other b k y i (λ e. g (subst (Free n o) (sym e) f)) ∙ s.fixed i l g;
      later = λ i l g. settled_other b k y i (omega arith) ∙ s.later i (omega arith) g;
    }

-- ---- a way of answering

-- what is within a word adds nothing to it
adds_nothing : (a b : ℕ) → Within b a → bit_or a b ≡ a
adds_nothing a b h = within_antisym (bit_or a b) a (or_within a b a (within_refl a) h) (or_within_l a b)

-- to settle an option and to add a word
or_settled : (b : Bool) (y v w : ℕ) → bit_or y (settled b v w) ≡ settled b v (bit_or y w)
or_settled false y v w = refl
or_settled true y v w =
    ext _ _ (λ k. rw (has_or y (bit_or w v) k, has_or w v k, has_or (bit_or y w) v k, has_or y w k) (either (has y k) (has w k) (has v k)))
  where
    either : (p q r : Bool) → (p || (q || r)) ≡ ((p || q) || r)
    either true q r = refl
    either false q r = refl

-- of two choices, where both serve, where one does, and the way's
both_serve : (serves : Bool → Bool) → (serves false && serves true) ≡ true → (b : Bool) → serves b ≡ true
both_serve serves h true = and_right (serves false) (serves true) h
both_serve serves h false = and_left (serves false) (serves true) h

one_serves : (serves : Bool → Bool) (b : Bool) → serves b ≡ true → (serves false || serves true) ≡ true
one_serves serves true h = ap (λ (p : Bool). serves false || p) h ∙ or-true (serves false)
one_serves serves false h = ap (λ (p : Bool). p || serves true) h

way_serves : (serves : Bool → Bool) → (serves false || serves true) ≡ true → serves (not (serves false)) ≡ true
way_serves serves h = go (serves false) refl
  where
    go : (b : Bool) → serves false ≡ b → serves (not b) ≡ true
    go true e = e
    go false e = sym (ap (λ (p : Bool). p || serves true) e) ∙ h

module _ (n : ℕ) (cs : List Clause) (o : Order) where
  -- the free options, and what can be forced from option i + 1 on
  abbrev frees : ℕ
  frees = free n o

  abbrev forced_at : ℕ → ℕ → Bool
  forced_at = forced_from (wins cs (complete o)) frees

  last_option : (i x : ℕ) → n ≤ i → forced_at i x ≡ wins cs (complete o) x
  last_option i x h = ended (wins cs (complete o)) frees i x (λ k m. below i k (omega (arith, ((is_free n o k).0 m).option)))

  -- from what y has on: an option is fitted where leaving it out does not serve
  abbrev way_from : ℕ → Way
  way_from y k w = not (forced_at (suc k) (bit_or y w))

  -- a choice x that comes out by it
  module _ (j y x : ℕ) (start : SoFar n o j y) (out : ComesOut n o (way_from y) j y x) where
    -- what is fitted of it once the options below option i + 1 are settled
    abbrev reached : ℕ → ℕ
    reached i = bit_or y (lower i x)

    reached_next : (i : ℕ) → reached (suc i) ≡ settled (has x i) (2 ^ i) (reached i)
    reached_next i = ap (bit_or y) (lower_next i x) ∙ or_settled (has x i) y (2 ^ i) (lower i x)

    -- an option that is not free stands in y
    reached_same : (i : ℕ) → (Free n o i → ⊥) → reached (suc i) ≡ reached i
    reached_same i f = reached_next i ∙ go (has x i) refl
      where
        go : (b : Bool) → has x i ≡ b → settled b (2 ^ i) (reached i) ≡ reached i
        go false e = refl
        go true e =
            let l = option_of n x i out.choice e in
            adds_nothing (reached i) (2 ^ i) (bit_within (reached i) i (or_within_l y (lower i x) i (start.fixed i l f ∙ sym (out.fixed i l f) ∙ e)))

    stays : (i : ℕ) → j ≤ i → forced_at i (reached i) ≡ true → forced_at (suc i) (reached (suc i)) ≡ true
    stays i l h = go (has frees i) refl (odd (ones (lower i frees))) refl
      where
        serves : Bool → Bool
        serves b = forced_at (suc i) (settled b (2 ^ i) (reached i))

        go : (b : Bool) → has frees i ≡ b → (t : Bool) → odd (ones (lower i frees)) ≡ t → forced_at (suc i) (reached (suc i)) ≡ true
        go false f t p = ap (forced_at (suc i)) (reached_same i (not_free n o i f)) ∙ sym (passed (wins cs (complete o)) frees i (reached i) f) ∙ h
        go true f false p =
            ap (forced_at (suc i)) (reached_next i)
            ∙ both_serve serves (sym (buyers (wins cs (complete o)) frees i (reached i) f p) ∙ h) (has x i)
        go true f true p =
            let said = out.answered i l (record { is_free = (is_free n o i).0 f; turn = p }) in
            ap (forced_at (suc i)) (reached_next i ∙ ap (λ (b : Bool). settled b (2 ^ i) (reached i)) said)
            ∙ way_serves serves (sym (planners (wins cs (complete o)) frees i (reached i) f p) ∙ h)

    reached_first : reached j ≡ y
    reached_first =
        adds_nothing y (lower j x) (λ k m. sym (out.so_far k (below_lt j k (and_within_r x (first_vars j) k m))) ∙ and_within_l x (first_vars j) k m)

    reached_last : (i : ℕ) → n ≤ i → reached i ≡ x
    reached_last i h =
        ap (bit_or y) (and_whole x (first_vars i) (λ k m. below i k (omega (arith, option_of n x k out.choice m))))
        ∙ or_comm y x
        ∙ adds_nothing x y (λ k m. elim (dec_lt k j) [ yes l ↦ out.so_far k l ∙ m | no l ↦ go k m (omega arith) (has frees k) refl ])
      where
        go : (k : ℕ) → has y k ≡ true → j ≤ k → (b : Bool) → has frees k ≡ b → has x k ≡ true
        go k m l true f = both_ways (has y k) m (start.later k l ((is_free n o k).0 f))
        go k m l false f =
            let below = option_of n y k start.choice m in
            let fixed = not_free n o k f in
            out.fixed k below fixed ∙ sym (start.fixed k below fixed) ∙ m

    comes_true : forced_at j y ≡ true → Builds n cs (complete o) x
    comes_true h =
        let end = le_ind (λ (i : ℕ). forced_at i (reached i) ≡ true) (ap (forced_at j) reached_first ∙ h) stays (j + n) (omega arith) in
        let same = last_option (j + n) (reached (j + n)) (omega arith) ∙ ap (wins cs (complete o)) (reached_last (j + n) (omega arith)) in
        (wins_builds n cs (complete o) x (lt_within n x out.choice)).0 (sym same ∙ end)

-- ---- what is reached by a way

-- z has what is fitted once the options below option i + 1 are settled: those below option j + 1 stand as in y, and the planner settled his others by the way
pub record Reached (n : ℕ) (o : Order) (way : Way) (j y i z : ℕ) : Type 0 where
  pub point : SoFar n o i z
  pub so_far : (k : ℕ) → k < j → has z k ≡ has y k
  pub answered : (k : ℕ) → j ≤ k → k < i → Planners n o k → has z k ≡ way k (lower k z)

module _ (n : ℕ) (o : Order) (way : Way) (j y i z : ℕ) (l : j ≤ i) (r : Reached n o way j y i z) where
  -- option i + 1 is not free
  pub pass_on : (Free n o i → ⊥) → Reached n o way j y (suc i) z
  pass_on f =
      record {
        point = record { choice = r.point.choice; fixed = r.point.fixed; later = λ k m g. r.point.later k (omega arith) g };
        so_far = r.so_far;
        answered =
            λ k m below p. elim (ℕ_discrete k i) [ yes e ↦ absurd (f (subst (Free n o) e p.is_free)) | no e ↦ r.answered k m (omega arith) p ];
      }

  -- it is free, and settled by the way where it is the planner's
  pub settle_next : Free n o i → (b : Bool) → (Planners n o i → b ≡ way i (lower i z)) → Reached n o way j y (suc i) (settled b (2 ^ i) z)
  settle_next f b said =
      record {
        point = settle n o i i z b r.point f (le_refl i);
        so_far = λ k below. settled_other b i z k (omega arith) ∙ r.so_far k below;
        answered = λ k m below p. elim (ℕ_discrete k i) [ yes e ↦ here k e p | no e ↦ before k e m (omega arith) p ];
      }
    where
      lower_same : (k : ℕ) → k ≤ i → way k (lower k z) ≡ way k (lower k (settled b (2 ^ i) z))
      lower_same k h = ap (way k) (sym (settled_lower b i z k h))

      here : (k : ℕ) → k ≡ i → Planners n o k → has (settled b (2 ^ i) z) k ≡ way k (lower k (settled b (2 ^ i) z))
      here k e p =
          rw e (settled_at b i z (r.point.later i (le_refl i) f) ∙ said (subst (Planners n o) e p) ∙ lower_same i (le_refl i))

      before : (k : ℕ) → k ≢ i → j ≤ k → k < i → Planners n o k → has (settled b (2 ^ i) z) k ≡ way k (lower k (settled b (2 ^ i) z))
      before k e m below p = settled_other b i z k e ∙ r.answered k m below p ∙ lower_same k (omega arith)

  -- no option is left: it comes out
  pub comes_out : n ≤ i → ComesOut n o way j y z
  comes_out h =
      record {
        choice = r.point.choice;
        so_far = r.so_far;
        fixed = r.point.fixed;
        answered = λ k m p. r.answered k m (omega (arith, p.is_free.option)) p;
      }

-- a way that always wins
module _ (n : ℕ) (cs : List Clause) (o : Order) (j y : ℕ) (can : CanForceFrom n cs o j y) where
  abbrev At : ℕ → ℕ → Type 0
  At i z = Reached n o can.0 j y i z

  -- what is reached can be forced where it can be forced from the next option on
  one_turn : (i z : ℕ) → j ≤ i → At i z → ((z' : ℕ) → At (suc i) z' → forced_at n cs o (suc i) z' ≡ true) → forced_at n cs o i z ≡ true
  one_turn i z l r next = go (has (free n o) i) refl (odd (ones (lower i (free n o)))) refl
    where
      serves : Bool → Bool
      serves b = forced_at n cs o (suc i) (settled b (2 ^ i) z)

      go : (b : Bool) → has (free n o) i ≡ b → (t : Bool) → odd (ones (lower i (free n o))) ≡ t → forced_at n cs o i z ≡ true
      go false f t p = passed (wins cs (complete o)) (free n o) i z f ∙ next z (pass_on n o can.0 j y i z l r (not_free n o i f))
      go true f false p =
          let still : (b : Bool) → serves b ≡ true =
          λ b. next _ (settle_next n o can.0 j y i z l r ((is_free n o i).0 f) b (λ q. both_ways _ q.turn p))
          in
          buyers (wins cs (complete o)) (free n o) i z f p ∙ and_both _ _ (still false) (still true)
      go true f true p =
          let b = can.0 i (lower i z) in
          planners (wins cs (complete o)) (free n o) i z f p
          ∙ one_serves serves b (next _ (settle_next n o can.0 j y i z l r ((is_free n o i).0 f) b (λ q. refl)))

  -- so it can be forced, by induction on how many options are left
  can_force : (d i z : ℕ) → n ≤ i + d → j ≤ i → At i z → forced_at n cs o i z ≡ true
  can_force zero i z h l r =
      let built = can.1 z (comes_out n o can.0 j y i z l r (omega arith)) in
      last_option n cs o i z (omega arith) ∙ (wins_builds n cs (complete o) z (lt_within n z r.point.choice)).1 built
  can_force (suc d) i z h l r = one_turn i z l r (λ z' r'. can_force d (suc i) z' (omega arith) (omega arith) r')

-- from option j + 1 on the planner can force it exactly if there is a way of answering
pub ways :
    (n : ℕ) (cs : List Clause) (o : Order) (j y : ℕ) → SoFar n o j y →
    (forces (wins cs (complete o)) (turn_at (free n o) j) (members (minus (free n o) (first_vars j))) y ≡ true) ↔ CanForceFrom n cs o j y
ways n cs o j y start = (
  λ h. (way_from n cs o y, λ x out. comes_true n cs o j y x start out h),
  λ can.
      can_force n cs o j y can n j y (omega arith) (le_refl j)
      (record { point = start; so_far = λ k below. refl; answered = λ k l m p. absurd (omega arith) }),
)
