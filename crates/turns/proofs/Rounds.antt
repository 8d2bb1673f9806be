-- The turns from option j + 1 on. The options that are left there are the free ones from it on, so the first of them is option j + 1 where that is free, and else they are
-- those that are left from the next option on. Whose turn it is goes by the number of free options below, and each free option passes the turn on. So what can be forced
-- from option j + 1 on goes by what can be forced from the next option on.
use mathlib.Core.Path.{◌≡◌, refl, sym, ap, ap₂, ◌∙◌}
use mathlib.Core.Bool.{Bool, true, false, not, ◌&&◌, ◌||◌, and-true, and-false, or-false}
use mathlib.Core.List.{List, [], ◌∷◌}
use mathlib.Core.Logic.{◌≢◌}
use Prim.Native.Nat.{ℕ, suc, ◌/◌, ◌^◌, ◌≤◌, ◌<◌}
use native.Mathlib.Nat.{le_refl}
use native.Mathlib.Decide.{dec_lt, ℕ_discrete}
use native.Mathlib.Omega.{arith}
use borrow.Author.Tests.{ltb-true, lt-ltb, le-ltb}
use lib.Count.{ones}
use Rattle.words.specs.Words.{is_zero, odd, has, minus, first_vars, lowest, members, Within}
use Rattle.words.proofs.Truth.{both_ways, clash}
use Rattle.words.proofs.Membership.{halves_at, odd_of, has_and, has_or, has_minus, has_bit, has_bit_other, has_bit_eq, has_zero, has_first_vars, ext}
use Rattle.words.proofs.Sets.{is_zero_lem, member_nonzero, or_within_r, within_minus}
use Rattle.words.proofs.Unions.{meets_bit}
use Rattle.words.proofs.Lowest.{lowest_is, members_zero, members_step}
use Rattle.words.proofs.Count.{ones_zero, ones_bit, ones_disjoint}
use Rattle.turns.specs.Turns.{Player, Player.buyer, Player.planner, settled, forces}
use Rattle.turns.specs.Meaning.{lower}
use Rattle.turns.proofs.Turning.{forces_end, forces_buyer, forces_planner}

-- ---- the options below option j + 1, and those from it on

-- words that agree at one option and at all others
agree : (a b j : ℕ) → has a j ≡ has b j → ((k : ℕ) → k ≢ j → has a k ≡ has b k) → a ≡ b
agree a b j here other = ext a b (λ k. elim (ℕ_discrete k j) [ yes e ↦ rw e here | no n ↦ other k n ])

pub below : (j k : ℕ) → k < j → has (first_vars j) k ≡ true
below j k h = has_first_vars j k ∙ lt-ltb k j h

not_below : (j k : ℕ) → j ≤ k → has (first_vars j) k ≡ false
not_below j k h = has_first_vars j k ∙ le-ltb k j h

pub below_lt : (j k : ℕ) → has (first_vars j) k ≡ true → k < j
below_lt j k h = ltb-true k j (sym (has_first_vars j k) ∙ h)

-- below the next option there is this one more
below_next : (j k : ℕ) → k ≢ j → has (first_vars (suc j)) k ≡ has (first_vars j) k
below_next j k n =
    elim (dec_lt k j) [
      | yes l ↦ below (suc j) k (omega arith) ∙ sym (below j k l)
      | no m ↦ not_below (suc j) k (omega arith) ∙ sym (not_below j k (omega arith))
    ]

-- the options of x below option j + 1
module _ (j x k : ℕ) where
  lower_at : k < j → has (lower j x) k ≡ has x k
  lower_at h = has_and x (first_vars j) k ∙ ap (λ (b : Bool). has x k && b) (below j k h) ∙ and-true (has x k)

  lower_not : j ≤ k → has (lower j x) k ≡ false
  lower_not h = has_and x (first_vars j) k ∙ ap (λ (b : Bool). has x k && b) (not_below j k h) ∙ and-false (has x k)

  lower_other : k ≢ j → has (lower (suc j) x) k ≡ has (lower j x) k
  lower_other n = has_and x (first_vars (suc j)) k ∙ ap (λ (b : Bool). has x k && b) (below_next j k n) ∙ sym (has_and x (first_vars j) k)

-- the options of f from option j + 1 on
abbrev left : ℕ → ℕ → ℕ
left j f = minus f (first_vars j)

module _ (j f k : ℕ) where
  left_at : j ≤ k → has (left j f) k ≡ has f k
  left_at h = has_minus f (first_vars j) k ∙ ap (λ (b : Bool). has f k && not b) (not_below j k h) ∙ and-true (has f k)

  left_not : k < j → has (left j f) k ≡ false
  left_not h = has_minus f (first_vars j) k ∙ ap (λ (b : Bool). has f k && not b) (below j k h) ∙ and-false (has f k)

  left_other : k ≢ j → has (left (suc j) f) k ≡ has (left j f) k
  left_other n = has_minus f (first_vars (suc j)) k ∙ ap (λ (b : Bool). has f k && not b) (below_next j k n) ∙ sym (has_minus f (first_vars j) k)

-- ---- an option is settled

module _ (b : Bool) (j x : ℕ) where
  pub settled_other : (k : ℕ) → k ≢ j → has (settled b (2 ^ j) x) k ≡ has x k
  settled_other k n = go b
    where
      go : (b : Bool) → has (settled b (2 ^ j) x) k ≡ has x k
      go false = refl
      go true = has_or x (2 ^ j) k ∙ ap (λ (p : Bool). has x k || p) (has_bit_other j k (λ e. n (sym e))) ∙ or-false (has x k)

  pub settled_at : has x j ≡ false → has (settled b (2 ^ j) x) j ≡ b
  settled_at h = go b
    where
      go : (b : Bool) → has (settled b (2 ^ j) x) j ≡ b
      go false = h
      go true = or_within_r x (2 ^ j) j (has_bit j)

  -- nothing below it changes
  pub settled_lower : (k : ℕ) → k ≤ j → lower k (settled b (2 ^ j) x) ≡ lower k x
  settled_lower k h =
      agree _ _ j
      (lower_not k (settled b (2 ^ j) x) j h ∙ sym (lower_not k x j h))
      (λ i n.
      has_and (settled b (2 ^ j) x) (first_vars k) i ∙ ap (λ (p : Bool). p && has (first_vars k) i) (settled_other i n) ∙ sym (has_and x (first_vars k) i))

-- one more option below
pub lower_next : (j x : ℕ) → lower (suc j) x ≡ settled (has x j) (2 ^ j) (lower j x)
lower_next j x =
    agree _ _ j
    (lower_at (suc j) x j (le_refl (suc j)) ∙ sym (settled_at (has x j) j (lower j x) (lower_not j x j (le_refl j))))
    (λ k n. lower_other j x k n ∙ sym (settled_other (has x j) j (lower j x) k n))

-- ---- whose turn it is

-- the planner's or the buyer's
abbrev pub player : Bool → Player
player true = planner
player false = buyer

-- at option j + 1, of the free options f: the planner's after an odd number of them
abbrev pub turn_at : ℕ → ℕ → Player
turn_at f j = player (odd (ones (lower j f)))

odd_next : (n : ℕ) → odd (suc n) ≡ not (odd n)
odd_next n = go (odd n) refl
  where
    go : (p : Bool) → odd n ≡ p → odd (suc n) ≡ not p
    go true e = odd_of {x = suc n} (suc (n / 2)) false (omega (arith, halves_at n e))
    go false e = odd_of {x = suc n} (n / 2) true (omega (arith, halves_at n e))

-- a free option is one more below the next, and the turn passes on
ones_next : (f j : ℕ) → has f j ≡ true → ones (lower (suc j) f) ≡ suc (ones (lower j f))
ones_next f j h =
    let one = ones_disjoint (lower j f) (2 ^ j) (meets_bit (lower j f) j ∙ lower_not j f j (le_refl j)) in
    ap ones (lower_next j f ∙ ap (λ (b : Bool). settled b (2 ^ j) (lower j f)) h) ∙ omega (arith, one, ones_bit j)

turn_next : (f j : ℕ) → has f j ≡ true → odd (ones (lower (suc j) f)) ≡ not (odd (ones (lower j f)))
turn_next f j h = ap odd (ones_next f j h) ∙ odd_next (ones (lower j f))

-- ---- the list of options that are left

-- what is left from a later option on
left_left : (j k f : ℕ) → j ≤ k → left k (left j f) ≡ left k f
left_left j k f h =
    ext _ _
    (λ i.
    elim (dec_lt i k) [
      | yes l ↦ left_not k (left j f) i l ∙ sym (left_not k f i l)
      | no m ↦ left_at k (left j f) i (omega arith) ∙ left_at j f i (omega arith) ∙ sym (left_at k f i (omega arith))
    ])

-- the members of a word whose lowest one is known
module _ (x j : ℕ) (member : has x j ≡ true) (none : (i : ℕ) → i < j → has x i ≡ false) where
  lowest_one : lowest x ≡ 2 ^ j
  lowest_one =
      let low = lowest_is x (member_nonzero x j member) in
      let same : low.0 ≡ j =
      elim (dec_lt low.0 j) [
        | yes l ↦ both_ways (has x low.0) low.2 (none low.0 l)
        | no m ↦ elim (dec_lt j low.0) [ yes l ↦ both_ways (has x j) member (low.3 j l) | no k ↦ omega arith ]
      ]
      in
      low.1 ∙ ap (λ (i : ℕ). 2 ^ i) same

  without_lowest : minus x (2 ^ j) ≡ left (suc j) x
  without_lowest =
      agree _ _ j
      (has_minus x (2 ^ j) j ∙ ap (λ (b : Bool). has x j && not b) (has_bit j) ∙ and-false (has x j) ∙ sym (left_not (suc j) x j (le_refl (suc j))))
      (λ i n.
      has_minus x (2 ^ j) i ∙ ap (λ (b : Bool). has x i && not b) (has_bit_other j i (λ e. n (sym e))) ∙ and-true (has x i) ∙ sym (left_other j x i n ∙ whole i))
    where
      whole : (i : ℕ) → has (left j x) i ≡ has x i
      whole i = elim (dec_lt i j) [ yes l ↦ left_not j x i l ∙ sym (none i l) | no m ↦ left_at j x i (omega arith) ]

  members_first : members x ≡ 2 ^ j ∷ members (left (suc j) x)
  members_first =
      members_step x (member_nonzero x j member)
      ∙ ap₂ (λ (w rest : ℕ). w ∷ members rest) lowest_one (ap (minus x) lowest_one ∙ without_lowest)

-- the next option is free
members_left : (f j : ℕ) → has f j ≡ true → members (left j f) ≡ 2 ^ j ∷ members (left (suc j) f)
members_left f j h =
    members_first (left j f) j (left_at j f j (le_refl j) ∙ h) (left_not j f)
    ∙ ap (λ (rest : ℕ). 2 ^ j ∷ members rest) (left_left j (suc j) f (omega arith))

-- the first option of a list of members, and what is left after it
first_is : (x j : ℕ) (vs : List ℕ) → members x ≡ 2 ^ j ∷ vs → (has x j ≡ true) × ((i : ℕ) → i < j → has x i ≡ false) × (members (left (suc j) x) ≡ vs)
first_is x j vs e = go (is_zero x) refl
  where
    go : (z : Bool) → is_zero x ≡ z → (has x j ≡ true) × ((i : ℕ) → i < j → has x i ≡ false) × (members (left (suc j) x) ≡ vs)
    go true z = let none : members x ≡ [] = ap members (is_zero_lem x z) ∙ members_zero in clash cc
    go false z =
        let low = lowest_is x z in
        let word : lowest x ≡ 2 ^ j = cc (members_step x z) in
        let same : low.0 ≡ j = has_bit_eq low.0 j (ap (λ (w : ℕ). has w j) (sym low.1 ∙ word) ∙ has_bit j) in
        let member = ap (has x) (sym same) ∙ low.2 in
        let none : (i : ℕ) → i < j → has x i ≡ false = λ i l. low.3 i (omega arith) in
        (member, none, cc (members_first x j member none))

-- the first two of the free options f, and what is left after them
pub after_two_lem :
    (f j k : ℕ) (vs : List ℕ) → members f ≡ 2 ^ j ∷ 2 ^ k ∷ vs →
    (j < k) × (has f j ≡ true) × (has f k ≡ true) × ((i : ℕ) → i < k → i ≢ j → has f i ≡ false) ×
    (members (minus f (first_vars (suc k))) ≡ vs) × (turn_at f (suc k) ≡ buyer)
after_two_lem f j k vs e =
    let first = first_is f j (2 ^ k ∷ vs) e in
    let second = first_is (left (suc j) f) k vs first.2 in
    let above : j < k =
    elim (dec_lt j k) [ yes l ↦ l | no m ↦ both_ways (has (left (suc j) f) k) second.0 (left_not (suc j) f k (omega arith)) ]
    in
    let member : has f k ≡ true = sym (left_at (suc j) f k above) ∙ second.0 in
    let none : (i : ℕ) → i < k → i ≢ j → has f i ≡ false =
    λ i l n. elim (dec_lt i j) [ yes m ↦ first.1 i m | no m ↦ sym (left_at (suc j) f i (omega arith)) ∙ second.1 i l ]
    in
    let one : lower k f ≡ 2 ^ j =
    agree _ _ j (lower_at k f j above ∙ first.0 ∙ sym (has_bit j))
    (λ i n.
    elim (dec_lt i k) [ yes l ↦ lower_at k f i l ∙ none i l n | no m ↦ lower_not k f i (omega arith) ]
    ∙ sym (has_bit_other j i (λ e. n (sym e))))
    in (
      above,
      first.0,
      member,
      none,
      ap members (sym (left_left (suc j) (suc k) f (omega arith))) ∙ second.2,
      ap (λ (c : ℕ). player (odd c)) (ones_next f k member ∙ ap suc (ap ones one ∙ ones_bit j)),
    )

-- at the start
pub at_start : (f : ℕ) → (members (minus f (first_vars 0)) ≡ members f) × (turn_at f 0 ≡ buyer)
at_start f = (
  ap members (ext _ f (λ k. left_at 0 f k (omega arith))),
  ap (λ (c : ℕ). player (odd c)) (ap ones (ext _ 0 (λ k. lower_not 0 f k (omega arith) ∙ sym (has_zero k))) ∙ ones_zero),
)

-- ---- what can be forced, from one option to the next

module _ (won : ℕ → Bool) (f : ℕ) where
  -- the planner can force it from option j + 1 on
  abbrev pub forced_from : ℕ → ℕ → Bool
  forced_from j x = forces won (turn_at f j) (members (minus f (first_vars j))) x

  -- option j + 1 is not free
  pub passed : (j x : ℕ) → has f j ≡ false → forced_from j x ≡ forced_from (suc j) x
  passed j x h =
      let same : lower (suc j) f ≡ lower j f = lower_next j f ∙ ap (λ (b : Bool). settled b (2 ^ j) (lower j f)) h in
      let rest : left (suc j) f ≡ left j f =
      agree _ _ j (left_not (suc j) f j (le_refl (suc j)) ∙ sym (left_at j f j (le_refl j) ∙ h)) (left_other j f)
      in
      ap₂ (λ (l r : ℕ). forces won (player (odd (ones l))) (members r) x) (sym same) (sym rest)

  -- it is the buyer's
  pub buyers :
      (j x : ℕ) → has f j ≡ true → odd (ones (lower j f)) ≡ false →
      forced_from j x ≡ (forced_from (suc j) (settled false (2 ^ j) x) && forced_from (suc j) (settled true (2 ^ j) x))
  buyers j x h e =
      rw (members_left f j h, e, turn_next f j h ∙ ap not e) (forces_buyer won (2 ^ j) (members (left (suc j) f)) x)

  -- it is the planner's
  pub planners :
      (j x : ℕ) → has f j ≡ true → odd (ones (lower j f)) ≡ true →
      forced_from j x ≡ (forced_from (suc j) (settled false (2 ^ j) x) || forced_from (suc j) (settled true (2 ^ j) x))
  planners j x h e =
      rw (members_left f j h, e, turn_next f j h ∙ ap not e) (forces_planner won (2 ^ j) (members (left (suc j) f)) x)

  -- no option is left
  pub ended : (j x : ℕ) → Within f (first_vars j) → forced_from j x ≡ won x
  ended j x h =
      ap (λ (vs : List ℕ). forces won (turn_at f j) vs x) (ap members (is_zero_lem (left j f) (within_minus f (first_vars j) h)) ∙ members_zero)
      ∙ forces_end won (turn_at f j) x
