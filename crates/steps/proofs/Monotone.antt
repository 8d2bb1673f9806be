-- What the test of step 3 tells of the table. Where it passes, the decisions that it gathers have the last D-sequent's among them, and a keeper of
-- each clause with the literal that names nothing redundant. Where it fails, one of those clauses is not satisfied. Each is an induction on the table.
use mathlib.Core.Path.{◌≡◌, refl, ap, ◌∙◌}
use mathlib.Core.Logic.{⊎_elim}
use mathlib.Core.Bool.{Bool, true, false, not, ◌&&◌}
use mathlib.Core.List.Memᴰ
use mathlib.Core.List.{List, [], ◌∷◌, Memᴰ}
use mathlib.Core.Option.{Option, some, none}
use Prim.Native.Nat.{ℕ}
use borrow.Author.Tests.{not-true}
use lib.Bits.{bit_or}
use Rattle.words.specs.Words.{has, meets, lowest, Within}
use Rattle.words.proofs.Truth.{both_ways, and_left, and_right, and_both, clash}
use Rattle.words.proofs.Membership.{has_bit}
use Rattle.words.proofs.Sets.{within_refl, or_within_l, or_within_r, member_nonzero, or_within}
use Rattle.words.proofs.Lowest.{lowest_is, lowest_within}
use Rattle.steps.specs.Lists.{or_else}
use Rattle.steps.specs.Clause.{Clause, literals, Assignment, keepers, satisfied, names}
use Rattle.steps.specs.State.{State}
use Rattle.steps.specs.Sweep.{all_inactive, inactive_by, monotone}
use Rattle.steps.proofs.Literals.{satisfied_keeper}

-- the lowest member of a word with a member is a member
lowest_member : (x : ℕ) → (j : ℕ) × (has x j ≡ true) → (j : ℕ) × (has (lowest x) j ≡ true) × (has x j ≡ true)
lowest_member x m = let low = lowest_is x (member_nonzero x m.0 m.1) in (low.0, rw low.1 (has_bit low.0), low.2)

-- what the test gathers over t: the decisions that it starts from, and a keeper of each clause with the literal that names nothing of k; only keepers
pub record Gathered (b : Bool) (w : ℕ) (a : Assignment) (k r : ℕ) (t : List Clause) (q : ℕ) : Type 0 where
  pub start : Within r q
  pub only : (u : ℕ) → ((c : Clause) → Within (keepers a c) u) → Within r u → Within q u
  pub keeper : (c : Clause) → Memᴰ c t → meets (literals b c) w ≡ true → names k c ≡ false → (j : ℕ) × (has q j ≡ true) × (has (keepers a c) j ≡ true)

-- where the test passes, it has gathered so
pub gathered : (b : Bool) (w : ℕ) (a : Assignment) (k r : ℕ) (t : List Clause) (q : ℕ) → all_inactive b w a k r t ≡ some q → Gathered b w a k r t q
unfolding all_inactive
gathered b w a k r [] q e = let is : r ≡ q = cc in record { start = rw is (within_refl q); only = λ u k h. rw is at h; keeper = λ c m. absurd (Memᴰ.not-nil m) }
gathered b w a k r (d ∷ ds) q e = go (meets (literals b d) w && not (names k d)) refl (satisfied a d) refl (λ r. gathered b w a k r ds q)
  where
    go : (p : Bool) → (meets (literals b d) w && not (names k d)) ≡ p → (z : Bool) → satisfied a d ≡ z
        → ((r : ℕ) → all_inactive b w a k r ds ≡ some q → Gathered b w a k r ds q) → Gathered b w a k r (d ∷ ds) q
    go false f z g below =
        let rest : Gathered b w a k r ds q = below r (rw (f, all_inactive) at e) in
        record {
          start = rest.start;
          only = rest.only;
          keeper =
              λ c m l n.
              ⊎_elim
              (λ is. both_ways (meets (literals b d) w && not (names k d)) (rw (← is) (and_both (meets (literals b c) w) (not (names k c)) l (ap not n))) f)
              (λ m'. rest.keeper c m' l n)
              (Memᴰ.cases_cons m);
        }
    go true f false g below = let none_is : none ≡ some q = rw (f, g, all_inactive) at e in clash cc
    go true f true g below =
        let rest : Gathered b w a k (bit_or r (lowest (keepers a d))) ds q = below (bit_or r (lowest (keepers a d))) (rw (f, g, all_inactive) at e) in
        let low = lowest_member (keepers a d) (satisfied_keeper a d g) in
        record {
          start = λ i h. rest.start i (or_within_l r (lowest (keepers a d)) i h);
          only = λ u k h. rest.only u k (or_within r (lowest (keepers a d)) u h (λ i m. k d i (lowest_within (keepers a d) i m)));
          keeper =
              λ c m l n.
              ⊎_elim
              (λ is. (low.0, rest.start low.0 (or_within_r r (lowest (keepers a d)) low.0 low.1), rw is low.2))
              (λ m'. rest.keeper c m' l n)
              (Memᴰ.cases_cons m);
        }

-- a clause of t with the literal that names nothing of k and is not satisfied
pub record Active (b : Bool) (w : ℕ) (a : Assignment) (k : ℕ) (t : List Clause) : Type 0 where
  pub clause : Clause
  pub member : Memᴰ clause t
  pub literal : meets (literals b clause) w ≡ true
  pub unnamed : names k clause ≡ false
  pub unsatisfied : satisfied a clause ≡ false

-- where the test fails, there is one
pub active : (b : Bool) (w : ℕ) (a : Assignment) (k r : ℕ) (t : List Clause) → all_inactive b w a k r t ≡ none → Active b w a k t
unfolding all_inactive
active b w a k r [] e = clash cc
active b w a k r (d ∷ ds) e = go (meets (literals b d) w && not (names k d)) refl (satisfied a d) refl (λ r. active b w a k r ds)
  where
    more : Active b w a k ds → Active b w a k (d ∷ ds)
    more x =
        record {
          clause = x.clause;
          member = Memᴰ.tail x.member;
          literal = x.literal;
          unnamed = x.unnamed;
          unsatisfied = x.unsatisfied;
        }

    go : (p : Bool) → (meets (literals b d) w && not (names k d)) ≡ p → (z : Bool) → satisfied a d ≡ z
        → ((r : ℕ) → all_inactive b w a k r ds ≡ none → Active b w a k ds) → Active b w a k (d ∷ ds)
    go false f z g below = more (below r (rw (f, all_inactive) at e))
    go true f false g below =
        record {
          clause = d;
          member = Memᴰ.head refl;
          literal = and_left (meets (literals b d) w) (not (names k d)) f;
          unnamed = not-true (names k d) (and_right (meets (literals b d) w) (not (names k d)) f);
          unsatisfied = g;
        }
    go true f true g below = more (below (bit_or r (lowest (keepers a d))) (rw (f, g, all_inactive) at e))

-- the test for w passes by one of the signs
pub monotone_some : (a : Assignment) (s : State) (w r : ℕ) → monotone a s w ≡ some r → (b : Bool) × (inactive_by a s w b ≡ some r)
unfolding monotone
monotone_some a s w r e = go (inactive_by a s w false) refl
  where
    go : (o : Option ℕ) → inactive_by a s w false ≡ o → (b : Bool) × (inactive_by a s w b ≡ some r)
    go none f = (true, rw (f, or_else) at e)
    go (some q) f = (false, f ∙ (rw (f, or_else) at e))

-- and fails by both
pub monotone_none : (a : Assignment) (s : State) (w : ℕ) → monotone a s w ≡ none → (b : Bool) → inactive_by a s w b ≡ none
unfolding monotone
monotone_none a s w e b = go (inactive_by a s w false) refl b
  where
    go : (o : Option ℕ) → inactive_by a s w false ≡ o → (b : Bool) → inactive_by a s w b ≡ none
    go none f false = f
    go none f true = rw (f, or_else) at e
    go (some q) f b = let some_is : some q ≡ none = rw (f, or_else) at e in clash cc
