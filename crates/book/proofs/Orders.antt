-- Which orders pass goes by the completed order alone. An order passes 7, 8 and 12 exactly where its completed order names only the first n variables and none as
-- wanted and unwanted: a standard option above n is wanted there, or it is unwanted and 7 has it. The completed order is then an input of the steps, with at most
-- n clauses.
use mathlib.Core.Path.{◌≡◌, refl, sym, subst, ◌∙◌}
use mathlib.Core.Bool.{Bool, true, false}
use mathlib.Core.List.{List}
use mathlib.Core.Logic.{inl, inr, ⊎_elim}
use mathlib.Core.Option.{none}
use Prim.Native.Nat.{ℕ, ◌≤◌}
use native.Mathlib.Omega.{arith}
use borrow.Author.Tests.{not-false}
use lib.Bits.{bit_or}
use lib.ListN.{length}
use Rattle.words.specs.Words.{has, meets, first_vars, Within}
use Rattle.words.proofs.Sets.{within_trans, within_zero, or_within_l, or_within_r, or_within, meets_false, meets_false_intro, minus_empty, within_minus}
use Rattle.words.proofs.Count.{ones_disjoint, ones_within, ones_first_of}
use Rattle.steps.specs.Clause.{Clause}
use Rattle.steps.specs.Run.{Assumptions, units}
use Rattle.steps.specs.Shape.{AllProper, Input}
use Rattle.order.specs.Order.{Order, complete}
use Rattle.order.specs.Demands.{Taken}
use Rattle.order.proofs.Completed.{completing, unwanted_at}
use Rattle.book.specs.Refusals.{first_row, above, order_rows}
use Rattle.book.proofs.Tests.{order_passed, none_ordered}
use Rattle.book.proofs.UnitClauses.{length_units, length_units_of}

-- ---- two words

-- words with no option above n are within the first n
pub within_above : (n p q : ℕ) → above n p q ≡ false → Within (bit_or p q) (first_vars n)
unfolding above
within_above n p q h = minus_empty (bit_or p q) (first_vars n) (not-false _ h)

pub above_within : (n p q : ℕ) → Within (bit_or p q) (first_vars n) → above n p q ≡ false
unfolding above
above_within n p q h = rw (within_minus (bit_or p q) (first_vars n) h)

-- ---- a completed order

-- the assumptions name only the first n variables, and none with both signs
pub record Consistent (n : ℕ) (a : Assumptions) : Type 0 where
  pub named : Within (bit_or a.pos a.neg) (first_vars n)
  pub apart : meets a.pos a.neg ≡ false

module _ (n : ℕ) (o : Order) where
  -- an order that no row refuses completes to such assumptions
  pub passed_consistent : first_row (order_rows n o) ≡ none → Consistent n (complete o)
  passed_consistent e =
      let p = none_ordered n o e in
      let named = within_above n o.wanted o.unwanted p.below in
      let standard = within_above n o.standard 0 p.standard in
      record {
        named =
            or_within (complete o).pos (complete o).neg (first_vars n)
            (λ k h.
            ⊎_elim (λ w. named k (or_within_l o.wanted o.unwanted k w)) (λ s. standard k (or_within_l o.standard 0 k s.0))
            (((completing o).wanted k).0 h))
            (λ k h. named k (or_within_r o.wanted o.unwanted k (sym (unwanted_at o k) ∙ h)));
        apart =
            meets_false_intro (complete o).pos (complete o).neg
            (λ k h. unwanted_at o k ∙ ⊎_elim (meets_false o.wanted o.unwanted p.apart k) (λ s. s.1) (((completing o).wanted k).0 h));
      }

  -- and no row refuses one that does
  module _ (c : Consistent n (complete o)) where
    taken_within : (k : ℕ) → Taken o k → has (first_vars n) k ≡ true
    taken_within k t = c.named k (or_within_l (complete o).pos (complete o).neg k (((completing o).wanted k).1 t))

    unwanted_within : (k : ℕ) → has o.unwanted k ≡ true → has (first_vars n) k ≡ true
    unwanted_within k u = c.named k (or_within_r (complete o).pos (complete o).neg k (unwanted_at o k ∙ u))

    standard_within : (k : ℕ) → has o.standard k ≡ true → (b : Bool) → has o.unwanted k ≡ b → has (first_vars n) k ≡ true
    standard_within k s true u = unwanted_within k u
    standard_within k s false u = taken_within k (inr (s, u))

    consistent_passes : first_row (order_rows n o) ≡ none
    consistent_passes =
        order_passed n o
        (record {
          below = above_within n o.wanted o.unwanted (or_within o.wanted o.unwanted (first_vars n) (λ k w. taken_within k (inl w)) unwanted_within);
          apart =
              meets_false_intro o.wanted o.unwanted
              (λ k w. sym (unwanted_at o k) ∙ meets_false (complete o).pos (complete o).neg c.apart k (((completing o).wanted k).1 (inl w)));
          standard =
              above_within n o.standard 0
              (or_within o.standard 0 (first_vars n) (λ k s. standard_within k s (has o.unwanted k) refl) (within_zero (first_vars n)));
        })

-- so two orders with the same completed order pass together
pub same_passes : (n : ℕ) (o o' : Order) → complete o ≡ complete o' → first_row (order_rows n o) ≡ none → first_row (order_rows n o') ≡ none
same_passes n o o' e p = consistent_passes n o' (subst (Consistent n) e (passed_consistent n o p))

module _ (n : ℕ) (o : Order) (e : first_row (order_rows n o) ≡ none) where
  -- the completed order is an input of the steps to a book of n variables
  pub order_input : (cs : List Clause) → AllProper n cs → Input n cs (complete o)
  order_input cs proper =
      let c = passed_consistent n o e in
      record {
        book_proper = proper;
        wanted = within_trans _ _ _ (or_within_l (complete o).pos (complete o).neg) c.named;
        unwanted = within_trans _ _ _ (or_within_r (complete o).pos (complete o).neg) c.named;
      }

  -- and has at most n clauses
  pub order_few : length (units (complete o)) ≤ n
  order_few =
      let c = passed_consistent n o e in
      omega (
        arith,
        length_units (complete o),
        length_units_of true (complete o).pos,
        length_units_of false (complete o).neg,
        ones_disjoint _ _ c.apart,
        ones_within _ _ c.named,
        ones_first_of n,
      )
