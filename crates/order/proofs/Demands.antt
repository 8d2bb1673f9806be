-- Every demand of `specs/Demands`. What a completed order wants is known by membership (`Completed`), so keeping it, its list of rules and its free options are.
use mathlib.Core.Path.{◌≡◌, refl, sym, ap, ◌∙◌}
use mathlib.Core.Bool.{true, false, not}
use mathlib.Core.Logic.{inl, inr, ⊎_elim}
use Prim.Native.Nat.{ℕ}
use borrow.Author.Tests.{ltb-true, lt-ltb, not-true}
use lib.Bits.{bit_or}
use Rattle.words.specs.Words.{is_zero, has, minus, first_vars, lowest, members_up_to, members}
use Rattle.words.specs.Demands.{LowestFirst}
use Rattle.words.proofs.Truth.{and_left, and_right, and_both, both_ways, refuted}
use Rattle.words.proofs.Membership.{has_first_vars}
use Rattle.words.proofs.Sets.{in_minus, minus_out, minus_within, minus_empty, within_minus, meets_false, meets_false_intro, or_within_l, or_within_r, in_or}
use Rattle.words.proofs.Lowest.{lowest_first}
use Rattle.steps.specs.Run.{units}
use Rattle.steps.specs.Meaning.{obeys}
use Rattle.order.specs.Order.{Order, complete, free}
use Rattle.order.specs.Demands.{Taken, Keeps, Keeping, OrderRules, FreeOptions, Examples, Demands}
use Rattle.order.proofs.Completed.{completing, unwanted_at, without_standard}

-- ---- keeping the order

pub keeping : Keeping
unfolding obeys
keeping x o = (kept, keeps)
  where
    wants : (k : ℕ) → Taken o k → has (complete o).pos k ≡ true
    wants k = ((completing o).wanted k).1

    kept : obeys x (complete o) ≡ true → Keeps x o
    kept e =
        let fits = minus_empty (complete o).pos x (and_left _ _ e) in
        let leaves = meets_false (complete o).neg x (not-true _ (and_right (is_zero (minus (complete o).pos x)) _ e)) in
        record {
          wanted = λ k h. fits k (wants k (inl h));
          standard = λ k h g. fits k (wants k (inr (h, g)));
          unwanted = λ k h. leaves k (unwanted_at o k ∙ h);
        }

    keeps : Keeps x o → obeys x (complete o) ≡ true
    keeps h =
        and_both _ _
        (within_minus (complete o).pos x (λ k w. ⊎_elim (h.wanted k) (λ s. h.standard k s.0 s.1) (((completing o).wanted k).0 w)))
        (ap not (meets_false_intro (complete o).neg x (λ k u. h.unwanted k (sym (unwanted_at o k) ∙ u))))

-- ---- the order's rules

-- a list of members, for what tells them
said : (x : ℕ) (P : ℕ → Type 0) → ((k : ℕ) → has x k ≡ true → P k) → ((k : ℕ) → P k → has x k ≡ true) → LowestFirst P (members x)
said x P found back =
    let l = lowest_first x in
    record {
      each = λ w m. let e = l.each w m in (e.0, e.1, found e.0 e.2);
      all = λ k p. l.all k (back k p);
      ascending = l.ascending;
    }

pub order_rules : OrderRules
unfolding units
order_rules o =
    record {
      taken = members (complete o).pos;
      unwanted = members (complete o).neg;
      rules = refl;
      taken_run = said (complete o).pos (Taken o) (λ k. ((completing o).wanted k).0) (λ k. ((completing o).wanted k).1);
      unwanted_run = said (complete o).neg _ (λ k h. sym (unwanted_at o k) ∙ h) (λ k h. unwanted_at o k ∙ h);
    }

-- ---- free options

-- option k of an order
module _ (o : Order) (k : ℕ) where
  -- the options that the completed order names
  abbrev named : ℕ
  named = bit_or (complete o).pos (complete o).neg

  taken_named : Taken o k → has named k ≡ true
  taken_named t = or_within_l (complete o).pos (complete o).neg k (((completing o).wanted k).1 t)

  unwanted_named : has o.unwanted k ≡ true → has named k ≡ true
  unwanted_named h = or_within_r (complete o).pos (complete o).neg k (unwanted_at o k ∙ h)

  -- none of the three words has it
  abbrev Unnamed : Type 0
  Unnamed = (has o.wanted k ≡ false) × (has o.unwanted k ≡ false) × (has o.standard k ≡ false)

  found : has named k ≡ false → Unnamed
  found out =
      let not_unwanted = refuted (has o.unwanted k) (λ u. both_ways (has named k) (unwanted_named u) out) in (
        refuted (has o.wanted k) (λ w. both_ways (has named k) (taken_named (inl w)) out),
        not_unwanted,
        refuted (has o.standard k) (λ s. both_ways (has named k) (taken_named (inr (s, not_unwanted))) out),
      )

  back : Unnamed → has named k ≡ false
  back h =
      refuted (has named k)
      (λ m.
      ⊎_elim
      (λ t. ⊎_elim (λ w. both_ways (has o.wanted k) w h.0) (λ s. both_ways (has o.standard k) s.0 h.2) (((completing o).wanted k).0 t))
      (λ u. both_ways (has o.unwanted k) (sym (unwanted_at o k) ∙ u) h.1)
      (in_or (complete o).pos (complete o).neg k m))

pub free_options_lem : FreeOptions
unfolding free
free_options_lem n o k = (
  λ h.
      let unnamed = found o k (minus_out (first_vars n) _ k h) in
      (ltb-true k n (sym (has_first_vars n k) ∙ minus_within (first_vars n) _ k h), unnamed.0, unnamed.1, unnamed.2),
  λ h. in_minus (first_vars n) _ k (has_first_vars n k ∙ lt-ltb k n h.0) (back o k (h.1, h.2, h.3)),
)

-- ---- all of them

examples : Examples
unfolding complete units free minus first_vars lowest members_up_to members
examples = record { completed = refl; rules = refl; free = refl }

pub demands : Demands
demands =
    record {
      completing = completing;
      without_standard = without_standard;
      keeping = keeping;
      order_rules = order_rules;
      free_options = free_options_lem;
      examples = examples;
    }
