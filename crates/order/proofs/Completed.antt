-- A completed order by membership: an option is wanted in it where it is wanted, or standard and not unwanted.
use mathlib.Core.Path.{◌≡◌, refl, sym, ap, ◌∙◌}
use mathlib.Core.Bool.{Bool, true, false, not, ◌&&◌, ◌||◌, or-true, or-false}
use mathlib.Core.Logic.{◌⊎◌, inl, inr, ⊎_elim, ◌↔◌}
use Prim.Native.Nat.{ℕ}
use borrow.Author.Tests.{not-true}
use Rattle.words.specs.Words.{has}
use Rattle.words.proofs.Truth.{and_left, and_right, or_either}
use Rattle.words.proofs.Membership.{has_or, has_minus, has_zero, ext}
use Rattle.order.specs.Order.{Order, complete}
use Rattle.order.specs.Demands.{Completing, WithoutStandard}

-- what is wanted in the completed order, option by option
wanted_at : (o : Order) (k : ℕ) → has (complete o).pos k ≡ (has o.wanted k || (has o.standard k && not (has o.unwanted k)))
unfolding complete
wanted_at o k = has_or _ _ k ∙ ap (λ (b : Bool). has o.wanted k || b) (has_minus _ _ k)

-- the same in words
in_words : (p q r : Bool) → ((p || (q && not r)) ≡ true) ↔ ((p ≡ true) ⊎ ((q ≡ true) × (r ≡ false)))
in_words p q r = (λ h. ⊎_elim (λ e. inl e) (λ e. inr (and_left q (not r) e, not-true r (and_right q (not r) e))) (or_either p (q && not r) h), back)
  where
    back : (p ≡ true) ⊎ ((q ≡ true) × (r ≡ false)) → (p || (q && not r)) ≡ true
    back (inl e) = rw e
    back (inr h) = rw (h.0, h.1) (or-true p)

pub completing : Completing
unfolding complete
completing o =
    record {
      wanted =
          λ k.
          let told = in_words (has o.wanted k) (has o.standard k) (has o.unwanted k) in
          (λ h. told.0 (sym (wanted_at o k) ∙ h), λ t. wanted_at o k ∙ told.1 t);
      unwanted = refl;
    }

-- the unwanted options, one by one
pub unwanted_at : (o : Order) (k : ℕ) → has (complete o).neg k ≡ has o.unwanted k
unwanted_at o k = ap (λ (w : ℕ). has w k) (completing o).unwanted

pub without_standard : WithoutStandard
unfolding complete
without_standard p q =
    ap (λ (w : ℕ). record { pos = w; neg = q })
    (ext _ p (λ k. wanted_at _ k ∙ ap (λ (b : Bool). has p k || (b && not (has q k))) (has_zero k) ∙ or-false (has p k)))
