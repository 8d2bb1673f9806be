-- What becomes of two words, option by option: of an option that is not reversed each has under the new number what it had, and of a reversed one what the other had. Since no
-- two options get one number, no option is taken for another.
use mathlib.Core.Path.{◌≡◌, refl, sym, ap, subst, ◌∙◌}
use mathlib.Core.Bool.{Bool, true, false, not, ◌&&◌, ◌||◌}
use Prim.Native.Nat.{ℕ, ◌<◌}
use Rattle.words.specs.Words.{has, minus, meets, first_vars, Within}
use Rattle.words.proofs.Truth.{both_ways, refuted}
use Rattle.words.proofs.Membership.{has_and, has_or, has_minus}
use Rattle.words.proofs.Sets.{meets_false, meets_false_intro, within_lt}
use Rattle.renaming.proofs.Images.{image_named, image_apart, image_within, in_first}
use Rattle.renumbering.specs.Renumbering.{Renumbering, Permutes, exchanged, carried, renumbered_rule, renumbered_order, renumbered_choice}
use Rattle.renumbering.specs.Demands.{Carried, Renumbers}

-- ---- under the old numbers

module _ (r p q k : ℕ) where
  exchanged_at : has (exchanged r p q) k ≡ ((has p k && not (has r k)) || (has q k && has r k))
  unfolding exchanged
  exchanged_at = rw (has_or, has_minus, has_and)

  -- an option that is not reversed
  pub exchanged_stays : has r k ≡ false → has (exchanged r p q) k ≡ has p k
  exchanged_stays e = exchanged_at ∙ rw e (of_first (has p k) (has q k))
    where
      of_first : (a b : Bool) → ((a && true) || (b && false)) ≡ a
      of_first true b = refl
      of_first false true = refl
      of_first false false = refl

  -- and one that is
  pub exchanged_changes : has r k ≡ true → has (exchanged r p q) k ≡ has q k
  exchanged_changes e = exchanged_at ∙ rw e (of_second (has p k) (has q k))
    where
      of_second : (a b : Bool) → ((a && false) || (b && true)) ≡ b
      of_second true true = refl
      of_second true false = refl
      of_second false true = refl
      of_second false false = refl

-- the options that a choice leaves out
pub left_out : (n x k : ℕ) → k < n → has (minus (first_vars n) x) k ≡ not (has x k)
left_out n x k h = has_minus (first_vars n) x k ∙ ap (λ b. b && not (has x k)) (in_first n k h)

pub twice : (b : Bool) → not (not b) ≡ b
twice true = refl
twice false = refl

-- ---- under the new ones

module _ (m : Renumbering) (n : ℕ) (p : Permutes m.number n) where
  carried_at : (a b k : ℕ) → k < n → has (carried m n a b) (m.number k) ≡ has (exchanged m.reversed a b) k
  unfolding carried
  carried_at a b k h = image_apart m.number n (exchanged m.reversed a b) k p.apart h

  pub carried_stays : (a b k : ℕ) → k < n → has m.reversed k ≡ false → has (carried m n a b) (m.number k) ≡ has a k
  carried_stays a b k h e = carried_at a b k h ∙ exchanged_stays m.reversed a b k e

  pub carried_changes : (a b k : ℕ) → k < n → has m.reversed k ≡ true → has (carried m n a b) (m.number k) ≡ has b k
  carried_changes a b k h e = carried_at a b k h ∙ exchanged_changes m.reversed a b k e

  pub carried_within : (a b : ℕ) → Within (carried m n a b) (first_vars n)
  unfolding carried
  carried_within a b = image_within m.number n n (exchanged m.reversed a b) p.into

  -- what is there is the new number of an option
  pub carried_from : (a b j : ℕ) → has (carried m n a b) j ≡ true → (k : ℕ) × (k < n) × (m.number k ≡ j)
  unfolding carried
  carried_from a b j h = let i = image_named m.number n (exchanged m.reversed a b) j h in (i.var, i.below, i.number)

  carries : (a b : ℕ) → Carried m n a b (carried m n a b) (carried m n b a)
  carries a b =
      record {
        each =
            λ k h.
            record {
              stay = λ e. (carried_stays a b k h e, carried_stays b a k h e);
              change = λ e. (carried_changes a b k h e, carried_changes b a k h e);
            };
        no_other = (carried_within a b, carried_within b a);
      }

  -- words that do not meet become such
  pub carried_apart : (a b : ℕ) → meets a b ≡ false → meets (carried m n a b) (carried m n b a) ≡ false
  carried_apart a b none = meets_false_intro _ _ (λ j h. let i = carried_from a b j h in subst (λ v. has (carried m n b a) v ≡ false) i.2 (at i.0 i.1 (ap (has (carried m n a b)) i.2 ∙ h) (has m.reversed i.0) refl))
    where
      at : (k : ℕ) → k < n → has (carried m n a b) (m.number k) ≡ true → (c : Bool) → has m.reversed k ≡ c → has (carried m n b a) (m.number k) ≡ false
      at k h g false e = carried_stays b a k h e ∙ meets_false a b none k (sym (carried_stays a b k h e) ∙ g)
      at k h g true e =
          carried_changes b a k h e
          ∙ refuted (has a k) (λ t. both_ways (has b k) (sym (carried_changes a b k h e) ∙ g) (meets_false a b none k t))

pub renumbers : Renumbers
unfolding renumbered_rule renumbered_order renumbered_choice
renumbers m n p =
    record {
      rule = λ c. carries m n p c.pos c.neg;
      order = λ o. carries m n p o.pos o.neg;
      choice =
          λ x k h.
          let out = minus (first_vars n) x in
          record {
            stay = λ e. let same = carried_stays m n p x out k h e in (same, ap not same);
            change = λ e. let other = carried_changes m n p x out k h e ∙ left_out n x k h in (other, ap not other ∙ twice (has x k));
          };
      choice_of = λ x. within_lt n _ (carried_within m n p x (minus (first_vars n) x));
    }
