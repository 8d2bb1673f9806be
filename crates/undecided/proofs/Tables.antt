-- Tables of zeros. Tables of the same lengths have the same zeros, so that what a setting leaves does not hang on what an earlier one left; and a check writes into
-- the first places, so that zeros stand after what it wrote.
use mathlib.Core.Path.{◌≡◌, refl, sym, ap, subst, ◌∙◌}
use mathlib.Core.Bool.{Bool, true, false}
use mathlib.Core.List.{List, [], ◌∷◌}
use Prim.Native.Nat.{ℕ, zero, suc, ◌+◌, ◌-◌}
use native.Mathlib.Omega.{arith}
use lib.ListN.{length, get_or, drop, replicate, length-replicate}
use lib.Seq.{get_or-drop}
use Rattle.words.proofs.Truth.{when_true, when_false}
use Rattle.steps.specs.Run.{Outcome}
use Rattle.order.specs.Order.{Order}
use Rattle.answer.specs.Answer.{Answer}
use Rattle.contract.specs.Check.{Lengths, Result.ran, check}
use Rattle.contract.specs.Filled.{Tables, lent, lengths, filled}
use Rattle.contract.specs.Demands.{Fills}
use Rattle.contract.proofs.Filling.{lengths_equal, ran_fills, checked_lengths}
use Rattle.undecided.specs.Settings.{settings}
use Rattle.undecided.specs.Undecided.{with_setting, answer_to, zeroed, is_stop, last_tried, tried_to, tried_on, tables_after, last_setting, tried_all}
use Rattle.undecided.specs.Demands.{ZeroFrom, WordsThenZeros}
use Rattle.undecided.proofs.Subsets.{some_subset}
use Rattle.undecided.proofs.Trying.{last_stops, last_goes}
use Rattle.undecided.specs.Values.{Reply.tried}

-- no length changes
pub zeroed_lengths : (t : Tables) → lengths (zeroed t) ≡ lengths t
zeroed_lengths t =
    lengths_equal (length-replicate (length t.pos) 0) (length-replicate (length t.neg) 0) (length-replicate (length t.decided) 0)
    (length-replicate (length t.trues) 0)
    (length-replicate (length t.redundant) 0)

-- so tables of the same lengths have the same zeros
abbrev zeros_by : Lengths → Tables
zeros_by l = lent (replicate l.pos 0) (replicate l.neg 0) (replicate l.decided 0) (replicate l.trues 0) (replicate l.redundant 0)

pub zeroed_same : (t t' : Tables) → lengths t ≡ lengths t' → zeroed t ≡ zeroed t'
zeroed_same t t' e = ap zeros_by e

-- ---- setting after setting

module _ (bytes : List ℕ) (o : Order) (opens allowance : ℕ) where
  -- what a setting leaves goes by the lengths alone
  on_lengths : (t t' : Tables) (s : ℕ) → lengths t ≡ lengths t' → tried_on bytes o opens allowance t s ≡ tried_on bytes o opens allowance t' s
  on_lengths t t' s e = ap (λ (l : Lengths). filled (check bytes (with_setting o opens s) allowance l) (zeros_by l)) e

  -- and it changes none
  kept_lengths : (t : Tables) (s : ℕ) → lengths (tried_on bytes o opens allowance t s) ≡ lengths t
  kept_lengths t s =
      ap (λ (l : Lengths). lengths (filled (check bytes (with_setting o opens s) allowance l) (zeroed t))) (sym (zeroed_lengths t))
      ∙ checked_lengths bytes (with_setting o opens s) allowance (zeroed t)
      ∙ zeroed_lengths t

  -- the tables after settings in turn are those that the last one tried leaves
  after_last : (t : Tables) (x s : ℕ) (ss : List ℕ) →
      tables_after bytes o opens allowance t (s ∷ ss) ≡ tried_on bytes o opens allowance t (last_tried (answer_to bytes o opens allowance (lengths t)) x (s ∷ ss))
  after_last t x s [] = go (is_stop (answer_to bytes o opens allowance (lengths t) s)) refl
    where
      go : (b : Bool) → is_stop (answer_to bytes o opens allowance (lengths t) s) ≡ b →
          tables_after bytes o opens allowance t (s ∷ []) ≡ tried_on bytes o opens allowance t (last_tried (answer_to bytes o opens allowance (lengths t)) x (s ∷ []))
      go true e = when_true _ _ _ e ∙ ap (tried_on bytes o opens allowance t) (sym (last_stops (answer_to bytes o opens allowance (lengths t)) x s [] e))
      go false e = when_false _ _ _ e ∙ ap (tried_on bytes o opens allowance t) (sym (last_goes (answer_to bytes o opens allowance (lengths t)) x s [] e))
  after_last t x s (u ∷ ss) = go (after_last (tried_on bytes o opens allowance t s) s u ss) (is_stop (answer_to bytes o opens allowance (lengths t) s)) refl
    where
      f : Lengths → ℕ → Answer
      f l = answer_to bytes o opens allowance l

      next : Tables
      next = tried_on bytes o opens allowance t s

      go : tables_after bytes o opens allowance next (u ∷ ss) ≡ tried_on bytes o opens allowance next (last_tried (f (lengths next)) s (u ∷ ss)) →
          (b : Bool) → is_stop (f (lengths t) s) ≡ b →
          tables_after bytes o opens allowance t (s ∷ u ∷ ss) ≡ tried_on bytes o opens allowance t (last_tried (f (lengths t)) x (s ∷ u ∷ ss))
      go rest true e = when_true _ _ _ e ∙ ap (tried_on bytes o opens allowance t) (sym (last_stops (f (lengths t)) x s (u ∷ ss) e))
      go rest false e =
          when_false _ _ _ e
          ∙ rest
          ∙ on_lengths next t (last_tried (f (lengths next)) s (u ∷ ss)) (kept_lengths t s)
          ∙ ap (λ (l : Lengths). tried_on bytes o opens allowance t (last_tried (f l) s (u ∷ ss))) (kept_lengths t s)
          ∙ ap (tried_on bytes o opens allowance t) (sym (last_goes (f (lengths t)) x s (u ∷ ss) e))

  pub after_all : (t : Tables) →
      tables_after bytes o opens allowance t (settings opens) ≡ tried_on bytes o opens allowance t (last_setting bytes o opens allowance (lengths t))
  after_all t =
      let first = some_subset 64 opens in
      ap (tables_after bytes o opens allowance t) first.2
      ∙ after_last t 0 first.0 first.1
      ∙ ap (λ (l : List ℕ). tried_on bytes o opens allowance t (last_tried (answer_to bytes o opens allowance (lengths t)) 0 l)) (sym first.2)

  -- what is tried is the same with tables of the same lengths
  pub tried_same : (t t' : Tables) → lengths t ≡ lengths t' → tried_all bytes o opens allowance t ≡ tried_all bytes o opens allowance t'
  unfolding tried_all
  tried_same t t' e =
      let reply : (tried_all bytes o opens allowance t).reply ≡ (tried_all bytes o opens allowance t').reply =
      ap (λ (l : Lengths). tried (tried_to (answer_to bytes o opens allowance l) (settings opens) (last_setting bytes o opens allowance l))) e
      in
      let tables : (tried_all bytes o opens allowance t).tables ≡ (tried_all bytes o opens allowance t').tables =
      after_all t
      ∙ on_lengths t t' (last_setting bytes o opens allowance (lengths t)) e
      ∙ ap (λ (l : Lengths). tried_on bytes o opens allowance t' (last_setting bytes o opens allowance l)) e
      ∙ sym (after_all t')
      in
      λ i. record { reply = reply i; tables = tables i }

-- ---- zeros after what was written

-- every place is zero
zero_at : (n i : ℕ) → ◌≡◌ {A = ℕ} (get_or (replicate n 0) i 0) 0
zero_at zero i = refl
zero_at (suc n) zero = refl
zero_at (suc n) (suc i) = zero_at n i

-- where the later places are those of zeros, they are zero
zero_from : (k n : ℕ) (t : List ℕ) → drop k t ≡ drop k (replicate n 0) → ZeroFrom k t
zero_from k n t e i h =
    let at : k + (i - k) ≡ i = omega (arith, h) in
    ap (λ (j : ℕ). get_or t j 0) (sym at)
    ∙ sym (get_or-drop k t (i - k) 0)
    ∙ ap (λ (l : List ℕ). get_or l (i - k) 0) e
    ∙ get_or-drop k (replicate n 0) (i - k) 0
    ∙ zero_at n (k + (i - k))

module _ (bytes : List ℕ) (o : Order) (allowance : ℕ) (t : Tables) (r : Outcome) (e : check bytes o allowance (lengths t) ≡ ran r) where
  -- the check of the zeroed tables
  zeroed_check : check bytes o allowance (lengths (zeroed t)) ≡ ran r
  zeroed_check = ap (check bytes o allowance) (zeroed_lengths t) ∙ e

  zeros_fill : Fills r (zeroed t) (filled (check bytes o allowance (lengths t)) (zeroed t))
  zeros_fill =
      subst (λ (l : Lengths). Fills r (zeroed t) (filled (check bytes o allowance l) (zeroed t))) (zeroed_lengths t)
      (ran_fills bytes o allowance (zeroed t) r zeroed_check)

  -- what was written, and zeros after it
  pub holds : WordsThenZeros r t (filled (check bytes o allowance (lengths t)) (zeroed t))
  holds =
      let f = zeros_fill in
      record {
        first = f.first;
        pos = zero_from _ (length t.pos) _ (ap (λ (x : Tables). x.pos) f.later);
        neg = zero_from _ (length t.neg) _ (ap (λ (x : Tables). x.neg) f.later);
        decided = zero_from _ (length t.decided) _ (ap (λ (x : Tables). x.decided) f.later);
        trues = zero_from _ (length t.trues) _ (ap (λ (x : Tables). x.trues) f.later);
        redundant = zero_from _ (length t.redundant) _ (ap (λ (x : Tables). x.redundant) f.later);
        same_lengths = f.same_lengths ∙ zeroed_lengths t;
      }
