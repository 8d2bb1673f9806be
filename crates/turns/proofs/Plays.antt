-- A whole play: whatever way the planner answers and whatever the buyer says, one choice comes out. Option by option, the next one is settled by the way, as the buyer says,
-- or not at all, and each time that is all there is to choose.
use mathlib.Core.Path.{◌≡◌, refl, sym, ap, ap₂, subst, ◌∙◌}
use mathlib.Core.Bool.{Bool, true, false}
use Prim.Native.Nat.{ℕ, zero, suc, ◌+◌, ◌^◌, ◌≤◌, ◌<◌}
use native.Mathlib.Nat.{le_refl}
use native.Mathlib.Decide.{dec_lt, ℕ_discrete}
use native.Mathlib.Omega.{arith}
use lib.Count.{ones}
use Rattle.words.specs.Words.{odd, has, first_vars}
use Rattle.words.proofs.Truth.{both_ways, refuted}
use Rattle.words.proofs.Sets.{within_antisym, within_zero, and_within_r, and_whole, lt_within}
use Rattle.order.specs.Order.{Order, complete, free}
use Rattle.turns.specs.Turns.{settled}
use Rattle.turns.specs.Meaning.{Free, lower, Planners, Buyers, Way, ComesOut, Play}
use Rattle.turns.proofs.Listing.{is_free}
use Rattle.turns.proofs.Rounds.{lower_next, settled_other, settled_at}
use Rattle.turns.proofs.Ways.{not_free, option_of, SoFar, Reached, pass_on, settle_next, comes_out}

-- no option is below the first
lower_none : (x : ℕ) → lower 0 x ≡ 0
unfolding first_vars
lower_none x = within_antisym (lower 0 x) 0 (and_within_r x (first_vars 0)) (within_zero (lower 0 x))

module _ (n : ℕ) (o : Order) (way : Way) (says : ℕ → Bool) where
  -- what is fitted once the options below option i + 1 are settled, the buyer's as he says
  record Point (i z : ℕ) : Type 0 where
    reached : Reached n o way 0 0 i z
    said : (k : ℕ) → k < i → Buyers n o k → has z k ≡ says k

  -- the next option is not free
  point_same : (i z : ℕ) → Point i z → (Free n o i → ⊥) → Point (suc i) z
  point_same i z p f =
      record {
        reached = pass_on n o way 0 0 i z (omega arith) p.reached f;
        said = λ k l b. elim (ℕ_discrete k i) [ yes e ↦ absurd (f (subst (Free n o) e b.is_free)) | no e ↦ p.said k (omega arith) b ];
      }

  -- it is, and settled
  point_next :
      (i z : ℕ) (b : Bool) → Point i z → Free n o i → (Planners n o i → b ≡ way i (lower i z)) → (Buyers n o i → b ≡ says i) → Point (suc i) (settled b (2 ^ i) z)
  point_next i z b p f planner buyer =
      record {
        reached = settle_next n o way 0 0 i z (omega arith) p.reached f b planner;
        said =
            λ k l q.
            elim (ℕ_discrete k i) [
              | yes e ↦ rw e (settled_at b i z (p.reached.point.later i (le_refl i) f) ∙ buyer (subst (Buyers n o) e q))
              | no e ↦ settled_other b i z k e ∙ p.said k (omega arith) q
            ];
      }

  -- a choice that comes out with what the buyer says
  abbrev Ends : Type 0
  Ends = (x : ℕ) × ComesOut n o way 0 0 x × ((k : ℕ) → Buyers n o k → has x k ≡ says k)

  one_more : (i z : ℕ) → Point i z → ((z' : ℕ) → Point (suc i) z' → Ends) → Ends
  one_more i z p next = go (has (free n o) i) refl (odd (ones (lower i (free n o)))) refl
    where
      go : (f : Bool) → has (free n o) i ≡ f → (t : Bool) → odd (ones (lower i (free n o))) ≡ t → Ends
      go false f t e = next z (point_same i z p (not_free n o i f))
      go true f true e = next _ (point_next i z (way i (lower i z)) p ((is_free n o i).0 f) (λ q. refl) (λ q. both_ways _ e q.turn))
      go true f false e = next _ (point_next i z (says i) p ((is_free n o i).0 f) (λ q. both_ways _ q.turn e) (λ q. refl))

  -- so the options are settled to the end
  played_out : (d i z : ℕ) → n ≤ i + d → Point i z → Ends
  played_out zero i z h p =
      (z, comes_out n o way 0 0 i z (omega arith) p.reached (omega arith), λ k b. p.said k (omega (arith, b.is_free.option)) b)
  played_out (suc d) i z h p = one_more i z p (λ z' q. played_out d (suc i) z' (omega arith) q)

  -- two choices that come out agree
  module _ (x z : ℕ) (cx : ComesOut n o way 0 0 x) (cz : ComesOut n o way 0 0 z)
      (sx : (k : ℕ) → Buyers n o k → has x k ≡ says k) (sz : (k : ℕ) → Buyers n o k → has z k ≡ says k) where
    same_at : (k : ℕ) → lower k z ≡ lower k x → has z k ≡ has x k
    same_at k e = go (has (free n o) k) refl (odd (ones (lower k (free n o)))) refl
      where
        -- no choice has an option above n
        above : (k < n → ⊥) → has z k ≡ has x k
        above h = refuted (has z k) (λ m. h (option_of n z k cz.choice m)) ∙ sym (refuted (has x k) (λ m. h (option_of n x k cx.choice m)))

        go : (f : Bool) → has (free n o) k ≡ f → (t : Bool) → odd (ones (lower k (free n o))) ≡ t → has z k ≡ has x k
        go false f t p =
            let fixed = not_free n o k f in
            elim (dec_lt k n) [ yes l ↦ cz.fixed k l fixed ∙ sym (cx.fixed k l fixed) | no l ↦ above l ]
        go true f true p =
            let turn : Planners n o k = record { is_free = (is_free n o k).0 f; turn = p } in
            cz.answered k (omega arith) turn ∙ ap (way k) e ∙ sym (cx.answered k (omega arith) turn)
        go true f false p = let turn : Buyers n o k = record { is_free = (is_free n o k).0 f; turn = p } in sz k turn ∙ sym (sx k turn)

    lower_same : (k : ℕ) → lower k z ≡ lower k x
    lower_same zero = lower_none z ∙ sym (lower_none x)
    lower_same (suc k) =
        lower_next k z ∙ ap₂ (λ b w. settled b (2 ^ k) w) (same_at k (lower_same k)) (lower_same k) ∙ sym (lower_next k x)

    same_choice : z ≡ x
    same_choice = sym (and_whole z (first_vars n) (lt_within n z cz.choice)) ∙ lower_same n ∙ and_whole x (first_vars n) (lt_within n x cx.choice)

  -- one choice comes out
  pub one_play : SoFar n o 0 (complete o).pos → (x : ℕ) × Play n o way says x
  one_play start =
      let p = played_out n 0 (complete o).pos (omega arith)
      (record {
        reached = record { point = start; so_far = λ k l. absurd (omega arith); answered = λ k l m q. absurd (omega arith) };
        said = λ k l b. absurd (omega arith);
      })
      in
      (p.0, record { comes_out = p.1; said = p.2; only = λ z c s. same_choice p.0 z p.1 c p.2 s })
