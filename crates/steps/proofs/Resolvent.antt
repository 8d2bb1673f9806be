-- The resolvent of two clauses that the two sides of a branching over w falsify. Its literals are the parents' literals of other variables, which the
-- decisions before the branching made false already. So it is falsified at the branching, and proper: no false literal has a false opposite.
use mathlib.Core.Path.{◌≡◌, sym, ◌∙◌}
use mathlib.Core.Logic.{◌⊎◌, ⊎_elim}
use mathlib.Core.Bool.{Bool, true, false, not}
use Prim.Native.Nat.{ℕ}
use lib.Bits.{bit_or}
use Rattle.words.specs.Words.{has}
use Rattle.words.proofs.Truth.{both_ways, refuted}
use Rattle.words.proofs.Sets.{or_within_l, or_within_r, minus_within, meets_false_intro, in_or, in_minus, minus_out}
use Rattle.steps.specs.Clause.{Clause, literals, Assignment, decide}
use Rattle.steps.specs.Merge.{resolvent}
use Rattle.steps.specs.Shape.{Proper}
use Rattle.steps.proofs.Places.{decided_more, trues_other}
use Rattle.steps.proofs.Models.{literal_named}
use Rattle.steps.proofs.Literals.{Falsified, literal_of_lem}

-- a literal of the resolvent is one of a parent, and not of w
pub resolvent_literal :
    (w : ℕ) (c d : Clause) (b : Bool) (k : ℕ) → has (literals b (resolvent w c d)) k ≡ true →
    (has w k ≡ false) × ((has (literals b c) k ≡ true) ⊎ (has (literals b d) k ≡ true))
unfolding resolvent
resolvent_literal w c d true k l =
    (minus_out (bit_or c.pos d.pos) w k l, in_or c.pos d.pos k (minus_within (bit_or c.pos d.pos) w k l))
resolvent_literal w c d false k l =
    (minus_out (bit_or c.neg d.neg) w k l, in_or c.neg d.neg k (minus_within (bit_or c.neg d.neg) w k l))

-- and every such literal is one of the resolvent
pub literal_resolvent :
    (w : ℕ) (c d : Clause) (b : Bool) (k : ℕ) → has w k ≡ false → (has (literals b c) k ≡ true) ⊎ (has (literals b d) k ≡ true) →
    has (literals b (resolvent w c d)) k ≡ true
unfolding resolvent
literal_resolvent w c d true k n l =
    in_minus (bit_or c.pos d.pos) w k (⊎_elim (or_within_l c.pos d.pos k) (or_within_r c.pos d.pos k) l) n
literal_resolvent w c d false k n l =
    in_minus (bit_or c.neg d.neg) w k (⊎_elim (or_within_l c.neg d.neg k) (or_within_r c.neg d.neg k) l) n

module _ (a : Assignment) (w : ℕ) where
  -- a literal of a clause falsified on a side, other than w's, was false before
  falsified_before :
      (b : Bool) (c : Clause) → Falsified (decide a w b) c → (σ : Bool) (k : ℕ) → has (literals σ c) k ≡ true → has w k ≡ false →
      (has a.decided k ≡ true) × (has a.trues k ≡ not σ)
  falsified_before b c f σ k l n =
      let d : has (bit_or a.decided w) k ≡ true = rw (decided_more a w b) at (f σ k l).0 in
      (⊎_elim (λ p. p) (λ p. both_ways (has w k) p n) (in_or a.decided w k d), sym (trues_other a w b k n) ∙ (f σ k l).1)

  module _ (b : Bool) (c d : Clause) (f : Falsified (decide a w b) c) (g : Falsified (decide a w (not b)) d) where
    -- the resolvent is falsified
    pub resolvent_falsified : Falsified a (resolvent w c d)
    resolvent_falsified σ k l =
        let r = resolvent_literal w c d σ k l in
        ⊎_elim (λ m. falsified_before b c f σ k m r.0) (λ m. falsified_before (not b) d g σ k m r.0) r.1

    -- and proper where its parents are
    pub resolvent_proper : (n : ℕ) → Proper n c → Proper n d → Proper n (resolvent w c d)
    resolvent_proper n p q =
        record {
          named =
              λ k m.
              let l = literal_of_lem (resolvent w c d) k m in
              ⊎_elim (λ h. p.named k (literal_named l.0 c k h)) (λ h. q.named k (literal_named l.0 d k h)) (resolvent_literal w c d l.0 k l.1).1;
          consistent =
              meets_false_intro (resolvent w c d).pos (resolvent w c d).neg
              (λ k m. refuted (has (resolvent w c d).neg k) (λ o. both_ways (has a.trues k) (resolvent_falsified false k o).1 (resolvent_falsified true k m).1));
        }
