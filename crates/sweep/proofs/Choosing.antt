-- The choice from the notes, on words. Variables that have both literals noted are passed over; so only those of x that lack one count, and the lowest of these
-- is chosen, by its negative literal if that one is not noted, and else by its positive one.
use mathlib.Core.Path.{◌≡◌, refl, sym, ap, ◌∙◌}
use mathlib.Core.Bool.{Bool, true, false, not}
use mathlib.Core.List.{List, [], ◌∷◌}
use mathlib.Core.Option.{Option, some, none}
use Prim.Native.Nat.{ℕ, ◌^◌}
use lib.Bits.{bit_and}
use Rattle.words.specs.Words.{is_zero, has, minus, meets, lowest, members}
use Rattle.words.proofs.Truth.{both_ways, refuted, when_true, when_false}
use Rattle.words.proofs.Sets.{and_within_l, and_within_r, in_and, minus_out, meets_true, meets_intro}
use Rattle.words.proofs.Lowest.{lowest_is, members_zero, members_step}
use Rattle.words.proofs.Unions.{meets_bit}
use Rattle.steps.specs.Lists.{filter}
use Rattle.steps.specs.Notes.{Notes, Literal, choice}
use Rattle.steps.proofs.Notes.{by_negative, by_positive, passed_over}
use Rattle.sweep.proofs.Members.{members_minus}

module _ (n : Notes) where
  -- the variables of which both literals are noted
  abbrev both : ℕ
  both = bit_and n.pos n.neg

  -- they are passed over
  both_over : (w : ℕ) (ws : List ℕ) → meets both w ≡ true → choice (w ∷ ws) n ≡ choice ws n
  both_over w ws h =
      let m = meets_true both w h in
      passed_over n w ws
      (meets_intro n.neg w m.0 (and_within_r n.pos n.neg m.0 m.1) m.2)
      (meets_intro n.pos w m.0 (and_within_l n.pos n.neg m.0 m.1) m.2)

  pass_over : (ws : List ℕ) → choice ws n ≡ choice (filter (λ w. not (meets both w)) ws) n
  unfolding choice
  pass_over [] = refl
  pass_over (w ∷ ws) = go (meets both w) refl (pass_over ws)
    where
      next : Option Literal → Option Literal
      next o =
          elim (meets n.neg w) [
            | false ↦ some (record { var = w; sign = false })
            | true ↦ elim (meets n.pos w) [ false ↦ some (record { var = w; sign = true }) | true ↦ o ]
          ]

      go : (p : Bool) → meets both w ≡ p → choice ws n ≡ choice (filter (λ v. not (meets both v)) ws) n
          → choice (w ∷ ws) n ≡ choice (filter (λ v. not (meets both v)) (w ∷ ws)) n
      go true e rest = both_over w ws e ∙ rest ∙ ap (λ (vs : List ℕ). choice vs n) (sym (when_false (not (meets both w)) _ _ (ap not e)))
      go false e rest = ap next rest ∙ ap (λ (vs : List ℕ). choice vs n) (sym (when_true (not (meets both w)) _ _ (ap not e)))

  -- the first listed that lacks a literal is chosen by the sign that it lacks
  lacking : (k : ℕ) (ws : List ℕ) → has both k ≡ false → choice (2 ^ k ∷ ws) n ≡ some (record { var = 2 ^ k; sign = meets n.neg (2 ^ k) })
  lacking k ws out = go (meets n.neg (2 ^ k)) refl
    where
      go : (p : Bool) → meets n.neg (2 ^ k) ≡ p → choice (2 ^ k ∷ ws) n ≡ some (record { var = 2 ^ k; sign = p })
      go false e = by_negative n (2 ^ k) ws e
      go true e =
          by_positive n (2 ^ k) ws e
          (meets_bit n.pos k
          ∙ refuted (has n.pos k) (λ p. both_ways (has both k) (in_and n.pos n.neg k p (sym (meets_bit n.neg k) ∙ e)) out))

  module _ (x : ℕ) where
    -- the variables of x that lack a literal
    abbrev pub free : ℕ
    free = minus x both

    -- only those count
    only_free : choice (members x) n ≡ choice (members free) n
    only_free = pass_over (members x) ∙ ap (λ (ws : List ℕ). choice ws n) (sym (members_minus x both))

    -- with none of them, nothing is chosen
    pub none_free : free ≡ 0 → choice (members x) n ≡ none
    unfolding choice
    none_free h = only_free ∙ ap (λ (ws : List ℕ). choice ws n) (ap members h ∙ members_zero)

    -- else the lowest of them is
    pub lowest_chosen : is_zero free ≡ false → choice (members x) n ≡ some (record { var = lowest free; sign = meets n.neg (lowest free) })
    lowest_chosen h =
        let l = lowest_is free h in
        only_free
        ∙ ap (λ (ws : List ℕ). choice ws n) (members_step free h)
        ∙ ap (λ (w : ℕ). choice (w ∷ members (minus free w)) n) l.1
        ∙ lacking l.0 _ (minus_out x both l.0 l.2)
        ∙ ap (λ (w : ℕ). some (record { var = w; sign = meets n.neg w })) (sym l.1)
