-- What a walk notes, and the choice from its notes. A word w meets the notes of one sign exactly if some clause of the table is in play with w's literal: clause by
-- clause, from the notes so far. By the same clauses the test for that literal fails; where there is none, the test gives what is gathered. So, variable by
-- variable, the choice is that of step 3.
use mathlib.Core.Path.{◌≡◌, refl, sym, ap, ◌∙◌}
use mathlib.Core.Bool.{Bool, true, false, not, ◌&&◌, ◌||◌, and-false, or-true, or-false, or_assoc}
use mathlib.Core.List.{List, [], ◌∷◌, Memᴰ}
use mathlib.Core.Option.{Option, some, none}
use Prim.Native.Nat.{ℕ, zero, suc, ◌^◌}
use borrow.Author.Tests.{not-true}
use lib.Bits.{bit_or, or_zero_r}
use Rattle.words.specs.Words.{has, meets, lowest, members}
use Rattle.words.proofs.Truth.{both_ways, refuted, and_left, and_right, and_both}
use Rattle.words.proofs.Sets.{zero_meets}
use Rattle.words.proofs.Unions.{or_meets, meets_bit}
use Rattle.steps.specs.Lists.{any, find, or_else}
use Rattle.steps.specs.Clause.{Clause, literals, Assignment, keepers, satisfied, names, inactive, last}
use Rattle.steps.specs.State.{State, redundant, live}
use Rattle.steps.specs.Sweep.{all_inactive, monotone, Found, Found.nothing, Found.variable, first_monotone, strike, sweep_on, sweep}
use Rattle.steps.specs.Notes.{Notes, noted, note, walk, notes, Literal, choice, keeper, in_play, gather, found_by, rounds}
use Rattle.steps.specs.Demands.{Noted, SameChoice, SameSweep}
use Rattle.steps.proofs.ListLaws.{find_some, find_none, any_true, any_intro}

-- what a clause adds to what is gathered for the literal l
module _ (a : Assignment) (k : ℕ) (c : Clause) (l : Literal) where
  -- without the literal it adds no decision
  pub without_literal : meets (literals l.sign c) l.var ≡ false → keeper l a k c ≡ 0
  unfolding keeper
  without_literal h = rw (h, keeper)

  -- nor does it where it names a variable of k
  pub naming_redundant : names k c ≡ true → keeper l a k c ≡ 0
  unfolding keeper
  naming_redundant n = rw (n, and-false (meets (literals l.sign c) l.var), keeper)

  -- else it adds its lowest
  pub adds_keeper : meets (literals l.sign c) l.var ≡ true → names k c ≡ false → keeper l a k c ≡ lowest (keepers a c)
  unfolding keeper
  adds_keeper h n = rw (h, n, keeper)

module _ (a : Assignment) (k : ℕ) (b : Bool) (w : ℕ) where
  abbrev literal : Literal
  literal = record { var = w; sign = b }

  -- the clause is in play with w's literal
  abbrev playing : Clause → Bool
  playing c = in_play literal a k c

  -- a clause's turn adds that
  note_meets : (c : Clause) (x : Notes) → meets (noted b (note a k c x)) w ≡ (meets (noted b x) w || playing c)
  unfolding note
  note_meets c x = go b (inactive a k c) refl
    where
      go : (b i : Bool) → inactive a k c ≡ i → meets (noted b (note a k c x)) w ≡ (meets (noted b x) w || (not i && meets (literals b c) w))
      go b true e = rw (e, note) (sym (or-false (meets (noted b x) w)))
      go true false e = rw (e, note) (or_meets x.pos c.pos w)
      go false false e = rw (e, note) (or_meets x.neg c.neg w)

  -- and the rest of a walk, for each clause
  walk_meets : (x : Notes) (t : List Clause) → meets (noted b (walk a k x t)) w ≡ (meets (noted b x) w || any playing t)
  unfolding walk
  walk_meets x [] = sym (or-false (meets (noted b x) w))
  walk_meets x (c ∷ cs) =
      walk_meets (note a k c x) cs ∙ ap (λ (p : Bool). p || any playing cs) (note_meets c x) ∙ or_assoc (meets (noted b x) w) (playing c) (any playing cs)

  -- so w meets the notes of a walk exactly if a clause is in play with its literal
  notes_meets : (t : List Clause) → meets (noted b (notes a k t)) w ≡ any playing t
  unfolding notes
  notes_meets t = walk_meets _ t ∙ ap (λ (p : Bool). p || any playing t) (none_yet b)
    where
      none_yet : (b : Bool) → meets (noted b (record { pos = 0; neg = 0 })) w ≡ false
      none_yet true = zero_meets w
      none_yet false = zero_meets w

  -- by the same clauses the test fails, and without one it gives what is gathered
  abbrev told : Bool → ℕ → Option ℕ
  told p r = elim p as (λ _. Option ℕ) [ true ↦ none | false ↦ some r ]

  -- a clause that adds no decision is passed over
  skipped : (r : ℕ) (c : Clause) (cs : List Clause) → keeper literal a k c ≡ 0 → gather literal a k r (c ∷ cs) ≡ gather literal a k r cs
  unfolding gather
  skipped r c cs h = ap (λ (x : ℕ). gather literal a k x cs) (ap (bit_or r) h ∙ or_zero_r r)

  -- one that adds x does so
  added : (r x : ℕ) (c : Clause) (cs : List Clause) → keeper literal a k c ≡ x → gather literal a k r (c ∷ cs) ≡ gather literal a k (bit_or r x) cs
  unfolding gather
  added r x c cs h = ap (λ (y : ℕ). gather literal a k (bit_or r y) cs) h

  test_told : (r : ℕ) (t : List Clause) → all_inactive b w a k r t ≡ told (any playing t) (gather literal a k r t)
  unfolding all_inactive gather inactive
  test_told r [] = refl
  test_told r (c ∷ cs) = go (meets (literals b c) w) refl (names k c) refl (satisfied a c) refl (λ r. test_told r cs)
    where
      go : (p : Bool) → meets (literals b c) w ≡ p → (n : Bool) → names k c ≡ n → (s : Bool) → satisfied a c ≡ s
          → ((r : ℕ) → all_inactive b w a k r cs ≡ told (any playing cs) (gather literal a k r cs))
          → all_inactive b w a k r (c ∷ cs) ≡ told (any playing (c ∷ cs)) (gather literal a k r (c ∷ cs))
      go false p n en s es rest = rw (skipped r c cs (without_literal a k c literal p), p, en, es, and-false (not (s || n)), all_inactive) (rest r)
      go true p true en s es rest = rw (skipped r c cs (naming_redundant a k c literal en), p, en, es, or-true s, all_inactive) (rest r)
      go true p false en true es rest = rw (added r (lowest (keepers a c)) c cs (adds_keeper a k c literal p en), p, en, es, all_inactive) (rest (bit_or r (lowest (keepers a c))))
      go true p false en false es rest = rw (p, en, es, all_inactive) refl

  -- so the test for a literal that is not noted gives what is gathered, and for one that is noted it fails
  pub test_passes : (r : ℕ) (t : List Clause) → meets (noted b (notes a k t)) w ≡ false → all_inactive b w a k r t ≡ some (gather literal a k r t)
  test_passes r t h = test_told r t ∙ ap (λ (p : Bool). told p (gather literal a k r t)) (sym (notes_meets t) ∙ h)

  pub test_fails : (r : ℕ) (t : List Clause) → meets (noted b (notes a k t)) w ≡ true → all_inactive b w a k r t ≡ none
  test_fails r t h = test_told r t ∙ ap (λ (p : Bool). told p (gather literal a k r t)) (sym (notes_meets t) ∙ h)

  -- it passes too where no clause is in play with the literal, and fails where one is
  pub none_in_play : (r : ℕ) (t : List Clause) → find playing t ≡ none → all_inactive b w a k r t ≡ some (gather literal a k r t)
  none_in_play r t f =
      test_told r t
      ∙ ap (λ (p : Bool). told p (gather literal a k r t))
      (refuted (any playing t) (λ h. let m = any_true playing t h in both_ways (playing m.0) m.2 (find_none playing t f m.0 m.1)))

  pub some_in_play : (r : ℕ) (t : List Clause) (c : Clause) → find playing t ≡ some c → all_inactive b w a k r t ≡ none
  some_in_play r t c f =
      let m = find_some playing t c f in
      test_told r t ∙ ap (λ (p : Bool). told p (gather literal a k r t)) (any_intro playing t c m.0 m.1)

-- noted exactly if a clause that is not inactive has the literal
pub noted_exactly : Noted
noted_exactly a k t b v = (some_has, is_noted)
  where
    tells : has (noted b (notes a k t)) v ≡ any (playing a k b (2 ^ v)) t
    tells = sym (meets_bit (noted b (notes a k t)) v) ∙ notes_meets a k b (2 ^ v) t

    some_has : has (noted b (notes a k t)) v ≡ true → (c : Clause) × Memᴰ c t × (inactive a k c ≡ false) × (has (literals b c) v ≡ true)
    some_has h =
        let m = any_true (playing a k b (2 ^ v)) t (sym tells ∙ h) in (
          m.0,
          m.1,
          not-true (inactive a k m.0) (and_left (not (inactive a k m.0)) (meets (literals b m.0) (2 ^ v)) m.2),
          sym (meets_bit (literals b m.0) v) ∙ and_right (not (inactive a k m.0)) (meets (literals b m.0) (2 ^ v)) m.2,
        )

    is_noted : (c : Clause) × Memᴰ c t × (inactive a k c ≡ false) × (has (literals b c) v ≡ true) → has (noted b (notes a k t)) v ≡ true
    is_noted (c, m, i, h) =
        tells
        ∙ any_intro
        (playing a k b (2 ^ v))
        t
        c
        m
        (and_both (not (inactive a k c)) (meets (literals b c) (2 ^ v)) (ap not i) (meets_bit (literals b c) v ∙ h))

-- ---- the choice

-- one variable at a time: the first listed is chosen by its negative literal, or by its positive one, or it is passed over
module _ (x : Notes) (w : ℕ) (ws : List ℕ) where
  pub by_negative : meets x.neg w ≡ false → choice (w ∷ ws) x ≡ some (record { var = w; sign = false })
  unfolding choice
  by_negative p = rw (p, choice)

  pub by_positive : meets x.neg w ≡ true → meets x.pos w ≡ false → choice (w ∷ ws) x ≡ some (record { var = w; sign = true })
  unfolding choice
  by_positive p q = rw (p, q, choice)

  pub passed_over : meets x.neg w ≡ true → meets x.pos w ≡ true → choice (w ∷ ws) x ≡ choice ws x
  unfolding choice
  passed_over p q = rw (p, q, choice)

-- the test for w passes by the first of these, and fails where it is passed over
module _ (a : Assignment) (k r : ℕ) (t : List Clause) (w : ℕ) where
  abbrev tested : Option ℕ
  tested = or_else (all_inactive false w a k r t) (all_inactive true w a k r t)

  abbrev gathered : Bool → ℕ
  gathered b = gather (record { var = w; sign = b }) a k r t

  pub passes_negative : meets (notes a k t).neg w ≡ false → tested ≡ some (gathered false)
  passes_negative p = ap (λ (o : Option ℕ). or_else o (all_inactive true w a k r t)) (test_passes a k false w r t p)

  pub passes_positive : meets (notes a k t).neg w ≡ true → meets (notes a k t).pos w ≡ false → tested ≡ some (gathered true)
  passes_positive p q = ap (λ (o : Option ℕ). or_else o (all_inactive true w a k r t)) (test_fails a k false w r t p) ∙ test_passes a k true w r t q

  pub passes_not : meets (notes a k t).neg w ≡ true → meets (notes a k t).pos w ≡ true → tested ≡ none
  passes_not p q = ap (λ (o : Option ℕ). or_else o (all_inactive true w a k r t)) (test_fails a k false w r t p) ∙ test_fails a k true w r t q

-- so the choice is the same
pub same_choice : SameChoice
unfolding choice first_monotone monotone
same_choice a s [] = refl
same_choice a s (w ∷ ws) = go (meets x.neg w) refl (meets x.pos w) refl (same_choice a s ws)
  where
    x : Notes
    x = notes a (redundant s) s.table

    r : ℕ
    r = (last s.records).decisions.decided

    go : (p : Bool) → meets x.neg w ≡ p → (q : Bool) → meets x.pos w ≡ q → found_by a s (choice ws x) ≡ first_monotone a s ws
        → found_by a s (choice (w ∷ ws) x) ≡ first_monotone a s (w ∷ ws)
    go false p q eq rest = ap (found_by a s) (by_negative x w ws p) ∙ sym (rw (passes_negative a (redundant s) r s.table w p, first_monotone))
    go true p false eq rest = ap (found_by a s) (by_positive x w ws p eq) ∙ sym (rw (passes_positive a (redundant s) r s.table w p eq, first_monotone))
    go true p true eq rest = ap (found_by a s) (passed_over x w ws p eq) ∙ rest ∙ sym (rw (passes_not a (redundant s) r s.table w p eq, first_monotone))

-- round by round, so is the sweep
pub same_sweep : SameSweep
unfolding rounds sweep
same_sweep e a zero s = refl
same_sweep e a (suc k) s =
    ap (sweep_on a (λ u. rounds e a k (notes a (redundant u) u.table) u) s) (same_choice a s (members (live e a s))) ∙ go (first_monotone a s (members (live e a s))) (same_sweep e a k)
  where
    go : (f : Found) → ((u : State) → rounds e a k (notes a (redundant u) u.table) u ≡ sweep e a k u)
        → sweep_on a (λ u. rounds e a k (notes a (redundant u) u.table) u) s f ≡ sweep_on a (sweep e a k) s f
    go nothing below = refl
    go (variable w r) below = below (strike a w r s)
