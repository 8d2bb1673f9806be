-- What the tallies of a table say of its clause of number i, which stands at place i % 64 of block i / 64: its counts, and whether it is in a row. A clause that fewer
-- than 128 decisions satisfy is in the row of those in play exactly if it is not inactive. A look-up that walks through two rows passes the clauses that are not in both:
-- where those fail its test, all clauses before the one that comes fail it.
use mathlib.Core.Path.{◌≡◌, refl, sym, ap, ap₂, ◌∙◌}
use mathlib.Core.Bool.{Bool, true, false, not, ◌&&◌, ◌||◌, not-not, and_self}
use mathlib.Core.List.{List}
use Prim.Native.Nat.{ℕ, zero, suc, ◌+◌, ◌*◌, ◌/◌, ◌%◌, ◌^◌, ◌<◌}
use native.Mathlib.Omega.{arith}
use borrow.Author.Count.{below_none, below_more}
use borrow.Author.Tests.{ltb-true, ltb-false, lt-ltb, eqb-true, eqb-false, eq-eqb, ne_eqb}
use lib.Arith.{digits_mod}
use lib.Count.{ones, count_trailing_zeros}
use lib.Dec.{eqb, ltb}
use Rattle.words.specs.Words.{is_zero, has, minus, meets}
use Rattle.words.proofs.Truth.{both_ways, refuted, and_left, and_right}
use Rattle.words.proofs.Membership.{has_minus}
use Rattle.words.proofs.Sets.{is_zero_lem, or_within_l, or_within_r, minus_empty, meets_false, meets_false_intro}
use Rattle.words.proofs.Unions.{meets_bit}
use Rattle.steps.specs.Clause.{Clause, vars, literals, Assignment, keepers, satisfied, falsified, names, inactive, undecided_in}
use Rattle.steps.specs.Enter.{unit}
use Rattle.steps.specs.Tally.{tally_of}
use Rattle.steps.proofs.Tally.{by_tally}
use Rattle.rows.specs.Rows.{clause_at}
use Rattle.rows.specs.Index.{row_at, count_of, is_in, playing, unsatisfied, struck, naming, NoneIn, coming, Walks}
use Rattle.rows.specs.Tally.{counts_of, Counted, is_unsatisfied, is_single, Block, Tallied, Variable}
use Rattle.rows.specs.declared.index.Walk.{Walk}
use Rattle.rows.proofs.Walks.{number_is}
use Rattle.rows.proofs.Both.{Turn, none_after}

-- ---- the word of the counts, of a clause that n decisions satisfy and of which u literals are undecided

module _ (n u x : ℕ) (is : x ≡ 2 * n + 256 * u) (few : n < 128) where
  -- below 256 it has the decisions
  low : x % 256 ≡ 2 * n
  low = let e : x ≡ u * 256 + 2 * n = omega arith in ap (λ (y : ℕ). y % 256) e ∙ digits_mod u (omega arith)

  -- so it says whether there is one
  none_satisfies : is_unsatisfied x ≡ is_zero n
  none_satisfies = go n low
    where
      go : (n : ℕ) → x % 256 ≡ 2 * n → is_unsatisfied x ≡ is_zero n
      go zero e = eq-eqb (x % 256) 0 (omega arith)
      go (suc n) e = ne_eqb (x % 256) 0 (λ z. omega arith)

  -- and whether there is none and one literal is left
  one_left : is_single x ≡ (is_zero n && eqb u 1)
  one_left = go n (eqb u 1) refl low
    where
      go : (n : ℕ) (p : Bool) → eqb u 1 ≡ p → x % 256 ≡ 2 * n → is_single x ≡ (is_zero n && p)
      go zero true e l = eq-eqb x 256 (omega (arith, eqb-true u 1 e))
      go zero false e l = ne_eqb x 256 (λ z. eqb-false u 1 e (omega arith))
      go (suc n) p e l = ne_eqb x 256 (λ z. omega arith)

-- ---- a clause

-- no decision satisfies it
unkept : (a : Assignment) (c : Clause) → not (satisfied a c) ≡ is_zero (ones (keepers a c))
unfolding tally_of
unkept a c = ap not (by_tally.kept a 0 c) ∙ not-not (is_zero (ones (keepers a c)))

-- it is in play where no decision satisfies it and it names nothing of k
active : (a : Assignment) (k : ℕ) (c : Clause) → not (inactive a k c) ≡ (not (satisfied a c) && not (names k c))
unfolding inactive
active a k c = neither (satisfied a c) (names k c)
  where
    neither : (p q : Bool) → not (p || q) ≡ (not p && not q)
    neither true q = refl
    neither false q = refl

-- a broken one names nothing of k, where no variable of k is decided
broken_apart : (a : Assignment) (k : ℕ) (c : Clause) → meets k a.decided ≡ false → falsified a c ≡ true → names k c ≡ false
unfolding falsified names
broken_apart a k c apart h =
    meets_false_intro (vars c) k
    (λ j m.
    refuted (has k j)
    (λ l.
    both_ways (has a.decided j)
    (minus_empty (vars c) a.decided (and_left (is_zero (minus (vars c) a.decided)) (not (satisfied a c)) h) j m)
    (meets_false k a.decided apart j l)))

-- and no decision satisfies it
broken_unkept : (a : Assignment) (c : Clause) → falsified a c ≡ true → not (satisfied a c) ≡ true
unfolding falsified
broken_unkept a c h = and_right (is_zero (minus (vars c) a.decided)) (not (satisfied a c)) h

-- it names a variable of which it has a literal, here of the word w and the number v
pub literal_named : (sign : Bool) (c : Clause) {w v : ℕ} → v ≡ count_trailing_zeros 64 w → Variable w → meets (literals sign c) w ≡ true → has (vars c) v ≡ true
unfolding vars
literal_named sign c {w} {v} e x m = go sign (sym (meets_bit (literals sign c) v) ∙ ap (meets (literals sign c)) (sym word) ∙ m)
  where
    word : w ≡ 2 ^ v
    word = x.word ∙ ap (λ (u : ℕ). 2 ^ u) (sym (number_is e x x.word))

    go : (sign : Bool) → has (literals sign c) v ≡ true → has (vars c) v ≡ true
    go true h = or_within_l c.pos c.neg v h
    go false h = or_within_r c.pos c.neg v h

-- ---- what the tallies say of it

module _ {t q : List ℕ} {m : ℕ} {a : Assignment} {k : ℕ} (x : Tallied t q m a k) (i : ℕ) (h : i < m) where
  -- its block, and its place there
  block : Block t q m (i / 64) a k
  block = x.block (i / 64) (omega arith)

  place : 64 * (i / 64) + i % 64 ≡ i
  place = omega arith

  -- the counts
  pub count_is : count_of q i ≡ counts_of a (clause_at t i)
  count_is = rw place at (block.counted (i % 64) (omega arith) (omega arith))

  -- what a test of the counts says of every clause that has them, it says of this one
  pub falsified_is : {y : ℕ} {r : Bool}
      → y ≡ count_of q i
      → ((b : Assignment) (c : Clause) → Counted b c y → r ≡ falsified b c)
      → falsified a (clause_at t i) ≡ r
  falsified_is e test = sym (test a (clause_at t i) (e ∙ count_is))

  -- it is in the row of a variable where it names it
  pub named_is : (v : ℕ) → v < 64 → is_in q (naming v) i ≡ has (vars (clause_at t i)) v
  named_is v l = rw (place, lt-ltb i m h) at (block.named v (i % 64) l (omega arith))

  -- and in that of the struck ones where it names one of k
  pub struck_is : is_in q struck i ≡ names k (clause_at t i)
  struck_is = rw (place, lt-ltb i m h) at (block.marked (i % 64) (omega arith))

  module _ (few : ones (keepers a (clause_at t i)) < 128) where
    -- no decision satisfies it
    pub unsatisfied_is : is_in q unsatisfied i ≡ not (satisfied a (clause_at t i))
    unsatisfied_is =
        let c = clause_at t i in
        (rw (place, lt-ltb i m h) at (block.unkept (i % 64) (omega arith)))
        ∙ none_satisfies (ones (keepers a c)) (undecided_in a c) (count_of q i) count_is few
        ∙ sym (unkept a c)

    -- it is in play
    pub playing_is : is_in q playing i ≡ not (inactive a k (clause_at t i))
    playing_is =
        let c = clause_at t i in
        ap (λ (y : ℕ). has y (i % 64)) block.active
        ∙ has_minus (row_at q (i / 64) unsatisfied) (row_at q (i / 64) struck) (i % 64)
        ∙ ap₂ (λ (p r : Bool). p && not r) unsatisfied_is struck_is
        ∙ sym (active a k c)

    -- it is in play with exactly one undecided literal
    pub single_is : (is_in q playing i && is_single (count_of q i)) ≡ unit a k (clause_at t i)
    unfolding unit
    single_is =
        let c = clause_at t i in
        ap₂ ◌&&◌ (playing_is ∙ active a k c)
        (one_left (ones (keepers a c)) (undecided_in a c) (count_of q i) count_is few ∙ ap (λ (p : Bool). p && eqb (undecided_in a c) 1) (sym (unkept a c)))
        ∙ once (not (satisfied a c)) (not (names k c)) (eqb (undecided_in a c) 1)
      where
        once : (p r s : Bool) → ((p && r) && (p && s)) ≡ (p && (r && s))
        once true r s = refl
        once false r s = refl

  -- a broken one is in play
  pub falsified_plays : meets k a.decided ≡ false → falsified a (clause_at t i) ≡ true → is_in q playing i ≡ true
  falsified_plays apart f =
      let c = clause_at t i in
      let none : ones (keepers a c) ≡ 0 = is_zero_lem _ (sym (unkept a c) ∙ broken_unkept a c f) in
      playing_is (omega arith) ∙ active a k c ∙ ap₂ (λ (p r : Bool). p && not r) (broken_unkept a c f) (broken_apart a k c apart f)

-- ---- a walk

-- through the clauses in play: it passes none that is falsified
pub falsified_out : {t q : List ℕ} {m : ℕ} {a : Assignment} {k : ℕ}
    → Tallied t q m a k
    → meets k a.decided ≡ false
    → (i : ℕ) → i < m → (is_in q playing i && is_in q playing i) ≡ false → falsified a (clause_at t i) ≡ false
falsified_out {t} {q} {m} {a} {k} x apart i h e =
    refuted (falsified a (clause_at t i)) (λ f. both_ways (is_in q playing i) (falsified_plays x i h apart f) (sym (and_self (is_in q playing i)) ∙ e))

-- through those in two rows: where P holds of every clause that is not in both, of all below i, and none from i on before k is in both, it holds of all below k
further : (P : ℕ → Type 0) (q : List ℕ) (m u w : ℕ) {i k : ℕ}
    → ((x : ℕ) → x < m → (is_in q u x && is_in q w x) ≡ false → P x)
    → ((x : ℕ) → x < i → x < m → P x)
    → NoneIn q m u w i k
    → (x : ℕ) → x < k → x < m → P x
further P q m u w {i} out all none x l h = go (ltb x i) refl
  where
    go : (b : Bool) → ltb x i ≡ b → P x
    go true e = all x (ltb-true x i e) h
    go false e = out x h (none x (ltb-false x i e) l h)

module _ (P : ℕ → Type 0) {q : List ℕ} {m u w : ℕ} (out : (x : ℕ) → x < m → (is_in q u x && is_in q w x) ≡ false → P x) {s : Walk} where
  -- so it holds of all before the walk begins
  pub walk_begins : Walks q m u w s × NoneIn q m u w 0 (coming s) → (x : ℕ) → x < coming s → x < m → P x
  walk_begins go = further P q m u w out (below_none _) go.1

  module _ (all : (x : ℕ) → x < coming s → x < m → P x) where
    -- and where it ends of all
    pub walk_ends : Walks q m u w s → NoneIn s.q.now s.m s.u s.w (coming s) s.m → (x : ℕ) → x < m → x < m → P x
    walk_ends go none = further P q m u w out all (none_after go none)

    -- and in a turn of all below the clause that comes
    module _ {t : Walk} {i : ℕ} (turn : Turn q m u w s i t) where
      pub walk_comes : (x : ℕ) → x < i → x < m → P x
      walk_comes = further P q m u w out all turn.before

      -- and then, where it holds of that one, of all that the walk has passed
      pub walk_goes : P i → (x : ℕ) → x < coming t → x < m → P x
      walk_goes here = further P q m u w out (below_more _ i walk_comes (λ h. here)) turn.after
