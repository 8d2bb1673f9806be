-- Clauses that name every variable. Each choice breaks one of them, and decisions that agree with the choice do not satisfy it. The full clauses are just those that the
-- choices below 2^n break, and a permutation of the list of all of them has the same members. So no choice keeps such a book.
use mathlib.Core.Path.{◌≡◌, refl, sym, ap, ◌∙◌, subst}
use mathlib.Core.Bool.{Bool, true, false}
use mathlib.Core.List.Memᴰ
use mathlib.Core.List.Permᴰ
use mathlib.Core.List.{List, [], ◌∷◌, ◌++◌, map, map-append, Memᴰ, Permᴰ}
use mathlib.Core.Logic.{⊎_elim}
use Prim.Native.Nat.{ℕ, zero, suc, ◌^◌, ◌<◌}
use native.Mathlib.Omega.{arith}
use lib.Dec.{eqb}
use lib.ListN.{length, length-append, length-map}
use borrow.Author.Tests.{eqb-true, eqb-false}
use Rattle.words.specs.Words.{has, minus, first_vars, Within}
use Rattle.words.proofs.Truth.{both_ways, refuted}
use Rattle.words.proofs.Sets.{within_refl, within_antisym, within_lt, lt_within, or_within, or_within_l, or_within_r, meets_false, meets_false_intro, minus_within, in_or, in_minus, minus_out}
use Rattle.steps.specs.Clause.{Clause, vars, Assignment, satisfied}
use Rattle.steps.specs.Worst.{Full, forbidding, below, Distinct, all_rules, Arranged}
use Rattle.steps.specs.Shape.{Proper}
use Rattle.steps.specs.Demands.{AllRules}
use Rattle.steps.proofs.Models.{Satisfied, Satisfied.at, Agrees}
use Rattle.steps.proofs.Literals.{keeper_satisfies, satisfied_keeper}
use Rattle.steps.proofs.ShapeSweep.{keepers_within}

-- a full clause is proper
pub full_proper : (n : ℕ) (c : Clause) → Full n c → Proper n c
full_proper n c f = record { named = rw f.every (within_refl (first_vars n)); consistent = f.consistent }

-- ---- the clause that a choice breaks

-- it is full
pub forbidding_full : (n x : ℕ) → Within x (first_vars n) → Full n (forbidding n x)
unfolding forbidding vars
forbidding_full n x h =
    record {
      every =
          within_antisym (vars (forbidding n x)) (first_vars n) (or_within (minus (first_vars n) x) x (first_vars n) (minus_within (first_vars n) x) h) (λ k m. named k m (has x k) refl);
      consistent = meets_false_intro (minus (first_vars n) x) x (minus_out (first_vars n) x);
    }
  where
    named : (k : ℕ) → has (first_vars n) k ≡ true → (p : Bool) → has x k ≡ p → has (vars (forbidding n x)) k ≡ true
    named k m true e = or_within_r (minus (first_vars n) x) x k e
    named k m false e = or_within_l (minus (first_vars n) x) x k (in_minus (first_vars n) x k m e)

-- the choice breaks it
pub forbidden : (n x : ℕ) → Satisfied x (forbidding n x) → ⊥
unfolding forbidding
forbidden n x (at k true l h) = both_ways (has x k) h (minus_out (first_vars n) x k l)
forbidden n x (at k false l h) = both_ways (has x k) l h

-- and so decisions that agree with the choice do not satisfy it
pub forbidden_unsatisfied : (n x : ℕ) (a : Assignment) → Within a.trues a.decided → Agrees x a → satisfied a (forbidding n x) ≡ false
forbidden_unsatisfied n x a trues agree =
    refuted (satisfied a (forbidding n x))
    (λ s.
    let j = satisfied_keeper a (forbidding n x) s in
    forbidden n x (keeper_satisfies x a (forbidding n x) j.0 j.1 (agree j.0 (keepers_within a (forbidding n x) trues j.0 j.1))))

-- every full clause is one that a choice breaks
full_forbids : (n : ℕ) (c : Clause) → Full n c → forbidding n c.neg ≡ c
unfolding forbidding vars
full_forbids n c f =
    let rest : minus (first_vars n) c.neg ≡ c.pos =
    within_antisym (minus (first_vars n) c.neg) c.pos
    (λ k m. ⊎_elim (λ p. p) (λ q. both_ways (has c.neg k) q (minus_out (first_vars n) c.neg k m)) (in_or c.pos c.neg k (rw f.every (minus_within (first_vars n) c.neg k m))))
    (λ k m. in_minus (first_vars n) c.neg k (rw (← f.every) (or_within_l c.pos c.neg k m)) (meets_false c.pos c.neg f.consistent k m)) in
    rw rest refl

-- ---- the list of all of them

-- the numbers below m are listed, and no other
below_listed : (m x : ℕ) → x < m → Memᴰ x (below m)
below_listed zero x h = absurd (omega arith)
below_listed (suc m) x h = go (eqb x m) refl (below_listed m x)
  where
    go : (t : Bool) → eqb x m ≡ t → (x < m → Memᴰ x (below m)) → Memᴰ x (below m ++ (m ∷ []))
    go true e f = Memᴰ.append_right (below m) (Memᴰ.head (eqb-true x m e))
    go false e f = Memᴰ.append_left (m ∷ []) (f (omega (arith, eqb-false x m e)))

listed_below : (m x : ℕ) → Memᴰ x (below m) → x < m
listed_below zero x h = absurd (Memᴰ.not-nil h)
listed_below (suc m) x h =
    ⊎_elim (λ i. omega (arith, listed_below m x i)) (λ i. let is : x ≡ m = Memᴰ.eq_of_singleton i in omega arith) (Memᴰ.append_cases (below m) h)

-- the full clauses are in the list, and no other
pub full_listed : (n : ℕ) (c : Clause) → Full n c → Memᴰ c (all_rules n)
unfolding all_rules vars
full_listed n c f =
    let within : Within c.neg (first_vars n) = λ k m. rw (← f.every) (or_within_r c.pos c.neg k m) in
    subst (λ (d : Clause). Memᴰ d (all_rules n)) (full_forbids n c f) (Memᴰ.map (forbidding n) (below_listed (2 ^ n) c.neg (within_lt n c.neg within)))

pub listed_full : (n : ℕ) (c : Clause) → Memᴰ c (all_rules n) → Full n c
unfolding all_rules
listed_full n c m =
    let from = Memᴰ.of_map (forbidding n) (below (2 ^ n)) m in
    subst (Full n) from.2 (forbidding_full n from.0 (lt_within n from.0 (listed_below (2 ^ n) from.0 from.1)))

-- there are m numbers below m
below_many : (m : ℕ) → length (below m) ≡ m
below_many zero = refl
below_many (suc m) = simp length-append (omega (arith, below_many m))

-- one more that was not there leaves no element twice
distinct_append : (cs : List Clause) (c : Clause) → Distinct cs → (Memᴰ c cs → ⊥) → Distinct (cs ++ (c ∷ []))
distinct_append [] c d f = (λ m. Memᴰ.not-nil m, tt)
distinct_append (x ∷ xs) c d f = (
  λ m. ⊎_elim d.0 (λ i. f (Memᴰ.head (sym (Memᴰ.eq_of_singleton i)))) (Memᴰ.append_cases xs m),
  distinct_append xs c d.1 (λ i. f (Memᴰ.tail i)),
)

-- the clauses that different choices break differ
below_distinct : (n m : ℕ) → Distinct (map (forbidding n) (below m))
unfolding forbidding
below_distinct n zero = tt
below_distinct n (suc m) =
    subst Distinct (sym (map-append (forbidding n) (below m) (m ∷ [])))
    (distinct_append (map (forbidding n) (below m)) (forbidding n m) (below_distinct n m)
    (λ i.
    let from = Memᴰ.of_map (forbidding n) (below m) i in
    let same = ap (λ (c : Clause). c.neg) from.2 in
    omega (arith, listed_below m from.0 from.1)))

-- the list is as it should be
pub all_rules_lem : AllRules
unfolding all_rules
all_rules_lem n =
    record {
      just = λ c. (listed_full n c, full_listed n c);
      many = length-map (below (2 ^ n)) (forbidding n) ∙ below_many (2 ^ n);
      once = below_distinct n (2 ^ n);
    }

-- ---- in any order

-- a permutation has the same members
permuted : {A : Type 0} {xs ys : List A} → Permᴰ xs ys → (x : A) → Memᴰ x xs → Memᴰ x ys
permuted Permᴰ.nil x m = m
permuted (Permᴰ.cons e p) x m = ⊎_elim (λ is. Memᴰ.head (is ∙ e)) (λ i. Memᴰ.tail (permuted p x i)) (Memᴰ.cases_cons m)
permuted (Permᴰ.swap e f) x m =
    ⊎_elim (λ is. Memᴰ.tail (Memᴰ.head (is ∙ e)))
    (λ i. ⊎_elim (λ is. Memᴰ.head (is ∙ f)) (λ j. Memᴰ.tail (Memᴰ.tail j)) (Memᴰ.cases_cons i)) (Memᴰ.cases_cons m)
permuted (Permᴰ.trans p q) x m = permuted q x (permuted p x m)

-- and as many
permuted_many : {A : Type 0} {xs ys : List A} → Permᴰ xs ys → length xs ≡ length ys
permuted_many Permᴰ.nil = refl
permuted_many (Permᴰ.cons e p) = ap suc (permuted_many p)
permuted_many (Permᴰ.swap e f) = refl
permuted_many (Permᴰ.trans p q) = permuted_many p ∙ permuted_many q

-- so such a book has 2^n clauses, every full one, and no other
pub arranged_many : (n : ℕ) (book : List Clause) → Arranged n book → length book ≡ 2 ^ n
arranged_many n book p = sym (permuted_many p) ∙ (all_rules_lem n).many

pub arranged_every : (n : ℕ) (book : List Clause) → Arranged n book → (c : Clause) → Full n c → Memᴰ c book
arranged_every n book p c f = permuted p c (full_listed n c f)

pub arranged_full : (n : ℕ) (book : List Clause) → Arranged n book → (c : Clause) → Memᴰ c book → Full n c
arranged_full n book p c m = listed_full n c (permuted (Permᴰ.symm p) c m)
