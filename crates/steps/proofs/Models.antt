-- The meaning read by membership: a choice keeps a clause where one literal is true under it, and a table where it keeps every clause of it.
-- The order's clauses are kept exactly by the choices that obey the order. Clauses of n variables do not see a choice beyond them, so a choice can be
-- cut to n.
use mathlib.Core.Path.{◌≡◌, refl, sym, ap, ◌∙◌, subst}
use mathlib.Core.Bool.{Bool, true, false, not, ◌&&◌, ◌||◌, false≢true, or-true, and-true}
use mathlib.Core.List.Memᴰ
use mathlib.Core.List.{List, [], ◌∷◌, ◌++◌, map, Memᴰ}
use mathlib.Core.Logic.{⊎_elim}
use Prim.Native.Nat.{ℕ, ◌^◌}
use lib.Bits.{bit_and}
use borrow.Author.Tests.{eqb-true, not-true}
use Rattle.words.specs.Words.{is_zero, has, minus, meets, first_vars, members, Within}
use Rattle.words.proofs.Truth.{and_left, and_right, and_both}
use Rattle.words.proofs.Membership.{has_and, has_zero, has_bit, has_bit_eq}
use Rattle.words.proofs.Sets.{meets_true, meets_intro, meets_false_intro, meets_false, minus_nonempty, minus_empty, within_minus, member_nonzero, or_within_l, or_within_r, in_minus}
use Rattle.words.proofs.Lowest.{members_are, are_members}
use Rattle.steps.specs.Clause.{Clause, literals, vars, Assignment, names}
use Rattle.steps.specs.Run.{Assumptions, units}
use Rattle.steps.specs.Meaning.{satisfies, models, obeys, agrees, dropping}
use Rattle.steps.specs.Shape.{Proper}
use Rattle.steps.proofs.ListLaws.{in_filter}

-- ---- a clause and a table

-- the literal of variable k and sign b is in the clause, and true under x
pub data Satisfied (x : ℕ) (c : Clause) : Type 0 where
  at : (k : ℕ) (b : Bool) → has (literals b c) k ≡ true → has x k ≡ b → Satisfied x c

-- the choice keeps every clause of t
abbrev pub Models : ℕ → List Clause → Type 0
Models x t = (c : Clause) → Memᴰ c t → Satisfied x c

-- what `satisfies` tells
pub satisfies_true : (x : ℕ) (c : Clause) → satisfies x c ≡ true → Satisfied x c
unfolding satisfies
satisfies_true x c e = go (meets c.pos x) refl (is_zero (minus c.neg x)) refl e
  where
    go : (p : Bool) → meets c.pos x ≡ p → (z : Bool) → is_zero (minus c.neg x) ≡ z → (p || not z) ≡ true → Satisfied x c
    go true m z f e = let k = meets_true c.pos x m in at k.0 true k.1 k.2
    go false m false f e = let k = minus_nonempty c.neg x f in at k.0 false k.1 k.2
    go false m true f e = absurd (false≢true e)

-- and what tells it
pub true_satisfies : (x : ℕ) (c : Clause) → Satisfied x c → satisfies x c ≡ true
unfolding satisfies
true_satisfies x c (at k true l h) = rw (meets_intro c.pos x k l h)
true_satisfies x c (at k false l h) = rw (member_nonzero (minus c.neg x) k (in_minus c.neg x k l h)) (or-true (meets c.pos x))

-- what `models` tells
pub models_true : (x : ℕ) (t : List Clause) → models x t ≡ true → Models x t
models_true x [] e c m = elim m [ ]
models_true x (d ∷ ds) e c m = go (satisfies x d) refl e m (λ f. models_true x ds f c)
  where
    go : (p : Bool) → satisfies x d ≡ p → (p && models x ds) ≡ true → Memᴰ c (d ∷ ds) → (models x ds ≡ true → Memᴰ c ds → Satisfied x c)
        → Satisfied x c
    go true p e (Memᴰ.head h) below = subst (Satisfied x) (sym h) (satisfies_true x d p)
    go true p e (Memᴰ.tail m) below = below e m
    go false p e m below = absurd (false≢true e)

-- and what tells it
pub true_models : (x : ℕ) (t : List Clause) → Models x t → models x t ≡ true
true_models x [] f = refl
true_models x (d ∷ ds) f = rw (true_satisfies x d (f d (Memᴰ.head refl))) (true_models x ds (λ c m. f c (Memᴰ.tail m)))

-- the clauses that are not dropped are kept
pub dropping_true : (x k : ℕ) (t : List Clause) → models x (dropping k t) ≡ true → (c : Clause) → Memᴰ c t → names k c ≡ false → Satisfied x c
dropping_true x k t e c m h = models_true x (dropping k t) e c (in_filter (λ d. not (names k d)) t c m (ap not h))

-- ---- decisions

-- the choice has the decisions' values
abbrev pub Agrees : ℕ → Assignment → Type 0
Agrees x r = (k : ℕ) → has r.decided k ≡ true → has x k ≡ has r.trues k

-- what `agrees` tells
pub agrees_true : (x : ℕ) (r : Assignment) → agrees x r ≡ true → Agrees x r
unfolding agrees
agrees_true x r e k h =
    sym (and-true (has x k))
    ∙ ap (λ (p : Bool). has x k && p) (sym h)
    ∙ sym (has_and x r.decided k)
    ∙ ap (λ (y : ℕ). has y k) (eqb-true (bit_and x r.decided) r.trues e)

-- ---- the order

-- the clause of one literal
abbrev unit_of : Bool → ℕ → Clause
unit_of true w = record { pos = w; neg = 0 }
unit_of false w = record { pos = 0; neg = w }

-- it is kept where the choice has the literal's value
unit_true : (x k : ℕ) (b : Bool) → has x k ≡ b → Satisfied x (unit_of b (2 ^ k))
unit_true x k true h = at k true (has_bit k) h
unit_true x k false h = at k false (has_bit k) h

-- and so the choice has it where the clause is kept
true_unit : (x k : ℕ) (b : Bool) → Satisfied x (unit_of b (2 ^ k)) → has x k ≡ b
true_unit x k true (at j true l h) = ap (has x) (has_bit_eq k j l) ∙ h
true_unit x k true (at j false l h) = absurd (false≢true (sym (has_zero j) ∙ l))
true_unit x k false (at j true l h) = absurd (false≢true (sym (has_zero j) ∙ l))
true_unit x k false (at j false l h) = ap (has x) (has_bit_eq k j l) ∙ h

-- the clauses of y's members are kept where the choice has value b at each
units_kept : (x y : ℕ) (b : Bool) → ((k : ℕ) → has y k ≡ true → has x k ≡ b) → Models x (map (unit_of b) (members y))
units_kept x y b f c m =
    let w = Memᴰ.of_map (unit_of b) (members y) m in
    let k = members_are y w.0 w.1 in
    subst (Satisfied x) (ap (unit_of b) (sym k.1) ∙ w.2) (unit_true x k.0 b (f k.0 k.2))

-- and so it has where those clauses are kept
kept_units : (x y : ℕ) (b : Bool) → Models x (map (unit_of b) (members y)) → (k : ℕ) → has y k ≡ true → has x k ≡ b
kept_units x y b f k h = true_unit x k b (f (unit_of b (2 ^ k)) (Memᴰ.map (unit_of b) (are_members y k h)))

-- a table kept in two parts
pub models_append : (x : ℕ) (s t : List Clause) → Models x s → Models x t → Models x (s ++ t)
models_append x s t f g c m = ⊎_elim (f c) (g c) (Memᴰ.append_cases s m)

-- every clause of the order is kept where the order is obeyed
pub obeys_units : (x : ℕ) (o : Assumptions) → obeys x o ≡ true → Models x (units o)
unfolding obeys units
obeys_units x o e =
    models_append x (map (unit_of true) (members o.pos)) (map (unit_of false) (members o.neg))
    (units_kept x o.pos true (minus_empty o.pos x (and_left (is_zero (minus o.pos x)) (not (meets o.neg x)) e)))
    (units_kept x o.neg false (meets_false o.neg x (not-true (meets o.neg x) (and_right (is_zero (minus o.pos x)) (not (meets o.neg x)) e))))

-- and nowhere else
pub units_obeys : (x : ℕ) (o : Assumptions) → Models x (units o) → obeys x o ≡ true
unfolding obeys units
units_obeys x o f =
    let wanted = kept_units x o.pos true (λ c m. f c (Memᴰ.append_left (map (unit_of false) (members o.neg)) m)) in
    let unwanted = kept_units x o.neg false (λ c m. f c (Memᴰ.append_right (map (unit_of true) (members o.pos)) m)) in
    and_both _ _ (within_minus o.pos x wanted) (ap not (meets_false_intro o.neg x unwanted))

-- ---- cutting to n variables

-- the variable of a literal is named
pub literal_named : (b : Bool) (c : Clause) → Within (literals b c) (vars c)
unfolding vars
literal_named true c = or_within_l c.pos c.neg
literal_named false c = or_within_r c.pos c.neg

-- a clause of the first n variables is kept by the choice cut to them
pub cut_satisfied : (n x : ℕ) (c : Clause) → Proper n c → Satisfied x c → Satisfied (bit_and x (first_vars n)) c
cut_satisfied n x c p (at k b l h) =
    at k b l (has_and x (first_vars n) k ∙ ap (λ (q : Bool). has x k && q) (p.named k (literal_named b c k l)) ∙ and-true (has x k) ∙ h)
