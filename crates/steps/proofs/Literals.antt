-- What a clause is under the decisions, read by its literals. A satisfied clause has a keeper, and a choice with the keeper's value keeps the clause.
-- A falsified clause has only decided variables, each with the value that makes its literal false; so a choice with those values does not keep it.
use mathlib.Core.Path.{◌≡◌, refl, sym, ap, ◌∙◌}
use mathlib.Core.Bool.{Bool, true, false, not, ◌&&◌}
use mathlib.Core.List.{List, Memᴰ}
use mathlib.Core.Option.{some, none}
use mathlib.Core.Logic.{◌⊎◌, inl, inr, ⊎_elim}
use Prim.Native.Nat.{ℕ}
use lib.Bits.{bit_and}
use borrow.Author.Tests.{not-true}
use Rattle.words.specs.Words.{is_zero, has, minus}
use Rattle.words.proofs.Truth.{both_ways, refuted, and_left, and_right, and_both, same_or_not, not_same}
use Rattle.words.proofs.Sets.{meets_false, meets_intro, minus_empty, within_minus, some_member, member_nonzero, and_within_l, and_within_r, or_within_l, or_within_r, in_and, in_or, in_minus, minus_out}
use Rattle.steps.specs.Clause.{Clause, literals, vars, Assignment, keepers, satisfied, falsified, names}
use Rattle.steps.specs.State.{Env, undecided}
use Rattle.steps.specs.Enter.{falsified_naming}
use Rattle.steps.specs.Shape.{Proper}
use Rattle.steps.proofs.ListLaws.{find_some, find_none}
use Rattle.steps.proofs.ShapeKeep.{decided_unless}
use Rattle.steps.proofs.Models.{Satisfied, Satisfied.at, literal_named}

-- ---- names

-- a variable that the clause names has a literal in it
pub literal_of_lem : (c : Clause) (k : ℕ) → has (vars c) k ≡ true → (b : Bool) × (has (literals b c) k ≡ true)
unfolding vars
literal_of_lem c k h = go (in_or c.pos c.neg k h)
  where
    go : (has c.pos k ≡ true) ⊎ (has c.neg k ≡ true) → (b : Bool) × (has (literals b c) k ≡ true)
    go (inl p) = (true, p)
    go (inr q) = (false, q)

-- a clause that names nothing of u has no literal there
pub names_false : (u : ℕ) (c : Clause) → names u c ≡ false → (b : Bool) (k : ℕ) → has (literals b c) k ≡ true → has u k ≡ false
unfolding names
names_false u c e b k l = meets_false (vars c) u e k (literal_named b c k l)

-- and one with a literal there names something of u
pub names_intro : (u : ℕ) (c : Clause) (b : Bool) (k : ℕ) → has (literals b c) k ≡ true → has u k ≡ true → names u c ≡ true
unfolding names
names_intro u c b k l h = meets_intro (vars c) u k (literal_named b c k l) h

-- a proper clause has no variable with both signs
pub one_sign : (n : ℕ) (c : Clause) → Proper n c → (b : Bool) (k : ℕ) → has (literals b c) k ≡ true → has (literals (not b) c) k ≡ true → ⊥
one_sign n c p true k l m = both_ways (has c.neg k) m (meets_false c.pos c.neg p.consistent k l)
one_sign n c p false k l m = both_ways (has c.neg k) l (meets_false c.pos c.neg p.consistent k m)

-- every variable of a clause that names no undecided one is decided
pub all_decided :
    (e : Env) (a : Assignment) (c : Clause) → Proper e.n c → names (undecided e a) c ≡ false → (b : Bool) (k : ℕ) →
    has (literals b c) k ≡ true → has a.decided k ≡ true
all_decided e a c p h b k l = decided_unless e a k (p.named k (literal_named b c k l)) (names_false (undecided e a) c h b k l)

-- ---- satisfied

-- a keeper has a literal in the clause that its decision makes true
pub keeper_literal : (a : Assignment) (c : Clause) (j : ℕ) → has (keepers a c) j ≡ true → (b : Bool) × (has (literals b c) j ≡ true) × (has a.trues j ≡ b)
unfolding keepers
keeper_literal a c j h = go (in_or (bit_and c.pos a.trues) (bit_and c.neg (minus a.decided a.trues)) j h)
  where
    go : (has (bit_and c.pos a.trues) j ≡ true) ⊎ (has (bit_and c.neg (minus a.decided a.trues)) j ≡ true)
        → (b : Bool) × (has (literals b c) j ≡ true) × (has a.trues j ≡ b)
    go (inl p) = (true, and_within_l c.pos a.trues j p, and_within_r c.pos a.trues j p)
    go (inr q) =
        (false, and_within_l c.neg (minus a.decided a.trues) j q, minus_out a.decided a.trues j (and_within_r c.neg (minus a.decided a.trues) j q))

-- so a choice with a keeper's value keeps the clause
pub keeper_satisfies : (x : ℕ) (a : Assignment) (c : Clause) (j : ℕ) → has (keepers a c) j ≡ true → has x j ≡ has a.trues j → Satisfied x c
keeper_satisfies x a c j h e = let l = keeper_literal a c j h in at j l.0 l.1 (e ∙ l.2)

-- the decided variable of a true literal is a keeper
true_keeper :
    (a : Assignment) (c : Clause) (b : Bool) (k : ℕ) → has (literals b c) k ≡ true → has a.decided k ≡ true → has a.trues k ≡ b →
    has (keepers a c) k ≡ true
unfolding keepers
true_keeper a c true k l d t = or_within_l (bit_and c.pos a.trues) (bit_and c.neg (minus a.decided a.trues)) k (in_and c.pos a.trues k l t)
true_keeper a c false k l d t =
    or_within_r (bit_and c.pos a.trues) (bit_and c.neg (minus a.decided a.trues)) k
    (in_and c.neg (minus a.decided a.trues) k l (in_minus a.decided a.trues k d t))

-- a satisfied clause has a keeper
pub satisfied_keeper : (a : Assignment) (c : Clause) → satisfied a c ≡ true → (j : ℕ) × (has (keepers a c) j ≡ true)
unfolding satisfied
satisfied_keeper a c e = some_member (keepers a c) (not-true (is_zero (keepers a c)) e)

-- and a clause with a keeper is satisfied
pub keeper_satisfied : (a : Assignment) (c : Clause) (j : ℕ) → has (keepers a c) j ≡ true → satisfied a c ≡ true
unfolding satisfied
keeper_satisfied a c j h = ap not (member_nonzero (keepers a c) j h)

-- a decided literal of a clause that is not satisfied is false
pub unsatisfied_literal :
    (a : Assignment) (c : Clause) → satisfied a c ≡ false → (b : Bool) (k : ℕ) → has (literals b c) k ≡ true → has a.decided k ≡ true →
    has a.trues k ≡ not b
unsatisfied_literal a c e b k l d =
    ⊎_elim (λ t. both_ways (satisfied a c) (keeper_satisfied a c k (true_keeper a c b k l d t)) e) (λ f. f) (same_or_not (has a.trues k) b)

-- ---- falsified

-- every literal is decided and false
abbrev pub Falsified : Assignment → Clause → Type 0
Falsified a c = (b : Bool) (k : ℕ) → has (literals b c) k ≡ true → (has a.decided k ≡ true) × (has a.trues k ≡ not b)

-- a falsified clause is so, literal by literal
pub falsified_true : (a : Assignment) (c : Clause) → falsified a c ≡ true → Falsified a c
unfolding falsified
falsified_true a c e b k l =
    let d : has a.decided k ≡ true = minus_empty (vars c) a.decided (and_left (is_zero (minus (vars c) a.decided)) (not (satisfied a c)) e) k (literal_named b c k l) in
    (d, unsatisfied_literal a c (not-true (satisfied a c) (and_right (is_zero (minus (vars c) a.decided)) (not (satisfied a c)) e)) b k l d)

-- no choice with the values of its variables keeps a falsified clause
pub falsified_never : (x : ℕ) (a : Assignment) (c : Clause) → Falsified a c → ((k : ℕ) → has (vars c) k ≡ true → has x k ≡ has a.trues k) → Satisfied x c → ⊥
falsified_never x a c f v (at k b l h) = not_same b (sym h ∙ v k (literal_named b c k l) ∙ (f b k l).1)

-- and a clause that is so is falsified
pub true_falsified : (a : Assignment) (c : Clause) → Falsified a c → falsified a c ≡ true
unfolding falsified
true_falsified a c f =
    and_both (is_zero (minus (vars c) a.decided)) (not (satisfied a c))
    (within_minus (vars c) a.decided (λ k h. let l = literal_of_lem c k h in (f l.0 k l.1).0))
    (ap not (refuted (satisfied a c) (λ s. let j = satisfied_keeper a c s in falsified_never a.trues a c f (λ k h. refl) (keeper_satisfies a.trues a c j.0 j.1 refl))))

-- the falsified clause that is found is in the table
pub naming_some : (v : ℕ) (a : Assignment) (t : List Clause) (c : Clause) → falsified_naming v a t ≡ some c → Memᴰ c t × Falsified a c
unfolding falsified_naming
naming_some v a t c e =
    let found = find_some (λ d. names v d && falsified a d) t c e in
    (found.0, falsified_true a c (and_right (names v c) (falsified a c) found.1))

-- where none is found, no clause that names v is falsified
pub naming_none :
    (v : ℕ) (a : Assignment) (t : List Clause) → falsified_naming v a t ≡ none → (c : Clause) → Memᴰ c t → names v c ≡ true → Falsified a c → ⊥
unfolding falsified_naming
naming_none v a t e c m n f =
    both_ways (names v c && falsified a c) (and_both (names v c) (falsified a c) n (true_falsified a c f))
    (find_none (λ d. names v d && falsified a d) t e c m)
