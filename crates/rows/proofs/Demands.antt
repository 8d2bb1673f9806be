-- Every demand of `specs/Demands`. Below 256 a word has its struck digit and its decisions (`word_low`), so that two equal words have the same of each, and then as
-- many undecided literals. Of a tallied table the counts of each clause and its digit in the struck row are its tallies, and so are all of them in order; its rows are
-- those of its clauses (`Reading`).
use mathlib.Core.Path.{◌≡◌, refl, sym, ap, ◌∙◌}
use mathlib.Core.Bool.{Bool, true, false, not}
use mathlib.Core.List.{List, ◌∷◌, map}
use Prim.Native.Nat.{ℕ, zero, suc, ◌+◌, ◌*◌, ◌%◌, ◌<◌}
use native.Mathlib.Omega.{arith}
use Rattle.words.specs.Words.{digit}
use Rattle.steps.specs.Clause.{Assignment}
use Rattle.steps.specs.Tally.{Tally, tally_of}
use Rattle.steps.proofs.Tally.{by_tally}
use Rattle.rows.specs.Rows.{from, clause_at, clauses}
use Rattle.rows.specs.Tally.{word_of, tally_at, Tallied}
use Rattle.rows.specs.Demands.{Demands, WordTells, InOrder, Indexing}
use Rattle.rows.proofs.Lists.{from_same}
use Rattle.rows.proofs.Counts.{digit_small, word_low, few_at}
use Rattle.rows.proofs.Reading.{count_is, named_is, struck_is, playing_is}

-- a digit says which truth value it is of
digit_tells : (p q : Bool) → digit p ≡ digit q → p ≡ q
digit_tells true true e = refl
digit_tells false false e = refl
digit_tells true false e = absurd (omega arith)
digit_tells false true e = absurd (omega arith)

-- a tally whose three parts are known
tally_is : {u w k l : ℕ} {s r : Bool} → u ≡ w → k ≡ l → s ≡ r
    → ◌≡◌ {A = Tally} (record { undecided = u; keepers = k; struck = s }) (record { undecided = w; keepers = l; struck = r })
tally_is e f g = cc

word_tells : WordTells
word_tells x y few few' e =
    let low : digit x.struck + 2 * x.keepers ≡ digit y.struck + 2 * y.keepers = sym (word_low x few) ∙ ap (λ (n : ℕ). n % 256) e ∙ word_low y few' in
    let keepers : x.keepers ≡ y.keepers = omega (arith, digit_small x.struck, digit_small y.struck) in
    tally_is (omega arith) keepers (digit_tells x.struck y.struck (omega arith))

-- what f makes of values in a row
map_from : {A B : Type 0} (f : A → B) (g : ℕ → A) (i k : ℕ) → from (λ j. f (g j)) i k ≡ map f (from g i k)
map_from f g i zero = refl
map_from f g i (suc k) = ap (λ l. f (g i) ∷ l) (map_from f g (suc i) k)

-- what is held of clause i
held_is : {t q : List ℕ} {m : ℕ} {a : Assignment} {k : ℕ} → Tallied t q m a k → (i : ℕ) → i < m → tally_at q i ≡ word_of (tally_of a k (clause_at t i))
unfolding tally_of
held_is x i h = omega (arith, ap digit (struck_is x i h), count_is x i h)

in_order : InOrder
unfolding clauses
in_order t q m a k tallied =
    from_same (tally_at q) (λ i. word_of (tally_of a k (clause_at t i))) 0 m (λ j _ below. held_is tallied j (omega arith))
    ∙ map_from word_of (λ i. tally_of a k (clause_at t i)) 0 m
    ∙ ap (map word_of) (map_from (tally_of a k) (clause_at t) 0 m)

indexing : Indexing
unfolding tally_of
indexing =
    record {
      named = λ t q m a k x i v h l. named_is x i h v l;
      marked = λ t q m a k x i h. struck_is x i h;
      in_play_row = λ t q m a k x fits i h. playing_is x i h (few_at t fits a i) ∙ ap not (by_tally.out a k (clause_at t i));
    }

pub demands : Demands
demands = record { word_tells = word_tells; in_order = in_order; indexing = indexing }
