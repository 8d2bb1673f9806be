use Rattle.std.proofs.Common.{◌≡◌, sym, ap, ◌∙◌, ℕ, ◌+◌, ◌^◌, ◌≤◌, List, [], ◌++◌, length, arith}
use mathlib.Core.Bool.{Bool}
use mathlib.Core.List.{append-nil}
use lib.ListN.{length-append}
use Rattle.words.specs.Words.{Taken}
use Rattle.steps.specs.Clause.{Clause}
use Rattle.rows.specs.Rows.{clause_words, clauses, put_clause}
use Rattle.rows.proofs.Tables.{clauses_length}
use Rattle.book.specs.Units.{unit_of, units_of}
use Rattle.book.proofs.UnitClauses.{units_of_zero, units_of_taken}
use Rattle.book.proofs.Putting.{put_next}
use Rattle.book.proofs.units.add_units.Goals as goal

-- the clauses in the table and those still to come
abbrev all : List ℕ → ℕ → Bool → ℕ → List Clause
all t count b rest = clauses t count ++ units_of b rest

-- how many they are
length-all : (t : List ℕ) (count : ℕ) (b : Bool) (rest : ℕ) → length (all t count b rest) ≡ count + length (units_of b rest)
length-all t count b rest = length-append (clauses t count) (units_of b rest) ∙ ap (λ k. k + length (units_of b rest)) (clauses_length t count)

-- in a turn there is room for a clause
room : (t t₀ : List ℕ) (count m : ℕ) (b : Bool) (word : ℕ) {x k y : ℕ} → Taken x k y → length t ≡ length t₀
    → clause_words (m + length (units_of b word)) ≤ length t₀ → all t count b x ≡ all t₀ m b word → clause_words (count + 1) ≤ length t
room t t₀ count m b word {x} taken same fits e =
    omega (arith, ap length (units_of_taken b taken), sym (length-all t count b x) ∙ ap length e ∙ length-all t₀ m b word)

-- and the clause for the member is put after the last
turn : (t t' : List ℕ) (count : ℕ) (b : Bool) (l : ℕ) (c : Clause) {x k y : ℕ} → Taken x k y → clause_words (count + 1) ≤ length t
    → l ≡ 2 ^ k → c ≡ unit_of b l → t' ≡ put_clause t count c → all t' (count + 1) b y ≡ all t count b x
turn t t' count b l c {x} {k} {y} taken fits el ec et = rw (et, put_next t count c (units_of b y) fits, ec, el, units_of_taken b taken)

pub put-requires : goal.put-requires
put-requires c = room _ _ _ _ _ c.args.word c.in-Some.ensures.steps c.loop-k.auto.t c.requires c.loop-k.invariant.all

pub overflow_add-count : goal.overflow_add-count
overflow_add-count c = omega (arith, room _ _ _ _ _ c.args.word c.in-Some.ensures.steps c.loop-k.auto.t c.requires c.loop-k.invariant.all)

pub loop-k-preserved : goal.loop-k-preserved
loop-k-preserved c =
    record {
      goes_on = (tt, tt);
      all =
          turn _ _ _ _ _ _ c.in-Some.ensures.steps
          (room _ _ _ _ _ c.args.word c.in-Some.ensures.steps c.loop-k.auto.t c.requires c.loop-k.invariant.all)
          c.word_of.ensures c.unit_of.ensures c.put.ensures
          ∙ c.loop-k.invariant.all;
    }

pub returns : goal.returns
returns c =
    let none : units_of c.args.positive c.loop-k.k-iterator.left ≡ [] = rw c.in-None.ensures.steps.0 (units_of_zero _) in
    sym (append-nil _) ∙ ap (λ (l : List Clause). clauses c.loop-k.t c.loop-k.count ++ l) (sym none) ∙ c.loop-k.invariant.all
