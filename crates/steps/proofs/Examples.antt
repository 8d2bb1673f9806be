-- The example of a joint set, by trying the four choices of two options. With option 1 struck, rules 2 and not 2 remain, and no choice keeps
-- both; likewise with option 2 struck. With both struck nothing remains, which every choice keeps, though none keeps the book. Q, with its words below
-- 2^3, is an input. Rules 1 and not 1 come together, by computing the two sides, with no option struck and both rules active.
use mathlib.Core.Path.{◌≡◌, refl}
use mathlib.Core.Bool.{true, false}
use mathlib.Core.List.Memᴰ
use mathlib.Core.List.{List, [], ◌∷◌}
use mathlib.Core.Logic.{inr, ⊎_elim}
use Prim.Native.Nat.{ℕ, zero, suc, ◌^◌, ◌<◌}
use native.Mathlib.Omega.{arith}
use lib.Count.{ones, ones_in}
use Rattle.words.specs.Words.{minus, meets, first_vars, lowest, members_up_to, members}
use Rattle.words.proofs.Truth.{both_ways}
use Rattle.words.proofs.Sets.{within_zero, lt_within}
use Rattle.steps.specs.Clause.{Clause, vars, keepers, satisfied, falsified, names, undecided_in, without}
use Rattle.steps.specs.State.{undecided, live, counted}
use Rattle.steps.specs.Sweep.{all_inactive, monotone, first_monotone, sweep}
use Rattle.steps.specs.Enter.{unit, swept, falsified_naming, enter}
use Rattle.steps.specs.Merge.{join}
use Rattle.steps.specs.Search.{step, search}
use Rattle.steps.specs.Run.{start}
use Rattle.steps.specs.Marked.{clause, order, C, P, Q}
use Rattle.steps.specs.Meaning.{satisfies, models, obeys, agrees, dropping}
use Rattle.steps.specs.Reached.{Reached.starting}
use Rattle.steps.specs.Shape.{AllProper, Input}
use Rattle.steps.specs.Demands.{Joint, TestFails}

-- no choice keeps t where none of the four does
none_of_four :
    (t : List Clause) → models 0 t ≡ false → models 1 t ≡ false → models 2 t ≡ false → models 3 t ≡ false → (x : ℕ) → x < 4 → models x t ≡ true → ⊥
none_of_four t a b c d zero h m = both_ways _ m a
none_of_four t a b c d (suc zero) h m = both_ways _ m b
none_of_four t a b c d (suc (suc zero)) h m = both_ways _ m c
none_of_four t a b c d (suc (suc (suc zero))) h m = both_ways _ m d
none_of_four t a b c d (suc (suc (suc (suc x)))) h m = absurd (omega arith)

-- the example
pub joint : Joint
unfolding minus meets vars names satisfies obeys agrees
joint =
    record {
      one = inr (λ x h a. none_of_four (dropping 1 P) refl refl refl refl x h);
      other = inr (λ x h a. none_of_four (dropping 2 P) refl refl refl refl x h);
      both = ⊎_elim (λ b. none_of_four P refl refl refl refl b.0 b.1.choice b.1.rules) (λ f. f 0 (omega arith) refl refl);
      rule = λ f. both_ways _ (f 0 (record { choice = omega arith; rules = refl; order = refl })) refl;
    }

-- ---- an input

-- a book of proper clauses, one by one
proper_cons : (n : ℕ) (c : Clause) (t : List Clause) → vars c < 2 ^ n → meets c.pos c.neg ≡ false → AllProper n t → AllProper n (c ∷ t)
proper_cons n c t b e f d (Memᴰ.head is) = rw is (record { named = lt_within n (vars c) b; consistent = e })
proper_cons n c t b e f d (Memᴰ.tail m) = f d m

-- Q with wanted 6 is one
pub input : Input 3 Q (order 6 0)
unfolding meets vars
input =
    record {
      book_proper =
          proper_cons 3 (clause 3 0) _ (omega arith) refl
          (proper_cons 3 (clause 4 1) _ (omega arith) refl (proper_cons 3 (clause 0 6) [] (omega arith) refl (λ c m. absurd (Memᴰ.not-nil m))));
      wanted = lt_within 3 6 (omega arith);
      unwanted = within_zero (first_vars 3);
    }

-- ---- coming together

-- after the branching over the one option
pub test_fails : TestFails
unfolding
    minus meets first_vars lowest members_up_to members ones ones_in vars keepers satisfied falsified names undecided_in without undecided live
    all_inactive monotone first_monotone sweep unit swept falsified_naming enter join step search
test_fails =
    let branched = counted (start C) in
    record {
      first = branched;
      second = branched;
      merges =
          record {
            depth = 0;
            v = 0;
            s = start C;
            u = start C;
            reached = starting;
            branches = record { nonempty = refl; turn = refl; allowed = omega arith };
            back_first = refl;
            back_second = refl;
          };
      test = refl;
    }
