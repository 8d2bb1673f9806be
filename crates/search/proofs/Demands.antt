-- The words in order are those of the tallies in order, so that the word at a rule's number is that of its tallies.
use mathlib.Core.Path.{◌≡◌, sym, ap, ◌∙◌}
use mathlib.Core.List.{List, [], ◌∷◌, ◌++◌, map}
use Prim.Native.Nat.{ℕ, suc, ◌+◌}
use native.Mathlib.Nat.{add-zero, zero-add}
use native.Mathlib.Omega.{arith}
use lib.ListN.{length, get_or, drop}
use Rattle.steps.specs.Clause.{Clause, Assignment}
use Rattle.steps.specs.State.{State, redundant}
use Rattle.steps.specs.Tally.{Tally, tally_of, tallies_at}
use Rattle.steps.specs.Run.{no_decisions}
use Rattle.rows.specs.Rows.{from}
use Rattle.rows.specs.Tally.{word_of, tally_at}
use Rattle.search.specs.Demands.{Demands}

-- the value at the place of c, counted from i on
at_place : (f : ℕ → ℕ) (g : Clause → Tally) (i : ℕ) (before after : List Clause) (c : Clause)
    → from f i (length (map g (before ++ (c ∷ after)))) ≡ map word_of (map g (before ++ (c ∷ after)))
    → f (i + length before) ≡ word_of (g c)
at_place f g i [] after c h = ap f (add-zero i) ∙ ap (λ (l : List ℕ). get_or l 0 0) h
at_place f g i (d ∷ before) after c h =
    let next : i + suc (length before) ≡ suc i + length before = omega arith in
    ap f next ∙ at_place f g (suc i) before after c (ap (drop 1) h)

-- so it is for the tallies at a state
rule : (q : List ℕ) (a : Assignment) (s : State)
    → from (tally_at q) 0 (length (tallies_at a s)) ≡ map word_of (tallies_at a s)
    → (before after : List Clause) (c : Clause)
    → s.table ≡ before ++ (c ∷ after)
    → tally_at q (length before) ≡ word_of (tally_of a (redundant s) c)
unfolding tallies_at
rule q a s h before after c is =
    let words : from (tally_at q) 0 (length (map (tally_of a (redundant s)) (before ++ (c ∷ after)))) ≡ map word_of (map (tally_of a (redundant s)) (before ++ (c ∷ after))) =
    rw is at h in
    ap (tally_at q) (sym (zero-add (length before))) ∙ at_place (tally_at q) (tally_of a (redundant s)) 0 before after c words

pub demands : Demands
demands = record { rule_by_rule = record { ended = λ q x d s. rule q d s; up = λ q s. rule q no_decisions s } }
