-- Laws of an order's clauses: from member to member, and how many there are.
use mathlib.Core.Path.{◌≡◌, refl, sym, ap, ◌∙◌}
use mathlib.Core.Bool.{Bool, true, false, true≢false}
use mathlib.Core.List.{[], ◌∷◌, ◌++◌}
use Prim.Native.Nat.{ℕ, zero, suc, ◌+◌, ◌^◌}
use native.Mathlib.Decide.{dec_lt}
use native.Mathlib.Omega.{arith}
use lib.Count.{ones}
use lib.ListN.{length, length-append, length-map}
use Rattle.words.specs.Words.{is_zero, lowest, minus, members, Taken}
use Rattle.words.proofs.Sets.{is_zero_lem, member_nonzero}
use Rattle.words.proofs.Lowest.{lowest_is, members_zero, members_step}
use Rattle.words.proofs.Count.{ones_zero, ones_remove}
use Rattle.steps.specs.Run.{Assumptions, units}
use Rattle.book.specs.Units.{unit_of, units_of}

-- the order's clauses are those for its wanted variables, then those for its unwanted ones
pub units_sides : (o : Assumptions) → units o ≡ units_of true o.pos ++ units_of false o.neg
unfolding units units_of
units_sides o = refl

pub length_units : (o : Assumptions) → length (units o) ≡ length (units_of true o.pos) + length (units_of false o.neg)
length_units o = ap length (units_sides o) ∙ length-append (units_of true o.pos) (units_of false o.neg)

-- the lowest member is the one that a walk comes to
lowest_taken : {x k y : ℕ} → Taken x k y → is_zero x ≡ false → lowest x ≡ 2 ^ k
lowest_taken {x} {k} t n =
    let l = lowest_is x n in
    elim (dec_lt l.0 k) [
      | yes below ↦ absurd (true≢false (sym l.2 ∙ t.none_below l.0 below))
      | no not_below ↦ elim (dec_lt k l.0) [
        | yes above ↦ absurd (true≢false (sym t.member ∙ l.3 k above))
        | no not_above ↦ let same : l.0 ≡ k = omega arith in rw (← same) l.1
      ]
    ]

-- no member, no clause
pub units_of_zero : (b : Bool) → units_of b 0 ≡ []
unfolding units_of
units_of_zero b = rw members_zero

-- the clause for the lowest member, and those for the others
pub units_of_step : (b : Bool) (x : ℕ) → is_zero x ≡ false → units_of b x ≡ unit_of b (lowest x) ∷ units_of b (minus x (lowest x))
unfolding units_of
units_of_step b x h = rw (members_step x h)

-- the same in a walk that has come to member k, and has y still to come
pub units_of_taken : (b : Bool) {x k y : ℕ} → Taken x k y → units_of b x ≡ unit_of b (2 ^ k) ∷ units_of b y
units_of_taken b {x} {k} {y} t =
    let n = member_nonzero x k t.member in
    units_of_step b x n ∙ rw (lowest_taken t n, t.rest) refl

-- a word has as many members as bits
pub length_members : (k x : ℕ) → ones x ≡ k → length (members x) ≡ k
length_members zero x e = go (is_zero x) refl
  where
    go : (b : Bool) → is_zero x ≡ b → length (members x) ≡ zero
    go true h = rw (is_zero_lem x h, members_zero)
    go false h = let l = lowest_is x h in absurd (omega (arith, ones_remove x l.0 l.2))
length_members (suc k) x e = go (length_members k (minus x (lowest x))) (is_zero x) refl
  where
    go : (ones (minus x (lowest x)) ≡ k → length (members (minus x (lowest x))) ≡ k) → (b : Bool) → is_zero x ≡ b → length (members x) ≡ suc k
    go rest true h = let none : ones x ≡ 0 = rw (is_zero_lem x h) ones_zero in absurd (omega arith)
    go rest false h =
        let l = lowest_is x h in
        let less : ones (minus x (lowest x)) ≡ k = rw l.1 (omega (arith, ones_remove x l.0 l.2)) in
        rw (members_step x h) (ap suc (rest less))

-- as many clauses as members
pub length_units_of : (b : Bool) (x : ℕ) → length (units_of b x) ≡ ones x
unfolding units_of
length_units_of b x = length-map (members x) _ ∙ length_members (ones x) x refl
