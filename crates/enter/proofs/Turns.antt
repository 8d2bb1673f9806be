-- Steps 2 to 5 once their tests are known.
use mathlib.Core.Path.{◌≡◌, refl, ap, sym, subst⁻¹, ◌∙◌}
use mathlib.Core.Bool.{true, false, not}
use mathlib.Core.Option.{some, none}
use Prim.Native.Nat.{ℕ, ◌^◌, ◌<◌}
use lib.Count.{count_trailing_zeros}
use Rattle.words.specs.Words.{is_zero, minus, meets, lowest, Within}
use Rattle.words.proofs.Membership.{has_bit}
use Rattle.words.proofs.Sets.{meets_false_intro, member_nonzero}
use Rattle.words.proofs.Lowest.{lowest_bit}
use Rattle.words.proofs.Count.{lowest_trailing, trailing_lt}
use Rattle.steps.specs.Lists.{find, any}
use Rattle.steps.specs.Clause.{Clause, vars, Assignment, falsified}
use Rattle.steps.specs.State.{Env, State, undecided, redundant, live, append_falsified}
use Rattle.steps.specs.Sweep.{sweep}
use Rattle.steps.specs.Enter.{Turn.back, Turn.satisfiable, Turn.branch, unit, swept, falsified_naming, conflict, enter}
use Rattle.steps.specs.Shape.{Shape}
use Rattle.steps.proofs.ListLaws.{find_some}
use Rattle.steps.proofs.ShapeEnter.{unit_live}
use Rattle.steps.proofs.ShapeKeep.{undecided_not_decided}

-- a set of undecided variables shares nothing with the decided ones
pub apart : (e : Env) (a : Assignment) (k : ℕ) → Within k (undecided e a) → meets k a.decided ≡ false
apart e a k h = meets_false_intro k a.decided (λ j m. undecided_not_decided e a j (h j m))

module _ (e : Env) (a : Assignment) (s : State) where
  -- step 4 where a clause is falsified, and where none is
  pub swept_back : is_zero (live e a s) ≡ true → any (falsified a) s.table ≡ true → back s ≡ swept e a s
  unfolding swept
  swept_back z f = rw (z, f, swept) refl

  pub swept_can : is_zero (live e a s) ≡ true → any (falsified a) s.table ≡ false → satisfiable s ≡ swept e a s
  unfolding swept
  swept_can z f = rw (z, f, swept) refl

  -- step 5 without a unit clause, and with one
  pub swept_lowest :
      is_zero (live e a s) ≡ false → find (unit a (redundant s)) s.table ≡ none → branch (lowest (live e a s)) false s ≡ swept e a s
  unfolding swept
  swept_lowest z f = rw (z, f, swept) refl

  pub swept_unit :
      (c : Clause) → is_zero (live e a s) ≡ false → find (unit a (redundant s)) s.table ≡ some c →
      branch (minus (vars c) a.decided) (not (is_zero (minus c.pos a.decided))) s ≡ swept e a s
  unfolding swept
  swept_unit c z f = rw (z, f, swept) refl

-- the number n is that of the word w of one variable
pub record Single (w n : ℕ) : Type 0 where
  pub word : 2 ^ n ≡ w
  pub below : n < 64

-- a unit clause leaves one variable undecided, whose number the trailing zeros give. x is the word of it, as the code has it, and y that of the clause's variables
pub single : {e : Env} {a : Assignment} {s : State} {c : Clause} {x y n : ℕ}
    → Shape e a s
    → find (unit a (redundant s)) s.table ≡ some c
    → y ≡ vars c
    → x ≡ minus y a.decided
    → x < 2 ^ 64
    → n ≡ count_trailing_zeros 64 x
    → Single (minus (vars c) a.decided) n
single {e} {a} {s} {c} {x} shape found named is fits number =
    let at = find_some (unit a (redundant s)) s.table c found in
    let one = unit_live e a s c (shape.clauses c at.0) at.1 in
    let word : x ≡ minus (vars c) a.decided = is ∙ ap (λ (z : ℕ). minus z a.decided) named in
    let some_left : is_zero x ≡ false = ap is_zero (word ∙ one.word) ∙ member_nonzero (2 ^ one.var) one.var (has_bit one.var) in
    record {
      word = ap (λ (k : ℕ). 2 ^ k) number ∙ sym (lowest_trailing 64 x some_left fits) ∙ ap lowest (word ∙ one.word) ∙ lowest_bit one.var ∙ sym one.word;
      below = subst⁻¹ (λ (k : ℕ). k < 64) number (trailing_lt 64 x some_left fits);
    }

module _ (e : Env) (a : Assignment) (v : ℕ) (s : State) where
  -- steps 3 to 5, where no falsified clause names v
  pub enter_swept : falsified_naming v a s.table ≡ none → swept e a (sweep e a e.n s) ≡ enter e a v s
  unfolding enter
  enter_swept f = rw (f, enter) refl

  -- step 2 where nothing is live, and where something is
  pub enter_back : (c : Clause) → falsified_naming v a s.table ≡ some c → is_zero (live e a s) ≡ true → back s ≡ enter e a v s
  unfolding enter
  enter_back c f z = rw (f, enter) (rw (z, conflict) refl)

  pub enter_falsified :
      (c : Clause) → falsified_naming v a s.table ≡ some c → is_zero (live e a s) ≡ false → back (append_falsified e a c s) ≡ enter e a v s
  unfolding enter
  enter_falsified c f z = rw (f, enter) (rw (z, conflict) refl)
