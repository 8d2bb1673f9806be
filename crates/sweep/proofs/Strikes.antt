-- The sweep, one strike at a time. A variable that is found is live, so a strike leaves fewer live variables.
-- So n times are enough: once as many were made as there are live variables nothing is found, and more change nothing.
use mathlib.Core.Path.{◌≡◌, refl, sym, ap, ap₂, ◌∙◌}
use mathlib.Core.Bool.{false}
use mathlib.Core.Option.{Option}
use Prim.Native.Nat.{ℕ, zero, suc, ◌^◌, ◌≤◌, ◌<◌}
use native.Mathlib.Omega.{arith}
use lib.Bits.{bit_or}
use lib.Count.{ones}
use Rattle.words.specs.Words.{is_zero, minus, members, first_vars}
use Rattle.words.proofs.Count.{ones_within, ones_first_of, ones_remove}
use Rattle.words.proofs.Lowest.{members_are, members_zero}
use Rattle.words.proofs.Sets.{is_zero_lem, member_nonzero, within_refl, within_minus}
use Rattle.steps.specs.Clause.{Assignment, DSequent, last}
use Rattle.steps.specs.State.{Env, State, redundant, live, append}
use Rattle.steps.specs.Shape.{Shape, OneOf}
use Rattle.steps.specs.Notes.{Notes, notes, Literal, choice, gather, found_by}
use Rattle.steps.specs.Sweep.{Found, Found.nothing, Found.variable, first_monotone, strike, sweep}
use Rattle.steps.proofs.Notes.{same_choice}
use Rattle.steps.proofs.ShapeKeep.{undecided_within, live_undecided, append_redundant}
use Rattle.steps.proofs.ShapeSweep.{first_monotone_is, monotone_within, shape_strike}
use Rattle.steps.proofs.Sweeping.{struck_live}

-- what the sweep finds
abbrev pub found : Env → Assignment → State → Found
found e a s = first_monotone a s (members (live e a s))

-- it is what is chosen from the notes n and the live variables x
pub found_is : (e : Env) (a : Assignment) (s : State) (x : ℕ) (n : Notes) (o : Option Literal)
    → o ≡ choice (members x) n
    → x ≡ live e a s
    → n ≡ notes a (redundant s) s.table
    → found_by a s o ≡ found e a s
found_is e a s x n o chosen lives noted =
    ap (found_by a s) (chosen ∙ ap₂ (λ (y : ℕ) (m : Notes). choice (members y) m) lives noted) ∙ same_choice a s (members (live e a s))

-- a variable that is found is live
pub found_live : (e : Env) (a : Assignment) (s : State) (w r : ℕ) → found e a s ≡ variable w r → OneOf w (live e a s)
found_live e a s w r h =
    let one = members_are (live e a s) w (first_monotone_is a s (members (live e a s)) w r h).0 in
    record { var = one.0; word = one.1; member = one.2 }

pub found_nonzero : (e : Env) (a : Assignment) (s : State) (w r : ℕ) → found e a s ≡ variable w r → is_zero (live e a s) ≡ false
found_nonzero e a s w r h = let one = found_live e a s w r h in member_nonzero (live e a s) one.var one.member

-- so striking it keeps the shape of the point
pub shape_found : (e : Env) (a : Assignment) (s : State) (w r : ℕ) → Shape e a s → found e a s ≡ variable w r → Shape e a (strike a w r s)
shape_found e a s w r p h =
    shape_strike
    e
    a
    w
    r
    s
    p
    (found_live e a s w r h)
    (monotone_within e a s w r p (first_monotone_is a s (members (live e a s)) w r h).1)

-- the decisions gathered for the literal l
abbrev pub reasons : Assignment → State → Literal → ℕ
reasons a s l = gather l a (redundant s) (last s.records).decisions.decided s.table

-- the D-sequent with what is gathered beside the last one, d, is the strike's
pub strike_is : (a : Assignment) (s : State) (l : Literal) (d : DSequent) (on : ℕ)
    → d ≡ last s.records
    → on ≡ gather l a d.redundant d.decisions.decided s.table
    → append a on (bit_or d.redundant l.var) s ≡ strike a l.var (reasons a s l) s
strike_is a s l d on is gathered =
    ap (λ (r : ℕ). append a r (bit_or d.redundant l.var) s) gathered
    ∙ ap (λ (y : DSequent). append a (gather l a y.redundant y.decisions.decided s.table) (bit_or y.redundant l.var) s) is

-- after a strike the notes are those with one variable more redundant
pub notes_after : (a : Assignment) (s : State) (w r : ℕ)
    → notes a (redundant (strike a w r s)) (strike a w r s).table ≡ notes a (bit_or (redundant s) w) s.table
notes_after a s w r = ap (λ (k : ℕ). notes a k s.table) (append_redundant a r (bit_or (redundant s) w) s)

-- after a strike fewer variables are live
pub live_fewer : (e : Env) (a : Assignment) (s : State) (w r : ℕ) → found e a s ≡ variable w r → ones (live e a (strike a w r s)) < ones (live e a s)
live_fewer e a s w r h =
    let one = found_live e a s w r h in
    let left : live e a (strike a w r s) ≡ minus (live e a s) (2 ^ one.var) = struck_live e a w r s ∙ ap (minus (live e a s)) one.word in
    rw left (omega (arith, ones_remove (live e a s) one.var one.member))

-- where nothing is found the sweep is done
pub sweep_ends : (e : Env) (a : Assignment) (k : ℕ) (s : State) → found e a s ≡ nothing → sweep e a k s ≡ s
unfolding sweep
sweep_ends e a zero s h = refl
sweep_ends e a (suc k) s h = rw h refl

-- where a variable is found the sweep goes on after its strike
sweep_goes_on : (e : Env) (a : Assignment) (k : ℕ) (s : State) (w r : ℕ) → found e a s ≡ variable w r → sweep e a (suc k) s ≡ sweep e a k (strike a w r s)
unfolding sweep
sweep_goes_on e a k s w r h = rw h refl

-- where nothing is live nothing is found
pub none_live : (e : Env) (a : Assignment) (s : State) → live e a s ≡ 0 → found e a s ≡ nothing
unfolding first_monotone
none_live e a s h = ap (λ (x : ℕ). first_monotone a s (members x)) h ∙ ap (first_monotone a s) members_zero

-- as many times as there are live variables are enough
sweep_enough : (e : Env) (a : Assignment) (k : ℕ) (s : State) → ones (live e a s) ≤ k → sweep e a (suc k) s ≡ sweep e a k s
sweep_enough e a zero s few = go (found e a s) refl
  where
    go : (f : Found) → found e a s ≡ f → sweep e a 1 s ≡ sweep e a zero s
    go nothing h = sweep_ends e a 1 s h ∙ sym (sweep_ends e a zero s h)
    go (variable w r) h = absurd (omega (arith, live_fewer e a s w r h, few))
sweep_enough e a (suc k) s few = go (found e a s) refl (sweep_enough e a k)
  where
    go : (f : Found) → found e a s ≡ f → ((t : State) → ones (live e a t) ≤ k → sweep e a (suc k) t ≡ sweep e a k t)
        → sweep e a (suc (suc k)) s ≡ sweep e a (suc k) s
    go nothing h below = sweep_ends e a (suc (suc k)) s h ∙ sym (sweep_ends e a (suc k) s h)
    go (variable w r) h below =
        sweep_goes_on e a (suc k) s w r h
        ∙ below (strike a w r s) (omega (arith, live_fewer e a s w r h, few))
        ∙ sym (sweep_goes_on e a k s w r h)

-- so the sweep is the sweep after the strike
pub sweep_turn :
    (e : Env) (a : Assignment) (s : State) (w r : ℕ) → found e a s ≡ variable w r → sweep e a e.n s ≡ sweep e a e.n (strike a w r s)
sweep_turn e a s w r h = go e.n (omega (arith, few, ones_first_of e.n))
  where
    few : ones (live e a s) ≤ ones (first_vars e.n)
    few = ones_within (live e a s) (first_vars e.n) (λ k m. undecided_within e a k (live_undecided e a s k m))

    go : (k : ℕ) → ones (live e a s) ≤ k → sweep e a k s ≡ sweep e a k (strike a w r s)
    go zero le = absurd (omega (arith, live_fewer e a s w r h, le))
    go (suc k) le =
        sweep_goes_on e a k s w r h ∙ sym (sweep_enough e a k (strike a w r s) (omega (arith, live_fewer e a s w r h, le)))

-- and where it was the last live variable, that is the strike alone
pub sweep_last : (e : Env) (a : Assignment) (s : State) (w r : ℕ) → found e a s ≡ variable w r → live e a s ≡ w → sweep e a e.n s ≡ strike a w r s
sweep_last e a s w r h is =
    sweep_turn e a s w r h
    ∙ sweep_ends e a e.n (strike a w r s)
    (none_live e a (strike a w r s) (struck_live e a w r s ∙ ap (λ (x : ℕ). minus x w) is ∙ is_zero_lem (minus w w) (within_minus w w (within_refl w))))
