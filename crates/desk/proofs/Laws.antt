-- What a fresh desk is, and what a call on values gives, by the definition.
use mathlib.Core.Path.{◌≡◌, refl, sym, ap, ap₂, ◌∙◌}
use mathlib.Core.Bool.{Bool, true, false}
use mathlib.Core.Logic.{◌≢◌, inl, inr}
use mathlib.Core.List.{List}
use Prim.Native.Nat.{ℕ, zero, suc, ◌-◌, ◌≤◌, ◌<◌}
use native.Mathlib.Omega.{arith}
use Rattle.std.proofs.Common.{Result, Ok, Err}
use Rattle.std.specs.Result.{IsErrAnd}
use Rattle.answer.specs.declared.refusal.Refusal.{Refusal}
use Rattle.answer.specs.Numbers.{refusal_number}
use Rattle.answer.proofs.Passing.{passed_on}
use Rattle.words.specs.Words.{digit, has}
use Rattle.drafts.specs.declared.Desk.{Desk}
use Rattle.drafts.specs.Desk.{Done, Makes, Alters, Call, Call.set, Call.clear, Call.keep, Call.return, max_drafts, empty_desk, number_refusal, refusal, with_order, altered, unless, after, done}
use Rattle.drafts.specs.Values.{done_by}
use Rattle.drafts.specs.Demands.{Outside}
use Rattle.drafts.proofs.Calls.{among_or, number_by, keep_out, return_out, return_kept, return_never, after_accepted, after_refused}
use Rattle.drafts.proofs.Runs.{fresh_few, fresh_many}

-- a fresh desk of too many options, and of no more than it may have
pub too_many : (n : ℕ) (d : Desk) → 64 < n → d ≡ empty_desk 0 → Makes n 2 d
too_many n d h e = record { as_defined = ap (λ (x : Desk). record { desk = x; answer = 2 }) e ∙ sym (fresh_many n h) }

pub not_too_many : (n : ℕ) (d : Desk) → n ≤ 64 → d ≡ empty_desk n → Makes n 0 d
not_too_many n d h e = record { as_defined = ap (λ (x : Desk). record { desk = x; answer = 0 }) e ∙ sym (fresh_few n h) }

-- a refused call
pub refused : (d : Desk) (c : Call) (r : Refusal) → refusal_number r ≡ refusal d c → refusal d c ≢ 0 → done_by d (Err r) ≡ done d c
refused d c r e n = ap₂ (λ (x : Desk) (k : ℕ). record { desk = x; answer = k }) (sym (after_refused d c n)) e

-- by a refusal that a `?` hands on
pub refused_by :
    (d : Desk) (c : Call) (x : Result Desk Refusal) (r : Refusal) → IsErrAnd x (λ y. y ≡ r) → (refusal_number r ≡ refusal d c) × (refusal d c ≢ 0) →
    done_by d x ≡ done d c
refused_by d c x r p f = ap (done_by d) (passed_on x r p) ∙ refused d c r f.0 f.1

-- an accepted one
pub accepted : (d : Desk) (c : Call) (x : Desk) → refusal d c ≡ 0 → x ≡ altered d c → done_by d (Ok x) ≡ done d c
accepted d c x z e = ap₂ (λ (y : Desk) (k : ℕ). record { desk = y; answer = k }) (e ∙ sym (after_accepted d c z)) (sym z)

-- ---- a return

-- a draft's number is judged first
pub return_number : (d : Desk) (j : ℕ) → number_refusal j ≢ 0 → number_refusal j ≡ refusal d (return j)
unfolding refusal
return_number d j n = elim (among_or j max_drafts) [ inl h ↦ absurd (n (ap number_by h.0)) | inr h ↦ keep_out d j h.1 ∙ sym (return_out d j h.1) ]

number_in : (d : Desk) (j : ℕ) → number_refusal j ≡ 0 → Outside j max_drafts → ⊥
unfolding refusal
number_in d j z o = omega (arith, z, keep_out d j o)

-- then whether it was kept, by its bit
pub never_kept : (d : Desk) (j w : ℕ) → number_refusal j ≡ 0 → w ≡ digit (has d.kept (j - 1)) → w ≡ 0 → refusal d (return j) ≡ 15
never_kept d j w z e n = return_never d j (number_in d j z) (go (has d.kept (j - 1)) e)
  where
    go : (b : Bool) → w ≡ digit b → b ≡ false
    go true f = absurd (omega (arith, f, n))
    go false f = refl

pub was_kept : (d : Desk) (j w : ℕ) → number_refusal j ≡ 0 → w ≡ digit (has d.kept (j - 1)) → w ≢ 0 → refusal d (return j) ≡ 0
was_kept d j w z e n = return_kept d j (number_in d j z) (go (has d.kept (j - 1)) e)
  where
    go : (b : Bool) → w ≡ digit b → b ≡ true
    go true f = refl
    go false f = absurd (n f)

-- ---- what a call that is lent a desk stores of the desk after it

-- the desk with these drafts
abbrev with_drafts : Desk → ℕ → List ℕ → List ℕ → Desk
with_drafts d k ps qs =
    record { options = d.options; wanted = d.wanted; unwanted = d.unwanted; kept = k; wanteds = ps; unwanteds = qs }

-- whether the call is refused or not, all else is as it was
order_alone : (d : Desk) (n p q : ℕ) → let x = unless n d (with_order d p q) in with_order d x.wanted x.unwanted ≡ x
order_alone d zero p q = refl
order_alone d (suc n) p q = refl

drafts_alone : (d : Desk) (n k : ℕ) (ps qs : List ℕ) → let x = unless n d (with_drafts d k ps qs) in with_drafts d x.kept x.wanteds x.unwanteds ≡ x
drafts_alone d zero k ps qs = refl
drafts_alone d (suc n) k ps qs = refl

-- so the order is all that is stored of a wish or a return, and the drafts all of a draft that is kept
stored : (d x y : Desk) (c : Call) → x ≡ after d c → y ≡ after d c → done_by d (Ok x) ≡ done d c → Alters d c 0 y
stored d x y c e f is = record { as_defined = ap (λ (z : Desk). record { desk = z; answer = 0 }) (f ∙ sym e) ∙ is }

pub set_stored : (d x : Desk) (k : ℕ) (fitted : Bool) → done_by d (Ok x) ≡ done d (set k fitted) → Alters d (set k fitted) 0 (with_order d x.wanted x.unwanted)
unfolding after
set_stored d x k fitted is =
    let e : x ≡ after d (set k fitted) = ap (λ (z : Done). z.desk) is in
    stored d x _ (set k fitted) e (ap (λ (z : Desk). with_order d z.wanted z.unwanted) e ∙ go fitted) is
  where
    go : (b : Bool) → let z = after d (set k b) in with_order d z.wanted z.unwanted ≡ z
    go true = order_alone d (refusal d (set k true)) _ _
    go false = order_alone d (refusal d (set k false)) _ _

pub clear_stored : (d x : Desk) (k : ℕ) → done_by d (Ok x) ≡ done d (clear k) → Alters d (clear k) 0 (with_order d x.wanted x.unwanted)
unfolding after
clear_stored d x k is =
    let e : x ≡ after d (clear k) = ap (λ (z : Done). z.desk) is in
    stored d x _ (clear k) e (ap (λ (z : Desk). with_order d z.wanted z.unwanted) e ∙ order_alone d (refusal d (clear k)) _ _) is

pub return_stored : (d x : Desk) (j : ℕ) → done_by d (Ok x) ≡ done d (return j) → Alters d (return j) 0 (with_order d x.wanted x.unwanted)
unfolding after
return_stored d x j is =
    let e : x ≡ after d (return j) = ap (λ (z : Done). z.desk) is in
    stored d x _ (return j) e (ap (λ (z : Desk). with_order d z.wanted z.unwanted) e ∙ order_alone d (refusal d (return j)) _ _) is

pub keep_stored : (d x : Desk) (j : ℕ) → done_by d (Ok x) ≡ done d (keep j) → Alters d (keep j) 0 (with_drafts d x.kept x.wanteds x.unwanteds)
unfolding after
keep_stored d x j is =
    let e : x ≡ after d (keep j) = ap (λ (z : Done). z.desk) is in
    stored d x _ (keep j) e (ap (λ (z : Desk). with_drafts d z.kept z.wanteds z.unwanteds) e ∙ drafts_alone d (refusal d (keep j)) _ _ _) is
