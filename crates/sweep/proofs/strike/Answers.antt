-- With the variable struck the notes are those of a walk or, where no clause in play names it, those before (`notes_still`).
use Rattle.std.proofs.Common.{◌≡◌, Bool, true, false, not, ◌&&◌, List, ℕ, ◌<◌, refl, sym, ap, ◌∙◌}
use lib.Count.{ones}
use Rattle.words.proofs.Truth.{both_ways}
use Rattle.words.proofs.Unions.{meets_bit}
use Rattle.steps.specs.Clause.{vars, Assignment, keepers, names, inactive}
use Rattle.rows.specs.Rows.{clause_at}
use Rattle.rows.specs.Index.{is_in, playing, naming}
use Rattle.rows.specs.Tally.{Tallied, Variable, Leaving}
use Rattle.rows.proofs.Counts.{few_at}
use Rattle.rows.proofs.Reading.{named_is, playing_is}
use Rattle.sweep.proofs.Noting.{notes_still}
use Rattle.sweep.proofs.strike.Goals as goal

-- a clause in play does not name a variable that none in play names
unnamed : {t q : List ℕ} {m : ℕ} {a : Assignment} {k w : ℕ} {r : Bool}
    → Tallied t q m a k
    → ((i : ℕ) → ones (keepers a (clause_at t i)) < 128)
    → Variable w
    → Leaving q m w r
    → r ≡ false
    → (i : ℕ) → i < m → inactive a k (clause_at t i) ≡ false → names w (clause_at t i) ≡ false
unfolding names
unnamed {t} {q} {a = a} {k} {w} x few var leaving none i h active =
    let v = var.var in
    let c = clause_at t i in
    let plays : is_in q playing i ≡ true = playing_is x i h (few i) ∙ ap not active in
    ap (λ (z : ℕ). names z c) var.word
    ∙ meets_bit (vars c) v
    ∙ sym (named_is x i h v var.below)
    ∙ second (is_in q playing i) (is_in q (naming v) i) plays (leaving.none none v var.word i h)
  where
    second : (p r : Bool) → p ≡ true → (p && r) ≡ false → r ≡ false
    second true r e h = h
    second false r e h = both_ways false e refl

pub returns-then-strike : goal.returns-then-strike
returns-then-strike c a k x = let struck = c.strike.ensures.0 _ a k x in (struck, λ seen. c.notes.ensures a _ struck)

pub returns : goal.returns
returns c a k x =
    let s = c.strike in (
      s.ensures.0 _ a k x,
      λ seen. seen ∙ sym (notes_still a k _ _ _ (unnamed x (few_at c.args.t.now (λ j. (c.type_inv.t j).fits) a) c.requires.2 s.ensures.1 c.if-strike.false)),
    )
