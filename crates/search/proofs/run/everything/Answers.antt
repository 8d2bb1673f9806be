-- The test is the definition's, and the three words stored are its one D-sequent (`put_at_end`).
use Rattle.std.proofs.Common.{◌≡◌, ap, sym, ◌∙◌, List, [], ◌∷◌, ℕ, arith}
use Prim.Native.Nat.{min}
use Rattle.words.specs.Words.{is_zero, first_vars}
use Rattle.words.proofs.Sets.{nonzero}
use Rattle.words.proofs.Truth.{when_true, when_false}
use Rattle.steps.specs.Clause.{DSequent}
use Rattle.rows.specs.Rows.{sequents}
use Rattle.rows.proofs.Tables.{put_at_end}
use Rattle.search.proofs.run.everything.Goals as goal

pub returns-then-vars-eq0 : goal.returns-then-vars-eq0
unfolding sequents
returns-then-vars-eq0 c = sym (when_true (is_zero c.args.vars) _ _ (ap is_zero c.if-vars-eq0.true))

pub returns : goal.returns
unfolding sequents
returns c =
    let n = c.args.vars in
    let some : n ≡ 0 → ⊥ = c.if-vars-eq0.false in
    let only : DSequent → List DSequent = λ d. d ∷ [] in
    let few : min n 64 ≡ n = omega (arith, c.requires.0) in
    ap (λ (l : List ℕ). sequents l 1) c.put.ensures
    ∙ put_at_end c.args.rs.now 0 _ (omega (arith, some, c.requires.1))
    ∙ ap (λ (x : ℕ). only (record { decisions = record { decided = 0; trues = 0 }; redundant = x })) (c.first_of.ensures ∙ ap first_vars few)
    ∙ sym (when_false (is_zero n) _ _ (nonzero n some))
