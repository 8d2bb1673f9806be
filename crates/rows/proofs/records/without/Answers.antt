-- `rows::records::without` meets its contract: a D-sequent that is kept is put at j, which is not beyond i, so nothing that is still to be read is lost.
use mathlib.Core.Path.{◌≡◌, refl, sym, ap, ◌∙◌}
use mathlib.Core.Bool.{true, false, not}
use mathlib.Core.List.{List, [], ◌∷◌, ◌++◌}
use Prim.Native.Nat.{ℕ, ◌+◌, ◌≤◌}
use native.Mathlib.Omega.{arith}
use lib.ListN.{length}
use Rattle.words.specs.Words.{meets}
use Rattle.steps.specs.Clause.{DSequent, without}
use Rattle.rows.specs.Rows.{sequent_words, sequent_at, sequents, put_sequent}
use Rattle.rows.proofs.Lists.{filter_keep, filter_drop}
use Rattle.rows.proofs.Tables.{sequents_next, put_length, put_other, put_at_end}
use Rattle.rows.proofs.records.without.Invariants.{Through}
use Rattle.rows.proofs.records.without.Goals.{then-not-meets, else-not-meets}
use Rattle.rows.proofs.records.without.Goals as goal

-- before the first turn
start : (rs₀ : List ℕ) (v : ℕ) → Through rs₀ v rs₀ 0 0
unfolding sequents without
start rs₀ v = record { few = omega arith; long = refl; kept = refl; ahead = λ n _. refl }

-- a turn that reads d at number i
module _ (rs₀ rs : List ℕ) (v i j : ℕ) (d : DSequent) (t : Through rs₀ v rs i j) (read : d ≡ sequent_at rs i) where
  -- it is what stood there at the start, so it is one more of those gone through
  one_more : sequents rs₀ (i + 1) ≡ sequents rs₀ i ++ (d ∷ [])
  one_more = sequents_next rs₀ i ∙ rw (read, t.ahead i (omega arith))

  -- d names v, and is left out
  leave : meets d.decisions.decided v ≡ true → Through rs₀ v rs (i + 1) j
  unfolding without
  leave named =
      record {
        few = omega arith;
        long = t.long;
        kept = t.kept ∙ sym (rw one_more (filter_drop _ (sequents rs₀ i) d (ap not named)));
        ahead = λ n l. t.ahead n (omega arith);
      }

  -- d does not name v, and is put at j
  keep : meets d.decisions.decided v ≡ false
      → sequent_words (i + 1) ≤ length rs₀
      → Through rs₀ v (put_sequent rs j d) (i + 1) (j + 1)
  unfolding without
  keep unnamed fits =
      record {
        few = omega arith;
        long = put_length rs j d ∙ t.long;
        kept =
            put_at_end rs j d (omega arith)
            ∙ ap (λ (l : List DSequent). l ++ (d ∷ [])) t.kept
            ∙ sym (rw one_more (filter_keep _ (sequents rs₀ i) d (ap not unnamed)));
        ahead = λ n l. put_other rs j d n (omega arith) ∙ t.ahead n (omega arith);
      }

pub loop-i-init : goal.loop-i-init
loop-i-init c = start _ _

pub loop-i-preserved : goal.loop-i-preserved
loop-i-preserved c =
    elim c.if-not-meets.branch [
      | then-not-meets w ↦
          rw (w.rs-is ∙ w.put.ensures, w.j-is)
          (keep _ _ _ _ _ _ c.loop-i.invariant c.sequent_at-d.ensures (sym c.meets.ensures ∙ w.if-not-meets.true) (omega arith))
      | else-not-meets w ↦
          rw (w.rs-is, w.j-is) (leave _ _ _ _ _ _ c.loop-i.invariant c.sequent_at-d.ensures (sym c.meets.ensures ∙ w.if-not-meets.false))
    ]

pub returns : goal.returns
returns c = let w = c.loop-i.invariant in record { kept = w.kept ∙ ap (λ (n : ℕ). without c.args.v (sequents c.args.rs.now n)) (omega arith); few = omega (arith, w.few) }
