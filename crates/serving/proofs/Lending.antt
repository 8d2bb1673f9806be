-- The places that a part has. Lent, they are the part; and what a check leaves there, put back, is in the part.
use mathlib.Core.Path.{◌≡◌, refl, ap, ◌∙◌}
use mathlib.Core.List.{List, ◌++◌}
use Prim.Native.Nat.{ℕ, ◌+◌, ◌-◌}
use native.Mathlib.Omega.{arith}
use lib.ListN.{length, take, drop}
use lib.Seq.{drop-drop}
use Rattle.order.specs.Order.{Order}
use Rattle.answer.specs.Packed.{packed}
use Rattle.answer.specs.Answer.{Answer}
use Rattle.contract.specs.Check.{check}
use Rattle.contract.specs.Filled.{Tables, lent, lengths, answer_of, filled, Checked}
use Rattle.contract.proofs.Filling.{tables_equal}
use Rattle.morning.specs.Parts.{share, end, part, with_part, part_of, with_part_of}
use Rattle.morning.specs.Morning.{fill_part}
use Rattle.serving.specs.Promises.{PartIn, ServedPart}

module _ (k i : ℕ) (t : List ℕ) {from to : ℕ} (p : PartIn k i (length t) from to) where
  -- so many places
  share_is : to - from ≡ share k t
  share_is = omega (arith, p.ends)

  -- they are the part
  cut_out : take (to - from) (drop from t) ≡ part k i t
  cut_out = rw (share_is, p.begins) refl

  -- and put back they are in the part
  put_back : (x : List ℕ) → take from t ++ (x ++ drop (to - from) (drop from t)) ≡ with_part k i t x
  put_back x =
      ap (λ (l : List ℕ). take from t ++ (x ++ l)) (drop-drop (to - from) from t)
      ∙ (let there : from + (to - from) ≡ end k i t = omega (arith, p.ends, p.begins) in rw (there, p.begins) refl)

module _ (k i : ℕ) (t : Tables) {p p' n n' d d' s s' r r' : ℕ}
    (pos : PartIn k i (length t.pos) p p') (neg : PartIn k i (length t.neg) n n') (decided : PartIn k i (length t.decided) d d')
    (trues : PartIn k i (length t.trues) s s') (redundant : PartIn k i (length t.redundant) r r') where
  pub cut_tables :
      lent
      (take (p' - p) (drop p t.pos))
      (take (n' - n) (drop n t.neg))
      (take (d' - d) (drop d t.decided))
      (take (s' - s) (drop s t.trues))
      (take (r' - r) (drop r t.redundant)) ≡
      part_of k i t
  cut_tables =
      tables_equal (cut_out k i t.pos pos) (cut_out k i t.neg neg) (cut_out k i t.decided decided) (cut_out k i t.trues trues)
      (cut_out k i t.redundant redundant)

  pub put_tables :
      (x : Tables) →
      lent
      (take p t.pos ++ (x.pos ++ drop (p' - p) (drop p t.pos)))
      (take n t.neg ++ (x.neg ++ drop (n' - n) (drop n t.neg)))
      (take d t.decided ++ (x.decided ++ drop (d' - d) (drop d t.decided)))
      (take s t.trues ++ (x.trues ++ drop (s' - s) (drop s t.trues)))
      (take r t.redundant ++ (x.redundant ++ drop (r' - r) (drop r t.redundant))) ≡
      with_part_of k i t x
  put_tables x =
      tables_equal (put_back k i t.pos pos x.pos) (put_back k i t.neg neg x.neg) (put_back k i t.decided decided x.decided)
      (put_back k i t.trues trues x.trues) (put_back k i t.redundant redundant x.redundant)

-- a check of the part, with what it left put back, is what is promised
pub served_part :
    (bytes : List ℕ) (o : Order) (allowance k i : ℕ) (t : Tables) (a : Answer) (w : ℕ) {cut left whole : Tables} →
    Checked bytes o allowance cut a left → w ≡ packed a → cut ≡ part_of k i t → whole ≡ with_part_of k i t left →
    ServedPart bytes o allowance k i t w whole
unfolding fill_part
served_part bytes o allowance k i t a w {cut} {left} {whole} checked word same put =
    record {
      word = word ∙ ap packed checked.answer ∙ ap (λ (l : Tables). packed (answer_of (check bytes o allowance (lengths l)))) same;
      tables = put ∙ ap (with_part_of k i t) (checked.tables ∙ ap (λ (l : Tables). filled (check bytes o allowance (lengths l)) l) same);
    }
