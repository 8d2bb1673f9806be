use mathlib.Core.Path.{◌≡◌, sym, ap, ◌∙◌}
use mathlib.Core.List.{List, ◌++◌, append-nil}
use Prim.Native.Nat.{ℕ, ◌+◌, ◌*◌, ◌≤◌, ◌<◌}
use native.Mathlib.Omega.{arith}
use lib.ListN.{length}
use Rattle.steps.specs.Clause.{Clause}
use Rattle.rows.specs.Rows.{clause_words, clauses, put_clause}
use Rattle.book.specs.Bytes.{word_at, clauses_in}
use Rattle.book.proofs.Bytes.{clauses_from, from_zero, from_end, from_step}
use Rattle.book.proofs.Putting.{put_next}
use Rattle.book.proofs.read.copy_clauses.Goals as goal

-- all clauses are still to come
begin : (bytes t : List ℕ) (m : ℕ) → clauses t 0 ++ clauses_from bytes m 0 ≡ clauses_in m bytes
unfolding clauses
begin bytes t m = sym (from_zero bytes m)

-- a turn: the i-th is put after the last
turn : (bytes t t' : List ℕ) (m i : ℕ) (c : Clause) → i < m → clause_words (i + 1) ≤ length t → c.pos ≡ word_at bytes (3 + 8 * i)
    → c.neg ≡ word_at bytes (3 + 8 * (m + i)) → t' ≡ put_clause t i c
    → clauses t' (i + 1) ++ clauses_from bytes m (i + 1) ≡ clauses t i ++ clauses_from bytes m i
turn bytes t t' m i c few fits p q e =
    rw e (put_next t i c (clauses_from bytes m (i + 1)) fits)
    ∙ ap (λ (l : List Clause). clauses t i ++ l) (sym (from_step bytes m i c.pos c.neg few p q))

-- none is left
done : (bytes t : List ℕ) (m i : ℕ) → i ≤ m → m ≤ i → clauses t i ++ clauses_from bytes m i ≡ clauses_in m bytes → clauses t m ≡ clauses_in m bytes
done bytes t m i few all e =
    let same : m ≡ i = omega arith in
    ap (clauses t) same ∙ sym (append-nil (clauses t i)) ∙ ap (λ (l : List Clause). clauses t i ++ l) (sym (from_end bytes m i all)) ∙ e

pub loop-i-init : goal.loop-i-init
loop-i-init c = begin _ _ _

pub loop-i-preserved : goal.loop-i-preserved
loop-i-preserved c =
    turn _ _ _ _ _ _ c.loop-i-test.true (omega arith) c.word_at.ensures c.word_at-in-loop-i.ensures c.put.ensures ∙ c.loop-i.invariant

pub returns : goal.returns
returns c = done _ _ _ c.loop-i.i (omega arith) c.loop-i-test.false c.loop-i.invariant
