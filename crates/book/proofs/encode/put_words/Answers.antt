use mathlib.Core.Path.{◌≡◌, sym, ◌∙◌}
use mathlib.Core.Bool.{Bool}
use mathlib.Core.List.{List, ◌++◌, map}
use Prim.Native.Nat.{ℕ, ◌+◌, ◌*◌, ◌≤◌, ◌<◌}
use native.Mathlib.Nat.{add-zero, sub-zero}
use native.Mathlib.Omega.{arith}
use lib.ListN.{length}
use Rattle.steps.specs.Clause.{Clause, literals}
use Rattle.rows.specs.Rows.{clause_at, clauses}
use Rattle.rows.proofs.Lists.{from_step, from_end}
use Rattle.book.specs.Bytes.{bytes_of, flat}
use Rattle.book.specs.Written.{placed}
use Rattle.book.proofs.Bytes.{length_bytes_of}
use Rattle.book.proofs.Placed.{placed_nil, placed_append}
use Rattle.book.proofs.Encoding.{words_from}
use Rattle.book.proofs.encode.put_words.Goals as goal

-- before the first turn
begin : (out t : List ℕ) (at : ℕ) (sign : Bool) (m : ℕ)
    → placed out (at + 8 * 0) (words_from t sign m 0) ≡ placed out at (flat (map (literals sign) (clauses t m)))
unfolding clauses
begin out t at sign m = rw (add-zero, sub-zero)

-- a turn: the bytes of the i-th clause's word are written
turn : (out out' t : List ℕ) (at : ℕ) (sign : Bool) (m i word : ℕ) (c : Clause) → i < m → at + 8 * m ≤ length out → c ≡ clause_at t i
    → word ≡ literals sign c → out' ≡ placed out (at + 8 * i) (bytes_of 8 word)
    → placed out' (at + 8 * (i + 1)) (words_from t sign m (i + 1)) ≡ placed out (at + 8 * i) (words_from t sign m i)
unfolding flat
turn out out' t at sign m i word c few long read e w =
    let size = length_bytes_of 8 word in
    let next : at + 8 * (i + 1) ≡ at + 8 * i + length (bytes_of 8 word) = omega arith in
    let step : words_from t sign m i ≡ bytes_of 8 word ++ words_from t sign m (i + 1) =
    rw (from_step (clause_at t) i m few, ← read, ← e)
    in
    rw (step, w, next) (sym (placed_append out (at + 8 * i) (bytes_of 8 word) (words_from t sign m (i + 1)) (omega arith)))

-- no clause is left
done : (out t : List ℕ) (at : ℕ) (sign : Bool) (m i : ℕ) → m ≤ i → placed out (at + 8 * i) (words_from t sign m i) ≡ out
unfolding flat
done out t at sign m i h = rw (from_end (clause_at t) i m h) (placed_nil out (at + 8 * i))

pub loop-i-init : goal.loop-i-init
loop-i-init c = begin _ _ _ c.args.sign _

pub loop-i-preserved : goal.loop-i-preserved
loop-i-preserved c =
    turn _ _ c.args.t.now _ c.args.sign _ _ _ _ c.loop-i-test.true (omega arith) c.clause_at.ensures c.literals-word.ensures c.put_word.ensures
    ∙ c.loop-i.invariant

pub returns : goal.returns
returns c = sym (done _ c.args.t.now _ c.args.sign _ c.loop-i.i c.loop-i-test.false) ∙ c.loop-i.invariant
