-- What a store does to the clauses and D-sequents that the work tables hold: the entry of that number is the new one, and every other stays.
-- So the first k entries stay under a store at k or beyond, and a store at k is one entry more at the end.
use mathlib.Core.Path.{◌≡◌, ap, sym, ◌∙◌}
use mathlib.Core.Logic.{◌≢◌}
use mathlib.Core.List.{List, [], ◌∷◌, ◌++◌, Memᴰ}
use Prim.Native.Nat.{ℕ, ◌+◌, ◌-◌, ◌*◌, ◌≤◌, ◌<◌}
use native.Mathlib.Nat.{zero-add}
use native.Mathlib.Omega.{arith}
use lib.ListN.{length, drop, get_or, set, length-set}
use lib.Seq.{get_or-set_same, get_or-set_other}
use Rattle.steps.specs.Clause.{Clause, DSequent}
use Rattle.rows.specs.Rows.{clause_words, from, clause_at, clauses, clauses_from, put_clause, sequent_words, sequent_at, sequents, put_sequent}
use Rattle.rows.proofs.Lists.{from_same, from_next, from_length, from_has, drop_from}

-- m clauses, and k D-sequents
pub clauses_length : (t : List ℕ) (m : ℕ) → length (clauses t m) ≡ m
unfolding clauses
clauses_length t m = from_length (clause_at t) 0 m

pub sequents_length : (rs : List ℕ) (k : ℕ) → length (sequents rs k) ≡ k
unfolding sequents
sequents_length rs k = from_length (sequent_at rs) 0 k

-- the same clauses are as many
pub as_many : (t : List ℕ) (m k : ℕ) → clauses t m ≡ clauses t k → m ≡ k
as_many t m k h = sym (clauses_length t m) ∙ ap length h ∙ clauses_length t k

-- the clause of number i below m is one of the first m
pub clause_among : (t : List ℕ) (m i : ℕ) → i < m → Memᴰ (clause_at t i) (clauses t m)
unfolding clauses
clause_among t m i h = from_has (clause_at t) 0 m i (omega arith) (omega arith)

-- the clauses after the first m
pub clauses_after : (t : List ℕ) (m k : ℕ) → drop m (clauses t k) ≡ clauses_from t m (k - m)
unfolding clauses
clauses_after t m k = drop_from (clause_at t) m 0 k ∙ ap (λ (j : ℕ). from (clause_at t) j (k - m)) (zero-add m)

-- one D-sequent more is the one of that number at the end
pub sequents_next : (rs : List ℕ) (k : ℕ) → sequents rs (k + 1) ≡ sequents rs k ++ (sequent_at rs k ∷ [])
unfolding sequents
sequents_next rs k = from_next (sequent_at rs) k

-- ---- the D-sequent d is put at number i

module _ (rs : List ℕ) (i : ℕ) (d : DSequent) where
  -- the list is as long as it was
  pub put_length : length (put_sequent rs i d) ≡ length rs
  unfolding put_sequent
  put_length = rw (length-set, length-set, length-set)

  -- a word that the stores do not reach
  put_word : (n : ℕ) → n ≢ 3 * i → n ≢ 3 * i + 1 → n ≢ 3 * i + 2 → get_or (put_sequent rs i d) n 0 ≡ get_or rs n 0
  unfolding put_sequent
  put_word n a b c = rw (get_or-set_other, get_or-set_other, get_or-set_other)

  -- every other D-sequent stays
  pub put_other : (n : ℕ) → n ≢ i → sequent_at (put_sequent rs i d) n ≡ sequent_at rs n
  put_other n h =
      rw (
        put_word (3 * n) (omega arith) (omega arith) (omega arith),
        put_word (3 * n + 1) (omega arith) (omega arith) (omega arith),
        put_word (3 * n + 2) (omega arith) (omega arith) (omega arith),
      )

  -- the D-sequent of number i is the one that was put
  put_here : sequent_words (i + 1) ≤ length rs → sequent_at (put_sequent rs i d) i ≡ d
  unfolding put_sequent
  put_here h =
      rw (
        get_or-set_other _ (3 * i + 2) (3 * i) _ _ (omega arith),
        get_or-set_other _ (3 * i + 1) (3 * i) _ _ (omega arith),
        get_or-set_same rs (3 * i) d.decisions.decided 0 (omega arith),
        get_or-set_other _ (3 * i + 2) (3 * i + 1) _ _ (omega arith),
        get_or-set_same (set rs (3 * i) d.decisions.decided) (3 * i + 1) d.decisions.trues 0 (simp length-set (omega arith)),
        get_or-set_same (set (set rs (3 * i) d.decisions.decided) (3 * i + 1) d.decisions.trues) (3 * i + 2) d.redundant 0 (simp length-set (omega arith)),
      )

  -- the first k D-sequents stay under a store at k or beyond
  put_before : (k : ℕ) → k ≤ i → sequents (put_sequent rs i d) k ≡ sequents rs k
  unfolding sequents
  put_before k h = from_same (sequent_at (put_sequent rs i d)) (sequent_at rs) 0 k (λ n _ below. put_other n (omega arith))

  -- a store after the last is one D-sequent more
  pub put_at_end : sequent_words (i + 1) ≤ length rs → sequents (put_sequent rs i d) (i + 1) ≡ sequents rs i ++ (d ∷ [])
  put_at_end h = rw (sequents_next (put_sequent rs i d) i, put_before i (omega arith), put_here h)

-- ---- the clause c is put at number i

module _ (t : List ℕ) (i : ℕ) (c : Clause) where
  -- the table is as long as it was
  pub put_clause_length : length (put_clause t i c) ≡ length t
  unfolding put_clause
  put_clause_length = rw (length-set, length-set)

  -- a word that the stores do not reach
  put_clause_word : (n : ℕ) → n ≢ 2 * i → n ≢ 2 * i + 1 → get_or (put_clause t i c) n 0 ≡ get_or t n 0
  unfolding put_clause
  put_clause_word n a b = rw (get_or-set_other, get_or-set_other)

  -- every other clause stays
  pub put_clause_other : (n : ℕ) → n ≢ i → clause_at (put_clause t i c) n ≡ clause_at t n
  put_clause_other n h = rw (put_clause_word (2 * n) (omega arith) (omega arith), put_clause_word (2 * n + 1) (omega arith) (omega arith))

  -- the clause of number i is the one that was put
  pub put_clause_here : clause_words (i + 1) ≤ length t → clause_at (put_clause t i c) i ≡ c
  unfolding put_clause
  put_clause_here h =
      rw (
        get_or-set_other _ (2 * i + 1) (2 * i) _ _ (omega arith),
        get_or-set_same t (2 * i) c.pos 0 (omega arith),
        get_or-set_same (set t (2 * i) c.pos) (2 * i + 1) c.neg 0 (simp length-set (omega arith)),
      )

  -- a store after the last is one clause more
  pub put_clause_at_end : clause_words (i + 1) ≤ length t → clauses (put_clause t i c) (i + 1) ≡ clauses t i ++ (c ∷ [])
  unfolding clauses
  put_clause_at_end h =
      from_next (clause_at (put_clause t i c)) i
      ∙ rw (
        from_same (clause_at (put_clause t i c)) (clause_at t) 0 i (λ n _ below. put_clause_other n (omega arith)),
        put_clause_here h,
      )
