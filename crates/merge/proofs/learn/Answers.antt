-- The clause that is found to cover is the definition's. Where none is, the test of the count against the capacity is the definition's on the length of the table, and the
-- two words stored after the last clause are the clause that the definition adds (`put_clause_at_end`). The list stays, so the tallies are added to at its last set.
use Rattle.std.proofs.Common.{◌≡◌, ap, sym, ◌∙◌, subst, true, false, List, length, ltb, ℕ, ◌+◌, ◌≤◌, ◌<◌, arith}
use borrow.Author.Tests.{le-ltb, lt-ltb}
use Rattle.words.proofs.Truth.{when_true, when_false}
use Rattle.steps.specs.Clause.{Clause, DSequent}
use Rattle.steps.specs.State.{added}
use Rattle.steps.specs.Merge.{settle, learn}
use Rattle.rows.specs.Values.{clause_of, assignment_of, env_of, found_of}
use Rattle.rows.specs.Rows.{clauses, state_of, clause_words}
use Rattle.rows.specs.Tally.{Tallied}
use Rattle.rows.proofs.Tables.{clauses_length, put_clause_at_end}
use Rattle.merge.proofs.learn.Goals as goal

-- there is room for a clause of number m below the capacity k
next : (m k l : ℕ) → m < k → clause_words k ≤ l → clause_words (m + 1) ≤ l
next m k l h f = omega arith

pub returns-in-Some : goal.returns-in-Some
returns-in-Some c =
    let x = c.args in
    let found = c.cover.ensures _ _ c.requires.apart c.requires.broken c.requires.tallied in
    let then = c.settle.ensures x.t.now in
    (then.0 ∙ ap (learn (env_of x.e) (assignment_of x.a) (state_of x.t.now x.rs.now x.s) (clause_of x.c)) (ap found_of (sym c.in-Some.is) ∙ found), then.1 c.requires.tallied)

pub returns-then-e-m : goal.returns-then-e-m
returns-then-e-m c =
    let x = c.args in
    let m = x.s.clauses in
    let found = c.cover.ensures _ _ c.requires.apart c.requires.broken c.requires.tallied in
    let full : ltb (length (clauses x.t.now m)) x.e.capacity ≡ false =
    ap (λ (k : ℕ). ltb k x.e.capacity) (clauses_length x.t.now m) ∙ le-ltb m x.e.capacity c.if-e-m.true in (
      sym (when_false (ltb (length (clauses x.t.now m)) x.e.capacity) _ _ full)
          ∙ ap (learn (env_of x.e) (assignment_of x.a) (state_of x.t.now x.rs.now x.s) (clause_of x.c)) (ap found_of (sym c.in_default.is) ∙ found),
      c.requires.tallied,
    )

pub returns : goal.returns
returns c =
    let x = c.args in
    let m = x.s.clauses in
    let s = state_of x.t.now x.rs.now x.s in
    let found = c.cover.ensures _ _ c.requires.apart c.requires.broken c.requires.tallied in
    let below : m < x.e.capacity = c.if-e-m.false in
    let fits : clause_words x.e.capacity ≤ length x.t.now = c.requires.capacity in
    let room : ltb (length s.table) x.e.capacity ≡ true =
    ap (λ (k : ℕ). ltb k x.e.capacity) (clauses_length x.t.now m) ∙ lt-ltb m x.e.capacity below in
    let table : clauses c.add.new.t (m + 1) ≡ (added (clause_of x.c) s).table =
    ap (λ (l : List ℕ). clauses l (m + 1)) c.add.ensures.0 ∙ put_clause_at_end x.t.now m _ (next m x.e.capacity _ below fits) in
    let tallied =
    subst
    (λ (k : ℕ). Tallied x.t.now x.q.now m (assignment_of x.a) k → Tallied c.add.new.t c.add.new.q (m + 1) (assignment_of x.a) k)
    (ap (λ (d : DSequent). d.redundant) c.requires.last)
    c.add.ensures.1
    c.requires.tallied in
    let then = c.settle-2.ensures c.add.new.t in (
      then.0
          ∙ ap
          (λ (l : List Clause). settle (env_of x.e) (assignment_of x.a) (clause_of x.c) (record { table = l; records = s.records; branchings = s.branchings }))
          table
          ∙ sym (when_true (ltb (length s.table) x.e.capacity) _ _ room)
          ∙ ap (learn (env_of x.e) (assignment_of x.a) s (clause_of x.c)) (ap found_of (sym c.in_default.is) ∙ found),
      then.1 tallied,
    )
