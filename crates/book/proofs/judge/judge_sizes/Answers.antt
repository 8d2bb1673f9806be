use native.Mathlib.Omega.{arith}
use Rattle.book.proofs.Tests.{sizes_vars, sizes_clauses}
use Rattle.book.proofs.judge.judge_sizes.Goals as goal

pub returns-then-vars-gt-MAX_VARS : goal.returns-then-vars-gt-MAX_VARS
returns-then-vars-gt-MAX_VARS c = λ whole rest. sizes_vars _ _ whole rest (omega arith)

pub returns-then-clauses-gt-MAX_CLAUSES : goal.returns-then-clauses-gt-MAX_CLAUSES
returns-then-clauses-gt-MAX_CLAUSES c = λ whole rest. sizes_clauses _ _ whole rest (omega arith) (omega arith)
