use Rattle.playing.proofs.Kept.{Kept}
use Rattle.playing.proofs.game.keeps_rules.Given as goal

-- the choice keeps all clauses exactly if it keeps those that are to come
abbrev pub invariant-loop-i : goal.invariant-loop-i
invariant-loop-i l = Kept l.x l.g.table.now l.g.clauses l.i
