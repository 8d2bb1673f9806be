use Prim.Native.Nat.{◌-◌}
use Rattle.book.specs.Limits.{max_vars}
use Rattle.report.proofs.Writing.{Left}
use Rattle.page.specs.Entries.{entries_from, entries, spaced}
use Rattle.layout.proofs.rule.put_entries.Given as goal

-- what is left is the entries from variable v on
abbrev pub invariant-loop-v : goal.invariant-loop-v
invariant-loop-v l =
    Left l.fn.out (spaced (entries (record { pos = l.pos; neg = l.neg }))) l.out (spaced (entries_from (max_vars - l.v) l.v (record { pos = l.pos; neg = l.neg })))
