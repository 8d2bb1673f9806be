use mathlib.Core.Path.{◌≡◌, refl, sym, ap}
use mathlib.Core.List.{List, ◌++◌}
use Prim.Native.Nat.{ℕ}
use native.Mathlib.Omega.{arith}
use lib.ListN.{length}
use Rattle.steps.specs.Clause.{Clause, vars}
use Rattle.report.specs.Ascii.{ascii}
use Rattle.page.specs.Entries.{entries, spaced}
use Rattle.page.proofs.Text.{shown_none, shown_spaced, counted_short}
use Rattle.layout.proofs.Shown.{started, started_after, entries_free, entries_long, count_few, shown_count}
use Rattle.layout.proofs.rule.show.Goals as goal

pub put_entries-requires : goal.put_entries-requires
put_entries-requires c = entries_free c.args.out.now _ c.requires.start c.requires.room

pub text-requires : goal.text-requires
text-requires c =
    record { room = record { fits = omega (arith, c.if-out-eq0.true, entries_long _ c.requires.start c.requires.room c.put_entries.ensures) } }

pub put_count-requires : goal.put_count-requires
unfolding vars
put_count-requires c =
    let rule : Clause = record { pos = c.args.pos; neg = c.args.neg } in
    let few = count_few rule c.ranges.pos.fits c.ranges.neg.fits c.count_of.result c.count_of.ensures in
    record { room = record { fits = omega (arith, counted_short c.count_of.result (omega (arith, few)), entries_long _ c.requires.start c.requires.room c.put_entries.ensures) } }

pub returns-then-out-eq0 : goal.returns-then-out-eq0
returns-then-out-eq0 c =
    let rule : Clause = record { pos = c.args.pos; neg = c.args.neg } in
    let es = entries rule in
    let none : length (spaced es) ≡ 0 = omega (arith, c.put_entries.ensures.wrote.end, c.if-out-eq0.true) in
    started_after c.put_entries.ensures.same (ap (λ (l : List ℕ). ascii " " ++ l) (sym (shown_none es none))) c.if-out-eq0.true c.text.ensures

pub returns-then-out-gt-ROOM : goal.returns-then-out-gt-ROOM
unfolding vars
returns-then-out-gt-ROOM c =
    let rule : Clause = record { pos = c.args.pos; neg = c.args.neg } in
    started_after c.put_entries.ensures.same (shown_count rule c.ranges.pos.fits c.ranges.neg.fits c.count_of.result c.count_of.ensures (omega (arith, c.put_entries.ensures.wrote.end, c.requires.start, c.if-out-gt-ROOM.true))) refl c.put_count.ensures

pub returns-else-out-gt-ROOM : goal.returns-else-out-gt-ROOM
returns-else-out-gt-ROOM c =
    let rule : Clause = record { pos = c.args.pos; neg = c.args.neg } in
    let es = entries rule in
    let some : length (spaced es) ≡ 0 → ⊥ = λ e. c.if-out-eq0.false (omega (arith, c.put_entries.ensures.wrote.end, c.requires.start, e)) in
    started (shown_spaced es some (omega (arith, c.put_entries.ensures.wrote.end, c.requires.start, c.if-out-gt-ROOM.false))) c.requires.start c.put_entries.ensures
