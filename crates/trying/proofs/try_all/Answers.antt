use Rattle.std.proofs.Common.{sym, ap, ◌∙◌, refl, arith, rules}
use mathlib.Core.Path.{subst⁻¹}
use Rattle.order.specs.Values.{order_of}
use Rattle.answer.specs.Numbers.{by_number}
use Rattle.answer.specs.declared.Tally.{Tally}
use Rattle.checker.specs.Lent.{tables_of}
use Rattle.settings.specs.Promises.{Counted, cleared}
use Rattle.undecided.specs.Undecided.{verdict_by}
use Rattle.undecided.proofs.Walk.{walk_below}
use Rattle.trying.proofs.Clearing.{counted, clears}
use Rattle.trying.proofs.Going.{ahead_first, reached, ahead_next, stops_there, ends_there, tries_all}
use Rattle.trying.proofs.try_all.Goals as goal
use Rattle.trying.proofs.try_all.Goals.{then-stops-via-then-stops, then-stops-via-else-stops+then-setting-opens}

pub loop-o-init : goal.loop-o-init
loop-o-init c =
    let a = c.args in
    record {
      references = search rules;
      ahead = ahead_first a.book.now (order_of a.o) a.opens a.allowance _ (tables_of a.tables.now) c.ranges.opens.fits c.requires refl;
    }

pub returns-then-stops-clause-tries_all : goal.returns-then-stops-clause-tries_all
returns-then-stops-clause-tries_all c =
    let a = c.args in
    let l = c.loop-o in
    let h = reached a.book.now (order_of a.o) a.opens a.allowance _ l.setting l.known.all l.known.any (tables_of l.tables) l.invariant.ahead _ (by_number c.check-last.result)
    (tables_of c.check-last.new.tables) _ _ c.wishes.ensures c.check-last.ensures.checked c.with-known.ensures.all c.with-known.ensures.any
    in
    tries_all a.book.now (order_of a.o) a.opens a.allowance (tables_of a.tables.now) l.setting _ _ _ _ h
    (elim c.then-stops.branch [
      | then-stops-via-then-stops w ↦ stops_there a.book.now (order_of a.o) a.opens a.allowance _ l.setting _ _ _ _ h (sym c.is_stop-stops.ensures ∙ w.if-stops.true)
      | then-stops-via-else-stops+then-setting-opens w ↦ ends_there a.book.now (order_of a.o) a.opens a.allowance _ l.setting _ _ _ _ h w.if-setting-opens.true
    ])
    _
    (c.verdict.ensures ∙ ap (λ b. verdict_by b c.with-known.result.all c.with-known.result.any) c.is_stop-stops.ensures)

pub counted-requires : goal.counted-requires
counted-requires c =
    let a = c.args in
    let l = c.loop-o in
    let h = reached a.book.now (order_of a.o) a.opens a.allowance _ l.setting l.known.all l.known.any (tables_of l.tables) l.invariant.ahead _ (by_number c.check-last.result)
    (tables_of c.check-last.new.tables) _ _ c.wishes.ensures c.check-last.ensures.checked c.with-known.ensures.all c.with-known.ensures.any
    in
    subst⁻¹ (λ (x : Tally). Counted x (tables_of c.check-last.new.tables)) c.tally_of.ensures
    (counted a.book.now (order_of a.o) a.opens a.allowance l.setting _ _ h.stands)

pub after-setting-requires : goal.after-setting-requires
after-setting-requires c =
    let a = c.args in
    let l = c.loop-o in
    let below = walk_below 64 a.opens l.setting _ l.invariant.ahead.walk in
    omega (arith, c.if-setting-opens.false, below)

pub loop-o-smaller : goal.loop-o-smaller
loop-o-smaller c =
    let a = c.args in
    let l = c.loop-o in
    let h = reached a.book.now (order_of a.o) a.opens a.allowance _ l.setting l.known.all l.known.any (tables_of l.tables) l.invariant.ahead _ (by_number c.check-last.result)
    (tables_of c.check-last.new.tables) _ _ c.wishes.ensures c.check-last.ensures.checked c.with-known.ensures.all c.with-known.ensures.any
    in
    let next =
    ahead_next a.book.now (order_of a.o) a.opens a.allowance _ l.setting _ _ _ _ h (sym c.is_stop-stops.ensures ∙ c.if-stops.false) c.if-setting-opens.false _ _
    c.after-setting.ensures
    (c.counted.ensures.cleared ∙ ap (λ (x : Tally). cleared x (tables_of c.check-last.new.tables)) c.tally_of.ensures
    ∙ clears a.book.now (order_of a.o) a.opens a.allowance l.setting _ _ h.stands)
    in
    omega (arith, next.larger, next.below)

pub loop-o-preserved : goal.loop-o-preserved
loop-o-preserved c =
    let a = c.args in
    let l = c.loop-o in
    let h = reached a.book.now (order_of a.o) a.opens a.allowance _ l.setting l.known.all l.known.any (tables_of l.tables) l.invariant.ahead _ (by_number c.check-last.result)
    (tables_of c.check-last.new.tables) _ _ c.wishes.ensures c.check-last.ensures.checked c.with-known.ensures.all c.with-known.ensures.any
    in
    let next =
    ahead_next a.book.now (order_of a.o) a.opens a.allowance _ l.setting _ _ _ _ h (sym c.is_stop-stops.ensures ∙ c.if-stops.false) c.if-setting-opens.false _ _
    c.after-setting.ensures
    (c.counted.ensures.cleared ∙ ap (λ (x : Tally). cleared x (tables_of c.check-last.new.tables)) c.tally_of.ensures
    ∙ clears a.book.now (order_of a.o) a.opens a.allowance l.setting _ _ h.stands)
    in
    record { references = search rules; ahead = next.ahead }
