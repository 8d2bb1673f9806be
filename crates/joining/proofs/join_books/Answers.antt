use Rattle.std.proofs.Common.{◌≡◌, Some, refl, sym, ◌∙◌, arith}
use Rattle.answer.proofs.Passing.{passed_on}
use Rattle.joint.specs.Join.{pairs_fault}
use Rattle.joint.specs.Pairs.{paired}
use Rattle.joining.specs.Promises.{judged_as}
use Rattle.joining.proofs.Joined.{small, books_fault, paired_are, first_low, count_few, books_large, fit, bit, appendable, books_written}
use Rattle.joining.proofs.join_books.Goals.{In_ok-paired}
use Rattle.joining.proofs.join_books.Goals as goal

pub returns-in_err-paired : goal.returns-in_err-paired
returns-in_err-paired c =
    let h = c.in_err-paired.ensures in
    books_fault _ _ _ _ _ c.requires.0 c.requires.1 _ _ _ _ h.ok_part c.judge.ensures
    (passed_on c.from_residual.result c.in_err-paired.field-0.0 c.from_residual.ensures.1 ∙ h.value)

pub sizes-joint-requires : goal.sizes-joint-requires
sizes-joint-requires c = (small _ _ c.requires.0, small _ _ c.requires.1)

-- no pair is at fault
passed : (c : In_ok-paired) → Some c.in_ok-paired.paired ≡ judged_as (pairs_fault c.args.a.vars c.args.b.vars c.args.pairs.now) (paired c.args.pairs.now)
passed c = sym c.in_ok-paired.ensures.ok_part ∙ c.judge.ensures

pub too_large-requires : goal.too_large-requires
too_large-requires c =
    count_few _ _ _ _ c.args.pairs.now c.requires.0 c.requires.1 _ (passed (goal.at.too_large-requires c).In_ok-paired) _ c.sizes-joint.ensures

pub returns-then-too_large : goal.returns-then-too_large
returns-then-too_large c =
    books_large _ _ _ _ _ c.requires.0 c.requires.1 _ (passed (goal.at.returns-then-too_large c).In_ok-paired) _ c.sizes-joint.ensures _ _ c.too_large.ensures c.if-too_large.true

pub places-places-requires : goal.places-places-requires
places-places-requires c =
    let p = passed (goal.at.places-places-requires c).In_ok-paired in (
      c.requires.0.formed.vars_few,
      c.requires.1.formed.vars_few,
      paired_are _ _ _ _ _ c.requires.0 c.requires.1 _ p,
      first_low _ _ _ _ _ c.requires.0 c.requires.1 _ p,
      bit _ _ _ _ _ c.requires.0 c.requires.1 _ p _ c.sizes-joint.ensures _ _ c.too_large.ensures c.if-too_large.false,
    )

pub append-requires : goal.append-requires
append-requires c =
    appendable _ _ _ _ c.args.pairs.now c.requires.0 c.requires.1 _ (passed (goal.at.append-requires c).In_ok-paired) _ c.sizes-joint.ensures _ _ c.too_large.ensures c.if-too_large.false

pub write-requires : goal.write-requires
write-requires c = (
  fit _ _ _ _ c.args.pairs.now c.requires.0 c.requires.1 _ (passed (goal.at.write-requires c).In_ok-paired) _ c.sizes-joint.ensures _ _ c.too_large.ensures c.if-too_large.false,
  omega (arith, c.append.auto.t, c.requires.0.room),
)

pub returns : goal.returns
returns c =
    books_written _ _ _ _ _ c.requires.0 c.requires.1 _ (passed (goal.at.returns c).In_ok-paired) _ c.sizes-joint.ensures _ _ c.too_large.ensures c.if-too_large.false _
    c.places-places.ensures _ _ _ _ refl c.append.ensures c.write.ensures
