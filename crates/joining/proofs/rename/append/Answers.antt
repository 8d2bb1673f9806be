use Rattle.std.proofs.Common.{refl, ap, ◌∙◌, length, arith}
use Rattle.rows.proofs.Tables.{put_clause_length}
use Rattle.renaming.specs.Renaming.{renamed}
use Rattle.joining.specs.Promises.{place_in}
use Rattle.joining.proofs.Renamed.{none_put, one_put}
use Rattle.joining.proofs.rename.append.Goals as goal

pub loop-i-init : goal.loop-i-init
loop-i-init c = (refl, none_put _ _ _ _)

pub loop-i-preserved : goal.loop-i-preserved
loop-i-preserved c =
    let f = place_in c.args.places.now.of in (
      ap length c.put.ensures ∙ put_clause_length _ _ _ ∙ c.loop-i.invariant.0,
      one_put f c.args.u.now c.args.t.now c.loop-i.t _ c.args.clauses c.loop-i.i _ (omega (arith, c.requires.room)) c.loop-i.invariant.1
          (c.clause-c.ensures ∙ ap (renamed f 64) c.clause_at.ensures)
          c.put.ensures,
    )
