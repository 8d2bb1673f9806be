-- `join` leaves the joined state, whose list has room for one more D-sequent. The tallies were the second side's; with its decision withdrawn and the joined list's set put
-- in force they are the joined state's. The test there is the definition's (`merged`).
use Rattle.std.proofs.Common.{ap, subst, arith}
use mathlib.Core.Path.{subst⁻¹}
use Rattle.steps.specs.Clause.{DSequent}
use Rattle.steps.specs.State.{redundant}
use Rattle.rows.specs.Values.{assignment_of, env_of}
use Rattle.rows.specs.Rows.{state_of}
use Rattle.rows.specs.Tally.{Tallied}
use Rattle.merge.proofs.Joined.{branched_variable, branched_free, second_records, joined, merged}
use Rattle.merge.proofs.merge.Goals as goal

pub last-second-requires : goal.last-second-requires
last-second-requires c = let m = c.requires.0 in omega (arith, second_records m, m.room)

pub join-joined-requires : goal.join-joined-requires
join-joined-requires c = let m = c.requires.0 in record { vars = m.vars; room = m.room; few = second_records m }

pub last-d-requires : goal.last-d-requires
last-d-requires c =
    let j = c.join-joined in
    omega (arith, (joined c.requires.0 (j.ensures c.args.t.now) j.auto.rs).room)

pub withdraw-requires : goal.withdraw-requires
withdraw-requires c =
    let x = c.args in
    let m = c.requires.0 in
    let j = c.join-joined in
    let to = joined m (j.ensures x.t.now) j.auto.rs in
    record {
      table = to.table;
      variable = branched_variable x.e x.a x.v m.vars m.branched;
      vars = x.e.vars;
      proper = to.shape.clauses;
      decisions = assignment_of x.a;
      free = branched_free (env_of x.e) (assignment_of x.a) x.v m.branched m.trues;
      struck = redundant (state_of x.t.now x.rs.now x.s);
      tallied = to.second c.requires.1.tallied;
    }

pub unstrike-requires : goal.unstrike-requires
unstrike-requires c =
    let j = c.join-joined in
    omega (arith, ((joined c.requires.0 (j.ensures c.args.t.now) j.auto.rs).second c.requires.1.tallied).room, c.withdraw.auto.q)

pub test-requires : goal.test-requires
test-requires c =
    let x = c.args in
    let m = c.requires.0 in
    let a = assignment_of x.a in
    let j = c.join-joined in
    let n = j.result.clauses in
    let to = joined m (j.ensures x.t.now) j.auto.rs in
    let set = ap (λ (y : DSequent). y.redundant) c.last-second.ensures in
    let joined_set = ap (λ (y : DSequent). y.redundant) c.last-d.ensures in
    let withdrawn = c.withdraw.ensures m.branched.var a _ m.branched.word (branched_free (env_of x.e) a x.v m.branched m.trues) (to.second c.requires.1.tallied) in
    record {
      others_struck =
          record {
            vars = m.vars;
            table = to.table;
            next = to.room;
            branched = m.branched;
            others = to.others;
            tallied =
                subst (Tallied x.t.now c.unstrike.new.q n a) joined_set
                (c.unstrike.ensures _ a (subst⁻¹ (Tallied x.t.now c.withdraw.new.q n a) set withdrawn));
          };
      capacity = m.capacity;
      places = omega (arith, c.requires.1.places, c.unstrike.auto.q, c.withdraw.auto.q);
      clauses = to.allowed;
      shape = to.shape;
    }

pub returns : goal.returns
returns c =
    let x = c.args in
    (merged _ _ _ _ _ _ _ _ (c.join-joined.ensures x.t.now) (c.test.ensures.0 x.b), c.test.ensures.1)
