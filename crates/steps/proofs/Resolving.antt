-- What step 7 comes to where the test fails: the table and the list as the definition leaves them, by whether a clause of the table covers the resolvent.
-- The clause that serves is falsified, so that all its variables are decided. The covering one is not empty, since the sides went back up.
use mathlib.Core.Path.{◌≡◌, refl, ap, subst, ◌∙◌}
use mathlib.Core.Bool.{false, not}
use mathlib.Core.List.Memᴰ
use mathlib.Core.List.{Memᴰ}
use mathlib.Core.Option.{some}
use Prim.Native.Nat.{ℕ}
use lib.ListN.{length}
use borrow.Author.Tests.{lt-ltb, le-ltb}
use Rattle.words.specs.Words.{is_zero}
use Rattle.words.proofs.Sets.{and_whole, nonzero}
use Rattle.steps.specs.Lists.{any}
use Rattle.steps.specs.Clause.{Clause, vars, Assignment, decide, last}
use Rattle.steps.specs.State.{Env, State, Side.up, undecided, append, added}
use Rattle.steps.specs.Merge.{cover, resolvent, settle, learn, join, merge}
use Rattle.steps.specs.Search.{is_empty}
use Rattle.steps.specs.Demands.{Resolves, Resolving}
use Rattle.steps.proofs.ListLaws.{any_false}
use Rattle.steps.proofs.Literals.{Falsified, literal_of_lem, naming_some}
use Rattle.steps.proofs.Resolvent.{resolvent_falsified}
use Rattle.steps.proofs.Covers.{cover_first, none_cover, covers_falsified}
use Rattle.steps.proofs.Listed.{listed_join}
use Rattle.steps.proofs.NoneEmpty.{NoneEmpty, Stays, stays}

module _ (e : Env) (a : Assignment) (j : State) (c : Clause) (broken : Falsified a c) where
  -- a falsified clause that is not empty leaves the decisions on all its variables
  settled : (d : Clause) (s : State) → Falsified a d → is_zero (vars d) ≡ false → settle e a d s ≡ up (append a (vars d) (undecided e a) s)
  settled d s f z =
      rw (z, settle)
      (ap (λ (r : ℕ). up (append a r (undecided e a) s)) (and_whole (vars d) a.decided (λ k h. let l = literal_of_lem d k h in (f l.0 k l.1).0)))

  -- the four ways
  resolves : NoneEmpty j → Resolves e a j c (learn e a j c (cover c j.table))
  resolves nonempty =
      record {
        covered =
            λ before after d is h f.
            let found : cover c j.table ≡ some d = ap (cover c) is ∙ cover_first c before after d h f in
            let member : Memᴰ d j.table = rw is (Memᴰ.append_right before (Memᴰ.head refl)) in
            ap (learn e a j c) found ∙ settled d j (covers_falsified a d c h broken) (any_false is_empty j.table nonempty d member);
        full = λ f room. ap (learn e a j c) (none_cover c j.table f) ∙ rw (le-ltb (length j.table) e.capacity room, learn) refl;
        empty = λ f room z. ap (learn e a j c) (none_cover c j.table f) ∙ rw (lt-ltb (length j.table) e.capacity room, learn) (rw (z, settle) refl);
        new =
            λ f room z.
            ap (learn e a j c) (none_cover c j.table f) ∙ rw (lt-ltb (length j.table) e.capacity room, learn) (settled c (added c j) broken (nonzero (vars c) z));
      }

-- wherever a run comes together
pub resolving : Resolving
unfolding merge
resolving n book o i allowance capacity a w b x y m test c d f g =
    let e : Env = record { n = n; allowance = allowance; capacity = capacity } in
    let r = (last x.records).decisions.decided in
    let j = join e a w r y in
    let nonempty : NoneEmpty y = subst Stays m.back_second (stays e m.depth (decide a w (not b)) w _) in
    let left = naming_some w (decide a w b) j.table c f in
    let right = naming_some w (decide a w (not b)) j.table d g in
    rw (test, f, g)
    (resolves e a j (resolvent w c d) (resolvent_falsified a w b c d left.1 right.1) (ap (any is_empty) (listed_join e a w r y).table ∙ nonempty))
