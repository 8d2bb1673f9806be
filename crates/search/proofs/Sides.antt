-- The first side of a branching as the code goes through it, stage by stage, each with what is known there, and what each way out comes to. The points of both sides
-- keep the shape of a point, the allowances and the room in the work tables (`steps`, `Points`); the ways out are the laws of `Branching`, with the number of undecided
-- variables as the depth: either side decides one more.
use mathlib.Core.Path.{◌≡◌, refl, ap, sym, ◌∙◌, subst, subst⁻¹}
use mathlib.Core.Bool.{Bool}
use mathlib.Core.List.{List}
use Prim.Native.Nat.{ℕ, suc, ◌+◌, ◌^◌, ◌≤◌, ◌<◌}
use native.Mathlib.Numerals.{add-one}
use native.Mathlib.Omega.{arith}
use lib.Count.{ones}
use lib.ListN.{length}
use Rattle.words.specs.Words.{Within}
use Rattle.steps.specs.Lists.{any}
use Rattle.steps.specs.Clause.{decide, last, DSequent}
use Rattle.steps.specs.Clause as clause
use Rattle.steps.specs.State.{State, Side as StepSide, Side.ended, Ending.out_of_branchings, undecided, redundant, live, counted}
use Rattle.steps.specs.Enter.{Turn, Turn.branch, enter}
use Rattle.steps.specs.Search.{is_empty, search}
use Rattle.steps.specs.Shape.{Shape, OneOf, TurnShape}
use Rattle.steps.specs.Demands.{Free}
use Rattle.steps.proofs.LockstepGrows.{turned, listed_enter}
use Rattle.steps.proofs.Nesting.{undecided_one_fewer}
use Rattle.steps.proofs.Places.{one_of_more}
use Rattle.steps.proofs.ShapeEnter.{shape_enter}
use Rattle.steps.proofs.ShapeKeep.{last_recorded, records_at_most_n, live_undecided}
use Rattle.steps.proofs.ShapeSides.{shape_first}
use Rattle.rows.specs.Values.{assignment_of, env_of}
use Rattle.rows.specs.Rows.{clauses, sequent_words, sequents, state_of}
use Rattle.rows.specs.Index.{tally_words}
use Rattle.rows.specs.Tally.{Tallied, TalliedAt, Changing}
use Rattle.merge.specs.Sides.{side_of, TalliedSide}
use Rattle.search.specs.Needs.{Point, Held}
use Rattle.search.specs.Values.{halted}
use Rattle.rows.specs.declared.clause.Assignment.{Assignment}
use Rattle.enter.specs.Turns.{turn_of, counts_of}
use Rattle.enter.specs.declared.Turn as code
use Rattle.enter.specs.declared.Turn.TheVariants as turn
use Rattle.merge.specs.declared.Ending.{Ending}
use Rattle.merge.specs.declared.Side.{Side}
use Rattle.merge.specs.declared.Side.TheVariants as side
use Rattle.rows.specs.declared.state.Counts.{Counts}
use Rattle.rows.specs.declared.state.Env.{Env}
use Rattle.search.proofs.Branching as branching
use Rattle.search.proofs.Points.{up_point}
use Rattle.rows.proofs.Tables.{as_many, sequents_length}
use Rattle.merge.proofs.Joined.{branched_variable, branched_free}

-- a turn that does not branch, r, comes to what the search from the point does
pub halted_at : {t rs : List ℕ} {e : Env} {a : Assignment} {s : Counts} (v : ℕ) (rs' : List ℕ) (r : code.Turn) (o : StepSide)
    → Point t rs e a s
    → turn_of t rs' r ≡ enter (env_of e) (assignment_of a) v (state_of t rs s)
    → ((w : ℕ) (b : Bool) (here : Counts) → r ≡ turn.Branch w b here → ⊥)
    → o ≡ halted (assignment_of a) (turn_of t rs' r)
    → o ≡ search (env_of e) (ones (undecided (env_of e) (assignment_of a))) (assignment_of a) v (state_of t rs s)
halted_at {t} v rs' r o point goes never is =
    is ∙ branching.search_halted _ _ _ _ _ point.none_empty (turn_of t rs' r) (sym goes) (other r never)
  where
    other : (r : code.Turn) → ((w : ℕ) (b : Bool) (here : Counts) → r ≡ turn.Branch w b here → ⊥) → (w : ℕ) (b : Bool) (s : State) → turn_of t rs' r ≡ branch w b s → ⊥
    other (turn.Back here) never w b s e = let z : ◌≡◌ {A = ℕ} 0 1 = cc in omega arith
    other (turn.Satisfiable here) never w b s e = let z : ◌≡◌ {A = ℕ} 0 1 = cc in omega arith
    other (turn.Branch v y here) never w b s e = never v y here refl

-- a point with n undecided variables, and the branching over w, b first, that `enter` found there. It left the list in rs' and the tallies in q'
pub record Turned : Type 0 where
  pub t : List ℕ
  pub rs : List ℕ
  pub e : Env
  pub a : Assignment
  pub v : ℕ
  pub s : Counts
  pub point : Point t rs e a s
  pub n : ℕ
  pub measure : ones (undecided (env_of e) (assignment_of a)) ≡ n
  pub rs' : List ℕ
  pub same : length rs' ≡ length rs
  pub q : List ℕ
  pub places : tally_words e.capacity ≤ length q
  pub q' : List ℕ
  pub same_tallies : length q' ≡ length q
  pub w : ℕ
  pub b : Bool
  pub here : Counts
  pub turn : branch w b (state_of t rs' here) ≡ enter (env_of e) (assignment_of a) v (state_of t rs s)
  pub tallied : TalliedAt t q' rs' (assignment_of a) here

-- that point, where r is what `enter` answers
abbrev pub turned_at : {t q rs : List ℕ} {e : Env} {a : Assignment} {k n : ℕ} {s : Counts} {r : code.Turn} {w : ℕ} {b : Bool} {here : Counts} (v : ℕ) (q' rs' : List ℕ)
    → r ≡ turn.Branch w b here
    → Point t rs e a s
    → Held t q e a k s
    → ones (undecided (env_of e) (assignment_of a)) ≡ n
    → length q' ≡ length q
    → length rs' ≡ length rs
    → turn_of t rs' r ≡ enter (env_of e) (assignment_of a) v (state_of t rs s)
    → TalliedAt t q' rs' (assignment_of a) (counts_of r)
    → Turned
turned_at {t} {q} {rs} {e} {a} {k} {n} {s} {r} {w} {b} {here} v q' rs' branches point held measure same_tallies same goes tallied =
    record {
      t = t;
      rs = rs;
      e = e;
      a = a;
      v = v;
      s = s;
      point = point;
      n = n;
      measure = measure;
      rs' = rs';
      same = same;
      q = q;
      places = held.places;
      q' = q';
      same_tallies = same_tallies;
      w = w;
      b = b;
      here = here;
      turn = sym (ap (turn_of t rs') branches) ∙ goes;
      tallied = subst (λ (y : code.Turn). TalliedAt t q' rs' (assignment_of a) (counts_of y)) branches tallied;
    }

-- what the search from the point comes to
abbrev pub outcome : Turned → StepSide
outcome x = search (env_of x.e) (ones (undecided (env_of x.e) (assignment_of x.a))) (assignment_of x.a) x.v (state_of x.t x.rs x.s)

-- the state at the branching, and the counts of the first side
abbrev pub found : Turned → State
found x = state_of x.t x.rs' x.here

abbrev opening : Turned → Counts
opening x = record { clauses = x.here.clauses; records = x.here.records; branchings = x.here.branchings + 1 }

-- the decisions of a side
abbrev pub toward : Turned → Bool → clause.Assignment
toward x b = decide (assignment_of x.a) x.w b

-- how many variables are undecided on the first side
abbrev pub rest : Turned → ℕ
rest x = ones (undecided (env_of x.e) (toward x x.b))

module _ (x : Turned) where
  -- the branching has the shape of a point, and w is live
  turn_shape : Shape (env_of x.e) (assignment_of x.a) (found x) × OneOf x.w (live (env_of x.e) (assignment_of x.a) (found x))
  turn_shape =
      subst⁻¹
      (λ (y : Turn). TurnShape (env_of x.e) (assignment_of x.a) y)
      x.turn
      (shape_enter (env_of x.e) (assignment_of x.a) x.v (state_of x.t x.rs x.s) x.point.shape)

  -- `enter` leaves the clauses as they are
  same_clauses : x.here.clauses ≡ x.s.clauses
  same_clauses =
      as_many
      x.t
      x.here.clauses
      x.s.clauses
      (ap (λ (y : Turn). (turned y).table) x.turn ∙ (listed_enter (env_of x.e) (assignment_of x.a) x.v (state_of x.t x.rs x.s)).table)

  -- w is undecided
  pub branched : OneOf x.w (undecided (env_of x.e) (assignment_of x.a))
  branched =
      one_of_more
      x.w
      (live (env_of x.e) (assignment_of x.a) (found x))
      (undecided (env_of x.e) (assignment_of x.a))
      turn_shape.1
      (live_undecided (env_of x.e) (assignment_of x.a) (found x))

  -- so it can be decided in the tallies, and a decision on it withdrawn
  pub free : Free branched.var (assignment_of x.a)
  free = branched_free (env_of x.e) (assignment_of x.a) x.w branched x.point.shape.trues

  pub deciding : Changing x.t x.q' x.here.clauses x.w (λ a. a)
  deciding =
      record {
        table = omega (arith, same_clauses, x.point.clauses, x.point.capacity);
        variable = branched_variable x.e x.a x.w x.point.vars branched;
        vars = x.e.vars;
        proper = turn_shape.0.clauses;
        decisions = assignment_of x.a;
        free = free;
        struck = redundant (found x);
        tallied = x.tallied;
      }

  -- the list there fits its table
  pub here_fits : sequent_words x.here.records ≤ length x.rs'
  here_fits =
      let few : length (sequents x.rs' x.here.records) ≤ x.e.vars = records_at_most_n _ _ _ turn_shape.0 in
      omega (arith, few, sequents_length x.rs' x.here.records, x.same, x.point.room)

  -- one variable fewer is undecided on either side
  pub fewer : (b : Bool) → ones (undecided (env_of x.e) (assignment_of x.a)) ≡ suc (ones (undecided (env_of x.e) (toward x b)))
  fewer b = undecided_one_fewer (env_of x.e) (assignment_of x.a) x.w b branched

  -- so the measure falls
  pub falls : (d : Assignment) (b : Bool) → assignment_of d ≡ toward x b → ones (undecided (env_of x.e) (assignment_of d)) < x.n
  falls d b is = omega (arith, fewer b, ap (λ (y : clause.Assignment). ones (undecided (env_of x.e) y)) is, x.measure)

  -- stop 10
  pub spent : x.e.allowance ≤ x.here.branchings → ended out_of_branchings (assignment_of x.a) (found x) ≡ outcome x
  spent l = branching.search_spent _ _ _ _ _ _ _ _ x.point.none_empty (sym x.turn) l

-- the first side opens, with the decisions a₁, the last D-sequent d and the tallies in q₁
pub record Opened (x : Turned) : Type 0 where
  pub room : x.here.branchings < x.e.allowance
  pub a₁ : Assignment
  pub decided : assignment_of a₁ ≡ toward x x.b
  pub d : DSequent
  pub last_is : d ≡ last (sequents x.rs' x.here.records)
  pub q₁ : List ℕ
  pub same_tallies : length q₁ ≡ length x.q'
  pub tallied : Tallied x.t q₁ x.here.clauses (toward x x.b) (redundant (found x))

abbrev pub opened_at : {q₁ : List ℕ} (x : Turned) (a₁ : Assignment) (d : DSequent)
    → x.here.branchings < x.e.allowance
    → assignment_of a₁ ≡ toward x x.b
    → d ≡ last (sequents x.rs' x.here.records)
    → length q₁ ≡ length x.q'
    → ((v : ℕ) (a : clause.Assignment) (k : ℕ) → x.w ≡ 2 ^ v → Free v a → Tallied x.t x.q' x.here.clauses a k → Tallied x.t q₁ x.here.clauses (decide a x.w x.b) k)
    → Opened x
opened_at {q₁} x a₁ d room decided is same goes =
    record {
      room = room;
      a₁ = a₁;
      decided = decided;
      d = d;
      last_is = is;
      q₁ = q₁;
      same_tallies = same;
      tallied = goes (branched x).var _ _ (branched x).word (free x) x.tallied;
    }

-- the measure on the first side, and its point
pub first_falls : {x : Turned} (o : Opened x) → ones (undecided (env_of x.e) (assignment_of o.a₁)) < x.n
first_falls {x} o = falls x o.a₁ x.b o.decided

pub first_point : {x : Turned} (o : Opened x) → Point x.t x.rs' x.e o.a₁ (opening x)
first_point {x} o =
    record {
      vars = x.point.vars;
      capacity = x.point.capacity;
      clauses = omega (arith, same_clauses x, x.point.clauses);
      branchings = omega (arith, o.room);
      none_empty = ap (λ (n : ℕ). any is_empty (clauses x.t n)) (same_clauses x) ∙ x.point.none_empty;
      room = omega (arith, x.same, x.point.room);
      shape =
          subst⁻¹
          (λ (y : clause.Assignment). Shape (env_of x.e) y (state_of x.t x.rs' (opening x)))
          o.decided
          (subst⁻¹
          (λ (n : ℕ). Shape (env_of x.e) (toward x x.b) (record { table = (found x).table; records = (found x).records; branchings = n }))
          (add-one x.here.branchings)
          (shape_first (env_of x.e) (assignment_of x.a) x.w x.b (found x) (turn_shape x).0 (turn_shape x).1));
    }

-- and its tallies
pub first_held : {x : Turned} (o : Opened x) → Held x.t o.q₁ x.e o.a₁ o.d.redundant (opening x)
first_held {x} o =
    record {
      places = omega (arith, x.places, x.same_tallies, o.same_tallies);
      entering =
          record {
            undecided =
                subst⁻¹
                (λ (d : DSequent). Within d.redundant (undecided (env_of x.e) (assignment_of o.a₁)))
                o.last_is
                (last_recorded (env_of x.e) (assignment_of o.a₁) (state_of x.t x.rs' (opening x)) (first_point o).shape).off;
            tallied =
                subst⁻¹
                (λ (d : DSequent). Tallied x.t o.q₁ x.here.clauses (assignment_of o.a₁) d.redundant)
                o.last_is
                (subst⁻¹ (λ (y : clause.Assignment). Tallied x.t o.q₁ x.here.clauses y (redundant (found x))) o.decided o.tallied);
          };
    }

-- the first side's result, and the tables that it left
pub record First {x : Turned} (o : Opened x) : Type 0 where
  pub t₁ : List ℕ
  pub rs₁ : List ℕ
  pub result : Side
  pub same_table : length t₁ ≡ length x.t
  pub same_list : length rs₁ ≡ length x.rs'
  pub q₂ : List ℕ
  pub same_tallies : length q₂ ≡ length o.q₁
  pub tallied : TalliedSide t₁ q₂ rs₁ o.a₁ result
  pub comes :
      side_of t₁ rs₁ result
      ≡ search (env_of x.e) (ones (undecided (env_of x.e) (assignment_of o.a₁))) (assignment_of o.a₁) 0 (state_of x.t x.rs' (opening x))

-- that result, where r is what the call of the first side answers
abbrev pub first_at : {x : Turned} (o : Opened x) (t₁ rs₁ q₂ : List ℕ) (r : Side)
    → length t₁ ≡ length x.t
    → length rs₁ ≡ length x.rs'
    → length q₂ ≡ length o.q₁
    → (side_of t₁ rs₁ r
    ≡ search (env_of x.e) (ones (undecided (env_of x.e) (assignment_of o.a₁))) (assignment_of o.a₁) 0 (state_of x.t x.rs' (opening x)))
    × TalliedSide t₁ q₂ rs₁ o.a₁ r
    → First o
first_at o t₁ rs₁ q₂ r same_table same_list same_tallies comes =
    record {
      t₁ = t₁;
      rs₁ = rs₁;
      result = r;
      same_table = same_table;
      same_list = same_list;
      q₂ = q₂;
      same_tallies = same_tallies;
      tallied = comes.1;
      comes = comes.0;
    }

-- the first side's result is the definition's
pub first_comes :
    {x : Turned} {o : Opened x} (f : First o) →
    side_of f.t₁ f.rs₁ f.result ≡ search (env_of x.e) (rest x) (toward x x.b) 0 (counted (found x))
first_comes {x} {o} f =
    f.comes
    ∙ ap (λ (y : clause.Assignment). search (env_of x.e) (ones (undecided (env_of x.e) y)) y 0 (state_of x.t x.rs' (opening x))) o.decided
    ∙ ap
    (λ (n : ℕ). search (env_of x.e) (rest x) (toward x x.b) 0 (record { table = (found x).table; records = (found x).records; branchings = n }))
    (add-one x.here.branchings)

-- where a side ends the run the tallies are those of its own decisions, whatever the decisions above
pub ended_tallied : (t q rs : List ℕ) (a b : Assignment) (r : Side) {y : Ending} {d : Assignment} {u : Counts} → r ≡ side.Ended y d u →
    TalliedSide t q rs a r → TalliedSide t q rs b r
ended_tallied t q rs a b (side.Up s) told h = let z : ◌≡◌ {A = ℕ} 0 1 = cc in absurd (omega arith)
ended_tallied t q rs a b (side.Ended x c s) told h = h

-- the first side ends the run
pub first_ended :
    {x : Turned} {o : Opened x} (f : First o) (y : Ending) (d : Assignment) (u : Counts) → f.result ≡ side.Ended y d u →
    (side_of f.t₁ f.rs₁ f.result ≡ outcome x) × TalliedSide f.t₁ f.q₂ f.rs₁ x.a f.result
first_ended {x} {o} f y d u told = (
  ap (side_of f.t₁ f.rs₁) told
      ∙
      branching.first_ended _ _ _ _ _ _ _ _ x.point.none_empty (sym x.turn) _ (fewer x x.b) o.room _ _ _ (sym (first_comes f) ∙ ap (side_of f.t₁ f.rs₁) told),
  ended_tallied f.t₁ f.q₂ f.rs₁ o.a₁ x.a f.result told f.tallied,
)

-- the first side goes back up
pub record FirstUp {x : Turned} {o : Opened x} (f : First o) : Type 0 where
  pub one : Counts
  pub is : f.result ≡ side.Up one

-- it leaves a point
pub one_point : {x : Turned} {o : Opened x} {f : First o} (u : FirstUp f) → Point f.t₁ f.rs₁ x.e o.a₁ u.one
one_point {x} {o} {f} u =
    up_point _ _ (first_point o) f.same_table f.same_list (sym (ap (side_of f.t₁ f.rs₁) u.is) ∙ f.comes)

-- the decision on w can be turned over in its tallies
pub up_tallied : {x : Turned} {o : Opened x} {f : First o} (u : FirstUp f) → TalliedAt f.t₁ f.q₂ f.rs₁ (toward x x.b) u.one
up_tallied {x} {o} {f} u =
    subst (λ (y : clause.Assignment). TalliedAt f.t₁ f.q₂ f.rs₁ y u.one) o.decided (subst (TalliedSide f.t₁ f.q₂ f.rs₁ o.a₁) u.is f.tallied)

pub turning : {x : Turned} {o : Opened x} {f : First o} (u : FirstUp f) → Changing f.t₁ f.q₂ u.one.clauses x.w (λ a. decide a x.w x.b)
turning {x} {o} {f} u =
    record {
      table = omega (arith, (one_point u).capacity, (one_point u).clauses);
      variable = branched_variable x.e x.a x.w x.point.vars (branched x);
      vars = x.e.vars;
      proper = (one_point u).shape.clauses;
      decisions = assignment_of x.a;
      free = free x;
      struck = redundant (state_of f.t₁ f.rs₁ u.one);
      tallied = up_tallied u;
    }
