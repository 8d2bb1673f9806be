-- The second side of a branching, after `Sides`: its stages, what each way out comes to, and what coming together asks.
use mathlib.Core.Path.{◌≡◌, ap, ap₂, sym, ◌∙◌, subst, subst⁻¹}
use mathlib.Core.Bool.{not}
use mathlib.Core.List.{List}
use Prim.Native.Nat.{ℕ, ◌^◌, ◌<◌}
use native.Mathlib.Omega.{arith}
use lib.Count.{ones}
use lib.ListN.{length}
use Rattle.words.specs.Words.{Within}
use Rattle.steps.specs.Clause.{decide, last, without, DSequent}
use Rattle.steps.specs.Clause as clause
use Rattle.steps.specs.State.{State, undecided, redundant, recorded, counted}
use Rattle.steps.specs.Merge.{merge}
use Rattle.steps.specs.Search.{search}
use Rattle.steps.specs.Shape.{Shape}
use Rattle.steps.specs.Demands.{Free}
use Rattle.steps.proofs.ShapeKeep.{last_recorded}
use Rattle.steps.proofs.ShapeSides.{undecided_fewer, shape_second}
use Rattle.rows.specs.Values.{assignment_of, env_of}
use Rattle.rows.specs.Rows.{sequents, state_of}
use Rattle.rows.specs.Tally.{Tallied, TalliedAt}
use Rattle.merge.specs.Sides.{side_of, TalliedSide}
use Rattle.search.specs.Needs.{Point, Held}
use Rattle.merge.specs.Needs.{Mergeable, Merging}
use Rattle.rows.specs.Rows.{Kept}
use Rattle.rows.specs.declared.clause.Assignment.{Assignment}
use Rattle.merge.specs.declared.Ending.{Ending}
use Rattle.merge.specs.declared.Side.{Side}
use Rattle.merge.specs.declared.Side.TheVariants as side
use Rattle.rows.specs.declared.state.Counts.{Counts}
use Rattle.search.proofs.Branching as branching
use Rattle.search.proofs.Points.{up_point}
use Rattle.search.proofs.Sides.{Turned, outcome, found, toward, rest, branched, free, fewer, falls, Opened, First, first_comes, ended_tallied, FirstUp, one_point, up_tallied}

-- the second side opens, with the decisions a₂, the k D-sequents that `without` left in rs₂, and the tallies in q₃. d is the first side's last D-sequent
pub record Crossed {x : Turned} {o : Opened x} {f : First o} (u : FirstUp f) : Type 0 where
  pub rs₂ : List ℕ
  pub k : ℕ
  pub same : length rs₂ ≡ length f.rs₁
  pub kept : Kept f.rs₁ u.one.records x.w rs₂ k
  pub a₂ : Assignment
  pub decided : assignment_of a₂ ≡ toward x (not x.b)
  pub d : DSequent
  pub last_is : d ≡ last (sequents f.rs₁ u.one.records)
  pub q₃ : List ℕ
  pub same_tallies : length q₃ ≡ length f.q₂
  pub tallied : Tallied f.t₁ q₃ u.one.clauses (toward x (not x.b)) (redundant (state_of f.t₁ f.rs₁ u.one))

abbrev pub crossed_at : {x : Turned} {o : Opened x} {f : First o} {rs₂ : List ℕ} {k : ℕ} {q₃ : List ℕ} (u : FirstUp f) (a₂ : Assignment) (d : DSequent)
    → length rs₂ ≡ length f.rs₁
    → Kept f.rs₁ u.one.records x.w rs₂ k
    → assignment_of a₂ ≡ toward x (not x.b)
    → d ≡ last (sequents f.rs₁ u.one.records)
    → length q₃ ≡ length f.q₂
    → ((v : ℕ) (a : clause.Assignment) (i : ℕ) → x.w ≡ 2 ^ v → Free v a → Tallied f.t₁ f.q₂ u.one.clauses (decide a x.w x.b) i → Tallied f.t₁ q₃ u.one.clauses (decide a x.w (not x.b)) i)
    → Crossed u
crossed_at {x} {rs₂ = rs₂} {k} {q₃} u a₂ d same kept decided is same_tallies goes =
    record {
      rs₂ = rs₂;
      k = k;
      same = same;
      kept = kept;
      a₂ = a₂;
      decided = decided;
      d = d;
      last_is = is;
      q₃ = q₃;
      same_tallies = same_tallies;
      tallied = goes (branched x).var _ _ (branched x).word (free x) (up_tallied u);
    }

module _ {x : Turned} {o : Opened x} {f : First o} {u : FirstUp f} where
  -- the state in which the first side went back up, and the counts of the second side
  abbrev one_state : Crossed u → State
  one_state y = state_of f.t₁ f.rs₁ u.one

  abbrev crossing : Crossed u → Counts
  crossing y = record { clauses = u.one.clauses; records = y.k; branchings = u.one.branchings }

  -- its state is the definition's
  second_state : (y : Crossed u) → state_of f.t₁ y.rs₂ (crossing y) ≡ recorded (without x.w (one_state y).records) (one_state y)
  second_state y = ap (λ (l : List DSequent). recorded l (one_state y)) y.kept.kept

  -- the measure on the second side, and its point
  pub second_falls : (y : Crossed u) → ones (undecided (env_of x.e) (assignment_of y.a₂)) < x.n
  second_falls y = falls x y.a₂ (not x.b) y.decided

  pub second_point : (y : Crossed u) → Point f.t₁ y.rs₂ x.e y.a₂ (crossing y)
  second_point y =
      let p = one_point u in
      record {
        vars = p.vars;
        capacity = p.capacity;
        clauses = p.clauses;
        branchings = p.branchings;
        none_empty = p.none_empty;
        room = omega (arith, y.same, p.room);
        shape =
            subst⁻¹
            (λ (z : clause.Assignment). Shape (env_of x.e) z (state_of f.t₁ y.rs₂ (crossing y)))
            y.decided
            (subst⁻¹
            (λ (z : State). Shape (env_of x.e) (toward x (not x.b)) z)
            (second_state y)
            (shape_second
            (env_of x.e)
            (assignment_of x.a)
            x.w
            x.b
            (one_state y)
            (subst (λ (z : clause.Assignment). Shape (env_of x.e) z (one_state y)) o.decided p.shape)));
      }

  -- and its tallies: the first side's set is of undecided variables here too
  pub second_held : (y : Crossed u) → Held f.t₁ y.q₃ x.e y.a₂ y.d.redundant (crossing y)
  second_held y =
      let same : undecided (env_of x.e) (assignment_of o.a₁) ≡ undecided (env_of x.e) (assignment_of y.a₂) =
      ap (undecided (env_of x.e)) o.decided
      ∙ undecided_fewer (env_of x.e) (assignment_of x.a) x.w x.b
      ∙ sym (undecided_fewer (env_of x.e) (assignment_of x.a) x.w (not x.b))
      ∙ sym (ap (undecided (env_of x.e)) y.decided) in
      record {
        places = omega (arith, x.places, x.same_tallies, o.same_tallies, f.same_tallies, y.same_tallies);
        entering =
            record {
              undecided =
                  subst⁻¹
                  (λ (d : DSequent). Within d.redundant (undecided (env_of x.e) (assignment_of y.a₂)))
                  y.last_is
                  (subst (Within (redundant (one_state y))) same (last_recorded (env_of x.e) (assignment_of o.a₁) (one_state y) (one_point u).shape).off);
              tallied =
                  subst⁻¹
                  (λ (d : DSequent). Tallied f.t₁ y.q₃ u.one.clauses (assignment_of y.a₂) d.redundant)
                  y.last_is
                  (subst⁻¹ (λ (z : clause.Assignment). Tallied f.t₁ y.q₃ u.one.clauses z (redundant (one_state y))) y.decided y.tallied);
            };
      }

-- the second side's result, and the tables that it left
pub record Second {x : Turned} {o : Opened x} {f : First o} {u : FirstUp f} (y : Crossed u) : Type 0 where
  pub t₂ : List ℕ
  pub rs₃ : List ℕ
  pub result : Side
  pub same_table : length t₂ ≡ length f.t₁
  pub same_list : length rs₃ ≡ length y.rs₂
  pub q₄ : List ℕ
  pub same_tallies : length q₄ ≡ length y.q₃
  pub tallied : TalliedSide t₂ q₄ rs₃ y.a₂ result
  pub comes :
      side_of t₂ rs₃ result
      ≡ search (env_of x.e) (ones (undecided (env_of x.e) (assignment_of y.a₂))) (assignment_of y.a₂) x.w (state_of f.t₁ y.rs₂ (crossing y))

-- that result, where r is what the call of the second side answers
abbrev pub second_at : {x : Turned} {o : Opened x} {f : First o} {u : FirstUp f} (y : Crossed u) (t₂ rs₃ q₄ : List ℕ) (r : Side)
    → length t₂ ≡ length f.t₁
    → length rs₃ ≡ length y.rs₂
    → length q₄ ≡ length y.q₃
    → (side_of t₂ rs₃ r
    ≡ search (env_of x.e) (ones (undecided (env_of x.e) (assignment_of y.a₂))) (assignment_of y.a₂) x.w (state_of f.t₁ y.rs₂ (crossing y)))
    × TalliedSide t₂ q₄ rs₃ y.a₂ r
    → Second y
second_at y t₂ rs₃ q₄ r same_table same_list same_tallies comes =
    record {
      t₂ = t₂;
      rs₃ = rs₃;
      result = r;
      same_table = same_table;
      same_list = same_list;
      q₄ = q₄;
      same_tallies = same_tallies;
      tallied = comes.1;
      comes = comes.0;
    }

module _ {x : Turned} {o : Opened x} {f : First o} {u : FirstUp f} {y : Crossed u} (z : Second y) where
  -- the table of tallies has the length that it had at the point
  tallies_same : length z.q₄ ≡ length x.q
  tallies_same = z.same_tallies ∙ y.same_tallies ∙ f.same_tallies ∙ o.same_tallies ∙ x.same_tallies

  -- the second side's result is the definition's
  second_comes :
      side_of z.t₂ z.rs₃ z.result
      ≡ search (env_of x.e) (rest x) (toward x (not x.b)) x.w (recorded (without x.w (one_state y).records) (one_state y))
  second_comes =
      let as_many : ones (undecided (env_of x.e) (toward x (not x.b))) ≡ rest x = omega (arith, fewer x x.b, fewer x (not x.b)) in
      z.comes
      ∙ ap (λ (d : clause.Assignment). search (env_of x.e) (ones (undecided (env_of x.e) d)) d x.w (state_of f.t₁ y.rs₂ (crossing y))) y.decided
      ∙ ap₂ (λ (n : ℕ) (s : State). search (env_of x.e) n (toward x (not x.b)) x.w s) as_many (second_state y)

  -- the first side went back up
  first_up : search (env_of x.e) (rest x) (toward x x.b) 0 (counted (found x)) ≡ side_of f.t₁ f.rs₁ (side.Up u.one)
  first_up = sym (first_comes f) ∙ ap (side_of f.t₁ f.rs₁) u.is

  -- the second side ends the run
  pub second_ended :
      (i : Ending) (d : Assignment) (s : Counts) → z.result ≡ side.Ended i d s →
      (side_of z.t₂ z.rs₃ z.result ≡ outcome x) × TalliedSide z.t₂ z.q₄ z.rs₃ x.a z.result
  second_ended i d s told = (
    ap (side_of z.t₂ z.rs₃) told
        ∙
        branching.second_ended _ _ _ _ _ _ _ _ x.point.none_empty (sym x.turn) _ (fewer x x.b) o.room _ first_up _ _ _ (sym second_comes ∙ ap (side_of z.t₂ z.rs₃) told),
    ended_tallied z.t₂ z.q₄ z.rs₃ y.a₂ x.a z.result told z.tallied,
  )

  -- the second side goes back up
  module _ (two : Counts) (is : z.result ≡ side.Up two) where
    -- what `merge` asks
    pub mergeable : Mergeable z.t₂ z.rs₃ x.e x.a x.w x.b y.d.decisions.decided two
    mergeable =
        let p : Point z.t₂ z.rs₃ x.e y.a₂ two = up_point _ _ (second_point y) z.same_table z.same_list (sym (ap (side_of z.t₂ z.rs₃) is) ∙ z.comes) in
        record {
          vars = p.vars;
          capacity = p.capacity;
          clauses = p.clauses;
          room = p.room;
          branched = branched x;
          trues = x.point.shape.trues;
          first =
              subst⁻¹
              (λ (d : DSequent). Within d.decisions.decided (toward x x.b).decided)
              y.last_is
              (subst
              (λ (d : clause.Assignment). Within (last (sequents f.rs₁ u.one.records)).decisions.decided d.decided)
              o.decided
              (last_recorded (env_of x.e) (assignment_of o.a₁) (one_state y) (one_point u).shape).on);
          second = subst (λ (d : clause.Assignment). Shape (env_of x.e) d (state_of z.t₂ z.rs₃ two)) y.decided p.shape;
        }

    pub merging : Merging z.t₂ z.q₄ z.rs₃ x.e x.a x.w x.b two
    merging =
        record {
          places = omega (arith, x.places, tallies_same);
          tallied =
              subst
              (λ (d : clause.Assignment). TalliedAt z.t₂ z.q₄ z.rs₃ d two)
              y.decided
              (subst (TalliedSide z.t₂ z.q₄ z.rs₃ y.a₂) is z.tallied);
        }

    -- step 7
    pub merged : merge (env_of x.e) (assignment_of x.a) x.w x.b y.d.decisions.decided (state_of z.t₂ z.rs₃ two) ≡ outcome x
    merged =
        ap
        (λ (d : DSequent). merge (env_of x.e) (assignment_of x.a) x.w x.b d.decisions.decided (state_of z.t₂ z.rs₃ two))
        y.last_is
        ∙
        branching.both_up _ _ _ _ _ _ _ _ x.point.none_empty (sym x.turn) _ (fewer x x.b) o.room _ first_up _ (sym second_comes ∙ ap (side_of z.t₂ z.rs₃) is)
