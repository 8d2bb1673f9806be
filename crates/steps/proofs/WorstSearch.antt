-- A search from a clean point with k undecided variables adds 2^k - 1 clauses: none where nothing is undecided, and else those of its two sides and one more. The first side starts
-- clean since the point is; the second since it satisfies what the first has added, and every D-sequent of the first names w. Each clause that is added forbids the decisions
-- of the point, and where the search goes back up the last of them has no other literal. Stops are left open here: with enough of both allowances there is none.
use mathlib.Core.Path.{◌≡◌, refl, sym, ap, ◌∙◌, subst}
use mathlib.Core.Bool.{Bool, true, not}
use mathlib.Core.List.Memᴰ
use mathlib.Core.List.{List, [], ◌∷◌, ◌++◌, append-nil, append_assoc, Memᴰ}
use mathlib.Core.Logic.{inl, inr, ⊎_elim}
use mathlib.Core.Option.{none}
use Prim.Native.Nat.{ℕ, zero, suc, ◌^◌, ◌<◌}
use native.Mathlib.Nat.{two-pow-succ}
use native.Mathlib.Omega.{arith}
use lib.Bits.{bit_and, bit_or}
use lib.Count.{ones}
use lib.Dec.{eqb, ltb}
use lib.ListN.{length, length-append}
use borrow.Author.Tests.{eqb-false}
use Rattle.words.specs.Words.{is_zero, has, minus, meets}
use Rattle.words.proofs.Truth.{both_ways, confirmed, same_or_not}
use Rattle.words.proofs.Count.{zero_ones}
use Rattle.words.proofs.Sets.{is_zero_lem, some_member, member_nonzero, within_antisym, and_within_r, in_and, or_within_l, meets_intro, minus_within, in_minus, minus_out, in_or}
use Rattle.steps.specs.Lists.{filter}
use Rattle.steps.specs.Clause.{Clause, vars, Assignment, decide, DSequent, no_dSequent, last, without}
use Rattle.steps.specs.State.{Env, State, Ending, Ending.can, Ending.cannot, Ending.out_of_branchings, Ending.out_of_clauses, Side, Side.up, Side.ended, Search, undecided, redundant, recorded, append_falsified, added, counted}
use Rattle.steps.specs.Enter.{Turn}
use Rattle.steps.specs.Merge.{learn, join, merge}
use Rattle.steps.specs.Search.{is_empty, after_second, after_first, proceed, step, search}
use Rattle.steps.specs.Shape.{Shape, OneOf, TurnShape, SideShape}
use Rattle.steps.proofs.Places.{decided_more, one_has}
use Rattle.steps.proofs.ShapeLists.{last_has}
use Rattle.steps.proofs.ShapeKeep.{last_recorded, undecided_free, append_redundant}
use Rattle.steps.proofs.ShapeEnter.{shape_enter}
use Rattle.steps.proofs.ShapeSides.{undecided_fewer, shape_second, shape_branch}
use Rattle.steps.proofs.ShapeMerge.{join_redundant, shape_join}
use Rattle.steps.proofs.ShapeSearch.{Shapely, shape_search}
use Rattle.steps.proofs.Nesting.{undecided_one_fewer}
use Rattle.steps.proofs.Models.{literal_named}
use Rattle.steps.proofs.Literals.{Falsified}
use Rattle.steps.proofs.Listed.{taken, listed_join}
use Rattle.steps.proofs.Keeps.{Leaves}
use Rattle.steps.proofs.WorstPoint.{Forbids, Clean, none_empty, clean_branches, own_broken, clean_back}
use Rattle.steps.proofs.WorstMerge.{Own, w_decided, still_kept, other_keeps, forbids_before, comes_together}

-- ---- what a search leaves

-- 2^k - 1 clauses more
pub record More (k : ℕ) (t u : List Clause) : Type 0 where
  pub more : List Clause
  pub table : u ≡ t ++ more
  pub count : suc (length more) ≡ 2 ^ k

-- where it goes back up: each of them forbids the point's decisions, one clause of the table is falsified, each D-sequent has all decisions, and all undecided variables are struck
pub record Came (e : Env) (k : ℕ) (a : Assignment) (s t : State) : Type 0 where
  pub adds : More k s.table t.table
  pub forbid : (c : Clause) → Memᴰ c adds.more → Forbids a c
  pub own : Own a t.table
  pub named : (d : DSequent) → Memᴰ d t.records → d.decisions.decided ≡ a.decided
  pub struck : redundant t ≡ undecided e a

-- where it ends the run: "cannot" at the starting point alone, where nothing is decided, and never "can"
abbrev Ends : ℕ → Assignment → State → Ending → State → Type 0
Ends k a s can t = ⊥
Ends k a s cannot t = (is_zero a.decided ≡ true) × More k s.table t.table
Ends k a s out_of_branchings t = Unit {0}
Ends k a s out_of_clauses t = Unit {0}

abbrev pub Met : Env → ℕ → Assignment → State → Side → Type 0
Met e k a s = Leaves (Came e k a s) (Ends k a s)

-- ---- lists of D-sequents that have all decisions

-- none is left of a list of which each names w
without_all : (w r : ℕ) (rs : List DSequent) → meets r w ≡ true → ((d : DSequent) → Memᴰ d rs → d.decisions.decided ≡ r) → without w rs ≡ []
unfolding without
without_all w r [] h f = refl
without_all w r (d ∷ ds) h f =
    let out = ap (λ (x : ℕ). not (meets x w)) (f d (Memᴰ.head refl)) ∙ ap not h in
    rw (out, filter) (without_all w r ds h (λ x m. f x (Memᴰ.tail m)))

-- the last of a list that strikes something has them
last_named :
    (e : Env) (a : Assignment) (t : State) → ((d : DSequent) → Memᴰ d t.records → d.decisions.decided ≡ a.decided) → redundant t ≡ undecided e a →
    (undecided e a ≡ 0 → ⊥) → (last t.records).decisions.decided ≡ a.decided
last_named e a t named struck some =
    last_has (λ (d : DSequent). (d.redundant ≡ 0 → ⊥) → d.decisions.decided ≡ a.decided) no_dSequent t.records (λ f. absurd (f refl)) (λ d m f. named d m)
    (λ z. some (sym struck ∙ z))

-- and so have those after a join, where it makes one of them
join_named :
    (e : Env) (a : Assignment) (w r : ℕ) (y : State) → without w y.records ≡ [] →
    ((minus (undecided e a) w ≡ 0 → ⊥) → minus (bit_or r (last y.records).decisions.decided) w ≡ a.decided) →
    (d : DSequent) → Memᴰ d (join e a w r y).records → d.decisions.decided ≡ a.decided
unfolding join
join_named e a w r y emptied all =
    taken (λ (t : State). (d : DSequent) → Memᴰ d t.records → d.decisions.decided ≡ a.decided) (eqb (redundant left) (minus (undecided e a) w)) _ _
    (λ _ d m. absurd (Memᴰ.not-nil (rw emptied at m)))
    (λ new d m.
    let is = Memᴰ.eq_of_singleton (rw emptied at m) in
    ap (λ (x : DSequent). x.decisions.decided) is ∙ all (λ z. eqb-false (redundant left) (minus (undecided e a) w) new (ap (λ (rs : List DSequent). (last rs).redundant) emptied ∙ sym z)))
  where
    left : State
    left = recorded (without w y.records) y

-- ---- the two sides

module _ (e : Env) (a : Assignment) (s : State) (clean : Clean e a s) (w : ℕ) (b : Bool) (one : OneOf w (undecided e a)) where
  -- a side's decisions name w
  names_w : (side : Bool) → meets (decide a w side).decided w ≡ true
  names_w side = meets_intro (decide a w side).decided w one.var (w_decided e a clean.shape.trues w one side) (one_has w (undecided e a) one)

  -- so they are not empty
  some_decided : (side : Bool) → is_zero (decide a w side).decided ≡ true → ⊥
  some_decided side z =
      both_ways (is_zero (decide a w side).decided) z (member_nonzero (decide a w side).decided one.var (w_decided e a clean.shape.trues w one side))

  -- the first side starts clean
  clean_first : Shape e (decide a w b) (counted s) → Clean e (decide a w b) (counted s)
  clean_first shape =
      record {
        shape = shape;
        fresh = clean.fresh;
        every = clean.every;
        only = λ c m. ⊎_elim inl (λ kept. inr (still_kept e a clean.shape.trues w one b c kept)) (clean.only c m);
      }

  module _ (k : ℕ) (x : State) (shape_one : Shape e (decide a w b) x) (first : Came e k (decide a w b) (counted s) x) where
    -- the second side's state
    abbrev next : State
    next = recorded (without w x.records) x

    -- it starts clean
    clean_second : Clean e (decide a w (not b)) next
    clean_second =
        record {
          shape = shape_second e a w b x shape_one;
          fresh = without_all w (decide a w b).decided x.records (names_w b) first.named;
          every = λ c f. rw first.adds.table (Memᴰ.append_left first.adds.more (clean.every c f));
          only =
              λ c m.
              ⊎_elim
              (λ i. ⊎_elim inl (λ kept. inr (still_kept e a clean.shape.trues w one (not b) c kept)) (clean.only c i))
              (λ i. inr (other_keeps e a clean.shape.trues w one b c (first.forbid c i)))
              (Memᴰ.append_cases s.table (rw first.adds.table at m));
        }

    module _ (y : State) (shape_two : Shape e (decide a w (not b)) y) (second : Came e k (decide a w (not b)) next y) where
      -- the first side's last decisions
      abbrev r : ℕ
      r = (last x.records).decisions.decided

      -- the state after the join
      abbrev j : State
      j = join e a w r y

      -- what both sides have added
      both : List Clause
      both = first.adds.more ++ second.adds.more

      joined_table : j.table ≡ s.table ++ both
      unfolding both
      joined_table =
          (listed_join e a w r y).table ∙ second.adds.table ∙ ap (λ (t : List Clause). t ++ second.adds.more) first.adds.table ∙
          append_assoc s.table first.adds.more second.adds.more

      on_a_side : (c : Clause) → Memᴰ c both → (side : Bool) × Forbids (decide a w side) c
      unfolding both
      on_a_side c m = ⊎_elim (λ i. (b, first.forbid c i)) (λ i. (not b, second.forbid c i)) (Memᴰ.append_cases first.adds.more m)

      -- each side's own clause
      own_of : (side : Bool) → Own (decide a w side) j.table
      own_of side = ⊎_elim (λ is. rw is of_first) (λ is. rw is of_second) (same_or_not side b)
        where
          of_first : Own (decide a w b) j.table
          of_first =
              record {
                clause = first.own.clause;
                member = rw ((listed_join e a w r y).table, second.adds.table) (Memᴰ.append_left second.adds.more first.own.member);
                broken = first.own.broken;
                forbids = first.own.forbids;
              }

          of_second : Own (decide a w (not b)) j.table
          of_second =
              record {
                clause = second.own.clause;
                member = rw (listed_join e a w r y).table second.own.member;
                broken = second.own.broken;
                forbids = second.own.forbids;
              }

      -- the D-sequents after the join have all decisions
      joined_named : (d : DSequent) → Memᴰ d j.records → d.decisions.decided ≡ a.decided
      joined_named =
          join_named e a w r y (without_all w (decide a w (not b)).decided y.records (names_w (not b)) second.named)
          (λ some.
          let one_side = last_named e (decide a w b) x first.named first.struck (λ z. some (sym (undecided_fewer e a w b) ∙ z)) ∙ decided_more a w b in
          let other = last_named e (decide a w (not b)) y second.named second.struck (λ z. some (sym (undecided_fewer e a w (not b)) ∙ z)) ∙ decided_more a w (not b) in
          rw (one_side, other) (within_antisym (minus (bit_or with_w with_w) w) a.decided less more))
        where
          with_w : ℕ
          with_w = bit_or a.decided w

          less : (k : ℕ) → has (minus (bit_or with_w with_w) w) k ≡ true → has a.decided k ≡ true
          less k m =
              let here : has with_w k ≡ true = ⊎_elim (λ h. h) (λ h. h) (in_or with_w with_w k (minus_within (bit_or with_w with_w) w k m)) in
              ⊎_elim (λ d. d) (λ i. both_ways (has w k) i (minus_out (bit_or with_w with_w) w k m)) (in_or a.decided w k here)

          more : (k : ℕ) → has a.decided k ≡ true → has (minus (bit_or with_w with_w) w) k ≡ true
          more k d = in_minus (bit_or with_w with_w) w k (or_within_l with_w with_w k (or_within_l a.decided w k d)) (undecided_free e a w one k d)

      -- step 7 adds one clause more
      more_by_one : (c : Clause) → More (suc k) s.table (j.table ++ (c ∷ []))
      unfolding both
      more_by_one c =
          record {
            more = both ++ (c ∷ []);
            table = ap (λ (t : List Clause). t ++ (c ∷ [])) joined_table ∙ append_assoc s.table both (c ∷ []);
            count = simp length-append (omega (arith, two-pow-succ k, first.adds.count, second.adds.count));
          }

      met_learn : (c : Clause) → Falsified a c → Forbids a c → Met e (suc k) a s (learn e a j c none)
      unfolding more_by_one
      met_learn c broken forbids =
          taken (Met e (suc k) a s) (ltb (length j.table) e.capacity) _ _
          (λ _. taken (Met e (suc k) a s) (is_empty c) _ _ (λ z. (none_decided z, more_by_one c)) (λ _. came))
          (λ _. tt)
        where
          named_by : (k : ℕ) → has a.decided k ≡ true → has (vars c) k ≡ true
          named_by k d = literal_named (not (has a.trues k)) c k (forbids k d)

          none_decided : is_zero (vars c) ≡ true → is_zero a.decided ≡ true
          none_decided z =
              confirmed (is_zero a.decided)
              (λ f. let m = some_member a.decided f in both_ways (is_zero (vars c)) z (member_nonzero (vars c) m.0 (named_by m.0 m.1)))

          came : Came e (suc k) a s (append_falsified e a c (added c j))
          came =
              record {
                adds = more_by_one c;
                forbid =
                    λ d m.
                    ⊎_elim
                    (λ i. let x = on_a_side d i in forbids_before e a clean.shape.trues w one x.0 d x.1)
                    (λ i. let is : d ≡ c = Memᴰ.eq_of_singleton i in rw is forbids)
                    (Memᴰ.append_cases both m);
                own = record { clause = c; member = Memᴰ.append_right j.table (Memᴰ.head refl); broken = broken; forbids = forbids };
                named =
                    λ d m.
                    ⊎_elim
                    (joined_named d)
                    (λ i.
                    ap (λ (x : DSequent). x.decisions.decided) (Memᴰ.eq_of_singleton i) ∙
                    within_antisym (bit_and (vars c) a.decided) a.decided (and_within_r (vars c) a.decided) (λ k d. in_and (vars c) a.decided k (named_by k d) d))
                    (Memᴰ.append_cases j.records m);
                struck = append_redundant a (bit_and (vars c) a.decided) (undecided e a) (added c j);
              }

      met_merge : Met e (suc k) a s (merge e a w b r y)
      unfolding merge
      met_merge =
          let shape = shape_join e a w b r y shape_two clean.shape.trues (last_recorded e (decide a w b) x shape_one).on in
          let x = comes_together e a s clean w one both on_a_side j joined_table shape (join_redundant e a w r y) own_of b in
          rw x.3 (met_learn x.0 x.1 x.2)

-- ---- a point, whose sides leave that

module _ (e : Env) (positive : 0 < e.n) (self : Search) (below : Shapely e self) (k : ℕ) (a : Assignment)
    (sides : (w : ℕ) (b : Bool) (v : ℕ) (s : State) → OneOf w (undecided e a) → Clean e (decide a w b) s → Met e k (decide a w b) s (self (decide a w b) v s)) where
  module _ (s : State) (clean : Clean e a s) (w : ℕ) (b : Bool) (one : OneOf w (undecided e a)) where
    -- from the second side on
    met_after_second :
        (x : State) (shape : Shape e (decide a w b) x) (first : Came e k (decide a w b) (counted s) x) (y : Side) → SideShape e (decide a w (not b)) y →
        Met e k (decide a w (not b)) (recorded (without w x.records) x) y → Met e (suc k) a s (after_second e a w b (last x.records).decisions.decided y)
    met_after_second x shape first (up y) h m = met_merge e a s clean w b one k x shape first y h m
    met_after_second x shape first (ended can d y) h m = absurd m
    met_after_second x shape first (ended cannot d y) h m = absurd (some_decided e a s clean w b one (not b) m.0)
    met_after_second x shape first (ended out_of_branchings d y) h m = tt
    met_after_second x shape first (ended out_of_clauses d y) h m = tt

    -- from the first side on
    met_after_first : (x : Side) → SideShape e (decide a w b) x → Met e k (decide a w b) (counted s) x → Met e (suc k) a s (after_first e self a w b x)
    met_after_first (up x) h m =
        let start = clean_second e a s clean w b one k x h m in
        met_after_second x h m (self (decide a w (not b)) w (recorded (without w x.records) x))
        (below (decide a w (not b)) w (recorded (without w x.records) x) start.shape)
        (sides w (not b) w (recorded (without w x.records) x) one start)
    met_after_first (ended can d x) h m = absurd m
    met_after_first (ended cannot d x) h m = absurd (some_decided e a s clean w b one b m.0)
    met_after_first (ended out_of_branchings d x) h m = tt
    met_after_first (ended out_of_clauses d x) h m = tt

  -- at the point
  met_step : (v : ℕ) (s : State) → Clean e a s → (i : ℕ) → has (undecided e a) i ≡ true → Met e (suc k) a s (step e self a v s)
  unfolding step
  met_step v s clean i u =
      let turn = clean_branches e a s clean i u v in
      let w = turn.0 in
      let b = turn.1 in
      let side = shape_branch e a w b s (subst (TurnShape e a) turn.2 (shape_enter e a v s clean.shape)) in
      rw (none_empty e a s clean positive, step)
      (subst (λ (t : Turn). Met e (suc k) a s (proceed e self a t)) (sym turn.2)
      (taken (Met e (suc k) a s) (ltb s.branchings e.allowance) _ _
      (λ _.
      met_after_first s clean w b side.0 (self (decide a w b) 0 (counted s)) (below (decide a w b) 0 (counted s) side.1)
      (sides w b 0 (counted s) side.0 (clean_first e a s clean w b side.0 side.1)))
      (λ _. tt)))

-- a point with nothing undecided
met_bottom : (e : Env) → 0 < e.n → (self : Search) (a : Assignment) (v : ℕ) (s : State) → Clean e a s → is_zero (undecided e a) ≡ true → Met e 0 a s (step e self a v s)
unfolding step
met_bottom e positive self a v s clean z =
    let own = own_broken e a s clean z in
    rw (none_empty e a s clean positive, step)
    (subst (λ (t : Turn). Met e 0 a s (proceed e self a t)) (sym (clean_back e a s clean z v))
    (record {
      adds = record { more = []; table = sym (append-nil s.table); count = refl };
      forbid = λ c m. absurd (Memᴰ.not-nil m);
      own = record { clause = own.0; member = own.1; broken = own.2; forbids = own.3 };
      named = λ d m. absurd (Memᴰ.not-nil (rw clean.fresh at m));
      struck = ap (λ (rs : List DSequent). (last rs).redundant) clean.fresh ∙ sym (is_zero_lem (undecided e a) z);
    }))

-- a search
pub met_search :
    (e : Env) → 0 < e.n → (k : ℕ) (a : Assignment) (v : ℕ) (s : State) → Clean e a s → ones (undecided e a) ≡ k → Met e k a s (search e k a v s)
unfolding search
met_search e positive zero a v s clean u = met_bottom e positive (λ a v s. up s) a v s clean (sym (zero_ones (undecided e a)) ∙ ap is_zero u)
met_search e positive (suc k) a v s clean u =
    let i = some_member (undecided e a) (sym (zero_ones (undecided e a)) ∙ ap is_zero u) in
    met_step e positive (search e k) (shape_search e k) k a
    (λ w b v' s' one start. met_search e positive k (decide a w b) v' s' start (omega (arith, undecided_one_fewer e a w b one)))
    v s clean i.0 i.1
