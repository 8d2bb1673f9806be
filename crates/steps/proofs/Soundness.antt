-- Demand 2. The search from the starting point is right, and what it comes to is handed out with the table's clauses after book and order. These
-- follow, since every choice that keeps book and order keeps the table; the D-sequents hold, since each gives a model. The one D-sequent of "cannot"
-- holds because the empty clause, which names no variable, is never dropped.
use mathlib.Core.Path.{◌≡◌, sym, ◌∙◌, subst}
use mathlib.Core.Logic.{inr}
use mathlib.Core.Bool.{true, false}
use mathlib.Core.List.Memᴰ
use mathlib.Core.List.{List, ◌++◌, Memᴰ}
use Prim.Native.Nat.{ℕ, zero, suc, ◌+◌, ◌≤◌}
use native.Mathlib.Omega.{arith}
use native.Mathlib.Nat.{zero-lt-suc}
use lib.ListN.{length, drop}
use lib.Seq.{drop-append_seam}
use borrow.Author.Tests.{lt-ltb}
use Rattle.words.specs.Words.{is_zero, has, first_vars}
use Rattle.words.proofs.Truth.{both_ways, refuted, clash}
use Rattle.words.proofs.Membership.{has_zero, has_first_vars}
use Rattle.words.proofs.Sets.{within_refl, within_trans, within_zero, and_within_l, meets_false_intro, member_nonzero, zero_meets}
use Rattle.steps.specs.Clause.{Clause, vars, Assignment, names, DSequent}
use Rattle.steps.specs.State.{Env, State, Ending, Ending.can, Ending.cannot, Ending.out_of_branchings, Ending.out_of_clauses, Side, Side.up, Side.ended, undecided}
use Rattle.steps.specs.Search.{is_empty, search}
use Rattle.steps.specs.Run.{Assumptions, given, no_decisions, start, everything, outcome, finish, searched, run}
use Rattle.steps.specs.Meaning.{Follows, Holds}
use Rattle.steps.specs.Shape.{Input, Growing, Shape, SideShape}
use Rattle.steps.specs.Demands.{RecordsHold, Right, Demand2}
use Rattle.steps.proofs.ShapeKeep.{another, undecided_within, undecided_not_decided, records_at_most_n}
use Rattle.steps.proofs.Nesting.{undecided_at_most_n}
use Rattle.steps.proofs.ShapeSearch.{shape_search}
use Rattle.steps.proofs.ShapeStart.{shape_start}
use Rattle.steps.proofs.Models.{Satisfied, Satisfied.at, true_satisfies, dropping_true, literal_named}
use Rattle.steps.proofs.Sound.{Modeled, SoundState, sound_start}
use Rattle.steps.proofs.Building.{built, builds, gives_holds}
use Rattle.steps.proofs.SoundMerge.{SideSound}
use Rattle.steps.proofs.NoneEmpty.{Stays, stays}
use Rattle.steps.proofs.SoundSearch.{search_sound, root_modeled}

-- a list that begins with xs is xs and what comes after it
continued : (xs t more : List Clause) → t ≡ xs ++ more → xs ++ drop (length xs) t ≡ t
continued xs t more e = rw (e, drop-append_seam xs more)

-- nothing keeps the empty clause
empty_never : (x : ℕ) (c : Clause) → is_empty c ≡ true → Satisfied x c → ⊥
empty_never x c z (at k b l h) = both_ways (is_zero (vars c)) z (member_nonzero (vars c) k (literal_named b c k l))

-- nor does it name a variable
empty_unnamed : (u : ℕ) (c : Clause) → is_empty c ≡ true → names u c ≡ false
unfolding names
empty_unnamed u c z = meets_false_intro (vars c) u (λ k h. both_ways (is_zero (vars c)) z (member_nonzero (vars c) k h))

-- ---- the list of "cannot"

-- its one D-sequent
abbrev whole : ℕ → DSequent
whole n = record { decisions = no_decisions; redundant = first_vars n }

-- it has no other
everything_member : (n : ℕ) (d : DSequent) → Memᴰ d (everything n) → d ≡ whole n
everything_member zero d m = absurd (Memᴰ.not-nil m)
everything_member (suc n) d m = Memᴰ.eq_of_singleton m

-- its set is not empty
everything_grows : (n : ℕ) → Growing 0 (everything n)
everything_grows zero = tt
everything_grows (suc n) =
    (within_zero (first_vars (suc n)), another 0 (first_vars (suc n)) 0 (has_zero 0) (has_first_vars (suc n) 0 ∙ lt-ltb 0 (suc n) (zero-lt-suc n)), tt)

-- it has none without variables
everything_few : (n : ℕ) → length (everything n) ≤ n
everything_few zero = omega arith
everything_few (suc n) = omega arith

-- ---- what is handed out

module _ (n : ℕ) (book : List Clause) (o : Assumptions) (input : Input n book o) where
  -- the clauses after book and order
  abbrev derived : State → List Clause
  derived s = drop (length (given book o)) s.table

  -- with book and order they are the table
  all_clauses : (s : State) → SoundState (given book o) s → given book o ++ derived s ≡ s.table
  all_clauses s sound = continued (given book o) s.table sound.begins.0 sound.begins.1

  -- the derived clauses follow
  derived_follow : (s : State) → SoundState (given book o) s → (c : Clause) → Memᴰ c (derived s) → Follows n book o c
  derived_follow s sound c m x b =
      true_satisfies x c (sound.follows x (built n book o input x b) c (subst (Memᴰ c) (all_clauses s sound) (Memᴰ.append_right (given book o) m)))

  -- the D-sequent of "cannot" holds
  everything_hold :
      (s : State) → SoundState (given book o) s → (c : Clause) → Memᴰ c s.table → is_empty c ≡ true →
      RecordsHold n book o (outcome (length (given book o)) cannot (everything n) s)
  everything_hold s sound c m z =
      record {
        holds =
            λ d l.
            subst (Holds n book o (given book o ++ derived s)) (sym (everything_member n d l))
            (inr
            (λ x small agree keeps.
            let there = subst (Memᴰ c) (sym (all_clauses s sound)) m in
            empty_never x c z (dropping_true x (first_vars n) (given book o ++ derived s) keeps c there (empty_unnamed (first_vars n) c z))));
        fitted = λ d l. let is = everything_member n d l in rw is (within_zero 0);
        decided = λ d l. let is = everything_member n d l in rw is (within_zero (first_vars n));
        struck = λ d l. let is = everything_member n d l in rw is (within_refl (first_vars n));
        apart = λ d l. let is = everything_member n d l in rw is (zero_meets (first_vars n));
        grow = everything_grows n;
        few = everything_few n;
      }

  module _ (allowance capacity : ℕ) where
    -- what stays the same in the run
    abbrev env : Env
    env = record { n = n; allowance = allowance; capacity = capacity }

    -- the D-sequents handed out at "can" and at a stop hold
    records_hold :
        (x : Ending) (a : Assignment) (s : State) → Shape env a s → SoundState (given book o) s →
        RecordsHold n book o (outcome (length (given book o)) x s.records s)
    records_hold x a s shape sound =
        record {
          holds = λ d m. subst (λ (t : List Clause). Holds n book o t d) (sym (all_clauses s sound)) (gives_holds n book o input s.table d (sound.records d m));
          fitted = λ d m. let is = (shape.records d m).values in rw is (and_within_l d.decisions.decided a.trues);
          decided = λ d m. within_trans d.decisions.decided a.decided (first_vars n) (shape.records d m).on shape.decided;
          struck = λ d m. within_trans d.redundant (undecided env a) (first_vars n) (shape.records d m).off (undecided_within env a);
          apart =
              λ d m.
              let known = shape.records d m in
              meets_false_intro d.decisions.decided d.redundant
              (λ k h. refuted (has d.redundant k) (λ r. both_ways (has a.decided k) (known.on k h) (undecided_not_decided env a k (known.off k r))));
          grow = shape.growing;
          few = records_at_most_n env a s shape;
        }

    -- "can", with a model
    can_right :
        (a : Assignment) (s : State) → Shape env a s → SoundState (given book o) s → Modeled (given book o) →
        Right n book o (outcome (length (given book o)) can s.records s)
    can_right a s shape sound m =
        record {
          verdict = record { can_only = λ e. builds n book o input m; cannot_only = λ e. clash cc };
          derived = derived_follow s sound;
          records = records_hold can a s shape sound;
        }

    -- a stop, which is no verdict
    stop_right :
        (x : Ending) → (x ≡ can → ⊥) → (x ≡ cannot → ⊥) → (a : Assignment) (s : State) → Shape env a s → SoundState (given book o) s →
        Right n book o (outcome (length (given book o)) x s.records s)
    stop_right x not-can not-cannot a s shape sound =
        record {
          verdict = record { can_only = λ e. absurd (not-can e); cannot_only = λ e. absurd (not-cannot e) };
          derived = derived_follow s sound;
          records = records_hold x a s shape sound;
        }

    -- "cannot", with the empty clause
    cannot_right :
        (s : State) → SoundState (given book o) s → (c : Clause) → Memᴰ c s.table → is_empty c ≡ true →
        Right n book o (outcome (length (given book o)) cannot (everything n) s)
    cannot_right s sound c m z =
        record {
          verdict =
              record {
                can_only = λ e. clash cc;
                cannot_only = λ e b. empty_never b.0 c z (sound.follows b.0 (built n book o input b.0 b.1) c m);
              };
          derived = derived_follow s sound;
          records = everything_hold s sound c m z;
        }

    -- whatever the search comes to
    finish_right :
        (x : Side) → SideShape env no_decisions x → Stays x → SideSound (given book o) env no_decisions x →
        Right n book o (finish n (length (given book o)) x)
    unfolding finish
    finish_right (up s) h f g = can_right no_decisions s h g.sound (root_modeled (given book o) env s h f g)
    finish_right (ended can a s) h f g = can_right a s h g.0 g.1
    finish_right (ended cannot a s) h f g = cannot_right s g.0 g.1.0 g.1.1 g.1.2
    finish_right (ended out_of_branchings a s) h f g =
        stop_right out_of_branchings (λ e. clash cc) (λ e. clash cc) a s h g
    finish_right (ended out_of_clauses a s) h f g =
        stop_right out_of_clauses (λ e. clash cc) (λ e. clash cc) a s h g

-- demand 2
pub demand2 : Demand2
unfolding run searched
demand2 n book o input allowance places =
    let t = given book o in
    let e : Env = record { n = n; allowance = allowance; capacity = length t + places } in
    let point : Shape e no_decisions (start t) = shape_start n book o allowance (length t + places) input in
    finish_right n book o input allowance (length t + places) (search e n no_decisions 0 (start t))
    (shape_search e n no_decisions 0 (start t) point)
    (stays e n no_decisions 0 (start t))
    (search_sound t e n no_decisions 0 (start t) (undecided_at_most_n e no_decisions) point (sound_start t))
