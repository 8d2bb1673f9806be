-- What was tried, where nothing refused it. The tries are single checks, none of which is refused, so the demands on a single check (crate `contract`) are those on
-- every setting.
use mathlib.Core.Path.{◌≡◌, refl, sym, ap, subst, subst⁻¹, ◌∙◌}
use mathlib.Core.Bool.{Bool, true, false}
use mathlib.Core.List.{List, [], ◌∷◌, ◌++◌, Memᴰ}
use mathlib.Core.Logic.{◌⊎◌, ◌↔◌, inl, inr, ⊎_elim}
use Prim.Native.Nat.{ℕ, ◌-◌, ◌^◌, ◌≤◌, ◌<◌}
use lib.ListN.{length}
use Rattle.words.specs.Words.{Within, first_vars}
use Rattle.words.proofs.Truth.{both_ways, refuted}
use Rattle.words.proofs.Sets.{within_zero, within_trans, within_lt, lt_within}
use Rattle.steps.specs.State.{Ending, Ending.can, Ending.cannot, Ending.out_of_branchings, Ending.out_of_clauses}
use Rattle.steps.specs.Run.{Outcome}
use Rattle.steps.specs.Meaning.{Buildable}
use Rattle.steps.specs.Demands.{Enough}
use Rattle.order.specs.Order.{Order, complete}
use Rattle.book.specs.Bytes.{vars_in, rules_in}
use Rattle.book.specs.Conditions.{NoRow}
use Rattle.answer.specs.declared.Tally.{Tally}
use Rattle.answer.specs.Answer.{Answer, Answer.Can, Answer.Cannot, Answer.Refused as CheckRefused, Answer.Stopped as CheckStopped}
use Rattle.contract.specs.Check.{Lengths, Result, Result.ran, outcome, check}
use Rattle.contract.specs.Filled.{Tables, lengths, answer_of, filled}
use Rattle.contract.specs.Demands.{Permitted, RightOutcome, Uncovered, Settled, IsVerdict}
use Rattle.contract.proofs.Checking.{ran_passed}
use Rattle.contract.proofs.Filling.{ran_spent}
use Rattle.contract.proofs.NeverCovered.{never_covered}
use Rattle.contract.proofs.Demands as contract
use Rattle.undecided.specs.Settings.{settings}
use Rattle.undecided.specs.Undecided.{with_setting, zeroed, tried_on, is_can, is_stop, last_tried, all_can, some_can, verdict_by, tried_all, Left, undecided}
use Rattle.undecided.specs.Demands.{undecided_conditions, BuildableWith, Stops, single, InTurn, RightVerdict, WordsThenZeros, LastWrote, Bought}
use Rattle.undecided.specs.declared.Verdict.TheVariants.{Stopped}
use Rattle.undecided.specs.Values.{Tried}
use Rattle.undecided.proofs.Subsets.{all_settings}
use Rattle.undecided.proofs.Walk.{walked, walk_ends}
use Rattle.undecided.proofs.Judging.{outcome_of, left_tried, no_row}
use Rattle.undecided.proofs.Wishes.{keeping, open_small, setting_passes}
use Rattle.undecided.proofs.Trying.{Place, place, first_stop, every_one_can, each_can, not_all, some_one_can, one_can, stops_verdict, always_verdict, sometimes_verdict, never_verdict}
use Rattle.undecided.proofs.Tables.{zeroed_lengths, after_all, holds}

-- ---- answers that stop

-- the test of a stop
stop_is : (a : Answer) → is_stop a ≡ true → Stops a
stop_is (Can t) e = both_ways false e refl
stop_is (Cannot t) e = both_ways false e refl
stop_is (CheckRefused k) e = both_ways false e refl
stop_is (CheckStopped k t) e = (k, t, refl)

is_stop_lem : (a : Answer) → Stops a → is_stop a ≡ true
is_stop_lem a h = ap is_stop h.2

no_stop : (a : Answer) → is_stop a ≡ false → Stops a → ⊥
no_stop a e h = both_ways (is_stop a) (is_stop_lem a h) e

-- a verdict is no stop
verdict_goes : (a : Answer) → IsVerdict a → is_stop a ≡ false
verdict_goes (Can t) v = refl
verdict_goes (Cannot t) v = refl
verdict_goes (CheckRefused k) v = absurd v
verdict_goes (CheckStopped k t) v = absurd v

-- ---- what was tried

module _ (bytes : List ℕ) (o : Order) (opens allowance : ℕ) (t : Tables) (passed : NoRow (undecided_conditions bytes o opens (lengths t))) where
  abbrev f : ℕ → Answer
  f = single bytes o opens allowance (lengths t)

  abbrev found : Tried
  found = outcome_of bytes o opens allowance t

  -- whether the last one stopped, all can, some can
  abbrev stops : Bool
  stops = is_stop (f found.setting)

  abbrev every : Bool
  every = all_can f (settings opens)

  abbrev any : Bool
  any = some_can f (settings opens)

  small : opens < 2 ^ 64
  small = open_small bytes o opens (lengths t) passed

  -- the settings are those within the open word
  listed : (s : ℕ) → Memᴰ s (settings opens) ↔ Within s opens
  listed = (all_settings opens small).subsets

  -- the last one tried
  where_found : Place f (settings opens) found.setting
  where_found =
      let w = walked 64 opens small in
      subst⁻¹ (λ (l : List ℕ). Place f l (last_tried f 0 l)) w.1 (place f 0 0 w.0)

  is_last : (later : List ℕ) → settings opens ≡ where_found.earlier ++ (found.setting ∷ later) → later ≡ [] → found.setting ≡ opens
  is_last later at last =
      let w = walked 64 opens small in
      walk_ends 64 opens 0 found.setting w.0 where_found.earlier w.2
      (sym w.1 ∙ at ∙ ap (λ (l : List ℕ). where_found.earlier ++ (found.setting ∷ l)) last)

  -- a setting that stops is a stop, and where it is no stop the last one did not stop
  pub stopped : stops ≡ true → found.verdict ≡ Stopped
  stopped e = ap (λ (b : Bool). verdict_by b every any) e

  goes : (found.verdict ≡ Stopped → ⊥) → stops ≡ false
  goes n = refuted stops (λ e. n (stopped e))

  pub in_turn : InTurn bytes o opens allowance (lengths t) found
  in_turn =
      let p = where_found in
      record {
        none_refused = setting_passes bytes o opens (lengths t) passed;
        last_own = refl;
        earlier = p.earlier;
        later = p.later;
        listed = p.listed;
        none_stopped = λ s m. no_stop (f s) (p.none_stopped s m);
        stop = (λ e. stop_is found.last (stops_verdict stops every any e), λ h. stopped (is_stop_lem found.last h));
        all_tried = λ n. let last = p.all (goes n) in (is_last p.later p.listed last, last);
      }

  -- and then no setting stops
  none_stops : (found.verdict ≡ Stopped → ⊥) → (s : ℕ) → Within s opens → is_stop (f s) ≡ false
  none_stops n s within =
      let p = where_found in
      let m : Memᴰ s (p.earlier ++ (found.setting ∷ [])) =
      subst (λ (l : List ℕ). Memᴰ s l) (p.listed ∙ ap (λ (l : List ℕ). p.earlier ++ (found.setting ∷ l)) (p.all (goes n))) ((listed s).1 within)
      in
      ⊎_elim (p.none_stopped s) (λ h. ap (λ (u : ℕ). is_stop (f u)) (mathlib.Core.List.Memᴰ.eq_of_singleton h) ∙ goes n) (mathlib.Core.List.Memᴰ.append_cases p.earlier m)

  -- ---- one setting

  module _ (s : ℕ) (within : Within s opens) where
    abbrev asked : Order
    asked = with_setting o opens s

    abbrev r : Outcome
    r = outcome bytes asked allowance (lengths t)

    right : RightOutcome bytes asked allowance (lengths t) (vars_in bytes) (rules_in bytes) r
    right = contract.outcomes bytes asked allowance (lengths t) (setting_passes bytes o opens (lengths t) passed s within)

    to_meaning : Buildable (vars_in bytes) (rules_in bytes) (complete asked) → BuildableWith bytes o opens s
    to_meaning b = (b.0, record { choice = b.1.choice; rules = b.1.rules; order = (keeping b.0 o opens s within).0 b.1.order })

    of_meaning : BuildableWith bytes o opens s → Buildable (vars_in bytes) (rules_in bytes) (complete asked)
    of_meaning b = (b.0, record { choice = b.1.choice; rules = b.1.rules; order = (keeping b.0 o opens s within).1 b.1.order })

    -- one that does not stop can be built exactly if it says so
    can_iff : is_stop (f s) ≡ false → (is_can (f s) ≡ true) ↔ BuildableWith bytes o opens s
    can_iff on = go r.ending refl
      where
        go : (x : Ending) → r.ending ≡ x → (is_can (f s) ≡ true) ↔ BuildableWith bytes o opens s
        go can e = (λ h. to_meaning (right.can_only _ (right.told.can e)), λ b. ap is_can (right.told.can e))
        go cannot e = (
          λ h. both_ways (is_can (f s)) h (ap is_can (right.told.cannot e)),
          λ b. absurd (right.cannot_only _ (right.told.cannot e) (of_meaning b)),
        )
        go out_of_branchings e = both_ways (is_stop (f s)) (ap is_stop (right.told.stops_on_branchings e)) on
        go out_of_clauses e = both_ways (is_stop (f s)) (ap is_stop (right.told.stop_clauses e)) on

    -- its answer is a verdict or a named stop
    pub named : IsVerdict (f s) ⊎ ((k : ℕ) × (c : Tally) × (f s ≡ CheckStopped k c) × ((k ≡ 10) ⊎ (k ≡ 11)))
    named = go r.ending refl
      where
        go : (x : Ending) → r.ending ≡ x → IsVerdict (f s) ⊎ ((k : ℕ) × (c : Tally) × (f s ≡ CheckStopped k c) × ((k ≡ 10) ⊎ (k ≡ 11)))
        go can e = inl (subst⁻¹ IsVerdict (right.told.can e) tt)
        go cannot e = inl (subst⁻¹ IsVerdict (right.told.cannot e) tt)
        go out_of_branchings e = inr (10, _, right.told.stops_on_branchings e, inl refl)
        go out_of_clauses e = inr (11, _, right.told.stop_clauses e, inr refl)

    -- the tables are permitted, and what an allowance buys
    permitted : Permitted (lengths t)
    permitted = (ran_passed bytes asked allowance (lengths t) r right.by_the_steps).permitted

    module _ (settled : Outcome) (is : Settled bytes asked settled) where
      enough_goes : Enough settled allowance (length t.pos) → is_stop (f s) ≡ false
      enough_goes e =
          let same : check bytes asked allowance (lengths t) ≡ ran settled = ((contract.demands).buys bytes asked settled is allowance (lengths t) permitted).same.0 e in
          ap (λ (x : Result). is_stop (answer_of x)) same
          ∙ ⊎_elim (λ c. ap is_stop ((contract.tells settled).can c)) (λ c. ap is_stop ((contract.tells settled).cannot c)) is.verdict

      short_stops : (Enough settled allowance (length t.pos) → ⊥) → is_stop (f s) ≡ true
      short_stops n =
          ⊎_elim (λ h. ap is_stop h.1) (λ h. ap is_stop h.1) (((contract.demands).buys bytes asked settled is allowance (lengths t) permitted).stops n)

  -- ---- the last setting

  pub found_within : Within found.setting opens
  found_within =
      let p = where_found in
      (listed found.setting).0
      (subst⁻¹ (λ (l : List ℕ). Memᴰ found.setting l) p.listed (mathlib.Core.List.Memᴰ.append_right p.earlier (mathlib.Core.List.Memᴰ.head refl)))

  pub found_small : found.setting < 2 ^ 64
  found_small = within_lt 64 found.setting (within_trans found.setting opens (first_vars 64) found_within (lt_within 64 opens small))

  -- the tables as it left them
  left_tables : (undecided bytes o opens allowance t).tables ≡ tried_on bytes o opens allowance t found.setting
  unfolding tried_all
  left_tables = ap (λ (x : Left). x.tables) (left_tried bytes o opens allowance t (no_row bytes o opens allowance t passed)) ∙ after_all bytes o opens allowance t

  pub last_wrote : LastWrote bytes o opens allowance t found (undecided bytes o opens allowance t).tables
  last_wrote =
      let s = found.setting in
      let ran_it = (right s found_within).by_the_steps in
      record {
        asked = asked s found_within;
        asked_is = refl;
        holds = subst⁻¹ (WordsThenZeros (r s found_within) t) left_tables (holds bytes (asked s found_within) allowance t (r s found_within) ran_it);
        right = right s found_within;
        spent = ran_spent bytes (asked s found_within) allowance (lengths t) (r s found_within) ran_it;
        uncovered =
            subst⁻¹ (Uncovered bytes (asked s found_within) (r s found_within)) left_tables
            (subst (λ (l : Lengths). Uncovered bytes (asked s found_within) (r s found_within) (filled (check bytes (asked s found_within) allowance l) (zeroed t)))
            (zeroed_lengths t)
            (never_covered bytes (asked s found_within) allowance (zeroed t) (r s found_within)
            (ap (check bytes (asked s found_within) allowance) (zeroed_lengths t) ∙ ran_it)));
      }

  -- ---- the verdict

  module _ (n : found.verdict ≡ Stopped → ⊥) where
    -- the verdict where it is known which can be built
    by_tests : {a b : Bool} → every ≡ a → any ≡ b → found.verdict ≡ verdict_by false a b
    by_tests e g = cc (goes n)

    can_be : (s : ℕ) → Within s opens → (is_can (f s) ≡ true) ↔ BuildableWith bytes o opens s
    can_be s within = can_iff s within (none_stops n s within)

    pub right_verdict : RightVerdict bytes o opens found
    right_verdict =
        record {
          always = (
            λ e s within. (can_be s within).0 (every_one_can f (settings opens) (always_verdict stops every any e) s ((listed s).1 within)),
            λ h. by_tests (each_can f (settings opens) (λ s m. (can_be s ((listed s).0 m)).1 (h s ((listed s).0 m)))) refl,
          );
          sometimes = (
            λ e.
                let both = sometimes_verdict stops every any e in
                let one = some_one_can f (settings opens) both.1 in
                let other = not_all f (settings opens) both.0 in
                let within = (listed other.0).0 other.1 in (
                  (one.0, (listed one.0).0 one.1, (can_be one.0 ((listed one.0).0 one.1)).0 one.2),
                  (other.0, within, λ b. both_ways (is_can (f other.0)) ((can_be other.0 within).1 b) other.2),
                ),
            λ h.
                let one = h.0 in
                let other = h.1 in
                by_tests
                (refuted every (λ e. other.2 ((can_be other.0 other.1).0 (every_one_can f (settings opens) e other.0 ((listed other.0).1 other.1)))))
                (one_can f (settings opens) one.0 ((listed one.0).1 one.1) ((can_be one.0 one.1).1 one.2)),
          );
          never = (
            λ e s within b. both_ways any (one_can f (settings opens) s ((listed s).1 within) ((can_be s within).1 b)) (never_verdict stops every any e),
            λ h.
                by_tests
                (refuted every
                (λ e. h 0 (within_zero opens) ((can_be 0 (within_zero opens)).0 (every_one_can f (settings opens) e 0 ((listed 0).1 (within_zero opens))))))
                (refuted any
                (λ e. let m = some_one_can f (settings opens) e in h m.0 ((listed m.0).0 m.1) ((can_be m.0 ((listed m.0).0 m.1)).0 m.2))),
          );
        }

  -- ---- what an allowance buys

  stops_at : found.verdict ≡ Stopped → stops ≡ true
  stops_at e = stops_verdict stops every any e

  pub bought : (r : ℕ → Outcome) → Bought bytes o opens allowance (length t.pos) r found
  bought r =
      record {
        enough =
            λ h e.
            let own = h found.setting found_within in
            both_ways stops (stops_at e) (enough_goes found.setting found_within (r found.setting) own.0 own.1);
        short =
            λ before after s at h settled n.
            let within : (u : ℕ) → Memᴰ u (before ++ (s ∷ after)) → Within u opens = λ u m. (listed u).0 (subst⁻¹ (λ (l : List ℕ). Memᴰ u l) at m) in
            let in_s : Within s opens = within s (mathlib.Core.List.Memᴰ.append_right before (mathlib.Core.List.Memᴰ.head refl)) in
            let first : (u : ℕ) → Memᴰ u before → is_stop (f u) ≡ false =
            λ u m. enough_goes u (within u (mathlib.Core.List.Memᴰ.append_left (s ∷ after) m)) (r u) (h u m).0 (h u m).1
            in
            let stop = short_stops s in_s (r s) settled n in
            let same : found.setting ≡ s = ap (last_tried f 0) at ∙ first_stop f 0 s before after first stop in
            (stopped (ap (λ (u : ℕ). is_stop (f u)) same ∙ stop), same);
      }

  pub always_enough_for : 2 ^ vars_in bytes - 1 ≤ allowance → 2 ^ vars_in bytes - 1 ≤ length t.pos → found.verdict ≡ Stopped → ⊥
  always_enough_for h g e =
      let v = (contract.bound bytes (with_setting o opens found.setting) (lengths t) (setting_passes bytes o opens (lengths t) passed found.setting found_within)).enough allowance h g in
      both_ways stops (stops_at e) (verdict_goes (f found.setting) v)
