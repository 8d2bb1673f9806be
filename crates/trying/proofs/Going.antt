-- The loop over the settings. Before a setting the tables are zero, and the settings that are left are the rest of the list, of which it is the first; after it the
-- tables hold what its check wrote into zeros.
use mathlib.Core.Path.{◌≡◌, refl, sym, ap, subst⁻¹, ◌∙◌}
use mathlib.Core.Bool.{Bool, true, false, ◌&&◌, ◌||◌, and-true, and_assoc, or-false, or_assoc}
use mathlib.Core.List.{List, [], ◌∷◌}
use mathlib.Core.Logic.{◌≢◌}
use Prim.Native.Nat.{ℕ, ◌^◌, ◌≤◌, ◌<◌}
use native.Mathlib.Omega.{arith}
use Rattle.order.specs.Order.{Order}
use Rattle.answer.specs.Answer.{Answer}
use Rattle.contract.specs.Check.{Lengths, check}
use Rattle.contract.specs.Filled.{Tables, lengths, answer_of, filled, Checked}
use Rattle.contract.proofs.Filling.{checked_lengths}
use Rattle.undecided.specs.Settings.{settings, next_setting}
use Rattle.undecided.specs.Undecided.{undecided_rows, with_setting, answer_to, zeroed, is_can, is_stop, last_tried, all_can, some_can, verdict_by, tried_to, tried_on, tables_after, last_setting, tried_all, Replies}
use Rattle.undecided.specs.Values.{Tried, Reply.Refused, Reply.tried}
use Rattle.undecided.specs.declared.Verdict.{Verdict}
use Rattle.undecided.proofs.Walk.{Walk, walk_below, walked}
use Rattle.undecided.proofs.Trying.{last_stops, last_goes}
use Rattle.undecided.proofs.Tables.{zeroed_lengths, zeroed_same, after_all, tried_same}
use Rattle.undecided.proofs.Judging.{left_refused, left_tried}
use Rattle.book.specs.Refusals.{first_row}
use mathlib.Core.Option.{some, none}
use Rattle.trying.specs.Promises.{Ready, TriesAll}
use Rattle.trying.proofs.Clearing.{Stands}

module _ (bytes : List ℕ) (o : Order) (opens allowance : ℕ) (l : Lengths) where
  abbrev f : ℕ → Answer
  f = answer_to bytes o opens allowance l

  -- setting s is to be tried on tables of zeros, after others of which all or any can be built
  pub record Ahead (s : ℕ) (all any : Bool) (t : Tables) : Type 0 where
    pub rest : List ℕ
    pub walk : Walk 64 opens s rest
    pub last : last_tried f 0 (settings opens) ≡ last_tried f 0 (s ∷ rest)
    pub every : all_can f (settings opens) ≡ (all && all_can f (s ∷ rest))
    pub some : some_can f (settings opens) ≡ (any || some_can f (s ∷ rest))
    pub ready : Ready t
    pub same_lengths : lengths t ≡ l

  -- it was tried, a is its answer, and of all so far all or any can be built
  pub record Reached (s : ℕ) (all any : Bool) (a : Answer) (t : Tables) : Type 0 where
    pub rest : List ℕ
    pub walk : Walk 64 opens s rest
    pub last : last_tried f 0 (settings opens) ≡ last_tried f 0 (s ∷ rest)
    pub every : all_can f (settings opens) ≡ (all && all_can f rest)
    pub some : some_can f (settings opens) ≡ (any || some_can f rest)
    pub stands : Stands bytes o opens allowance s a t
    pub same_lengths : lengths t ≡ l

  pub ahead_first : (t : Tables) → opens < 2 ^ 64 → Ready t → lengths t ≡ l → Ahead 0 true false t
  ahead_first t small ready same =
      let walk = walked 64 opens small in
      record {
        rest = walk.0;
        walk = walk.2;
        last = ap (last_tried f 0) walk.1;
        every = ap (all_can f) walk.1;
        some = ap (some_can f) walk.1;
        ready = ready;
        same_lengths = same;
      }

  -- the answer that stands is that of the definition
  stands_answer : (s : ℕ) (a : Answer) (t : Tables) → Stands bytes o opens allowance s a t → lengths t ≡ l → a ≡ f s
  stands_answer s a t stands same = stands.answer ∙ ap (λ (x : Lengths). answer_to bytes o opens allowance x s) same

  -- a check of the order with the setting
  pub reached : (s : ℕ) (all any : Bool) (t : Tables) → Ahead s all any t → (asked : Order) (a : Answer) (t' : Tables) (all' any' : Bool) →
      asked ≡ with_setting o opens s → Checked bytes asked allowance t a t' → all' ≡ (all && is_can a) → any' ≡ (any || is_can a) → Reached s all' any' a t'
  reached s all any t h asked a t' all' any' made checked every_is some_is =
      let kept : lengths t' ≡ lengths t = ap lengths checked.tables ∙ checked_lengths bytes asked allowance t in
      let stands : Stands bytes o opens allowance s a t' =
      record {
        answer =
            checked.answer
            ∙ ap (λ (x : Order). answer_of (check bytes x allowance (lengths t))) made
            ∙ ap (λ (y : Lengths). answer_of (check bytes (with_setting o opens s) allowance y)) (sym kept);
        tables =
            checked.tables
            ∙ ap (λ (x : Order). filled (check bytes x allowance (lengths t)) t) made
            ∙ ap (λ (y : Lengths). filled (check bytes (with_setting o opens s) allowance y) t) (sym kept)
            ∙ ap (filled (check bytes (with_setting o opens s) allowance (lengths t'))) (h.ready ∙ zeroed_same t t' (sym kept));
      }
      in
      let answered : a ≡ f s = stands_answer s a t' stands (kept ∙ h.same_lengths) in
      record {
        rest = h.rest;
        walk = h.walk;
        last = h.last;
        every =
            h.every
            ∙ sym (and_assoc all (is_can (f s)) (all_can f h.rest))
            ∙ ap (λ (x : Answer). (all && is_can x) && all_can f h.rest) (sym answered)
            ∙ ap (λ (b : Bool). b && all_can f h.rest) (sym every_is);
        some =
            h.some
            ∙ sym (or_assoc any (is_can (f s)) (some_can f h.rest))
            ∙ ap (λ (x : Answer). (any || is_can x) || some_can f h.rest) (sym answered)
            ∙ ap (λ (b : Bool). b || some_can f h.rest) (sym some_is);
        stands = stands;
        same_lengths = kept ∙ h.same_lengths;
      }

  module _ (s : ℕ) (all any : Bool) (a : Answer) (t : Tables) (h : Reached s all any a t) where
    answered : a ≡ f s
    answered = stands_answer s a t h.stands h.same_lengths

    -- one more, where it goes on
    pub record Next (u : ℕ) (clean : Tables) : Type 0 where
      pub ahead : Ahead u all any clean
      pub larger : s < u
      pub below : u ≤ opens

    pub ahead_next : is_stop a ≡ false → s ≢ opens → (u : ℕ) (clean : Tables) → u ≡ next_setting opens s → clean ≡ zeroed t → Next u clean
    unfolding next_setting
    ahead_next on other u clean after zero = go h.rest h.walk h.last h.every h.some
      where
        go : (rest : List ℕ) → Walk 64 opens s rest → last_tried f 0 (settings opens) ≡ last_tried f 0 (s ∷ rest) →
            all_can f (settings opens) ≡ (all && all_can f rest) → some_can f (settings opens) ≡ (any || some_can f rest) → Next u clean
        go [] walk last every one = absurd (other walk.1)
        go (v ∷ rest) walk last every one =
            let is : u ≡ v = after ∙ sym walk.2 in
            let clean_lengths : lengths clean ≡ lengths t = ap lengths zero ∙ zeroed_lengths t in
            let goes : is_stop (f s) ≡ false = sym (ap is_stop answered) ∙ on in
            record {
              larger = omega (arith, walk.1, is);
              below = omega (arith, is, walk_below 64 opens v rest walk.3);
              ahead =
                  record {
                    rest = rest;
                    walk = subst⁻¹ (λ (x : ℕ). Walk 64 opens x rest) is walk.3;
                    last = last ∙ last_goes f 0 s (v ∷ rest) goes ∙ ap (λ (x : ℕ). last_tried f 0 (x ∷ rest)) (sym is);
                    every = every ∙ ap (λ (x : ℕ). all && all_can f (x ∷ rest)) (sym is);
                    some = one ∙ ap (λ (x : ℕ). any || some_can f (x ∷ rest)) (sym is);
                    ready = zero ∙ zeroed_same t clean (sym clean_lengths);
                    same_lengths = clean_lengths ∙ h.same_lengths;
                  };
            }

    -- the end: the last one stopped, or it is the open word
    pub record Ended : Type 0 where
      pub setting : last_tried f 0 (settings opens) ≡ s
      pub verdict : verdict_by (is_stop a) (all_can f (settings opens)) (some_can f (settings opens)) ≡ verdict_by (is_stop a) all any

    pub stops_there : is_stop a ≡ true → Ended
    stops_there e =
        record {
          setting = h.last ∙ last_stops f 0 s h.rest (sym (ap is_stop answered) ∙ e);
          verdict = rw e;
        }

    pub ends_there : s ≡ opens → Ended
    ends_there e = go h.rest h.walk h.last h.every h.some
      where
        alone : (b : Bool) → is_stop (f s) ≡ b → last_tried f 0 (s ∷ []) ≡ s
        alone true b = last_stops f 0 s [] b
        alone false b = last_goes f 0 s [] b

        go : (rest : List ℕ) → Walk 64 opens s rest → last_tried f 0 (settings opens) ≡ last_tried f 0 (s ∷ rest) →
            all_can f (settings opens) ≡ (all && all_can f rest) → some_can f (settings opens) ≡ (any || some_can f rest) → Ended
        go [] walk last every one =
            record {
              setting = last ∙ alone (is_stop (f s)) refl;
              verdict =
                  ap (λ (b : Bool). verdict_by (is_stop a) b (some_can f (settings opens))) (every ∙ and-true all)
                  ∙ ap (verdict_by (is_stop a) all) (one ∙ or-false any);
            }
        go (u ∷ rest) walk last every one = absurd (omega (arith, walk.1, walk_below 64 opens u rest walk.3, e))

-- what is left at the end is what the definition leaves
pub tries_all :
    (bytes : List ℕ) (o : Order) (opens allowance : ℕ) (before : Tables) (s : ℕ) (all any : Bool) (a : Answer) (t : Tables)
    (h : Reached bytes o opens allowance (lengths before) s all any a t) → Ended bytes o opens allowance (lengths before) s all any a t h →
    (v : Verdict) → v ≡ verdict_by (is_stop a) all any → TriesAll bytes o opens allowance before (record { verdict = v; setting = s; last = a }) t
unfolding tried_all
tries_all bytes o opens allowance before s all any a t h ended v is =
    let f = answer_to bytes o opens allowance (lengths before) in
    let last = last_setting bytes o opens allowance (lengths before) in
    let is_last : f s ≡ a = sym (answered bytes o opens allowance (lengths before) s all any a t h) in
    let reply : record { verdict = v; setting = s; last = a } ≡ tried_to f (settings opens) last =
    ap (λ (x : Verdict). record { verdict = x; setting = s; last = a }) (is ∙ sym ended.verdict)
    ∙ ap (λ (x : Answer). record { verdict = verdict_by (is_stop x) (all_can f (settings opens)) (some_can f (settings opens)); setting = s; last = x }) (sym is_last)
    ∙ ap (tried_to f (settings opens)) (sym ended.setting)
    in
    let tables : t ≡ tables_after bytes o opens allowance before (settings opens) =
    h.stands.tables
    ∙ ap (λ (y : Lengths). filled (check bytes (with_setting o opens s) allowance y) (zeroed t)) h.same_lengths
    ∙ ap (filled (check bytes (with_setting o opens s) allowance (lengths before))) (zeroed_same t before h.same_lengths)
    ∙ ap (tried_on bytes o opens allowance before) (sym ended.setting)
    ∙ sym (after_all bytes o opens allowance before)
    in
    record { left = cc (reply, tables) }

-- ---- the reply

-- cleared tables are ready
pub ready : (before t : Tables) → t ≡ zeroed before → Ready t
ready before t e = e ∙ zeroed_same before t (sym (ap lengths e ∙ zeroed_lengths before))

module _ (bytes : List ℕ) (o : Order) (opens allowance : ℕ) (before : Tables) where
  pub replies_refused : (k : ℕ) → some k ≡ first_row (undecided_rows bytes o opens (lengths before)) → Replies bytes o opens allowance before (Refused k) before
  replies_refused k is = record { left = sym (left_refused bytes o opens allowance before k (sym is)) }

  pub replies_tried :
      (clean : Tables) (r : Tried) (after : Tables) → none ≡ first_row (undecided_rows bytes o opens (lengths before)) → clean ≡ zeroed before →
      TriesAll bytes o opens allowance clean r after → Replies bytes o opens allowance before (tried r) after
  replies_tried clean r after is zero all =
      record {
        left =
            all.left
            ∙ tried_same bytes o opens allowance clean before (ap lengths zero ∙ zeroed_lengths before)
            ∙ sym (left_tried bytes o opens allowance before (sym is));
      }
