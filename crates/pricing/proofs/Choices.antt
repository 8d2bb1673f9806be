-- The choices that can come of an order are those that keep it, so the best plan of them is that of the cheapest choice; and where it is none, there is no choice, for every
-- total is in reach.
use mathlib.Core.Path.{◌≡◌, refl, sym, ap, subst, ◌∙◌}
use mathlib.Core.Bool.{Bool, true, false, not}
use mathlib.Core.List.{List}
use mathlib.Core.Logic.{⊎_elim}
use Prim.Native.Nat.{ℕ, ◌^◌, ◌≤◌, ◌<◌}
use native.Mathlib.Omega.{arith}
use borrow.Author.Tests.{not-true}
use lib.Bits.{bit_or}
use lib.ListN.{length, get_or}
use Rattle.words.specs.Words.{is_zero, has, minus, meets, first_vars, Within}
use Rattle.words.proofs.Truth.{clash, both_ways, refuted, and_left, and_right, and_both}
use Rattle.words.proofs.Sets.{within_lt, lt_within, within_trans, or_within, or_within_l, or_within_r, in_or, in_minus, minus_within, minus_out, minus_empty, within_minus, meets_false, meets_false_intro}
use Rattle.steps.specs.Clause.{Clause}
use Rattle.steps.specs.Run.{Assumptions}
use Rattle.steps.specs.Meaning.{models, obeys}
use Rattle.order.specs.Order.{Order, complete, free}
use Rattle.rows.specs.Rows.{clause_words, clauses}
use Rattle.book.specs.Limits.{max_clauses}
use Rattle.narrowing.specs.Narrowing.{Narrowed, Between}
use Rattle.narrowing.proofs.Opens.{opens_decide}
use Rattle.cheapest.specs.Cheapest.{list_total, keeps}
use Rattle.cheapest.specs.Meaning.{Before}
use Rattle.cheapest.proofs.Least.{is_least, is_none}
use Rattle.cheapest.proofs.Totals.{total_bound, total_same}
use Rattle.blocks.specs.Blocks.{Priced}
use Rattle.std.specs.Prelude.{Option, Some, None}
use Rattle.pricing.specs.Promises.{PlanOf, Leads, Improved, Fits, Opened, Searched, Found}
use Rattle.pricing.proofs.Plans.{same_costs}
use Rattle.pricing.specs.declared.plan.Plan.{Plan}

module _ (n : ℕ) (o : Order) (fits : Fits n o) where
  abbrev a : Assumptions
  a = complete o

  -- a free option is one of the n, and neither wanted nor unwanted
  free_within : Within (free n o) (first_vars n)
  unfolding free
  free_within = minus_within (first_vars n) (bit_or a.pos a.neg)

  free_apart : (k : ℕ) → has (free n o) k ≡ true → (has a.pos k ≡ false) × (has a.neg k ≡ false)
  unfolding free
  free_apart k h =
      let out = minus_out (first_vars n) (bit_or a.pos a.neg) k h in (
        refuted (has a.pos k) (λ p. both_ways (has (bit_or a.pos a.neg) k) (or_within_l a.pos a.neg k p) out),
        refuted (has a.neg k) (λ q. both_ways (has (bit_or a.pos a.neg) k) (or_within_r a.pos a.neg k q) out),
      )

  open_options : Within (bit_or (free n o) a.pos) (first_vars n)
  open_options = or_within (free n o) a.pos (first_vars n) free_within fits.wanted

  -- what can come is a choice among n options
  between_choice : (x : ℕ) → Between (free n o) a.pos x → x < 2 ^ n
  between_choice x b = within_lt n x (within_trans x (bit_or (free n o) a.pos) (first_vars n) b.only open_options)

  -- and keeps the order
  between_obeys : (x : ℕ) → Between (free n o) a.pos x → obeys x a ≡ true
  unfolding obeys
  between_obeys x b =
      and_both (is_zero (minus a.pos x)) (not (meets a.neg x)) (within_minus a.pos x b.fits)
      (ap not
      (meets_false_intro a.neg x
      (λ k q.
      refuted (has x k)
      (λ h.
      ⊎_elim (λ f. both_ways (has a.neg k) q (free_apart k f).1) (λ p. both_ways (has a.neg k) q (fits.apart k p)) (in_or (free n o) a.pos k (b.only k h))))))

  -- a choice that keeps the order can come
  obeys_between : (x : ℕ) → x < 2 ^ n → obeys x a ≡ true → Between (free n o) a.pos x
  unfolding obeys free
  obeys_between x few e =
      let wanted : Within a.pos x = minus_empty a.pos x (and_left (is_zero (minus a.pos x)) (not (meets a.neg x)) e) in
      let unwanted : (k : ℕ) → has a.neg k ≡ true → has x k ≡ false = meets_false a.neg x (not-true (meets a.neg x) (and_right (is_zero (minus a.pos x)) (not (meets a.neg x)) e)) in
      record { fits = wanted; only = λ k h. go k (has (bit_or a.pos a.neg) k) refl h (lt_within n x few k h) (unwanted k) }
    where
      go : (k : ℕ) (b : Bool) → has (bit_or a.pos a.neg) k ≡ b → has x k ≡ true → has (first_vars n) k ≡ true → (has a.neg k ≡ true → has x k ≡ false) →
          has (bit_or (minus (first_vars n) (bit_or a.pos a.neg)) a.pos) k ≡ true
      go k false e h below unwanted =
          or_within_l (minus (first_vars n) (bit_or a.pos a.neg)) a.pos k (in_minus (first_vars n) (bit_or a.pos a.neg) k below e)
      go k true e h below unwanted =
          ⊎_elim
          (or_within_r (minus (first_vars n) (bit_or a.pos a.neg)) a.pos k)
          (λ q. both_ways (has x k) h (unwanted q))
          (in_or a.pos a.neg k e)

  module _ (cs opens : List Clause) (prices : List ℕ) (priced : Priced n prices) (narrowed : Narrowed (free n o) a.pos cs opens) (r : Option Plan)
      (improved : Improved (λ y. models y opens) (list_total prices n) (Between (free n o) a.pos) None r) where
    abbrev cost : ℕ → ℕ
    cost = list_total prices n

    -- of what can come the open clauses decide
    opens_same : (y : ℕ) → Between (free n o) a.pos y → models y opens ≡ models y cs
    opens_same y b = ap (models y) narrowed.are ∙ opens_decide (free n o) a.pos cs y b

    -- a choice that keeps all comes after the best plan
    comes_after : (q : Option Plan) → r ≡ q → (y : ℕ) → y < 2 ^ n → keeps cs a y ≡ true → Leads q (cost y) y
    unfolding keeps
    comes_after q e y few k =
        let b = obeys_between y few (and_left (obeys y a) (models y cs) k) in
        subst (λ s. Leads s (cost y) y) e (improved.first y b (opens_same y b ∙ and_right (obeys y a) (models y cs) k))

    -- the best plan is that of a choice that can come
    is_of : (p : Plan) → r ≡ Some p → PlanOf (λ y. models y opens) cost (Between (free n o) a.pos) p
    is_of p e = ⊎_elim (λ none. clash (cc (none, e))) (λ h. let same : h.0 ≡ p = cc (h.1, e) in subst (PlanOf (λ y. models y opens) cost (Between (free n o) a.pos)) same h.2) improved.from

    found : Found n cs o prices r
    unfolding keeps
    found =
        record {
          in_reach = λ p e. omega (arith, (is_of p e).total, total_bound prices n priced.in_range p.choice, priced.few);
          none = λ e. is_none (keeps cs a) cost (2 ^ n) (comes_after None e);
          some = λ p e.
              let of = is_of p e in (
                is_least (keeps cs a) cost (2 ^ n) p.choice
                    (record {
                      below = between_choice p.choice of.among;
                      is_kept_one = and_both (obeys p.choice a) (models p.choice cs) (between_obeys p.choice of.among) (sym (opens_same p.choice of.among) ∙ of.is_kept_one);
                      first = λ y few k. subst (λ c. Before c p.choice (cost y) y) of.total (comes_after (Some p) e y few k);
                    }),
                of.total,
              );
        }

  -- as the code has them: the free options and what is fitted, and the prices of the n options alone
  module _ (left fitted : ℕ) (el : left ≡ free n o) (ef : fitted ≡ a.pos) (prices own : List ℕ) (priced : Priced n prices) (long : length own ≡ n)
      (same : (k : ℕ) → k < n → get_or own k 0 ≡ get_or prices k 0) where
    pub opened : (u : List ℕ) (m : ℕ) → m ≤ max_clauses → clause_words m ≤ length u → Opened u m (length own) own left fitted
    opened u m few room =
        rw (el, ef, long)
        (record {
          few = few;
          room = room;
          priced = record { few = priced.few; all = omega (arith, long); in_range = λ k less. rw (same k less) (priced.in_range k less) };
          options = open_options;
          apart = λ k h. (free_apart k h).0;
        })

    pub found_least : (cs : List Clause) (u : List ℕ) (m : ℕ) → Narrowed left fitted cs (clauses u m) → (r : Option Plan) → Searched u m (length own) own left fitted r → Found n cs o prices r
    found_least cs u m narrowed r s =
        found cs (clauses u m) prices priced (rw (el, ef) at narrowed) r
        (same_costs (λ y. models y (clauses u m)) (list_total own n) (list_total prices n) (total_same own prices n same) (Between (free n o) a.pos) None r (rw (el, ef, long) at s.improved))
