-- What a choice keeps, what it becomes keeps. A literal that is true under a choice has a counterpart: the literal of the option's new number, with the same sign, or with the
-- other where the option is reversed. An order is kept exactly if the rule that forbids it is not, so what holds of rules holds of orders. Every choice of the new numbers is
-- read back option by option.
use mathlib.Core.Path.{◌≡◌, refl, sym, ap, ap₂, subst, ◌∙◌}
use mathlib.Core.Bool.{Bool, true, false, not, ◌&&◌, ◌||◌}
use mathlib.Core.List.Memᴰ
use mathlib.Core.List.{List, [], ◌∷◌}
use Prim.Native.Nat.{ℕ, ◌^◌, ◌<◌}
use Rattle.words.specs.Words.{is_zero, has, minus, meets, first_vars, Within}
use Rattle.words.proofs.Truth.{iff}
use Rattle.words.proofs.Sets.{or_within, or_within_l, or_within_r, minus_within, within_lt, lt_within, within_antisym}
use Rattle.steps.specs.Clause.{Clause, literals, vars}
use Rattle.steps.specs.Run.{Assumptions}
use Rattle.steps.specs.Meaning.{satisfies, models, obeys, Builds}
use Rattle.steps.specs.Shape.{AllProper}
use Rattle.steps.proofs.Models.{Satisfied, Satisfied.at, satisfies_true, true_satisfies}
use Rattle.renaming.specs.Renaming.{preimage}
use Rattle.renaming.proofs.Images.{way_back, preimage_below, first_below, in_first}
use Rattle.renumbering.specs.Renumbering.{Renumbering, Permutes, exchanged, renumbered_rule, renumbered_order, renumbered_choice, renumbered_rules}
use Rattle.renumbering.specs.Demands.{Keeping, Building, OneToOne, EveryChoice}
use Rattle.renumbering.proofs.Permutations.{every_number}
use Rattle.renumbering.proofs.Carrying.{exchanged_stays, exchanged_changes, left_out, twice, carried_stays, carried_changes, carried_from, renumbers}

-- a sign, turned over where the option is reversed
turned : Bool → Bool → Bool
turned true b = not b
turned false b = b

turned_back : (r b : Bool) → turned r (turned r b) ≡ b
unfolding turned
turned_back true b = twice b
turned_back false b = refl

-- ---- a rule

module _ (m : Renumbering) (n : ℕ) (p : Permutes m.number n) where
  -- the counterpart of a literal
  literal_at : (c : Clause) (b : Bool) (k : ℕ) → k < n → has (literals (turned (has m.reversed k) b) (renumbered_rule m n c)) (m.number k) ≡ has (literals b c) k
  unfolding renumbered_rule turned
  literal_at c b k h = go (has m.reversed k) refl b
    where
      go : (r : Bool) → has m.reversed k ≡ r → (b : Bool) → has (literals (turned r b) (renumbered_rule m n c)) (m.number k) ≡ has (literals b c) k
      go false e true = carried_stays m n p c.pos c.neg k h e
      go false e false = carried_stays m n p c.neg c.pos k h e
      go true e true = carried_changes m n p c.neg c.pos k h e
      go true e false = carried_changes m n p c.pos c.neg k h e

  literal_from : (c : Clause) (b : Bool) (j : ℕ) → has (literals b (renumbered_rule m n c)) j ≡ true → (k : ℕ) × (k < n) × (m.number k ≡ j)
  unfolding renumbered_rule
  literal_from c true j h = carried_from m n p c.pos c.neg j h
  literal_from c false j h = carried_from m n p c.neg c.pos j h

  -- and of an option's value
  value_at : (x k : ℕ) → k < n → has (renumbered_choice m n x) (m.number k) ≡ turned (has m.reversed k) (has x k)
  unfolding turned
  value_at x k h = go (has m.reversed k) refl
    where
      go : (r : Bool) → has m.reversed k ≡ r → has (renumbered_choice m n x) (m.number k) ≡ turned r (has x k)
      go false e = (((renumbers m n p).choice x k h).stay e).0
      go true e = (((renumbers m n p).choice x k h).change e).0

  module _ (x : ℕ) (c : Clause) where
    forth : Within (vars c) (first_vars n) → Satisfied x c → Satisfied (renumbered_choice m n x) (renumbered_rule m n c)
    unfolding vars
    forth named (at k b l h) =
        let less = first_below n k (named k (below b l)) in
        at (m.number k) (turned (has m.reversed k) b) (literal_at c b k less ∙ l) (value_at x k less ∙ ap (turned (has m.reversed k)) h)
      where
        below : (b : Bool) → has (literals b c) k ≡ true → has (vars c) k ≡ true
        below true l = or_within_l c.pos c.neg k l
        below false l = or_within_r c.pos c.neg k l

    back : Satisfied (renumbered_choice m n x) (renumbered_rule m n c) → Satisfied x c
    back (at j b l h) =
        let i = literal_from c b j l in
        let k = i.0 in
        let r = has m.reversed k in
        let there : has (literals (turned r (turned r b)) (renumbered_rule m n c)) (m.number k) ≡ true =
        ap₂ (λ s v. has (literals s (renumbered_rule m n c)) v) (turned_back r b) i.2 ∙ l
        in
        at k (turned r b) (sym (literal_at c (turned r b) k i.1) ∙ there)
        (sym (turned_back r (has x k)) ∙ ap (turned r) (sym (value_at x k i.1) ∙ ap (has (renumbered_choice m n x)) i.2 ∙ h))

    kept : Within (vars c) (first_vars n) → satisfies (renumbered_choice m n x) (renumbered_rule m n c) ≡ satisfies x c
    kept named =
        iff _ _ (λ e. true_satisfies x c (back (satisfies_true _ _ e))) (λ e. true_satisfies _ _ (forth named (satisfies_true x c e)))

  all_kept : (x : ℕ) (cs : List Clause) → AllProper n cs → models (renumbered_choice m n x) (renumbered_rules m n cs) ≡ models x cs
  all_kept x [] all = refl
  all_kept x (c ∷ cs) all = ap₂ ◌&&◌ (kept x c (all c (Memᴰ.head refl)).named) (all_kept x cs (λ d i. all d (Memᴰ.tail i)))

-- ---- an order

-- the rule that forbids the order: one of its wishes is not kept
abbrev forbids : Assumptions → Clause
forbids o = record { pos = o.neg; neg = o.pos }

obeys_forbids : (x : ℕ) (o : Assumptions) → obeys x o ≡ not (satisfies x (forbids o))
unfolding obeys satisfies
obeys_forbids x o = neither (is_zero (minus o.pos x)) (meets o.neg x)
  where
    neither : (z b : Bool) → (z && not b) ≡ not (b || not z)
    neither true true = refl
    neither true false = refl
    neither false true = refl
    neither false false = refl

obeyed : (m : Renumbering) (n : ℕ) → Permutes m.number n → (x : ℕ) (o : Assumptions) → Within o.pos (first_vars n) → Within o.neg (first_vars n) →
    obeys (renumbered_choice m n x) (renumbered_order m n o) ≡ obeys x o
unfolding renumbered_order renumbered_rule vars
obeyed m n p x o wanted unwanted =
    obeys_forbids _ _
    ∙ ap not (kept m n p x (forbids o) (or_within o.neg o.pos (first_vars n) unwanted wanted))
    ∙ sym (obeys_forbids x o)

pub keeping : Keeping
keeping m n rules o p input x h =
    let all = all_kept m n p x rules input.book_proper in
    let wishes = obeyed m n p x o input.wanted input.unwanted in (
      λ b. record { choice = (renumbers m n p).choice_of x; rules = all ∙ b.rules; order = wishes ∙ b.order },
      λ b. record { choice = h; rules = sym all ∙ b.rules; order = sym wishes ∙ b.order },
    )

-- ---- every choice

module _ (m : Renumbering) (n : ℕ) (p : Permutes m.number n) where
  -- words of the first n options that agree on each of them
  agreeing : (x y : ℕ) → Within x (first_vars n) → Within y (first_vars n) → ((k : ℕ) → k < n → has x k ≡ has y k) → x ≡ y
  agreeing x y f g same =
      within_antisym x y
      (λ k h. sym (same k (first_below n k (f k h))) ∙ h)
      (λ k h. same k (first_below n k (g k h)) ∙ h)

  module _ (y : ℕ) (small : y < 2 ^ n) where
    -- what y says of each option under its new number
    abbrev read : ℕ
    read = preimage m.number n y

    -- with the reversed ones turned over
    abbrev old : ℕ
    old = exchanged m.reversed read (minus (first_vars n) read)

    old_at : (k : ℕ) → k < n → has old k ≡ turned (has m.reversed k) (has y (m.number k))
    unfolding turned
    old_at k h = go (has m.reversed k) refl
      where
        go : (r : Bool) → has m.reversed k ≡ r → has old k ≡ turned r (has y (m.number k))
        go false e = exchanged_stays m.reversed read _ k e ∙ way_back m.number n y k h
        go true e = exchanged_changes m.reversed read _ k e ∙ left_out n read k h ∙ ap not (way_back m.number n y k h)

    old_within : Within old (first_vars n)
    old_within k h = go (has m.reversed k) refl
      where
        go : (r : Bool) → has m.reversed k ≡ r → has (first_vars n) k ≡ true
        go false e = in_first n k (preimage_below m.number n y k (sym (exchanged_stays m.reversed read _ k e) ∙ h)).0
        go true e = minus_within (first_vars n) read k (sym (exchanged_changes m.reversed read _ k e) ∙ h)

    becomes : renumbered_choice m n old ≡ y
    becomes =
        agreeing _ y (lt_within n _ ((renumbers m n p).choice_of old)) (lt_within n y small)
        (λ j h.
        let i = every_number m.number n j p h in
        subst (λ v. has (renumbered_choice m n old) v ≡ has y v) i.2
        (value_at m n p old i.0 i.1 ∙ ap (turned (has m.reversed i.0)) (old_at i.0 i.1) ∙ turned_back (has m.reversed i.0) _))

    one : OneToOne m n y
    one =
        record {
          old = old;
          choice = within_lt n old old_within;
          becomes = becomes;
          no_other =
              λ x h e.
              agreeing x old (lt_within n x h) old_within
              (λ k less.
              let r = has m.reversed k in
              sym (turned_back r (has x k))
              ∙ ap (turned r) (sym (value_at m n p x k less) ∙ ap (λ z. has z (m.number k)) e)
              ∙ sym (old_at k less));
        }

pub every_choice : EveryChoice
every_choice m n y p small = one m n p y small

pub building : Building
building m n rules o p input = (
  λ b. (renumbered_choice m n b.0, (keeping m n rules o p input b.0 b.1.choice).0 b.1),
  λ b.
      let i = every_choice m n b.0 p b.1.choice in
      (i.old, (keeping m n rules o p input i.old i.choice).1 (subst (Builds n (renumbered_rules m n rules) (renumbered_order m n o)) (sym i.becomes) b.1)),
)
