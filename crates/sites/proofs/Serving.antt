-- The definition over the list: a part and what was left unused go from site to site. What is left unused before a site is the parts of the sites before it and the
-- remainder, less what these used.
use mathlib.Core.Path.{◌≡◌, refl, sym, ap, ◌∙◌}
use mathlib.Core.Bool.{Bool, true, false}
use mathlib.Core.List.{List, [], ◌∷◌, ◌++◌}
use Prim.Native.Nat.{ℕ, suc, ◌+◌, ◌-◌, ◌*◌, ◌/◌, ◌%◌, ◌≤◌}
use native.Mathlib.Nat.{add-zero, mul-zero, mul-suc}
use native.Mathlib.Omega.{arith}
use borrow.Author.Tests.{ltb-false, le-ltb}
use lib.Dec.{ltb}
use lib.ListN.{length}
use Rattle.words.proofs.Truth.{both_ways, clash, confirmed, or_neither}
use Rattle.contract.specs.Filled.{lengths}
use Rattle.contract.proofs.Asked.{branchings_within}
use Rattle.sites.specs.Sites.{Site, Reply, max_sites, sites_fault, used_in, reply_to, served_from, Replies.turned_away, Replies.served, sites}
use Rattle.sites.specs.Demands.{OneToEight, Turned, TwentyOne, used_by}

-- ---- 21

-- the test fails exactly for 1 to 8
pub passing : (k : ℕ) → sites_fault k ≡ false → OneToEight k
unfolding sites_fault
passing k e = let x = or_neither (ltb k 1) (ltb max_sites k) e in record { one = ltb-false k 1 x.0; eight = ltb-false max_sites k x.1 }

pub passes : (k : ℕ) → OneToEight k → sites_fault k ≡ false
unfolding sites_fault
passes k m = rw (le-ltb k 1 m.one, le-ltb max_sites k m.eight) refl

pub turned : (k : ℕ) → (OneToEight k → ⊥) → sites_fault k ≡ true
turned k n = confirmed (sites_fault k) (λ e. n (passing k e))

-- ---- the list

-- no site uses more than its allowance
pub used_within : (bytes : List ℕ) (allowance : ℕ) (s : Site) → used_in (reply_to bytes allowance s).answer ≤ allowance
unfolding reply_to
used_within bytes allowance s = branchings_within bytes s.order allowance (lengths s.tables)

module _ (bytes : List ℕ) where
  -- the sites, each with the part and what was left unused before it
  abbrev pub served_with : ℕ → ℕ → List Site → List Reply
  served_with part unused [] = []
  served_with part unused (s ∷ ss) =
      let reply : Reply = reply_to bytes (part + unused) s in reply ∷ served_with part (part + unused - used_in reply.answer) ss

  with_length : (part unused : ℕ) (ss : List Site) → length (served_with part unused ss) ≡ length ss
  with_length part unused [] = refl
  with_length part unused (s ∷ ss) = ap suc (with_length part (part + unused - used_in (reply_to bytes (part + unused) s).answer) ss)

  -- so are those after the first
  later_with : (whole k i unused : ℕ) (ss : List Site) → served_from bytes whole k (suc i) unused ss ≡ served_with (whole / k) unused ss
  later_with whole k i unused [] = refl
  later_with whole k i unused (s ∷ ss) = ap (λ (rs : List Reply). reply_to bytes (whole / k + unused) s ∷ rs) (later_with whole k (suc i) _ ss)

  -- and all, where the remainder is the first's
  from_with : (whole k : ℕ) (ss : List Site) → served_from bytes whole k 0 0 ss ≡ served_with (whole / k) (whole % k) ss
  from_with whole k [] = refl
  from_with whole k (s ∷ ss) =
      let first : ℕ → Reply = λ (a : ℕ). reply_to bytes a s in
      ap (λ (a : ℕ). first a ∷ served_from bytes whole k 1 (a - used_in (first a).answer) ss) (add-zero (whole / k + whole % k))
      ∙ ap (λ (rs : List Reply). first (whole / k + whole % k) ∷ rs) (later_with whole k 0 _ ss)

  module _ (whole : ℕ) (ss : List Site) where
    pub sites_turned : (OneToEight (length ss) → ⊥) → sites bytes whole ss ≡ turned_away 21
    unfolding sites
    sites_turned n = rw (turned (length ss) n, sites) refl

    pub sites_served : OneToEight (length ss) → sites bytes whole ss ≡ served (served_with (whole / length ss) (whole % length ss) ss)
    unfolding sites
    sites_served m = rw (passes (length ss) m, sites) (ap served (from_with whole (length ss) ss))

    -- sites that were served
    pub served_are :
        (rs : List Reply) → sites bytes whole ss ≡ served rs → OneToEight (length ss) × (rs ≡ served_with (whole / length ss) (whole % length ss) ss)
    served_are rs e = go (sites_fault (length ss)) refl
      where
        go : (b : Bool) → sites_fault (length ss) ≡ b → OneToEight (length ss) × (rs ≡ served_with (whole / length ss) (whole % length ss) ss)
        go true f =
            let other : turned_away 21 ≡ served rs = sym (sites_turned (λ m. both_ways _ f (passes (length ss) m))) ∙ e in
            clash cc
        go false f =
            let m = passing (length ss) f in
            let same : served rs ≡ served (served_with (whole / length ss) (whole % length ss) ss) = sym e ∙ sites_served m in
            (m, cc)

pub twenty_one : TwentyOne
twenty_one bytes whole ss = go (sites_fault (length ss)) refl
  where
    many : (rs : List Reply) → sites bytes whole ss ≡ served rs → length rs ≡ length ss
    many rs f = ap length (served_are bytes whole ss rs f).1 ∙ with_length bytes _ _ ss

    go : (b : Bool) → sites_fault (length ss) ≡ b → Turned bytes whole ss
    go true e =
        let no : OneToEight (length ss) → ⊥ = λ m. both_ways _ e (passes (length ss) m) in
        let away = sites_turned bytes whole ss no in
        record {
          refused = λ j. (
            λ f. let same : turned_away 21 ≡ turned_away j = sym away ∙ f in (cc, no),
            λ x. away ∙ ap turned_away (sym x.0),
          );
          all_served = (λ m. absurd (no m), λ x. (served_are bytes whole ss x.0 x.1).0);
          as_many = many;
        }
    go false e =
        let m = passing (length ss) e in
        let all = sites_served bytes whole ss m in
        record {
          refused = λ j. (
            λ f. let other : served (served_with bytes (whole / length ss) (whole % length ss) ss) ≡ turned_away j = sym all ∙ f in clash cc,
            λ x. absurd (x.1 m),
          );
          all_served = (λ n. (served_with bytes (whole / length ss) (whole % length ss) ss, all), λ x. m);
          as_many = many;
        }

-- ---- one site of the list

-- the site's reply, after the sites that were given `earlier`, where so much was left unused before the first of these
pub record Own (bytes : List ℕ) (part unused : ℕ) (s : Site) (earlier : List Reply) (own : Reply) : Type 0 where
  pub reply : own ≡ reply_to bytes (part + (part * length earlier + unused - used_by earlier)) s
  pub nothing_cut_off : used_by earlier ≤ part * length earlier + unused

module _ (bytes : List ℕ) (part : ℕ) where
  abbrev after : ℕ → Site → ℕ
  after unused s = part + unused - used_in (reply_to bytes (part + unused) s).answer

  -- a site at the head, and one further on
  here : (s : Site) (unused : ℕ) (own : Reply) → own ≡ reply_to bytes (part + unused) s → Own bytes part unused s [] own
  here s unused own e =
      let none : part * 0 + unused - 0 ≡ unused = omega (arith, mul-zero part) in
      record { reply = e ∙ ap (λ (x : ℕ). reply_to bytes (part + x) s) (sym none); nothing_cut_off = omega arith }

  further :
      (b s : Site) (unused : ℕ) (x : Reply) (earlier : List Reply) (own : Reply) → x ≡ reply_to bytes (part + unused) b →
      Own bytes part (after unused b) s earlier own → Own bytes part unused s (x ∷ earlier) own
  further b s unused x earlier own e o =
      let used : used_in x.answer ≡ used_in (reply_to bytes (part + unused) b).answer = ap (λ (y : Reply). used_in y.answer) e in
      let within : used_in (reply_to bytes (part + unused) b).answer ≤ part + unused = used_within bytes (part + unused) b in
      let more : part * suc (length earlier) ≡ part * length earlier + part = mul-suc part (length earlier) in
      let cut : used_by earlier ≤ part * length earlier + after unused b = o.nothing_cut_off in
      let same : part * length earlier + after unused b - used_by earlier ≡ part * suc (length earlier) + unused - (used_in x.answer + used_by earlier) = omega (arith, used, within, more, cut) in
      record {
        reply = o.reply ∙ ap (λ (y : ℕ). reply_to bytes (part + y) s) same;
        nothing_cut_off = omega (arith, used, within, more, cut);
      }

  pub own_of :
      (before after : List Site) (s : Site) (unused : ℕ) (earlier later : List Reply) (own : Reply) →
      served_with bytes part unused (before ++ (s ∷ after)) ≡ earlier ++ (own ∷ later) → length earlier ≡ length before → Own bytes part unused s earlier own
  own_of [] more s unused [] later own e many = here s unused own cc
  own_of [] more s unused (x ∷ earlier) later own e many = absurd (omega (arith, many))
  own_of (b ∷ before) more s unused [] later own e many = absurd (omega (arith, many))
  own_of (b ∷ before) more s unused (x ∷ earlier) later own e many =
      let fewer : length earlier ≡ length before = omega (arith, many) in
      let first : x ≡ reply_to bytes (part + unused) b = cc in
      let rest : served_with bytes part (after unused b) (before ++ (s ∷ more)) ≡ earlier ++ (own ∷ later) = cc in
      further b s unused x earlier own first (own_of before more s (after unused b) earlier later own rest fewer)

  -- every site has a place among the replies
  pub placed :
      (before after : List Site) (s : Site) (unused : ℕ) →
      (earlier : List Reply) × (own : Reply) × (later : List Reply) ×
      (served_with bytes part unused (before ++ (s ∷ after)) ≡ earlier ++ (own ∷ later)) × (length earlier ≡ length before)
  placed [] more s unused = ([], reply_to bytes (part + unused) s, served_with bytes part (after unused s) more, refl, refl)
  placed (b ∷ before) more s unused =
      let x = placed before more s (after unused b) in
      let first : Reply = reply_to bytes (part + unused) b in
      (first ∷ x.0, x.1, x.2, ap (λ (rs : List Reply). first ∷ rs) x.3, ap suc x.4)
