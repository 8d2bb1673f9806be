-- The demands on sites. A site's reply is that of its order asked singly, with the allowance that the replies before it leave (`Serving`); the demands on a single check
-- (crate `contract`) are those on each site.
use mathlib.Core.Path.{◌≡◌, refl, sym, ap, ap₂, subst⁻¹, ◌∙◌}
use mathlib.Core.List.{List, [], ◌∷◌, ◌++◌}
use Prim.Native.Nat.{ℕ, suc, ◌+◌, ◌-◌, ◌*◌, ◌/◌, ◌%◌, ◌≤◌}
use native.Mathlib.Nat.{mul-zero, mul-suc, div-add-mod', mod-lt}
use native.Mathlib.Omega.{arith}
use lib.ListN.{length, length-append}
use Rattle.order.specs.Order.{Order}
use Rattle.answer.specs.Answer.{tally_in}
use Rattle.contract.specs.Check.{Lengths, check}
use Rattle.contract.specs.Filled.{Tables, lengths, answer_of, filled, Checked}
use Rattle.contract.specs.Demands.{first_places}
use Rattle.contract.proofs.Asked.{counted_same, refused_first, demanded}
use Rattle.sites.specs.Sites.{Site, Reply, used_in, reply_to, Replies.served}
use Rattle.sites.specs.Demands.{Used, used_by, Divided, FirstHas, unused_by, allowance_after, Stands, EverySite, AskedWith, EachSingly, Sum, SameReply, OthersNoPart, CarryOver, PartBuys, Buying, Demands}
use Rattle.sites.proofs.Serving.{used_within, served_with, sites_served, served_are, Own, own_of, placed, twenty_one}
use Rattle.sites.proofs.Calling.{opening, none_to_come, any_terminal, one_by_one, after_the_last, run_of_calls, sum_with}
use Rattle.sites.proofs.Handing.{taking_opening, taking_sites, taking_all}
use Rattle.sites.proofs.Examples.{examples}

-- ---- allowances

pub used : Used
used c j = record { can = refl; cannot = refl; stopped = refl; refused = refl }

pub divided : Divided
divided whole k h = (sym (div-add-mod' whole k), mod-lt whole h)

pub first_has : FirstHas
first_has whole k = omega (arith, mul-zero (whole / k))

-- ---- each site by itself

pub every_site : EverySite
every_site bytes whole before after s m =
    let ss : List Site = before ++ (s ∷ after) in
    let k : ℕ = length ss in
    let x = placed bytes (whole / k) before after s (whole % k) in (
      x.0,
      x.1,
      record {
        before = before;
        after = after;
        later = x.2;
        listed = refl;
        replies = sites_served bytes whole ss m ∙ ap served x.3;
        as_many = x.4;
      },
    )

-- a reply is that of a check
checked_by :
    (bytes : List ℕ) (allowance : ℕ) (s : Site) (own : Reply) → own ≡ reply_to bytes allowance s →
    Checked bytes s.order allowance s.tables own.answer own.tables
unfolding reply_to
checked_by bytes allowance s own e = record { answer = ap (λ (r : Reply). r.answer) e; tables = ap (λ (r : Reply). r.tables) e }

-- the branchings of one more reply
used_more : (rs : List Reply) (r : Reply) → used_by (rs ++ (r ∷ [])) ≡ used_by rs + used_in r.answer
used_more [] r = omega arith
used_more (x ∷ rs) r = let rest = used_more rs r in omega (arith, rest)

module _ (bytes : List ℕ) (whole : ℕ) (ss : List Site) (s : Site) (earlier : List Reply) (own : Reply) (stands : Stands bytes whole ss s earlier own) where
  abbrev k : ℕ
  k = length ss

  abbrev allowance : ℕ
  allowance = allowance_after whole k earlier

  own_is : Own bytes (whole / k) (whole % k) s earlier own
  own_is =
      let rs = (served_are bytes whole ss _ stands.replies).1 in
      own_of bytes (whole / k) stands.before stands.after s (whole % k) earlier stands.later own
      (ap (served_with bytes (whole / k) (whole % k)) (sym stands.listed) ∙ sym rs)
      stands.as_many

  asked : Checked bytes s.order allowance s.tables own.answer own.tables
  asked = checked_by bytes allowance s own own_is.reply

  asked_with : AskedWith bytes whole k s earlier own
  asked_with =
      let cut : used_by earlier ≤ whole / k * length earlier + whole % k = own_is.nothing_cut_off in
      let few : used_in own.answer ≤ allowance =
      subst⁻¹ (λ (r : Reply). used_in r.answer ≤ allowance) own_is.reply (used_within bytes allowance s)
      in
      let many : length (earlier ++ (own ∷ [])) ≡ suc (length earlier) = length-append earlier (own ∷ []) ∙ omega arith in
      let parts : whole / k * length (earlier ++ (own ∷ [])) ≡ whole / k * length earlier + whole / k = ap (λ (n : ℕ). whole / k * n) many ∙ mul-suc (whole / k) (length earlier) in
      let all = used_more earlier own in
      let rest : unused_by whole k (earlier ++ (own ∷ [])) ≡ allowance - used_in own.answer = omega (arith, cut, few, parts, all) in
      record {
        singly = asked;
        nothing_cut_off = cut;
        at_least_part = omega arith;
        no_more = few;
        rest = rest;
        refused = λ j e. let none : used_in own.answer ≡ 0 = ap used_in e in omega (arith, rest, none);
      }

  part_buys : PartBuys bytes (whole / k) s own
  part_buys =
      let d = demanded bytes s.order allowance s.tables own.answer own.tables asked (lengths s.tables) refl in
      record {
        enough = λ r settled p e. (d.bought r settled p).enough (omega (arith, e.0), e.1);
        always = λ n e f. d.always n (omega (arith, e)) f;
      }

pub each_singly : EachSingly
each_singly = asked_with

pub buying : Buying
buying = part_buys

pub sum : Sum
sum bytes whole ss rs e = subst⁻¹ (λ (x : List Reply). used_by x ≤ whole) (served_are bytes whole ss rs e).1 (sum_with bytes whole ss)

pub carry_over : CarryOver
carry_over bytes whole ss s earlier own stands =
    let c = asked bytes whole ss s earlier own stands in
    let a : ℕ = allowance_after whole (length ss) earlier in (
      demanded bytes s.order a s.tables own.answer own.tables c (lengths s.tables) refl,
      refused_first bytes s.order a s.tables own.answer own.tables c (lengths s.tables) refl,
    )

-- ---- the others

-- two sites with the same order, allowance and lengths of tables
same_reply :
    (bytes : List ℕ) (o : Order) (allowance : ℕ) (s s' : Site) (own own' : Reply) → lengths s.tables ≡ lengths s'.tables →
    Checked bytes o allowance s.tables own.answer own.tables → Checked bytes o allowance s'.tables own'.answer own'.tables →
    SameReply s s' own own'
same_reply bytes o allowance s s' own own' long c c' =
    let first : Tables → Tables = first_places (tally_in own.answer) in
    record {
      answer = c.answer ∙ ap (λ (l : Lengths). answer_of (check bytes o allowance l)) long ∙ sym c'.answer;
      counted =
          ap first c.tables
          ∙ counted_same bytes o allowance s.tables s'.tables long (tally_in own.answer) (ap tally_in c.answer)
          ∙ sym (ap first c'.tables);
      all = λ f. c.tables ∙ ap (λ (t : Tables). filled (check bytes o allowance (lengths t)) t) f ∙ sym c'.tables;
    }

pub others_no_part : OthersNoPart
others_no_part bytes whole ss ss' s s' earlier earlier' own own' st st' many o long unused =
    let a : ℕ = allowance_after whole (length ss) earlier in
    let a' : ℕ = allowance_after whole (length ss') earlier' in
    let same : a ≡ a' = ap₂ (λ (n u : ℕ). whole / n + u) many unused in
    let c' : Checked bytes s.order a s'.tables own'.answer own'.tables =
    subst⁻¹ (λ (x : Order). Checked bytes x a s'.tables own'.answer own'.tables) o
    (subst⁻¹ (λ (x : ℕ). Checked bytes s'.order x s'.tables own'.answer own'.tables) same (asked bytes whole ss' s' earlier' own' st'))
    in
    same_reply bytes s.order a s s' own own' long (asked bytes whole ss s earlier own st) c'

-- ---- all of them

pub demands : Demands
demands =
    record {
      twenty_one = twenty_one;
      opening = opening;
      used = used;
      divided = divided;
      first_has = first_has;
      every_site = every_site;
      each_singly = each_singly;
      sum = sum;
      others_no_part = others_no_part;
      carry_over = carry_over;
      buying = buying;
      run_of_calls = run_of_calls;
      one_by_one = one_by_one;
      none_to_come = none_to_come;
      after_the_last = after_the_last;
      any_terminal = any_terminal;
      taking_opening = taking_opening;
      taking_sites = taking_sites;
      taking_all = taking_all;
      examples = examples;
    }
