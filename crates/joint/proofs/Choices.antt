-- A joint book that was written, and its choices. Its books are well formed and its pairs faultless; the places take the second's options apart from each other into
-- the joint ones. So its rules are proper, a choice keeps them exactly if its parts keep theirs, and two choices that agree on the pairs are put together by taking
-- the first as it is and the second in its places.
use mathlib.Core.Path.{◌≡◌, refl, sym, ap, ap₂, subst, ◌∙◌}
use mathlib.Core.Bool.{Bool, true, false, ◌&&◌, and-true, and_assoc}
use mathlib.Core.List.Memᴰ
use mathlib.Core.List.{List, [], ◌∷◌, ◌++◌, map, Memᴰ}
use mathlib.Core.Logic.{◌⊎◌, inl, inr, ⊎_elim}
use mathlib.Core.Option.{none}
use Prim.Native.Nat.{ℕ, suc, ◌+◌, ◌-◌, ◌^◌, ◌<◌}
use native.Mathlib.Omega.{arith}
use borrow.Author.Tests.{ltb-true, ltb-false, lt-ltb}
use lib.Bits.{bit_and, bit_or}
use lib.Dec.{ltb}
use lib.ListN.{length, get_or, length-append, length-map}
use Rattle.words.specs.Words.{has, first_vars}
use Rattle.words.proofs.Truth.{refuted, iff}
use Rattle.words.proofs.Membership.{has_and, has_first_vars, ext}
use Rattle.words.proofs.Sets.{within_lt, lt_within, within_trans, in_or, or_within, or_within_l, or_within_r, and_within_r}
use Rattle.steps.specs.Clause.{Clause, vars}
use Rattle.steps.specs.Meaning.{satisfies, models}
use Rattle.steps.specs.Shape.{Proper, AllProper}
use Rattle.book.specs.Bytes.{vars_in, rules_in}
use Rattle.book.specs.Refusals.{first_row, book_rows}
use Rattle.book.specs.Reading.{WellFormed, read}
use Rattle.book.proofs.Refusals.{none_here, none_later, none_among, first_after}
use Rattle.book.proofs.Readings.{book_by}
use Rattle.book.proofs.Accepted.{bytes_book}
use Rattle.renaming.specs.Renaming.{image, renamed, preimage}
use Rattle.renaming.proofs.Images.{in_first, first_below, image_named, image_has, image_apart, image_within, preimage_below, way_back}
use Rattle.renaming.proofs.Keeping.{keeping_all, same_kept_all, stays_proper}
use Rattle.joint.specs.Pairs.{pair_count, option, place}
use Rattle.joint.specs.Join.{Book, book_in, Fitting, joint_vars, joint_count, joint_rules, joint_rows, join_rows}
use Rattle.joint.specs.Demands.{IsPair, Numbered, Parts, Agree, Parted, Met}
use Rattle.joint.proofs.Pairs.{fits}
use Rattle.joint.proofs.Places.{places_apart, places_into, place_cases}
use Rattle.joint.proofs.Numbers.{pair_below, pair_first, pair_second, is_pair, at_mem, numbered}
use Rattle.joint.proofs.Judging.{Faultless, faultless, fitting}

-- the first's rules, and then the second's in their places
pub joint_rules_lem : (a b : Book) (pairs : List ℕ) → joint_rules a b pairs ≡ a.rules ++ map (renamed (place a.vars pairs) b.vars) b.rules
unfolding joint_rules
joint_rules_lem a b pairs = refl

-- ---- books that can be joined

pub record Joinable (a b : Book) (pairs : List ℕ) (room : ℕ) : Type 0 where
  pub first : WellFormed a.vars a.rules
  pub second : WellFormed b.vars b.rules
  pub sides : Faultless a.vars b.vars pairs
  pub fits : Fitting (joint_vars a b pairs) (joint_count a b) room

-- bytes that no row refuses are a well-formed book
book_formed : (bytes : List ℕ) → first_row (book_rows bytes) ≡ none → WellFormed (vars_in bytes) (rules_in bytes)
unfolding read
book_formed bytes e = (bytes_book bytes (vars_in bytes) (rules_in bytes) (book_by (first_row (book_rows bytes)) (vars_in bytes) (rules_in bytes) e)).well_formed

pub joinable : (first second pairs : List ℕ) (room : ℕ) → first_row (join_rows first second pairs room) ≡ none → Joinable (book_in first) (book_in second) pairs room
joinable first second pairs room e =
    let a = book_in first in
    let b = book_in second in
    let joint = joint_rows a b pairs room in
    let one = none_among (book_rows first) (book_rows second ++ joint) e in
    let rest = sym (first_after (book_rows first) (book_rows second ++ joint) one) ∙ e in
    let two = none_among (book_rows second) joint rest in
    let last = sym (first_after (book_rows second) joint two) ∙ rest in
    record {
      first = book_formed first one;
      second = book_formed second two;
      sides = faultless a.vars b.vars pairs (none_here _ _ last);
      fits = fitting (joint_vars a b pairs) (joint_count a b) room (none_here _ _ (none_later _ _ last));
    }

module _ (a b : Book) (pairs : List ℕ) (room : ℕ) (j : Joinable a b pairs room) where
  abbrev n : ℕ
  n = a.vars

  abbrev m : ℕ
  m = b.vars

  -- the options of both
  abbrev N : ℕ
  N = joint_vars a b pairs

  abbrev f : ℕ → ℕ
  f = place n pairs

  pub numbers : Numbered n m pairs N f
  numbers = numbered n m pairs j.sides.first j.sides.second

  -- ---- the rules

  pub rules_count : length (joint_rules a b pairs) ≡ joint_count a b
  rules_count =
      ap length (joint_rules_lem a b pairs) ∙ length-append a.rules (map (renamed f m) b.rules)
      ∙ ap (λ k. length a.rules + k) (length-map b.rules (renamed f m))

  -- a rule of the first book is one of more options
  wider : (c : Clause) → Proper n c → Proper N c
  wider c p =
      record {
        named = within_trans (vars c) (first_vars n) (first_vars N) p.named (λ k h. in_first N k (omega (arith, first_below n k h)));
        consistent = p.consistent;
      }

  pub rules_proper : AllProper N (joint_rules a b pairs)
  rules_proper c member =
      ⊎_elim (λ h. wider c (j.first.proper c h))
      (λ h.
      let d = Memᴰ.of_map (renamed f m) b.rules h in
      subst (Proper N) d.2
      (stays_proper f m N d.0 (places_apart n m pairs j.sides.first j.sides.second) (places_into n m pairs j.sides.first j.sides.second)
      (j.second.proper d.0 d.1)))
      (Memᴰ.append_cases a.rules (subst (Memᴰ c) (joint_rules_lem a b pairs) member))

  pub rules_formed : WellFormed N (joint_rules a b pairs)
  rules_formed =
      record { vars_few = j.fits.vars; clauses_few = omega (arith, rules_count, j.fits.clauses); proper = rules_proper }

  -- ---- what the parts keep

  -- a choice keeps two lists of rules
  models_append : (x : ℕ) (cs ds : List Clause) → models x (cs ++ ds) ≡ (models x cs && models x ds)
  models_append x [] ds = refl
  models_append x (c ∷ cs) ds = ap (λ p. satisfies x c && p) (models_append x cs ds) ∙ sym (and_assoc (satisfies x c) (models x cs) (models x ds))

  pub kept : (x y z : ℕ) → Parts a b pairs x y z → models x (joint_rules a b pairs) ≡ (models y a.rules && models z b.rules)
  kept x y z p =
      ap (models x) (joint_rules_lem a b pairs) ∙ models_append x a.rules (map (renamed f m) b.rules)
      ∙ ap₂ ◌&&◌ (same_kept_all n x y a.rules j.first.proper p.of_first) (keeping_all f m x z b.rules j.second.proper p.of_second)

  -- the options of a pair are the books' own
  pair_options : (i v k : ℕ) → IsPair pairs i (suc v) (suc k) → (v < n) × (k < m) × (v ≡ f k)
  pair_options i v k pair =
      let less = pair_below pairs i (suc v) (suc k) pair in
      let g = fits 0 pairs n (pair_count pairs) j.sides.first i less in
      let h = fits 1 pairs m (pair_count pairs) j.sides.second i less in (
        omega (arith, g.high, pair_first pairs i (suc v) (suc k) pair),
        omega (arith, h.high, pair_second pairs i (suc v) (suc k) pair),
        omega (arith, numbers.partner i (suc v) (suc k) k pair refl),
      )

  -- ---- from a choice to its parts

  cut_below : (w x k : ℕ) → k < w → has (bit_and x (first_vars w)) k ≡ has x k
  cut_below w x k h = has_and x (first_vars w) k ∙ rw (has_first_vars w k, lt-ltb k w h) (and-true (has x k))

  pub parted : (x : ℕ) → x < 2 ^ N → Parted a b pairs x
  parted x h =
      record {
        y = bit_and x (first_vars n);
        z = preimage f m x;
        parts = parts;
        agree = λ i v k pair.
            let o = pair_options i v k pair in
            parts.of_first v o.0 ∙ ap (has x) o.2 ∙ sym (parts.of_second k o.1);
      }
    where
      parts : Parts a b pairs x (bit_and x (first_vars n)) (preimage f m x)
      parts =
          record {
            choice = h;
            first_choice = within_lt n (bit_and x (first_vars n)) (and_within_r x (first_vars n));
            second_choice = within_lt m (preimage f m x) (λ k e. in_first m k (preimage_below f m x k e).0);
            of_first = cut_below n x;
            of_second = way_back f m x;
          }

  -- ---- from two choices that agree to one

  module _ (y z : ℕ) (hy : y < 2 ^ n) (hz : z < 2 ^ m) (agree : Agree pairs y z) where
    abbrev both : ℕ
    both = bit_or y (image f m z)

    -- no option above its book's is chosen
    chosen_below : (w x k : ℕ) → x < 2 ^ w → has x k ≡ true → k < w
    chosen_below w x k h e = first_below w k (lt_within w x h k e)

    -- where the places meet the first book's options, the choices agree
    placed_agree : (k : ℕ) → k < m → f k < n → has y (f k) ≡ has z k
    placed_agree k hk low =
        ⊎_elim
        (λ p.
        let i = p.pair in
        let g = fits 0 pairs n (pair_count pairs) j.sides.first i p.below in
        let first : option 0 pairs i ≡ suc (f k) = omega (arith, p.first, g.low) in
        agree i (f k) k (pair_with i (f k) k p.below first p.second))
        (λ u. absurd (omega (arith, u.1)))
        (place_cases n m pairs j.sides.first j.sides.second k)
      where
        pair_with : (i v w : ℕ) → i < pair_count pairs → option 0 pairs i ≡ suc v → option 1 pairs i ≡ suc w → IsPair pairs i (suc v) (suc w)
        pair_with i v w h e g = let q = is_pair pairs i h in record { whole = q.whole; first = q.first ∙ e; second = q.second ∙ g }

    both_first : (k : ℕ) → k < n → has y k ≡ has both k
    both_first k h =
        iff (has y k) (has both k) (or_within_l y (image f m z) k)
        (λ e.
        ⊎_elim (λ t. t)
        (λ t.
        let i = image_named f m z k t in
        ap (has y) (sym i.number) ∙ placed_agree i.var i.below (subst (λ v. v < n) (sym i.number) h) ∙ i.member)
        (in_or y (image f m z) k e))

    both_second : (k : ℕ) → k < m → has z k ≡ has both (f k)
    both_second k h =
        iff (has z k) (has both (f k)) (λ e. or_within_r y (image f m z) (f k) (image_has f m z k h e))
        (λ e.
        ⊎_elim
        (λ t. sym (placed_agree k h (chosen_below n y (f k) hy t)) ∙ t)
        (λ t. sym (image_apart f m z k (places_apart n m pairs j.sides.first j.sides.second) h) ∙ t)
        (in_or y (image f m z) (f k) e))

    both_parts : Parts a b pairs both y z
    both_parts =
        record {
          choice =
              within_lt N both
              (or_within y (image f m z) (first_vars N)
              (λ k e. in_first N k (omega (arith, chosen_below n y k hy e)))
              (image_within f m N z (places_into n m pairs j.sides.first j.sides.second)));
          first_choice = hy;
          second_choice = hz;
          of_first = both_first;
          of_second = both_second;
        }

    -- each joint option is one of the first book's, or the place of one of the second's
    owned : (k : ℕ) → k < N → (k < n) ⊎ ((v : ℕ) × (v < m) × (f v ≡ k))
    owned k h = go (ltb k n) refl
      where
        go : (p : Bool) → ltb k n ≡ p → (k < n) ⊎ ((v : ℕ) × (v < m) × (f v ≡ k))
        go true e = inl (ltb-true k n e)
        go false e =
            let i = k - n in
            let low = ltb-false k n e in
            let less : i < length numbers.unpaired = omega (arith, numbers.all, low) in
            let v = get_or numbers.unpaired i 0 in
            let own = ((numbers.listed v).0 (at_mem numbers.unpaired i less)).0 in
            inr (v, own, numbers.follow i less ∙ omega (arith, low))

    -- a choice is known by its parts
    only_both : (x : ℕ) → Parts a b pairs x y z → x ≡ both
    only_both x p = ext x both each
      where
        each : (k : ℕ) → has x k ≡ has both k
        each k = go (ltb k N) refl
          where
            go : (q : Bool) → ltb k N ≡ q → has x k ≡ has both k
            go true e =
                ⊎_elim (λ h. sym (p.of_first k h) ∙ both_first k h)
                (λ v. ap (has x) (sym v.2) ∙ sym (p.of_second v.0 v.1) ∙ both_second v.0 v.1 ∙ ap (has both) v.2)
                (owned k (ltb-true k N e))
            go false e =
                let high = ltb-false k N e in
                let none : (w : ℕ) → w < 2 ^ N → has w k ≡ false = λ w h. refuted (has w k) (λ t. omega (arith, high, chosen_below N w k h t)) in
                none x p.choice ∙ sym (none both both_parts.choice)

    pub met : Met a b pairs y z
    met = record { x = both; parts = both_parts; only = only_both }
