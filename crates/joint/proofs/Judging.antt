-- The refusals. Each row decides its condition, so the first row that holds is at the first condition that does: a side of the pairs has a fault where an option is
-- outside its book or stands in an earlier pair too.
use mathlib.Core.Path.{◌≡◌, refl, sym, subst, ◌∙◌}
use mathlib.Core.Bool.{true, false, ◌||◌}
use mathlib.Core.List.{List, ◌++◌}
use mathlib.Core.Logic.{◌⊎◌, ◌↔◌, inl, inr, ⊎_elim}
use mathlib.Core.Option.{Option, some, none}
use Prim.Native.Nat.{ℕ, zero, suc, ◌-◌, ◌<◌}
use native.Mathlib.Omega.{arith}
use borrow.Author.Tests.{ltb-true, ltb-false}
use lib.Dec.{ltb}
use lib.ListN.{length}
use Rattle.words.specs.Words.{has, odd}
use Rattle.words.proofs.Truth.{both_ways, clash, confirmed, or_neither, or_either}
use Rattle.words.proofs.Membership.{halves_at, odd_of}
use Rattle.book.specs.Refusals.{first_row, book_rows}
use Rattle.book.specs.Written.{placed}
use Rattle.book.specs.Conditions.{First, Decides, book_conditions}
use Rattle.book.proofs.Refusals.{decides_append, first_iff, none_iff}
use Rattle.book.proofs.Conditions.{book_decides}
use Rattle.joint.specs.Pairs.{pair_count, option, options_of, at_fault, side_fault}
use Rattle.joint.specs.Join.{book_in, joint_vars, joint_count, joint_bytes, pairs_fault, too_large, Fitting, joint_rows, join_rows, left_by, join, Joined.Written, Joined.Refused}
use Rattle.joint.specs.Demands.{Incomplete, Outside, NamesOutside, AlreadyPaired, pairs_condition, size_condition, joint_conditions, join_conditions, RefusedOrWritten, IsWritten}
use Rattle.joint.proofs.Pairs.{options_are, fits, fault_somewhere, distinct}
use Rattle.joint.proofs.Numbers.{pair_below, pair_first, pair_second, is_pair}

-- ---- one side of the pairs

-- a pair has an option outside the book
record OutsideAt (n side : ℕ) (bytes : List ℕ) : Type 0 where
  pair : ℕ
  below : pair < pair_count bytes
  outside : Outside n (option side bytes pair)

-- two pairs have the same option
record TwiceAt (side : ℕ) (bytes : List ℕ) : Type 0 where
  earlier : ℕ
  pair : ℕ
  before : earlier < pair
  below : pair < pair_count bytes
  same : option side bytes earlier ≡ option side bytes pair

at_fault_lem : (n taken k : ℕ) → at_fault n taken k ≡ true → Outside n k ⊎ (has taken (k - 1) ≡ true)
at_fault_lem n taken zero e = inl (inl refl)
at_fault_lem n taken (suc k) e = ⊎_elim (λ h. inl (inr (ltb-true n (suc k) h))) (λ h. inr h) (or_either (ltb n (suc k)) (has taken (suc k - 1)) e)

module _ (n side : ℕ) (bytes : List ℕ) where
  abbrev count : ℕ
  count = pair_count bytes

  -- of two options with the same place, one is 0 or they are the same
  same_place : (j k : ℕ) → j - 1 ≡ k - 1 → ((j ≡ 0) ⊎ (k ≡ 0)) ⊎ (j ≡ k)
  same_place zero k e = inl (inl refl)
  same_place (suc j) zero e = inl (inr refl)
  same_place (suc j) (suc k) e = inr (omega arith)

  side_faults : side_fault n side bytes count ≡ true → OutsideAt n side bytes ⊎ TwiceAt side bytes
  side_faults e =
      let f = fault_somewhere side bytes n count e in
      let i = f.0 in
      ⊎_elim (λ o. inl (record { pair = i; below = f.1; outside = o }))
      (λ h.
      let j = options_are side bytes i (option side bytes i - 1) h in
      let less : j.0 < count = omega (arith, j.1, f.1) in
      ⊎_elim
      (⊎_elim (λ z. inl (record { pair = j.0; below = less; outside = inl z })) (λ z. inl (record { pair = i; below = f.1; outside = inl z })))
      (λ same. inr (record { earlier = j.0; pair = i; before = j.1; below = f.1; same = same }))
      (same_place (option side bytes j.0) (option side bytes i) j.2))
      (at_fault_lem n (options_of side bytes i) (option side bytes i) f.2)

  no_outside : side_fault n side bytes count ≡ false → OutsideAt n side bytes → ⊥
  no_outside e o =
      let f = fits side bytes n count e o.pair o.below in
      ⊎_elim (λ z. omega (arith, z, f.low)) (λ h. omega (arith, h, f.high)) o.outside

  no_twice : side_fault n side bytes count ≡ false → TwiceAt side bytes → ⊥
  no_twice e t = distinct side bytes n count e t.earlier t.pair t.before t.below t.same

-- ---- 22 and 23

incomplete : (pairs : List ℕ) → (odd (length pairs) ≡ true) ↔ Incomplete pairs
incomplete pairs = (λ h. (pair_count pairs, omega (arith, halves_at (length pairs) h)), λ k. odd_of {x = length pairs} k.0 true (omega (arith, k.1)))

module _ (n m : ℕ) (pairs : List ℕ) where
  outside : OutsideAt n 0 pairs ⊎ OutsideAt m 1 pairs → NamesOutside n m pairs
  outside =
      ⊎_elim
      (λ o. record { pair = o.pair; a = _; b = _; is_pair = is_pair pairs o.pair o.below; outside = inl o.outside })
      (λ o. record { pair = o.pair; a = _; b = _; is_pair = is_pair pairs o.pair o.below; outside = inr o.outside })

  -- pairs i and j have the same option of one of the books
  again : (i j : ℕ) → i < j → j < pair_count pairs → (option 0 pairs i ≡ option 0 pairs j) ⊎ (option 1 pairs i ≡ option 1 pairs j) → AlreadyPaired pairs
  again i j before below same =
      record {
        earlier = i;
        a = _;
        b = _;
        pair = j;
        a' = _;
        b' = _;
        before = before;
        is_earlier = is_pair pairs i (omega arith);
        is_pair = is_pair pairs j below;
        same = same;
      }

  twice : TwiceAt 0 pairs ⊎ TwiceAt 1 pairs → AlreadyPaired pairs
  twice =
      ⊎_elim (λ t. again t.earlier t.pair t.before t.below (inl t.same)) (λ t. again t.earlier t.pair t.before t.below (inr t.same))

  -- a byte left over, or a fault on either side
  three_faults : pairs_fault n m pairs ≡ (odd (length pairs) || (side_fault n 0 pairs (pair_count pairs) || side_fault m 1 pairs (pair_count pairs)))
  unfolding pairs_fault
  three_faults = refl

  faults : pairs_fault n m pairs ≡ true → Incomplete pairs ⊎ (NamesOutside n m pairs ⊎ AlreadyPaired pairs)
  faults e =
      ⊎_elim (λ h. inl ((incomplete pairs).0 h))
      (λ r.
      inr
      (⊎_elim
      (λ h. ⊎_elim (λ o. inl (outside (inl o))) (λ t. inr (twice (inl t))) (side_faults n 0 pairs h))
      (λ h. ⊎_elim (λ o. inl (outside (inr o))) (λ t. inr (twice (inr t))) (side_faults m 1 pairs h))
      (or_either _ _ r)))
      (or_either _ _ (sym three_faults ∙ e))

  -- pairs without a fault
  pub record Faultless : Type 0 where
    pub whole : odd (length pairs) ≡ false
    pub first : side_fault n 0 pairs (pair_count pairs) ≡ false
    pub second : side_fault m 1 pairs (pair_count pairs) ≡ false

  pub faultless : pairs_fault n m pairs ≡ false → Faultless
  faultless e =
      let p = or_neither _ _ (sym three_faults ∙ e) in
      let s = or_neither _ _ p.1 in
      record { whole = p.0; first = s.0; second = s.1 }

  none_left : Faultless → Incomplete pairs ⊎ (NamesOutside n m pairs ⊎ AlreadyPaired pairs) → ⊥
  none_left f =
      ⊎_elim (λ h. both_ways (odd (length pairs)) ((incomplete pairs).1 h) f.whole)
      (⊎_elim
      (λ o.
      let less = pair_below pairs o.pair _ _ o.is_pair in
      ⊎_elim
      (λ h. no_outside n 0 pairs f.first (record { pair = o.pair; below = less; outside = subst (Outside n) (sym (pair_first pairs o.pair _ _ o.is_pair)) h }))
      (λ h. no_outside m 1 pairs f.second (record { pair = o.pair; below = less; outside = subst (Outside m) (sym (pair_second pairs o.pair _ _ o.is_pair)) h }))
      o.outside)
      (λ t.
      let less = pair_below pairs t.pair _ _ t.is_pair in
      ⊎_elim
      (λ h.
      no_twice n 0 pairs f.first
      (record {
        earlier = t.earlier;
        pair = t.pair;
        before = t.before;
        below = less;
        same = pair_first pairs t.earlier _ _ t.is_earlier ∙ h ∙ sym (pair_first pairs t.pair _ _ t.is_pair);
      }))
      (λ h.
      no_twice m 1 pairs f.second
      (record {
        earlier = t.earlier;
        pair = t.pair;
        before = t.before;
        below = less;
        same = pair_second pairs t.earlier _ _ t.is_earlier ∙ h ∙ sym (pair_second pairs t.pair _ _ t.is_pair);
      }))
      t.same))

  twenty_two : (pairs_fault n m pairs ≡ true) ↔ (pairs_condition n m pairs).Holds
  twenty_two = (faults, λ h. confirmed (pairs_fault n m pairs) (λ e. none_left (faultless e) h))

-- a book that fits
pub fitting : (n m room : ℕ) → too_large n m room ≡ false → Fitting n m room
unfolding too_large
fitting n m room e =
    let p = or_neither _ _ e in
    let s = or_neither _ _ p.1 in
    record { vars = ltb-false _ _ p.0; clauses = ltb-false _ _ s.0; bytes = ltb-false _ _ s.1 }

twenty_three : (n m room : ℕ) → (too_large n m room ≡ true) ↔ (size_condition n m room).Holds
unfolding too_large
twenty_three n m room = (
  λ e. ⊎_elim (λ h. inl (ltb-true _ _ h)) (λ r. inr (⊎_elim (λ h. inl (ltb-true _ _ h)) (λ h. inr (ltb-true _ _ h)) (or_either _ _ r))) (or_either _ _ e),
  λ h.
      confirmed (too_large n m room)
      (λ e. let f = fitting n m room e in ⊎_elim (λ g. omega (arith, g, f.vars)) (⊎_elim (λ g. omega (arith, g, f.clauses)) (λ g. omega (arith, g, f.bytes))) h),
)

-- every row decides its condition
rows_of : (first second pairs : List ℕ) (room : ℕ) → Decides (join_rows first second pairs room) (join_conditions first second pairs room)
rows_of first second pairs room =
    let a = book_in first in
    let b = book_in second in
    let own = joint_conditions a b pairs room in
    decides_append (book_rows first) (book_rows second ++ joint_rows a b pairs room) (book_conditions first) (book_conditions second ++ own) (book_decides first)
    (decides_append (book_rows second) (joint_rows a b pairs room) (book_conditions second) own (book_decides second)
    (refl, twenty_two a.vars b.vars pairs, (refl, twenty_three (joint_vars a b pairs) (joint_count a b) room, tt)))

-- ---- what is left, by the first row

module _ (first second pairs out : List ℕ) where
  abbrev found : Option ℕ
  found = first_row (join_rows first second pairs (length out))

  abbrev bytes : List ℕ
  bytes = joint_bytes (book_in first) (book_in second) pairs

  left_refused : (k : ℕ) → found ≡ some k → ((join first second pairs out).answer ≡ Refused k) × ((join first second pairs out).out ≡ out)
  unfolding join left_by
  left_refused k e = (rw (e, left_by), rw (e, left_by))

  pub left_written : found ≡ none → ((join first second pairs out).answer ≡ Written (length bytes)) × ((join first second pairs out).out ≡ placed out 0 bytes)
  unfolding join left_by
  left_written e = (rw (e, left_by), rw (e, left_by))

  pub judged : RefusedOrWritten first second pairs out
  judged = go found refl
    where
      decided : Decides (join_rows first second pairs (length out)) (join_conditions first second pairs (length out))
      decided = rows_of first second pairs (length out)

      first_is : (k : ℕ) → (found ≡ some k) ↔ First (join_conditions first second pairs (length out)) k
      first_is k = first_iff _ _ k decided

      go : (x : Option ℕ) → found ≡ x → RefusedOrWritten first second pairs out
      go (some j) e =
          let left = left_refused j e in
          let answer = left.0 in
          record {
            refused = λ k. (λ r. (first_is k).0 (cc (answer, e, r)), λ f. cc (answer, e, (first_is k).1 f));
            untouched = λ k r. left.1;
            written = (λ n. let passed : found ≡ none = (none_iff _ _ decided).1 n in clash cc, λ x. let r = x.1 in clash (cc (answer, r)));
          }
      go none e =
          let answer = (left_written e).0 in
          record {
            refused = λ k. (λ r. clash (cc (answer, r)), λ f. let one = (first_is k).1 f in clash cc);
            untouched = λ k r. clash (cc (answer, r));
            written = (λ n. (length bytes, answer), λ x. (none_iff _ _ decided).0 e);
          }

  pub written_passed : (size : ℕ) → IsWritten first second pairs out size → found ≡ none
  written_passed size e = (none_iff _ _ (rows_of first second pairs (length out))).1 (judged.written.1 (size, e))
