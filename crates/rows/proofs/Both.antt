-- A walk through the clauses that are in the rows u and w. It goes on in its block while some are left there, and else from block to block until one has some. The lowest of them
-- is the next clause in both rows. Without it, those that are left are those after it.
use mathlib.Core.Path.{◌≡◌, refl, sym, ap, ◌∙◌}
use mathlib.Core.Bool.{Bool, true, false, ◌&&◌}
use mathlib.Core.List.{List}
use Prim.Native.Nat.{ℕ, ◌+◌, ◌*◌, ◌/◌, ◌%◌, ◌^◌, ◌≤◌, ◌<◌}
use native.Mathlib.Omega.{arith}
use borrow.Author.Tests.{ltb-true, ltb-false, eqb-true, eqb-false}
use lib.Count.{count_trailing_zeros}
use lib.Dec.{ltb, eqb}
use Rattle.std.proofs.lemmas.Nat.{trailing_le}
use Rattle.words.specs.Words.{is_zero, has, minus, lowest}
use Rattle.words.proofs.Truth.{both_ways}
use Rattle.words.proofs.Membership.{has_and, has_zero}
use Rattle.words.proofs.Sets.{nonzero, is_zero_lem}
use Rattle.words.proofs.Lowest.{rest_lt}
use Rattle.words.proofs.Count.{trailing_member, trailing_lt, rest_other, rest_lowest}
use Rattle.rows.specs.Index.{row_at, is_in, both_at, From, NoneIn, coming, Walks, Found, ComesTo}
use Rattle.rows.specs.declared.index.Walk.{Walk}

-- the empty word has all its zeros
no_member : count_trailing_zeros 64 0 ≡ 64
unfolding count_trailing_zeros
no_member = refl

pub all_zeros : {x : ℕ} → x ≡ 0 → count_trailing_zeros 64 x ≡ 64
all_zeros e = ap (count_trailing_zeros 64) e ∙ no_member

-- a member is not below the lowest
below_lowest : (x b : ℕ) → x < 2 ^ 64 → b < count_trailing_zeros 64 x → has x b ≡ false
below_lowest x b h l = go (is_zero x) refl
  where
    go : (z : Bool) → is_zero x ≡ z → has x b ≡ false
    go true e = rw (is_zero_lem x e) (has_zero b)
    go false e = (trailing_member 64 x e h).1 b l

-- without the lowest member, the lowest of the others is above it
rest_above : (x : ℕ) → is_zero x ≡ false → x < 2 ^ 64 → count_trailing_zeros 64 x < count_trailing_zeros 64 (minus x (lowest x))
rest_above x n h = go (is_zero y) refl
  where
    y : ℕ
    y = minus x (lowest x)

    t : ℕ
    t = count_trailing_zeros 64 x

    fits : y < 2 ^ 64
    fits = omega (arith, rest_lt x n)

    go : (z : Bool) → is_zero y ≡ z → t < count_trailing_zeros 64 y
    go true e = rw (is_zero_lem y e, no_member) (trailing_lt 64 x n h)
    go false e = pick (eqb (count_trailing_zeros 64 y) t) (ltb (count_trailing_zeros 64 y) t) refl refl
      where
        is : has y (count_trailing_zeros 64 y) ≡ true
        is = (trailing_member 64 y e fits).0

        pick : (p r : Bool) → eqb (count_trailing_zeros 64 y) t ≡ p → ltb (count_trailing_zeros 64 y) t ≡ r → t < count_trailing_zeros 64 y
        pick true r f g = both_ways (has y t) (ap (has y) (sym (eqb-true _ t f)) ∙ is) (rest_lowest 64 x n h)
        pick false true f g =
            both_ways (has x (count_trailing_zeros 64 y)) (sym (rest_other 64 x n h _ (eqb-false _ t f)) ∙ is) ((trailing_member 64 x n h).1 _ (ltb-true _ t g))
        pick false false f g = omega (arith, eqb-false (count_trailing_zeros 64 y) t f, ltb-false (count_trailing_zeros 64 y) t g)

module _ (q : List ℕ) (m u w : ℕ) where
  -- a clause of the block is in both rows where its digit is in both words
  in_both : (j x : ℕ) → x / 64 ≡ j → (is_in q u x && is_in q w x) ≡ has (both_at q u w j) (x % 64)
  in_both j x e = rw e (sym (has_and (row_at q j u) (row_at q j w) (x % 64)))

  -- all clauses of a block
  pub from_whole : (j x : ℕ) → x ≡ both_at q u w j → From q u w j x
  from_whole j x e b h l = ap (λ (y : ℕ). has y b) e

  -- of a block none in both rows stands before the lowest
  pub none_first : (j x : ℕ) → x < 2 ^ 64 → x ≡ both_at q u w j → NoneIn q m u w (64 * j) (64 * j + count_trailing_zeros 64 x)
  none_first j x h e k a b below =
      let t = trailing_le 64 x in
      in_both j k (omega arith) ∙ ap (λ (y : ℕ). has y (k % 64)) (sym e) ∙ below_lowest x (k % 64) h (omega arith)

  -- nor in all of it, where there is none
  pub none_here : (j x : ℕ) → x ≡ 0 → x ≡ both_at q u w j → NoneIn q m u w (64 * j) (64 * (j + 1))
  none_here j x n e k a b below =
      in_both j k (omega arith) ∙ ap (λ (y : ℕ). has y (k % 64)) (sym e ∙ n) ∙ has_zero (k % 64)

  -- none between is none in all
  pub none_trans : {i k n : ℕ} → NoneIn q m u w i k → NoneIn q m u w k n → NoneIn q m u w i n
  none_trans {i} {k} {n} f g x a b below = go (ltb x k) refl
    where
      go : (p : Bool) → ltb x k ≡ p → (is_in q u x && is_in q w x) ≡ false
      go true e = f x a (ltb-true x k e) below
      go false e = g x (ltb-false x k e) b below

  module _ (j x : ℕ) (n : x ≡ 0 → ⊥) (fits : x < 2 ^ 64) (from : From q u w j x) where
    -- the lowest clause that is left is in both rows
    lowest_in : (is_in q u (64 * j + count_trailing_zeros 64 x) && is_in q w (64 * j + count_trailing_zeros 64 x)) ≡ true
    lowest_in =
        let t = count_trailing_zeros 64 x in
        let some = nonzero x n in
        let l = trailing_lt 64 x some fits in
        let place : (64 * j + t) % 64 ≡ t = omega arith in
        in_both j (64 * j + t) (omega arith) ∙ rw place (sym (from t l (omega arith)) ∙ (trailing_member 64 x some fits).0)

    -- without it those after it are left
    rest_from : From q u w j (minus x (lowest x))
    rest_from b h l =
        let some = nonzero x n in
        let above = rest_above x some fits in
        rest_other 64 x some fits b (λ e. omega arith) ∙ from b h (omega arith)

    -- and none in both rows stands between it and the lowest of them
    none_between : NoneIn q m u w (64 * j + count_trailing_zeros 64 x + 1) (64 * j + count_trailing_zeros 64 (minus x (lowest x)))
    none_between k a b below =
        let some = nonzero x n in
        let t = trailing_le 64 (minus x (lowest x)) in
        in_both j k (omega arith)
        ∙ sym (from (k % 64) (omega arith) (omega arith))
        ∙ sym (rest_other 64 x some fits (k % 64) (λ e. omega arith))
        ∙ below_lowest (minus x (lowest x)) (k % 64) (omega (arith, rest_lt x some)) (omega arith)

-- a turn: the lowest clause that is left where the walk goes on comes, and those after it are left then
pub comes : {s t : Walk} {j x : ℕ}
    → Walks s.q.now s.m s.u s.w s
    → Found s j x
    → x < 2 ^ 64
    → 64 * j + count_trailing_zeros 64 x < s.m
    → t.q ≡ s.q
    → t.m ≡ s.m
    → t.u ≡ s.u
    → t.w ≡ s.w
    → t.block ≡ j
    → t.left ≡ minus x (lowest x)
    → ComesTo s (64 * j + count_trailing_zeros 64 x) t
comes {s} {t} {j} {x} go f fits below q m u w block left =
    let above = rest_above x (nonzero x f.some) fits in
    record {
      goes =
          record {
            table = ap (λ b. b.now) q;
            number = m;
            first = u;
            second = w;
            room = go.room;
            rows = go.rows;
            within = rw block f.within;
            left = rw (block, left) (rest_from s.q.now s.m s.u s.w j x f.some fits f.left);
          };
      from = f.after;
      to = rw (block, left) (omega arith);
      below = below;
      here = lowest_in s.q.now s.m s.u s.w j x f.some fits f.left;
      before = f.none;
      after = rw (block, left) (none_between s.q.now s.m s.u s.w j x f.some fits f.left);
    }

-- ---- what a loop over the clauses in the rows u and w knows

-- a turn of it, in the terms of its table
pub record Turn (q : List ℕ) (m u w : ℕ) (s : Walk) (i : ℕ) (t : Walk) : Type 0 where
  pub goes : Walks q m u w t
  pub from : coming s ≤ i
  pub to : i < coming t
  pub below : i < m
  pub here : (is_in q u i && is_in q w i) ≡ true
  pub before : NoneIn q m u w (coming s) i
  pub after : NoneIn q m u w (i + 1) (coming t)

module _ {q : List ℕ} {m u w : ℕ} {s : Walk} (go : Walks q m u w s) where
  pub turn : {i : ℕ} {t : Walk} → ComesTo s i t → Turn q m u w s i t
  turn x =
      rw (← go.table, ← go.number, ← go.first, ← go.second) (record { goes = x.goes; from = x.from; to = x.to; below = x.below; here = x.here; before = x.before; after = x.after })

  -- at its end
  pub none_after : NoneIn s.q.now s.m s.u s.w (coming s) s.m → NoneIn q m u w (coming s) m
  none_after x = rw (← go.table, ← go.number, ← go.first, ← go.second) x
