-- The order with a setting, by membership. A choice keeps it exactly if it keeps the order and sets the open options so; and where nothing refused the question,
-- nothing refuses the order with a setting: its options are the order's and the open ones.
use mathlib.Core.Path.{◌≡◌, refl, ap, ◌∙◌}
use mathlib.Core.Bool.{Bool, true, false, or-true, ◌||◌}
use mathlib.Core.List.{List, [], ◌∷◌, ◌++◌}
use mathlib.Core.Logic.{inl, inr, ⊎_elim}
use Prim.Native.Nat.{ℕ, ◌^◌, ◌≤◌, ◌<◌}
use native.Mathlib.Nat.{le_trans}
use native.Mathlib.Omega.{arith}
use borrow.Author.Tests.{lt-ltb}
use lib.Bits.{bit_or, or_zero_r, and_zero_r}
use lib.Dec.{ltb}
use lib.Pow.{pow_mono}
use Rattle.words.specs.Words.{has, minus, first_vars, Within}
use Rattle.words.proofs.Truth.{both_ways, refuted, confirmed, or_either}
use Rattle.words.proofs.Membership.{has_first_vars}
use Rattle.words.proofs.Sets.{in_or, or_within_l, or_within_r, minus_within, minus_out, in_minus, within_lt}
use Rattle.order.specs.Order.{Order}
use Rattle.order.specs.Demands.{Keeps as KeepsOrder}
use Rattle.order.proofs.Demands as order
use Rattle.book.specs.Bytes.{vars_in}
use Rattle.book.specs.Conditions.{condition, NoRow, NamesAbove, HasAbove, InBoth, book_conditions, order_conditions, admit_conditions}
use Rattle.book.proofs.Refusals.{no_rows, no_first, no_second}
use Rattle.contract.specs.Check.{Lengths}
use Rattle.contract.specs.Demands.{Permitted, check_conditions}
use Rattle.undecided.specs.Settings.{subsets}
use Rattle.undecided.specs.Undecided.{with_setting}
use Rattle.undecided.specs.Demands.{open_conditions, undecided_conditions, Wishes, AsWishes, NoneOpen, Keeps, Keeping}

pub as_wishes : AsWishes
unfolding with_setting
as_wishes o opens s =
    record {
      wanted = λ k. (in_or o.wanted s k, ⊎_elim (or_within_l o.wanted s k) (or_within_r o.wanted s k));
      unwanted =
          λ k. (
            λ h.
                ⊎_elim
                (λ u. inl u)
                (λ m. inr (minus_within opens s k m, minus_out opens s k m))
                (in_or o.unwanted (minus opens s) k h),
            ⊎_elim (or_within_l o.unwanted (minus opens s) k) (λ m. or_within_r o.unwanted (minus opens s) k (in_minus opens s k m.0 m.1)),
          );
      standard =
          λ k. (λ h. (minus_within o.standard opens k h, minus_out o.standard opens k h), λ h. in_minus o.standard opens k h.0 h.1);
    }

-- with nothing open it is the order
pub none_open : NoneOpen
unfolding with_setting minus subsets
none_open o =
    let wanted : bit_or o.wanted 0 ≡ o.wanted = or_zero_r o.wanted in
    let unwanted : bit_or o.unwanted (minus 0 0) ≡ o.unwanted = or_zero_r o.unwanted in
    let standard : minus o.standard 0 ≡ o.standard = omega (arith, and_zero_r o.standard) in
    record { one_setting = refl; as_it_is = λ i. record { wanted = wanted i; unwanted = unwanted i; standard = standard i } }

-- ---- keeping it

module _ (x : ℕ) (o : Order) (opens s : ℕ) (within : Within s opens) where
  abbrev asked : Order
  asked = with_setting o opens s

  abbrev wishes : Wishes o opens s
  wishes = as_wishes o opens s

  to_setting : KeepsOrder x asked → Keeps x o opens s
  to_setting keeps =
      record {
        wanted = λ k h. keeps.wanted k ((wishes.wanted k).1 (inl h));
        unwanted = λ k h. keeps.unwanted k ((wishes.unwanted k).1 (inl h));
        standard =
            λ k h u out.
            keeps.standard k ((wishes.standard k).1 (h, out))
            (refuted (has asked.unwanted k)
            (λ m. ⊎_elim (λ e. both_ways (has o.unwanted k) e u) (λ e. both_ways (has opens k) e.0 out) ((wishes.unwanted k).0 m)));
        as_set = λ k h. set k h (has s k) refl;
      }
    where
      set : (k : ℕ) → has opens k ≡ true → (p : Bool) → has s k ≡ p → has x k ≡ p
      set k h true e = keeps.wanted k ((wishes.wanted k).1 (inr e))
      set k h false e = keeps.unwanted k ((wishes.unwanted k).1 (inr (h, e)))

  to_order : Keeps x o opens s → KeepsOrder x asked
  to_order keeps =
      record {
        wanted = λ k h. ⊎_elim (keeps.wanted k) (λ m. keeps.as_set k (within k m) ∙ m) ((wishes.wanted k).0 h);
        standard =
            λ k h u.
            let m = (wishes.standard k).0 h in
            keeps.standard k m.0
            (refuted (has o.unwanted k) (λ e. both_ways (has asked.unwanted k) ((wishes.unwanted k).1 (inl e)) u))
            m.1;
        unwanted = λ k h. ⊎_elim (keeps.unwanted k) (λ m. keeps.as_set k m.0 ∙ m.1) ((wishes.unwanted k).0 h);
      }

pub keeping : Keeping
keeping x o opens s within =
    let same = order.keeping x (with_setting o opens s) in
    (λ h. to_setting x o opens s within (same.0 h), λ h. same.1 (to_order x o opens s within h))

-- ---- nothing refuses it

module _ (bytes : List ℕ) (o : Order) (opens : ℕ) (l : Lengths) (h : NoRow (undecided_conditions bytes o opens l)) where
  abbrev n : ℕ
  n = vars_in bytes

  admitted : NoRow (admit_conditions bytes o)
  admitted = no_first (admit_conditions bytes o) (open_conditions n o opens) (no_first (admit_conditions bytes o ++ open_conditions n o opens) _ h)

  opened : NoRow (open_conditions n o opens)
  opened = no_second (admit_conditions bytes o) (open_conditions n o opens) (no_first (admit_conditions bytes o ++ open_conditions n o opens) _ h)

  tables : NoRow (condition 9 (Permitted l → ⊥) ∷ [])
  tables = no_second (admit_conditions bytes o ++ open_conditions n o opens) _ h

  ordered : NoRow (order_conditions n o)
  ordered = no_second (book_conditions bytes) (order_conditions n o) admitted

  -- the open options are among the n
  open_within : Within opens (first_vars n)
  open_within k m = confirmed (has (first_vars n) k) (λ e. opened.0 (inr (k, outside k e, m)))
    where
      outside : (k : ℕ) → has (first_vars n) k ≡ false → n ≤ k
      outside k e = go (ltb k n) refl
        where
          go : (b : Bool) → ltb k n ≡ b → n ≤ k
          go true b = both_ways (has (first_vars n) k) (has_first_vars n k ∙ b) e
          go false b = let no : k < n → ⊥ = λ lt. both_ways (ltb k n) (lt-ltb k n lt) b in omega (arith, no)

  -- and so their word has 64 digits
  pub open_small : opens < 2 ^ 64
  open_small =
      let few : n ≤ 64 = let no : 64 < n → ⊥ = admitted.1.0 in omega (arith, no) in
      le_trans (within_lt n opens open_within) (pow_mono few)

  pub setting_passes : (s : ℕ) → Within s opens → NoRow (check_conditions bytes (with_setting o opens s) l)
  setting_passes s within =
      no_rows (admit_conditions bytes asked) _
      (no_rows (book_conditions bytes) (order_conditions n asked) (no_first (book_conditions bytes) (order_conditions n o) admitted) (seven, (eight, (twelve, tt))))
      tables
    where
      asked : Order
      asked = with_setting o opens s

      wishes : Wishes o opens s
      wishes = as_wishes o opens s

      above : (k : ℕ) → n ≤ k → has opens k ≡ true → ⊥
      above k outside m = opened.0 (inr (k, outside, m))

      seven : NamesAbove n asked.wanted asked.unwanted → ⊥
      seven a =
          ⊎_elim
          (λ w. ⊎_elim (λ m. ordered.0 (a.0, a.1, ap (λ (b : Bool). b || has o.unwanted a.0) m)) (λ m. above a.0 a.1 (within a.0 m)) ((wishes.wanted a.0).0 w))
          (λ u. ⊎_elim (λ m. ordered.0 (a.0, a.1, ap (λ (b : Bool). has o.wanted a.0 || b) m ∙ or-true (has o.wanted a.0))) (λ m. above a.0 a.1 m.0) ((wishes.unwanted a.0).0 u))
          (or_either (has asked.wanted a.0) (has asked.unwanted a.0) a.2)

      eight : InBoth asked.wanted asked.unwanted → ⊥
      eight b =
          let k = b.0 in
          ⊎_elim
          (λ w. ⊎_elim (λ u. ordered.1.0 (k, w, u)) (λ u. opened.1.0 (inl (k, u.0, w))) ((wishes.unwanted k).0 b.2))
          (λ w. ⊎_elim (λ u. opened.1.0 (inr (k, within k w, u))) (λ u. both_ways (has s k) w u.1) ((wishes.unwanted k).0 b.2))
          ((wishes.wanted k).0 b.1)

      twelve : HasAbove n asked.standard → ⊥
      twelve a = ordered.1.1.0 (a.0, a.1, ((wishes.standard a.0).0 a.2).0)
