-- A table whose first places are written, one store after another. `written ws t` has the words ws and then what t has from there on; a store at the
-- next place is one word more, so a copying loop has written the words that it passed.
use mathlib.Core.Path.{◌≡◌, refl, sym, ap, ◌∙◌}
use mathlib.Core.List.{List, [], ◌∷◌, ◌++◌, map, append_assoc, map-append}
use Prim.Native.Nat.{ℕ, suc, ◌+◌, ◌<◌}
use native.Mathlib.Numerals.{add-one}
use native.Mathlib.Omega.{arith}
use lib.ListN.{length, drop, set, length-append, length-map}
use lib.Seq.{drop-cons, set_at}
use Rattle.rows.specs.Rows.{from}
use Rattle.rows.proofs.Lists.{from_snoc, from_length}
use Rattle.contract.specs.Filled.{written}

-- a store at the next place
pub written_more : (ws t : List ℕ) (x : ℕ) → length ws < length t → set (written ws t) (length ws) x ≡ written (ws ++ (x ∷ [])) t
written_more ws t x h =
    ap (λ (l : List ℕ). set (ws ++ l) (length ws) x) (drop-cons t (length ws) 0 h)
    ∙ set_at ws _ (drop (suc (length ws)) t) x (length ws) refl
    ∙ sym (append_assoc ws (x ∷ []) (drop (suc (length ws)) t))
    ∙ ap (λ (n : ℕ). (ws ++ (x ∷ [])) ++ drop n t) (sym (length-append ws (x ∷ []) ∙ add-one (length ws)))

-- the words of i elements, from the one at m on
module _ {A : Type 0} (f : A → ℕ) (g : ℕ → A) (m : ℕ) (t : List ℕ) where
  words_length : (i : ℕ) → length (map f (from g m i)) ≡ i
  words_length i = length-map (from g m i) f ∙ from_length g m i

  -- a copying loop's turn
  pub copied : (i x : ℕ) (out : List ℕ) → i < length t → out ≡ written (map f (from g m i)) t → x ≡ f (g (m + i)) →
      set out i x ≡ written (map f (from g m (i + 1))) t
  copied i x out h e v =
      ap (λ (l : List ℕ). set l i x) e
      ∙ ap (λ (n : ℕ). set (written (map f (from g m i)) t) n x) (sym (words_length i))
      ∙ written_more (map f (from g m i)) t x (omega (arith, words_length i))
      ∙ ap (λ (y : ℕ). written (map f (from g m i) ++ (y ∷ [])) t) v
      ∙ ap (λ (l : List ℕ). written l t) (sym (ap (λ (n : ℕ). map f (from g m n)) (add-one i) ∙ ap (map f) (from_snoc g m i) ∙ map-append f (from g m i) (g (m + i) ∷ [])))
