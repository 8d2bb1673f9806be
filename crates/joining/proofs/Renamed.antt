-- Words and clauses put in place, turn by turn: the lowest member goes to its place, and the others are still to come; a clause is put after those before it.
use mathlib.Core.Path.{◌≡◌, sym, ap, ap₂, ◌∙◌}
use mathlib.Core.List.{List, [], ◌∷◌, ◌++◌, map, append-nil, append_assoc}
use Prim.Native.Nat.{ℕ, ◌+◌, ◌^◌, ◌≤◌}
use native.Mathlib.Nat.{add-zero}
use native.Mathlib.Omega.{arith}
use lib.Bits.{bit_or, or_zero_r}
use lib.ListN.{length}
use Rattle.words.specs.Words.{has, minus, Taken}
use Rattle.words.proofs.Truth.{both_ways}
use Rattle.words.proofs.Membership.{has_zero}
use Rattle.words.proofs.Sets.{within_antisym, within_trans, within_zero, or_within, or_within_l, or_within_r}
use Rattle.steps.specs.Clause.{Clause}
use Rattle.std.proofs.lemmas.List.{map_push}
use Rattle.rows.specs.Rows.{clause_words, clause_at, clauses, put_clause}
use Rattle.rows.proofs.Lists.{from_next}
use Rattle.rows.proofs.Tables.{put_clause_at_end}
use Rattle.renaming.specs.Renaming.{image, renamed}
use Rattle.renaming.proofs.Images.{image_named, image_remove}

-- ---- a word

-- a union of three, either way
or_assoc : (a b c : ℕ) → bit_or (bit_or a b) c ≡ bit_or a (bit_or b c)
or_assoc a b c =
    within_antisym (bit_or (bit_or a b) c) (bit_or a (bit_or b c))
    (or_within (bit_or a b) c (bit_or a (bit_or b c))
    (or_within a b (bit_or a (bit_or b c)) (or_within_l a (bit_or b c)) (within_trans b (bit_or b c) _ (or_within_l b c) (or_within_r a (bit_or b c))))
    (within_trans c (bit_or b c) _ (or_within_r b c) (or_within_r a (bit_or b c))))
    (or_within a (bit_or b c) (bit_or (bit_or a b) c) (within_trans a (bit_or a b) _ (or_within_l a b) (or_within_l (bit_or a b) c))
    (or_within b c (bit_or (bit_or a b) c) (within_trans b (bit_or a b) _ (or_within_r a b) (or_within_l (bit_or a b) c)) (or_within_r (bit_or a b) c)))

-- the image of nothing
image_empty : (f : ℕ → ℕ) (n : ℕ) → image f n 0 ≡ 0
image_empty f n =
    within_antisym (image f n 0) 0 (λ j h. let i = image_named f n 0 j h in both_ways (has 0 i.var) i.member (has_zero i.var)) (within_zero (image f n 0))

-- everything is in place
pub word_end : (f : ℕ → ℕ) (word out rest : ℕ) → rest ≡ 0 → bit_or out (image f 64 rest) ≡ image f 64 word → out ≡ image f 64 word
word_end f word out rest none e = sym (or_zero_r out) ∙ ap (bit_or out) (sym (ap (image f 64) none ∙ image_empty f 64)) ∙ e

module _ (rest k rest' : ℕ) (taken : Taken rest k rest') where
  -- the lowest member goes to its place, and the others are still to come
  pub word_turn : (f : ℕ → ℕ) (word out w : ℕ) → w ≡ 2 ^ f k → bit_or out (image f 64 rest) ≡ image f 64 word → bit_or (bit_or out w) (image f 64 rest') ≡ image f 64 word
  word_turn f word out w ew e =
      ap₂ bit_or (ap (bit_or out) ew) (ap (image f 64) taken.rest)
      ∙ or_assoc out (2 ^ f k) (image f 64 (minus rest (2 ^ k)))
      ∙ ap (bit_or out) (sym (image_remove f 64 rest k taken.below taken.member))
      ∙ e

-- ---- clauses

module _ (f : ℕ → ℕ) (u : List ℕ) where
  -- none is put yet
  pub none_put : (t : List ℕ) (m : ℕ) → clauses t (m + 0) ≡ clauses t m ++ map (renamed f 64) (clauses u 0)
  unfolding clauses
  none_put t m = rw add-zero (sym (append-nil (clauses t m)))

  -- the next one is put after the last
  pub one_put : (t₀ t t' : List ℕ) (m i : ℕ) (c : Clause) → clause_words (m + i + 1) ≤ length t → clauses t (m + i) ≡ clauses t₀ m ++ map (renamed f 64) (clauses u i)
      → c ≡ renamed f 64 (clause_at u i) → t' ≡ put_clause t (m + i) c → clauses t' (m + (i + 1)) ≡ clauses t₀ m ++ map (renamed f 64) (clauses u (i + 1))
  unfolding clauses
  one_put t₀ t t' m i c room before ec et =
      let next : m + (i + 1) ≡ m + i + 1 = omega arith in
      let put = put_clause_at_end t (m + i) c room in
      rw (next, et)
      (put ∙ ap₂ (λ cs d. cs ++ (d ∷ [])) before ec ∙ append_assoc (clauses t₀ m) (map (renamed f 64) (clauses u i)) _
      ∙ ap (λ cs. clauses t₀ m ++ cs) (sym (map_push (renamed f 64) (clauses u i) (clause_at u i)) ∙ ap (map (renamed f 64)) (sym (from_next (clause_at u) i))))
