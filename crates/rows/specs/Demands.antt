-- What is demanded of the words in which the work table holds the tallies and the index, each as a named type that is proved in `proofs/`.
use Rattle.std.specs.Prelude.{◌≡◌, not, List, map, ℕ, ◌^◌, ◌<◌, get_or}
use Rattle.words.specs.Words.{has}
use Rattle.steps.specs.Clause.{vars, Assignment}
use Rattle.steps.specs.Tally.{Tally, tally_of, is_inactive}
use Rattle.rows.specs.Rows.{from, clause_at, clauses}
use Rattle.rows.specs.Index.{is_in, playing, struck, naming}
use Rattle.rows.specs.Tally.{word_of, tally_at, Tallied}

-- a word tells its tallies: two that differ have different words, as long as fewer than 128 decisions keep a rule
abbrev pub WordTells : Type 0
WordTells = (x y : Tally) → x.keepers < 128 → y.keepers < 128 → word_of x ≡ word_of y → x ≡ y

-- where the table is tallied, what it holds of its rules are their tallies, in order
abbrev pub InOrder : Type 0
InOrder =
    (t q : List ℕ) (m : ℕ) (a : Assignment) (k : ℕ) → Tallied t q m a k →
    from (tally_at q) 0 m ≡ map word_of (map (tally_of a k) (clauses t m))

-- and the index is that of its rules: rule i is in an option's row exactly if it names the option, and in the row of the struck ones and in the row in play exactly if its
-- tallies say so. The words of the table have 64 digits
pub record Indexing : Type 0 where
  pub named :
      (t q : List ℕ) (m : ℕ) (a : Assignment) (k : ℕ) → Tallied t q m a k → (i v : ℕ) → i < m → v < 64 →
      is_in q (naming v) i ≡ has (vars (clause_at t i)) v
  pub marked :
      (t q : List ℕ) (m : ℕ) (a : Assignment) (k : ℕ) → Tallied t q m a k → (i : ℕ) → i < m →
      is_in q struck i ≡ (tally_of a k (clause_at t i)).struck
  pub in_play_row :
      (t q : List ℕ) (m : ℕ) (a : Assignment) (k : ℕ) → Tallied t q m a k → ((j : ℕ) → get_or t j 0 < 2 ^ 64) → (i : ℕ) → i < m →
      is_in q playing i ≡ not (is_inactive (tally_of a k (clause_at t i)))

pub record Demands : Type 0 where
  pub word_tells : WordTells
  pub in_order : InOrder
  pub indexing : Indexing
