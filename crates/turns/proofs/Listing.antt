-- The options that are settled in turn: the free ones, in ascending number, and how many there are.
use mathlib.Core.Path.{◌≡◌, refl}
use mathlib.Core.Bool.{true}
use mathlib.Core.Logic.{◌↔◌}
use Prim.Native.Nat.{ℕ}
use lib.Count.{ones}
use lib.ListN.{length}
use Rattle.words.specs.Words.{has}
use Rattle.words.specs.Demands.{LowestFirst}
use Rattle.words.proofs.Lowest.{lowest_first}
use Rattle.order.specs.Order.{Order, free}
use Rattle.order.proofs.Demands.{free_options_lem as free_words}
use Rattle.book.proofs.UnitClauses.{length_members}
use Rattle.turns.specs.Turns.{in_turn}
use Rattle.turns.specs.Meaning.{Free}
use Rattle.turns.specs.Demands.{FreeOptions}

pub is_free : (n : ℕ) (o : Order) (k : ℕ) → (has (free n o) k ≡ true) ↔ Free n o k
is_free n o k = (
  λ h. let f = (free_words n o k).0 h in record { option = f.0; not_wanted = f.1; not_unwanted = f.2; not_standard = f.3 },
  λ f. (free_words n o k).1 (f.option, f.not_wanted, f.not_unwanted, f.not_standard),
)

in_turn_lem : (n : ℕ) (o : Order) → LowestFirst (Free n o) (in_turn n o)
in_turn_lem n o =
    let listed = lowest_first (free n o) in
    record {
      each = λ w m. let x = listed.each w m in (x.0, x.1, (is_free n o x.0).0 x.2);
      all = λ k f. listed.all k ((is_free n o k).1 f);
      ascending = listed.ascending;
    }

-- as many are listed as the word has
pub free_number : (n : ℕ) (o : Order) → length (in_turn n o) ≡ ones (free n o)
free_number n o = length_members (ones (free n o)) (free n o) refl

pub free_options_lem : FreeOptions
free_options_lem bytes o = record { listed = in_turn_lem _ o; number = free_number _ o }
