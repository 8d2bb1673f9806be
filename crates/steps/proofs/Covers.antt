-- The first clause of a table that covers another is found, and none where none does. A clause covers another where its literals are among the other's: so
-- where the other is falsified, it is falsified too.
use mathlib.Core.Path.{◌≡◌}
use mathlib.Core.Bool.{Bool, true, false}
use mathlib.Core.List.{List, ◌∷◌, ◌++◌, Memᴰ}
use mathlib.Core.Option.{some, none}
use Rattle.words.specs.Words.{is_zero, minus, Within}
use Rattle.words.proofs.Truth.{and_left, and_right, and_both}
use Rattle.words.proofs.Sets.{minus_empty, within_minus}
use Rattle.steps.specs.Clause.{Clause, literals, Assignment}
use Rattle.steps.specs.Merge.{covers, cover}
use Rattle.steps.specs.Demands.{Covering, NoneCovers}
use Rattle.steps.proofs.ListLaws.{find_some, find_none, find_first, none_found}
use Rattle.steps.proofs.Literals.{Falsified}

-- the first that covers is found
pub cover_first :
    (c : Clause) (before after : List Clause) (d : Clause) → covers d c ≡ true → NoneCovers before c → cover c (before ++ (d ∷ after)) ≡ some d
cover_first c before after d = find_first _ before after d

-- nothing is found where none does
pub none_cover : (c : Clause) (t : List Clause) → NoneCovers t c → cover c t ≡ none
none_cover c t = none_found _ t

-- and only there
pub cover_none : (c : Clause) (t : List Clause) → cover c t ≡ none → NoneCovers t c
cover_none c t = find_none _ t

-- what is found is in the table and covers
pub cover_some : (c : Clause) (t : List Clause) (d : Clause) → cover c t ≡ some d → Memᴰ d t × (covers d c ≡ true)
cover_some c t d = find_some _ t d

-- its literals are among the other's
pub covers_literals : (d c : Clause) → covers d c ≡ true → (b : Bool) → Within (literals b d) (literals b c)
unfolding covers
covers_literals d c h true = minus_empty d.pos c.pos (and_left _ _ h)
covers_literals d c h false = minus_empty d.neg c.neg (and_right (is_zero (minus d.pos c.pos)) _ h)

-- and a clause of which that is so covers
pub literals_cover : (d c : Clause) → ((b : Bool) → Within (literals b d) (literals b c)) → covers d c ≡ true
unfolding covers
literals_cover d c h = and_both _ _ (within_minus d.pos c.pos (h true)) (within_minus d.neg c.neg (h false))

-- exactly those
pub covering : Covering
covering d c = (covers_literals d c, literals_cover d c)

-- where the other is falsified, it is
pub covers_falsified : (a : Assignment) (d c : Clause) → covers d c ≡ true → Falsified a c → Falsified a d
covers_falsified a d c h f b k l = f b k (covers_literals d c h b k l)
