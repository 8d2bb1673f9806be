-- What the exported functions hand over: numbers, and in the caller's places the terminal's.
use Rattle.std.specs.Prelude.{◌≡◌, List, [], ◌∷◌, ℕ}
use Rattle.order.specs.Order.{Order}
use Rattle.answer.specs.Packed.{packed}
use Rattle.contract.specs.Filled.{Tables}
use Rattle.sites.specs.Sites.{Site}
use Rattle.sites.specs.Terminal.{opened, call}
use Rattle.sites.specs.declared.Terminal.{Terminal}
use Rattle.sites.specs.Values.{Opening, Opening.Refused, Opening.Opened}

-- three numbers as a terminal
abbrev pub terminal_of : ℕ → ℕ → ℕ → Terminal
terminal_of left part sites = record { left = left; part = part; sites = sites }

-- of an opening: 0 or the number of the refusal
abbrev pub opening_number : Opening → ℕ
opening_number (Refused k) = k
opening_number (Opened t) = 0

-- and the terminal in the caller's places, which a refusal leaves as they were
abbrev pub places_in : Terminal → Opening → Terminal
places_in places (Refused k) = places
places_in places (Opened t) = t

-- `places` is what the caller's three places held, and `places'` what they hold afterwards
pub record HandsOpening (k whole : ℕ) (places : Terminal) (r : ℕ) (places' : Terminal) : Type 0 where
  pub number : r ≡ opening_number (opened k whole)
  pub terminal : places' ≡ places_in places (opened k whole)

-- a call for the terminal t: the word of the answer, the terminal for the next site, and the tables
pub record HandsSite (bytes : List ℕ) (t : Terminal) (o : Order) (before : Tables) (w : ℕ) (t' : Terminal) (after : Tables) : Type 0 where
  pub word : w ≡ packed (call bytes t (record { order = o; tables = before })).returned.answer
  pub terminal : t' ≡ (call bytes t (record { order = o; tables = before })).returned.terminal
  pub tables : after ≡ (call bytes t (record { order = o; tables = before })).tables

-- what one call hands over
pub record Handed : Type 0 where
  pub word : ℕ
  pub tables : Tables

-- exported calls, one a site, each given the terminal that the one before it left in the caller's places, which hold `last` in the end
abbrev pub HandedInTurn : List ℕ → Terminal → List Site → List Handed → Terminal → Type 0
HandedInTurn bytes t [] [] last = last ≡ t
HandedInTurn bytes t [] (x ∷ xs) last = ⊥
HandedInTurn bytes t (s ∷ ss) [] last = ⊥
HandedInTurn bytes t (s ∷ ss) (x ∷ xs) last = (t' : Terminal) × HandsSite bytes t s.order s.tables x.word t' x.tables × HandedInTurn bytes t' ss xs last
