-- What the entry points leave, and what the exported functions hand over of it: the numbers and words have room for it, and a run of exported calls is one of the
-- definition's.
use mathlib.Core.Path.{◌≡◌, refl, sym, ap, ap₂, subst, subst⁻¹, ◌∙◌}
use mathlib.Core.Bool.{Bool, true, false}
use mathlib.Core.List.{List, [], ◌∷◌, map}
use Prim.Native.Nat.{ℕ, suc, ◌-◌, ◌/◌, ◌^◌, ◌≤◌, ◌<◌}
use native.Mathlib.Omega.{arith}
use lib.ListN.{length}
use Rattle.words.proofs.Truth.{both_ways}
use Rattle.order.specs.Order.{Order}
use Rattle.answer.specs.Packed.{packed, unpacked, Packable}
use Rattle.answer.specs.Answer.{Answer, Answer.Refused as CheckRefused}
use Rattle.answer.proofs.Demands.{inverse}
use Rattle.contract.specs.Filled.{Tables, lengths, Checked}
use Rattle.contract.proofs.Asked.{branchings_within}
use Rattle.contract.proofs.Demands as contract
use Rattle.sites.specs.Sites.{Site, Reply, sites_fault, used_in, reply_to, Replies.served, sites}
use Rattle.sites.specs.Terminal.{allowance_before, Turn, call, calls, terminal_after, Opens, Serves}
use Rattle.sites.specs.Handed.{terminal_of, opening_number, places_in, HandsSite}
use Rattle.sites.specs.Demands.{OneToEight, TakesOpening, TakingOpening, taken_from, TakingSites, TakingAll}
use Rattle.sites.specs.declared.Terminal.{Terminal}
use Rattle.sites.specs.Values.{Opening.Refused, Opening.Opened, Served}
use Rattle.sites.proofs.Serving.{passing, passes}
use Rattle.sites.proofs.Calling.{opened_turned, opened_for, none_to_come, next_called, by_ending, call_spent, run_of_calls}

-- ---- opening

pub taking_opening : TakingOpening
taking_opening k whole places r places' h =
    record {
      refused = λ n. let e = opened_turned k whole n in (h.number ∙ ap opening_number e, h.terminal ∙ ap (places_in places) e);
      taken = λ m. let e = opened_for k whole m in (h.number ∙ ap opening_number e, h.terminal ∙ ap (places_in places) e);
    }

-- the two endings of opening
pub opens_refused : (k whole : ℕ) → (OneToEight k → ⊥) → Opens k whole (Refused 21)
opens_refused k whole n = record { opening = sym (opened_turned k whole n) }

pub opens_opened : (k whole : ℕ) → OneToEight k → Opens k whole (Opened (terminal_of whole (whole / k) k))
opens_opened k whole m = record { opening = sym (opened_for k whole m) }

-- ---- a call

-- the refusal 21 fits a word
away_fits : Packable (CheckRefused 21)
away_fits = record { number = omega arith; branchings = omega arith; derived = omega arith; records = omega arith }

-- every answer to a call does, and a call leaves the part as it was
call_fits : (bytes : List ℕ) (t : Terminal) (s : Site) → t.left < 2 ^ 32 → Packable (call bytes t s).returned.answer
unfolding reply_to
call_fits bytes t s h =
    by_ending bytes t s (λ (x : Turn). Packable x.returned.answer)
    (λ e. away_fits)
    (λ later e. (contract.demands).answers_fit bytes s.order (allowance_before t later) (lengths s.tables) (omega (arith, h)))

call_part : (bytes : List ℕ) (t : Terminal) (s : Site) → (call bytes t s).returned.terminal.part ≡ t.part
call_part bytes t s = by_ending bytes t s (λ (x : Turn). x.returned.terminal.part ≡ t.part) (λ e. refl) (λ later e. refl)

-- what a call leaves, by what the check was given
module _ (bytes : List ℕ) (t : Terminal) (o : Order) (before : Tables) where
  pub serves_none : t.sites ≡ 0 → (r : Served) → r ≡ record { answer = CheckRefused 21; terminal = t } → Serves bytes t o before r before
  serves_none e r f = record { turn = ap (λ (x : Served). record { returned = x; tables = before }) f ∙ sym (none_to_come bytes t (record { order = o; tables = before }) e) }

  -- the next site is checked with its allowance
  module _ (later : ℕ) (next : t.sites ≡ suc later) (allowance : ℕ) (is : allowance ≡ allowance_before t later) (a : Answer) (after : Tables) (c : Checked bytes o allowance before a after) where
    pub no_more : used_in a ≤ t.left
    no_more =
        let few : used_in a ≤ allowance = subst⁻¹ (λ (x : Answer). used_in x ≤ allowance) c.answer (branchings_within bytes o allowance (lengths before)) in
        omega (arith, few, is)

    pub serves_next :
        (r : Served) → r ≡ record { answer = a; terminal = record { left = t.left - used_in a; part = t.part; sites = later } } →
        Serves bytes t o before r after
    unfolding reply_to
    serves_next r f =
        let x : Answer → Tables → Turn =
        λ (b : Answer) (u : Tables). record { returned = record { answer = b; terminal = record { left = t.left - used_in b; part = t.part; sites = later } }; tables = u }
        in
        let c' = subst (λ (n : ℕ). Checked bytes o n before a after) is c in
        record {
          turn =
              ap (λ (y : Served). record { returned = y; tables = after }) f
              ∙ ap₂ x c'.answer c'.tables
              ∙ sym (next_called bytes t (record { order = o; tables = before }) later next);
        }

  module _ (r : Served) (after : Tables) (h : Serves bytes t o before r after) where
    pub word_fits : t.left < 2 ^ 32 → Packable r.answer
    word_fits few =
        subst⁻¹ Packable (ap (λ (x : Turn). x.returned.answer) h.turn) (call_fits bytes t (record { order = o; tables = before }) few)

    pub hands_site : (w : ℕ) → w ≡ packed r.answer → HandsSite bytes t o before w (terminal_of r.terminal.left t.part r.terminal.sites) after
    hands_site w e =
        let same : r.terminal ≡ (call bytes t (record { order = o; tables = before })).returned.terminal = ap (λ (x : Turn). x.returned.terminal) h.turn in
        let part : t.part ≡ r.terminal.part = sym (ap (λ (x : Terminal). x.part) same ∙ call_part bytes t (record { order = o; tables = before })) in
        record {
          word = e ∙ ap (λ (x : Turn). packed x.returned.answer) h.turn;
          terminal = ap (λ (p : ℕ). terminal_of r.terminal.left p r.terminal.sites) part ∙ same;
          tables = ap (λ (x : Turn). x.tables) h.turn;
        }

-- ---- a run of exported calls

pub taking_sites : TakingSites
taking_sites bytes t [] [] last h u = (refl, u)
taking_sites bytes t [] (x ∷ xs) last h u = absurd u
taking_sites bytes t (s ∷ ss) [] last h u = absurd u
taking_sites bytes t (s ∷ ss) (x ∷ xs) last h u =
    let one = u.1 in
    let few : u.0.left < 2 ^ 32 = subst⁻¹ (λ (y : Terminal). y.left < 2 ^ 32) one.terminal (omega (arith, h, call_spent bytes t s)) in
    let answer : unpacked x.word ≡ (call bytes t s).returned.answer = ap unpacked one.word ∙ inverse _ (call_fits bytes t s h) in
    let rest = taking_sites bytes u.0 ss xs last few u.2 in (
      ap₂ (λ (r : Reply) (rs : List Reply). r ∷ rs)
          (ap₂ (λ (a : Answer) (y : Tables). record { answer = a; tables = y }) answer one.tables)
          (rest.0 ∙ ap (λ (y : Terminal). calls bytes y ss) one.terminal),
      rest.1 ∙ ap (λ (y : Terminal). terminal_after bytes y ss) one.terminal,
    )

pub taking_all : TakingAll
taking_all bytes whole ss places t last xs h o u = go (sites_fault (length ss)) refl
  where
    opens : TakesOpening (length ss) whole places 0 t
    opens = taking_opening (length ss) whole places 0 t o

    go : (b : Bool) → sites_fault (length ss) ≡ b → sites bytes whole ss ≡ served (map taken_from xs)
    -- an opening that returns 0 is no refusal
    go true e = let away = (opens.refused (λ m. both_ways _ e (passes (length ss) m))).0 in absurd (omega (arith, away))
    go false e =
        let m = passing (length ss) e in
        let is : t ≡ terminal_of whole (whole / length ss) (length ss) = (opens.taken m).1 in
        let few : t.left < 2 ^ 32 = subst⁻¹ (λ (y : Terminal). y.left < 2 ^ 32) is h in
        run_of_calls bytes whole ss t (opened_for (length ss) whole m ∙ ap Opened (sym is)) ∙ ap served (sym (taking_sites bytes t ss xs last few u).0)
