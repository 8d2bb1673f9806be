-- The terminal: what is left of the whole allowance is what was left unused and the parts of the sites to come, so a run of calls is the list of the definition.
use mathlib.Core.Path.{◌≡◌, refl, sym, ap, ap₂, subst, subst⁻¹, ◌∙◌}
use mathlib.Core.Bool.{Bool, true, false}
use mathlib.Core.List.{List, [], ◌∷◌, ◌++◌, map}
use mathlib.Core.Logic.{◌⊎◌.inl, ◌⊎◌.inr}
use Prim.Native.Nat.{ℕ, zero, suc, ◌+◌, ◌-◌, ◌*◌, ◌/◌, ◌%◌, ◌≤◌}
use native.Mathlib.Nat.{mul-suc, div-add-mod'}
use native.Mathlib.Omega.{arith}
use lib.ListN.{length}
use Rattle.words.proofs.Truth.{both_ways, clash}
use Rattle.answer.specs.Answer.{Answer.Refused as CheckRefused}
use Rattle.contract.specs.Filled.{lengths}
use Rattle.contract.specs.Demands.{Named}
use Rattle.contract.proofs.Demands as contract
use Rattle.sites.specs.Sites.{Site, Reply, sites_fault, used_in, reply_to, Replies.served}
use Rattle.sites.specs.Terminal.{opened, allowance_before, Turn, call_with, call_by, call, reply_in, calls, terminal_after}
use Rattle.sites.specs.Handed.{terminal_of}
use Rattle.sites.specs.Demands.{OneToEight, OpenedFor, OpenedOrRefused, used_by, RunOfCalls, OneByOne, NoneToCome, AfterTheLast, CalledWith, AnyTerminal}
use Rattle.sites.specs.declared.Terminal.{Terminal}
use Rattle.sites.specs.Values.{Opening.Refused, Opening.Opened}
use Rattle.sites.proofs.Serving.{passing, passes, turned, used_within, served_with, sites_served}

-- ---- opening

pub opened_turned : (k whole : ℕ) → (OneToEight k → ⊥) → opened k whole ≡ Refused 21
unfolding opened
opened_turned k whole n = rw (turned k n, opened) refl

pub opened_for : (k whole : ℕ) → OneToEight k → opened k whole ≡ Opened (terminal_of whole (whole / k) k)
unfolding opened
opened_for k whole m = rw (passes k m, opened) refl

pub opening : OpenedOrRefused
opening k whole = go (sites_fault k) refl
  where
    go : (b : Bool) → sites_fault k ≡ b → OpenedFor k whole
    go true e =
        let no : OneToEight k → ⊥ = λ m. both_ways _ e (passes k m) in
        let away = opened_turned k whole no in
        record {
          refused = λ j. (λ f. let same : Refused 21 ≡ Refused j = sym away ∙ f in (cc, no), λ x. away ∙ ap Refused (sym x.0));
          terminal = λ t. (λ f. let other : Refused 21 ≡ Opened t = sym away ∙ f in clash cc, λ x. absurd (no x.0));
        }
    go false e =
        let m = passing k e in
        let first = opened_for k whole m in
        record {
          refused = λ j. (λ f. let other : Opened (terminal_of whole (whole / k) k) ≡ Refused j = sym first ∙ f in clash cc, λ x. absurd (x.1 m));
          terminal = λ t. (λ f. let same : Opened (terminal_of whole (whole / k) k) ≡ Opened t = sym first ∙ f in (m, sym cc), λ x. first ∙ ap Opened (sym x.1));
        }

-- ---- a call

-- where no site is to come
pub none_to_come : NoneToCome
unfolding call
none_to_come bytes t s e = ap (call_by bytes t s) e

module _ (bytes : List ℕ) where
  -- where so many come after the next
  pub next_called : (t : Terminal) (s : Site) (later : ℕ) → t.sites ≡ suc later → call bytes t s ≡ call_with bytes t s (allowance_before t later) later
  unfolding call
  next_called t s later e = ap (call_by bytes t s) e

  -- what holds however a call ends holds of it
  pub by_ending :
      (t : Terminal) (s : Site) (P : Turn → Type 0) →
      (t.sites ≡ 0 → P (record { returned = record { answer = CheckRefused 21; terminal = t }; tables = s.tables })) →
      ((later : ℕ) → t.sites ≡ suc later → P (call_with bytes t s (allowance_before t later) later)) → P (call bytes t s)
  by_ending t s P none next = go t.sites refl
    where
      go : (n : ℕ) → t.sites ≡ n → P (call bytes t s)
      go zero e = subst⁻¹ P (none_to_come bytes t s e) (none e)
      go (suc later) e = subst⁻¹ P (next_called t s later e) (next later e)

  -- what a call uses and what it leaves are what was left
  pub call_spent : (t : Terminal) (s : Site) → used_in (call bytes t s).returned.answer + (call bytes t s).returned.terminal.left ≡ t.left
  call_spent t s =
      by_ending t s (λ (x : Turn). used_in x.returned.answer + x.returned.terminal.left ≡ t.left)
      (λ e. omega arith)
      (λ later e. let few = used_within bytes (allowance_before t later) s in omega (arith, few))

  all_spent : (t : Terminal) (ss : List Site) → used_by (calls bytes t ss) + (terminal_after bytes t ss).left ≡ t.left
  all_spent t [] = omega arith
  all_spent t (s ∷ ss) =
      let one = call_spent t s in
      let rest = all_spent (call bytes t s).returned.terminal ss in
      omega (arith, one, rest)

-- no check is refused by 21
never_away : (bytes : List ℕ) (allowance : ℕ) (s : Site) → (reply_to bytes allowance s).answer ≡ CheckRefused 21 → ⊥
unfolding reply_to
never_away bytes allowance s e =
    go (subst Named e ((contract.demands).answers bytes s.order allowance (lengths s.tables)))
  where
    go : Named (CheckRefused 21) → ⊥
    go (inl x) = omega (arith, x.1)
    go (inr x) = omega (arith, x)

pub any_terminal : AnyTerminal
unfolding reply_to
any_terminal bytes t =
    record { one = one; turned = λ s. (none s, λ e. ap (λ (x : Turn). x.returned.answer) (none_to_come bytes t s e)); all = all_spent bytes t }
  where
    one : (s : Site) (later : ℕ) → t.sites ≡ suc later → CalledWith bytes t s later (call bytes t s)
    one s later e =
        subst⁻¹ (CalledWith bytes t s later) (next_called bytes t s later e) (record { checked = record { answer = refl; tables = refl }; left = refl; part = refl; sites = refl })

    none : (s : Site) → (call bytes t s).returned.answer ≡ CheckRefused 21 → t.sites ≡ 0
    none s =
        by_ending bytes t s (λ (x : Turn). x.returned.answer ≡ CheckRefused 21 → t.sites ≡ 0)
        (λ e f. e)
        (λ later e f. absurd (never_away bytes (allowance_before t later) s f))

-- ---- a run of calls

pub one_by_one : OneByOne
one_by_one bytes t [] more = refl
one_by_one bytes t (s ∷ ss) more = ap (λ (rs : List Reply). reply_in (call bytes t s) ∷ rs) (one_by_one bytes (call bytes t s).returned.terminal ss more)

module _ (bytes : List ℕ) where
  -- as many calls as sites to come leave none
  served_out : (t : Terminal) (ss : List Site) → t.sites ≡ length ss → (terminal_after bytes t ss).sites ≡ 0
  served_out t [] e = e
  served_out t (s ∷ ss) e = served_out (call bytes t s).returned.terminal ss (ap (λ (x : Turn). x.returned.terminal.sites) (next_called bytes t s (length ss) e))

  -- calls where no site is to come
  abbrev away : Site → Reply
  away s = record { answer = CheckRefused 21; tables = s.tables }

  none_calls : (t : Terminal) (ss : List Site) → t.sites ≡ 0 → (calls bytes t ss ≡ map away ss) × (terminal_after bytes t ss ≡ t)
  none_calls t [] e = (refl, refl)
  none_calls t (s ∷ ss) e =
      let first = none_to_come bytes t s e in
      let same : (call bytes t s).returned.terminal ≡ t = ap (λ (x : Turn). x.returned.terminal) first in
      let rest = none_calls (call bytes t s).returned.terminal ss (ap (λ (x : Terminal). x.sites) same ∙ e) in (
        ap₂ (λ (r : Reply) (rs : List Reply). r ∷ rs) (ap reply_in first) rest.0,
        rest.1 ∙ same,
      )

  after_append : (t : Terminal) (ss more : List Site) → terminal_after bytes t (ss ++ more) ≡ terminal_after bytes (terminal_after bytes t ss) more
  after_append t [] more = refl
  after_append t (s ∷ ss) more = after_append (call bytes t s).returned.terminal ss more

  -- a run of calls, where what is left is what was left unused and the parts of the sites to come
  calls_with :
      (part unused : ℕ) (t : Terminal) (ss : List Site) → t.sites ≡ length ss → t.part ≡ part → t.left ≡ unused + part * length ss →
      calls bytes t ss ≡ served_with bytes part unused ss
  calls_with part unused t [] e f g = refl
  calls_with part unused t (s ∷ ss) e f g =
      let m : ℕ = length ss in
      let more : part * suc m ≡ part * m + part = mul-suc part m in
      let others : t.part * m ≡ part * m = ap (λ (x : ℕ). x * m) f in
      let allowance : allowance_before t m ≡ part + unused = omega (arith, g, more, others) in
      let first : call bytes t s ≡ call_with bytes t s (part + unused) m = next_called bytes t s m e ∙ ap (λ (a : ℕ). call_with bytes t s a m) allowance in
      let used : ℕ = used_in (reply_to bytes (part + unused) s).answer in
      let few : used ≤ part + unused = used_within bytes (part + unused) s in
      let next : Terminal = (call_with bytes t s (part + unused) m).returned.terminal in
      let left : next.left ≡ (part + unused - used) + part * m = omega (arith, g, more, few) in
      ap (λ (x : Turn). reply_in x ∷ calls bytes x.returned.terminal ss) first
      ∙ ap (λ (rs : List Reply). reply_to bytes (part + unused) s ∷ rs) (calls_with part (part + unused - used) next ss refl f left)

  -- calls with a terminal that was opened
  calls_opened :
      (whole : ℕ) (ss : List Site) →
      calls bytes (terminal_of whole (whole / length ss) (length ss)) ss ≡ served_with bytes (whole / length ss) (whole % length ss) ss
  calls_opened whole ss =
      let k : ℕ = length ss in
      calls_with (whole / k) (whole % k) (terminal_of whole (whole / k) k) ss refl refl (omega (arith, div-add-mod' whole k))

pub after_the_last : AfterTheLast
after_the_last bytes t ss e =
    let none = served_out bytes t ss e in
    record {
      none_to_come = none;
      further =
          λ more.
          one_by_one bytes t ss more
          ∙ ap (λ (rs : List Reply). calls bytes t ss ++ rs) (none_calls bytes (terminal_after bytes t ss) more none).0;
      stays = λ more. after_append bytes t ss more ∙ (none_calls bytes (terminal_after bytes t ss) more none).1;
    }

pub run_of_calls : RunOfCalls
run_of_calls bytes whole ss t e =
    let is = ((opening (length ss) whole).terminal t).0 e in
    sites_served bytes whole ss is.0 ∙ ap served (sym (calls_opened bytes whole ss)) ∙ ap (λ (x : Terminal). served (calls bytes x ss)) (sym is.1)

-- the sum used is never more than the whole
pub sum_with : (bytes : List ℕ) (whole : ℕ) (ss : List Site) → used_by (served_with bytes (whole / length ss) (whole % length ss) ss) ≤ whole
sum_with bytes whole ss =
    let t : Terminal = terminal_of whole (whole / length ss) (length ss) in
    subst
    (λ (rs : List Reply). used_by rs ≤ whole)
    (calls_opened bytes whole ss)
    (omega (arith, all_spent bytes t ss))
