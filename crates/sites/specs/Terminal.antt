-- The terminal: sites are served one a call, and what the calls need of one another is handed on by value.
use Rattle.std.specs.Prelude.{◌≡◌, true, false, List, [], ◌∷◌, ℕ, zero, suc, ◌-◌, ◌*◌, ◌/◌}
use Rattle.order.specs.Order.{Order}
use Rattle.answer.specs.Answer.{Answer.Refused as CheckRefused}
use Rattle.contract.specs.Filled.{Tables}
use Rattle.sites.specs.Sites.{Site, Reply, sites_fault, used_in, reply_to}
use Rattle.sites.specs.declared.Terminal.{Terminal}
use Rattle.sites.specs.Values.{Opening, Opening.Refused, Opening.Opened, Served}

-- a terminal for k sites and the whole allowance
unfoldable pub opened : ℕ → ℕ → Opening
opened k whole =
    elim (sites_fault k) [
      | true ↦ Refused 21
      | false ↦ Opened (record { left = whole; part = whole / k; sites = k })
    ]

-- the allowance of a site after which so many come: what is left, but for their parts
abbrev pub allowance_before : Terminal → ℕ → ℕ
allowance_before t later = t.left - t.part * later

-- a site's turn: what the call returns, and the site's tables as it leaves them
pub record Turn : Type 0 where
  pub returned : Served
  pub tables : Tables

-- the call for a site with this allowance, after which so many come
abbrev pub call_with : List ℕ → Terminal → Site → ℕ → ℕ → Turn
call_with bytes t s allowance later =
    let reply : Reply = reply_to bytes allowance s in
    record {
      returned = record { answer = reply.answer; terminal = record { left = t.left - used_in reply.answer; part = t.part; sites = later } };
      tables = reply.tables;
    }

-- by how many sites are to come
abbrev pub call_by : List ℕ → Terminal → Site → ℕ → Turn
call_by bytes t s zero = record { returned = record { answer = CheckRefused 21; terminal = t }; tables = s.tables }
call_by bytes t s (suc later) = call_with bytes t s (allowance_before t later) later

-- a call: the next site is served, or it is refused where none is to come
unfoldable pub call : List ℕ → Terminal → Site → Turn
call bytes t s = call_by bytes t s t.sites

-- ---- a run of calls

-- what a site is given by a call
abbrev pub reply_in : Turn → Reply
reply_in x = record { answer = x.returned.answer; tables = x.tables }

-- one call a site, each with the terminal that the one before it returned
abbrev pub calls : List ℕ → Terminal → List Site → List Reply
calls bytes t [] = []
calls bytes t (s ∷ ss) = reply_in (call bytes t s) ∷ calls bytes (call bytes t s).returned.terminal ss

-- the terminal after them
abbrev pub terminal_after : List ℕ → Terminal → List Site → Terminal
terminal_after bytes t [] = t
terminal_after bytes t (s ∷ ss) = terminal_after bytes (call bytes t s).returned.terminal ss

-- ---- what the entry points promise

-- opening: the terminal or the refusal is that of the definition
pub record Opens (k whole : ℕ) (r : Opening) : Type 0 where
  pub opening : r ≡ opened k whole

-- a call: the answer, the terminal for the next site and all five tables are those of the definition
pub record Serves (bytes : List ℕ) (t : Terminal) (o : Order) (before : Tables) (r : Served) (after : Tables) : Type 0 where
  pub turn : record { returned = r; tables = after } ≡ call bytes t (record { order = o; tables = before })
