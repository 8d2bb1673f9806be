-- Up to 10 options are left open: every setting of them is tried, each as a check of its own on tables of zeros with the whole allowance, until one stops.
use Rattle.std.specs.Prelude.{◌≡◌, Bool, true, false, ◌&&◌, ◌||◌, List, [], ◌∷◌, ◌++◌, ℕ, ltb, length, replicate}
use Rattle.std.proofs.Math.Option.{Option, some, none}
use Rattle.std.specs.Int.Bits.{bit_or}
use Rattle.std.specs.Int.Count.{ones}
use Rattle.words.specs.Words.{minus, meets}
use Rattle.order.specs.Order.{Order}
use Rattle.book.specs.Bytes.{vars_in}
use Rattle.book.specs.Refusals.{Row, row, first_row, above, admit_rows}
use Rattle.answer.specs.Answer.{Answer, Answer.Can, Answer.Cannot, Answer.Refused as CheckRefused, Answer.Stopped as CheckStopped}
use Rattle.contract.specs.Check.{Lengths, table_rows, check}
use Rattle.contract.specs.Filled.{Tables, lengths, answer_of, filled}
use Rattle.undecided.specs.Settings.{settings}
use Rattle.undecided.specs.declared.Verdict.{Verdict}
use Rattle.undecided.specs.declared.Verdict.TheVariants.{Always, Sometimes, Never, Stopped}
use Rattle.undecided.specs.Values.{Tried, Reply, Reply.Refused, Reply.tried}

-- ---- refusals

-- the most open options
abbrev pub max_open : ℕ
max_open = 10

-- 19, more than 10 open options or one above n, and 20, an open option is wanted or unwanted
unfoldable pub open_rows : ℕ → Order → ℕ → List Row
open_rows n o opens = row 19 (ltb max_open (ones opens) || above n opens 0) ∷ row 20 (meets opens (bit_or o.wanted o.unwanted)) ∷ []

-- 1 to 8 and 12, then 19 and 20, then 9
abbrev pub undecided_rows : List ℕ → Order → ℕ → Lengths → List Row
undecided_rows bytes o opens l = (admit_rows bytes o ++ open_rows (vars_in bytes) o opens) ++ table_rows l

-- ---- trying a setting

-- the order with a setting: the open options in it are wanted, the other open ones unwanted, and none is standard
unfoldable pub with_setting : Order → ℕ → ℕ → Order
with_setting o opens s =
    record { wanted = bit_or o.wanted s; unwanted = bit_or o.unwanted (minus opens s); standard = minus o.standard opens }

-- the answer to it
abbrev pub answer_to : List ℕ → Order → ℕ → ℕ → Lengths → ℕ → Answer
answer_to bytes o opens allowance l s = answer_of (check bytes (with_setting o opens s) allowance l)

-- the tables with every place zero
abbrev pub zeros : List ℕ → List ℕ
zeros t = replicate (length t) 0

abbrev pub zeroed : Tables → Tables
zeroed t = record { pos = zeros t.pos; neg = zeros t.neg; decided = zeros t.decided; trues = zeros t.trues; redundant = zeros t.redundant }

-- ---- trying them all

abbrev pub is_can : Answer → Bool
is_can (Can t) = true
is_can (Cannot t) = false
is_can (CheckRefused k) = false
is_can (CheckStopped k t) = false

abbrev pub is_stop : Answer → Bool
is_stop (Can t) = false
is_stop (Cannot t) = false
is_stop (CheckRefused k) = false
is_stop (CheckStopped k t) = true

-- the last setting tried of these, where f gives each its answer: the first that stops, and else the last of all; x is the one tried before them
abbrev pub last_tried : (ℕ → Answer) → ℕ → List ℕ → ℕ
last_tried f x [] = x
last_tried f x (s ∷ ss) = elim (is_stop (f s)) [ true ↦ s | false ↦ last_tried f s ss ]

-- all of them can be built, some can
abbrev pub all_can : (ℕ → Answer) → List ℕ → Bool
all_can f [] = true
all_can f (s ∷ ss) = is_can (f s) && all_can f ss

abbrev pub some_can : (ℕ → Answer) → List ℕ → Bool
some_can f [] = false
some_can f (s ∷ ss) = is_can (f s) || some_can f ss

-- whether the last one stopped, all can, some can
abbrev pub verdict_by : Bool → Bool → Bool → Verdict
verdict_by true all any = Stopped
verdict_by false true any = Always
verdict_by false false true = Sometimes
verdict_by false false false = Never

-- what trying these settings gives, where s is the last one tried
abbrev pub tried_to : (ℕ → Answer) → List ℕ → ℕ → Tried
tried_to f ss s = record { verdict = verdict_by (is_stop (f s)) (all_can f ss) (some_can f ss); setting = s; last = f s }

-- the tables after one setting, which are set to zero before it
abbrev pub tried_on : List ℕ → Order → ℕ → ℕ → Tables → ℕ → Tables
tried_on bytes o opens allowance t s = filled (check bytes (with_setting o opens s) allowance (lengths t)) (zeroed t)

-- the tables after these settings, one after the other, up to the first that stops
abbrev pub tables_after : List ℕ → Order → ℕ → ℕ → Tables → List ℕ → Tables
tables_after bytes o opens allowance t [] = t
tables_after bytes o opens allowance t (s ∷ ss) =
    elim (is_stop (answer_to bytes o opens allowance (lengths t) s)) [
      | true ↦ tried_on bytes o opens allowance t s
      | false ↦ tables_after bytes o opens allowance (tried_on bytes o opens allowance t s) ss
    ]

-- what is left: the reply, and the tables
pub record Left : Type 0 where
  pub reply : Reply
  pub tables : Tables

-- the last setting tried
abbrev pub last_setting : List ℕ → Order → ℕ → ℕ → Lengths → ℕ
last_setting bytes o opens allowance l = last_tried (answer_to bytes o opens allowance l) 0 (settings opens)

-- all settings tried, up to the first that stops. No check changes a table's length
unfoldable pub tried_all : List ℕ → Order → ℕ → ℕ → Tables → Left
tried_all bytes o opens allowance t =
    record {
      reply = tried (tried_to (answer_to bytes o opens allowance (lengths t)) (settings opens) (last_setting bytes o opens allowance (lengths t)));
      tables = tables_after bytes o opens allowance t (settings opens);
    }

-- refused by the row that was found, and else tried
abbrev pub left_by : List ℕ → Order → ℕ → ℕ → Tables → Option ℕ → Left
left_by bytes o opens allowance t (some k) = record { reply = Refused k; tables = t }
left_by bytes o opens allowance t none = tried_all bytes o opens allowance t

-- book bytes, an order, the word of the open options, the allowance and the lent tables
unfoldable pub undecided : List ℕ → Order → ℕ → ℕ → Tables → Left
undecided bytes o opens allowance t = left_by bytes o opens allowance t (first_row (undecided_rows bytes o opens (lengths t)))

-- what the entry point promises: its reply and all five tables are those of the definition
pub record Replies (bytes : List ℕ) (o : Order) (opens allowance : ℕ) (before : Tables) (r : Reply) (after : Tables) : Type 0 where
  pub left : record { reply = r; tables = after } ≡ undecided bytes o opens allowance before
