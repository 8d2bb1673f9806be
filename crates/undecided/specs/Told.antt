-- What the exported function hands over: the word of an answer, and in the caller's two places the verdict by its number and the last setting tried.
use Rattle.std.specs.Prelude.{◌≡◌, List, ℕ}
use Rattle.order.specs.Order.{Order}
use Rattle.answer.specs.Packed.{packed}
use Rattle.answer.specs.Answer.{Answer.Refused as CheckRefused}
use Rattle.contract.specs.Filled.{Tables}
use Rattle.undecided.specs.Undecided.{undecided}
use Rattle.undecided.specs.declared.Verdict.{Verdict}
use Rattle.undecided.specs.declared.Verdict.TheVariants.{Always, Sometimes, Never, Stopped}
use Rattle.undecided.specs.Values.{Reply, Reply.Refused, Reply.tried}

abbrev pub verdict_number : Verdict → ℕ
verdict_number Always = 0
verdict_number Sometimes = 1
verdict_number Never = 2
verdict_number Stopped = 3

-- the word: a refusal's, or that of the last setting's answer
abbrev pub word_in : Reply → ℕ
word_in (Refused k) = packed (CheckRefused k)
word_in (tried x) = packed x.last

-- the caller's places, which a refusal leaves as they were
abbrev pub verdict_in : ℕ → Reply → ℕ
verdict_in v (Refused k) = v
verdict_in v (tried x) = verdict_number x.verdict

abbrev pub setting_in : ℕ → Reply → ℕ
setting_in s (Refused k) = s
setting_in s (tried x) = x.setting

-- v and s are the caller's places before the call, and v' and s' after it
pub record Told (bytes : List ℕ) (o : Order) (opens allowance v s : ℕ) (before : Tables) (w v' s' : ℕ) (after : Tables) : Type 0 where
  pub word : w ≡ word_in (undecided bytes o opens allowance before).reply
  pub verdict : v' ≡ verdict_in v (undecided bytes o opens allowance before).reply
  pub setting : s' ≡ setting_in s (undecided bytes o opens allowance before).reply
  pub tables : after ≡ (undecided bytes o opens allowance before).tables
