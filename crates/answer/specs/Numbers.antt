-- The numbers of refusals and stops (docs/FORMAT.md), and an answer of the code by them.
use Rattle.std.specs.Prelude.{ℕ}
use Rattle.answer.specs.Answer.{Answer, Answer.Can, Answer.Cannot, Answer.Refused, Answer.Stopped, stop_branchings, stop_places}
use Rattle.answer.specs.declared.refusal.Refusal.{Refusal}
use Rattle.answer.specs.declared.refusal.Refusal.TheVariants.{TooShort, TooManyOptions, TooManyRules, WrongLength, RuleAbove, RuleHasBoth, OptionAbove, OrderHasBoth, UnfitTables, StandardAbove, NumberOfOrders, NoSuchDraft, NeverKept, TooManyInTurn, TooManyToPrice, PriceOutside, OpenOutside, OpenSettled, NumberOfSites, FaultyPairs, JointTooLarge}
use Rattle.answer.specs.declared.refusal.Stop.{Stop}
use Rattle.answer.specs.declared.refusal.Stop.TheVariants.{Branchings, Places}
use Rattle.answer.specs.declared.Answer as declared
use Rattle.answer.specs.declared.Answer.TheVariants as answered

-- the number of a refusal
abbrev pub refusal_number : Refusal → ℕ
refusal_number TooShort = 1
refusal_number TooManyOptions = 2
refusal_number TooManyRules = 3
refusal_number WrongLength = 4
refusal_number RuleAbove = 5
refusal_number RuleHasBoth = 6
refusal_number OptionAbove = 7
refusal_number OrderHasBoth = 8
refusal_number UnfitTables = 9
refusal_number StandardAbove = 12
refusal_number NumberOfOrders = 13
refusal_number NoSuchDraft = 14
refusal_number NeverKept = 15
refusal_number TooManyInTurn = 16
refusal_number TooManyToPrice = 17
refusal_number PriceOutside = 18
refusal_number OpenOutside = 19
refusal_number OpenSettled = 20
refusal_number NumberOfSites = 21
refusal_number FaultyPairs = 22
refusal_number JointTooLarge = 23

-- the number of a stop
abbrev pub stop_number : Stop → ℕ
stop_number Branchings = stop_branchings
stop_number Places = stop_places

-- an answer of the code, with its refusal or stop by number
abbrev pub by_number : declared.Answer → Answer
by_number (answered.Can t) = Can t
by_number (answered.Cannot t) = Cannot t
by_number (answered.Refused r) = Refused (refusal_number r)
by_number (answered.Stopped s t) = Stopped (stop_number s) t
