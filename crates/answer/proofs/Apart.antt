-- The refusal and the stop of a number, which show that no two have the same, and so the answer of the code by its numbers.
use mathlib.Core.Path.{◌≡◌, refl, sym, ap, ◌∙◌}
use mathlib.Core.List.{List, [], ◌∷◌}
use Prim.Native.Nat.{ℕ, ◌-◌}
use lib.ListN.{get_or}
use Rattle.answer.specs.Answer.{Answer, Answer.Can, Answer.Cannot, Answer.Refused, Answer.Stopped}
use Rattle.answer.specs.Numbers.{refusal_number, stop_number, by_number}
use Rattle.answer.specs.Demands.{NumbersApart, StopsApart}
use Rattle.answer.specs.declared.Answer as declared
use Rattle.answer.specs.declared.Answer.TheVariants as answered
use Rattle.answer.specs.declared.refusal.Refusal.{Refusal}
use Rattle.answer.specs.declared.refusal.Refusal.TheVariants.{TooShort, TooManyOptions, TooManyRules, WrongLength, RuleAbove, RuleHasBoth, OptionAbove, OrderHasBoth, UnfitTables, StandardAbove, NumberOfOrders, NoSuchDraft, NeverKept, TooManyInTurn, TooManyToPrice, PriceOutside, OpenOutside, OpenSettled, NumberOfSites, FaultyPairs, JointTooLarge}
use Rattle.answer.specs.declared.refusal.Stop.{Stop}
use Rattle.answer.specs.declared.refusal.Stop.TheVariants.{Branchings, Places}

-- at each number its refusal, and at those that are no refusal's the first
abbrev listed : List Refusal
listed =
    TooShort ∷ TooShort ∷ TooManyOptions ∷ TooManyRules ∷ WrongLength ∷ RuleAbove
    ∷ RuleHasBoth ∷ OptionAbove ∷ OrderHasBoth ∷ UnfitTables ∷ TooShort ∷ TooShort
    ∷ StandardAbove ∷ NumberOfOrders ∷ NoSuchDraft ∷ NeverKept ∷ TooManyInTurn ∷ TooManyToPrice
    ∷ PriceOutside ∷ OpenOutside ∷ OpenSettled ∷ NumberOfSites ∷ FaultyPairs ∷ JointTooLarge
    ∷ []

abbrev refusal_of : ℕ → Refusal
refusal_of n = get_or listed n TooShort

found : (r : Refusal) → refusal_of (refusal_number r) ≡ r
found TooShort = refl
found TooManyOptions = refl
found TooManyRules = refl
found WrongLength = refl
found RuleAbove = refl
found RuleHasBoth = refl
found OptionAbove = refl
found OrderHasBoth = refl
found UnfitTables = refl
found StandardAbove = refl
found NumberOfOrders = refl
found NoSuchDraft = refl
found NeverKept = refl
found TooManyInTurn = refl
found TooManyToPrice = refl
found PriceOutside = refl
found OpenOutside = refl
found OpenSettled = refl
found NumberOfSites = refl
found FaultyPairs = refl
found JointTooLarge = refl

pub numbers_apart : NumbersApart
numbers_apart r s e = sym (found r) ∙ ap refusal_of e ∙ found s

abbrev stop_of : ℕ → Stop
stop_of n = get_or (Branchings ∷ Places ∷ []) (n - 10) Branchings

found_stop : (s : Stop) → stop_of (stop_number s) ≡ s
found_stop Branchings = refl
found_stop Places = refl

pub stops_apart : StopsApart
stops_apart r s e = sym (found_stop r) ∙ ap stop_of e ∙ found_stop s

-- the answer of the code
abbrev pub answer_of : Answer → declared.Answer
answer_of (Can t) = answered.Can t
answer_of (Cannot t) = answered.Cannot t
answer_of (Refused k) = answered.Refused (refusal_of k)
answer_of (Stopped k t) = answered.Stopped (stop_of k) t

pub found_answer : (a : declared.Answer) → answer_of (by_number a) ≡ a
found_answer (answered.Can t) = refl
found_answer (answered.Cannot t) = refl
found_answer (answered.Refused r) = ap answered.Refused (found r)
found_answer (answered.Stopped s t) = ap (λ (x : Stop). answered.Stopped x t) (found_stop s)
