-- What the functions between the check and the page need and give.
use Rattle.std.specs.Prelude.{◌≡◌, List, ℕ, ◌^◌, ◌≤◌, ◌<◌, length, take}
use Rattle.answer.specs.Answer.{tally_in, number_in, Answer, Answer.Can, Answer.Cannot, Answer.Refused, Answer.Stopped}
use Rattle.book.specs.Limits.{max_derived}
use Rattle.contract.specs.Demands.{rules_of}
use Rattle.report.specs.declared.writer.Writer.{Writer}
use Rattle.page.specs.Page.{page_text}
use Rattle.layout.specs.declared.numbered.Numbered as declared
use Rattle.layout.specs.declared.numbered.Numbered.TheVariants as told

-- an answer by its numbers
abbrev pub numbered : declared.Numbered → Answer
numbered (told.Can t) = Can t
numbered (told.Cannot t) = Cannot t
numbered (told.Refused k) = Refused k
numbered (told.Stopped k t) = Stopped k t

-- the text stands at the start of the buffer, and r is its length
pub record Begins (text after : List ℕ) (r : ℕ) : Type 0 where
  pub first : take r after ≡ text
  pub size : r ≡ length text
  pub within : r ≤ length after

-- the text stands at the start of the writer's buffer, which is the same one, and the place is after it
pub record Started (before : Writer) (text : List ℕ) (after : Writer) : Type 0 where
  pub begins : Begins text after.out.now after.at
  pub same : after.out.ghost_name ≡ before.out.ghost_name

-- the derived rules of an answer are within two tables, and no more than are permitted; its number and its branchings have at most ten digits
pub record Fit (a : Answer) (ps ns : List ℕ) : Type 0 where
  pub pos : (tally_in a).derived ≤ length ps
  pub neg : (tally_in a).derived ≤ length ns
  pub few : (tally_in a).derived ≤ max_derived
  pub number : number_in a < 10 ^ 10
  pub branchings : (tally_in a).branchings < 10 ^ 10

-- the page of an answer, whose derived rules are in the counted places of two tables
abbrev pub page_in : Answer → List ℕ → List ℕ → List ℕ
page_in a ps ns = page_text a (rules_of (take (tally_in a).derived ps) (take (tally_in a).derived ns))
