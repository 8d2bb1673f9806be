-- A book that was admitted with its order, played: what is answered is 16, or what the turns come to.
use Rattle.std.proofs.Common.{Option, Some, None}
use Rattle.std.specs.Option.{is_some}
use mathlib.Core.Path.{◌≡◌, refl, sym, ap, ap₂, ◌∙◌}
use mathlib.Core.Bool.{Bool, true, false, ◌&&◌}
use mathlib.Core.List.{List, [], ◌∷◌}
use Prim.Native.Nat.{ℕ, ◌≤◌, ◌<◌}
use native.Mathlib.Omega.{arith}
use borrow.Author.Tests.{lt-ltb, le-ltb}
use lib.Count.{ones}
use lib.Dec.{ltb}
use lib.ListN.{length}
use Rattle.words.specs.Words.{members}
use Rattle.steps.specs.Clause.{Clause}
use Rattle.order.specs.Order.{Order, complete, free}
use Rattle.rows.specs.Rows.{clauses}
use Rattle.book.specs.Bytes.{vars_in, rules_in}
use Rattle.book.specs.Refusals.{row, first_row, admit_rows}
use Rattle.book.specs.Reading.{Reading.book, Reading.refused, admit}
use Rattle.book.specs.declared.Book.{Book}
use Rattle.book.proofs.Refusals.{first_none, first_here, first_later, first_among, first_after}
use Rattle.book.proofs.Accepted.{admitted_book, admitted_row}
use Rattle.book.proofs.UnitClauses.{length_members}
use Rattle.turns.specs.Turns.{Responses, Turns, Turns.Refused, max_free, free_rows, Player.buyer, wins, forces, given, responses, told, played, answered_by, turns, Answers}
use Rattle.turns.specs.Values.{response_of}
use Rattle.turns.specs.declared.Response as declared
use Rattle.turns.specs.declared.Response.TheVariants as code
use Rattle.turns.proofs.Turning.{both_given}
use Rattle.playing.specs.declared.turn.Turn.{Turn}
use Rattle.playing.specs.Promises.{PlaysBook, Tells, Forced as IsForced}

-- ---- 16, and else the turns

module _ (n : ℕ) (cs : List Clause) (o : Order) (left count : ℕ) (el : left ≡ free n o) (ec : count ≡ ones left) where
  counted : ltb max_free count ≡ ltb max_free (ones (free n o))
  counted = ap (ltb max_free) (ec ∙ ap ones el)

  -- more than 12
  pub too_many : 12 < count → PlaysBook n cs o (Refused 16)
  unfolding free_rows
  too_many h = record { answer = sym (ap (answered_by n cs o) (first_here (row 16 (ltb max_free (ones (free n o)))) [] (sym counted ∙ lt-ltb max_free count h))) }

  -- no more than that
  pub few_enough :
      count ≤ 12 → (won : ℕ → Bool) → won ≡ wins cs (complete o) → (x : ℕ) → x ≡ (complete o).pos → (r : Turns) →
      Tells won (record { left = left; fitted = x }) r → PlaysBook n cs o r
  unfolding free_rows played
  few_enough h won ew x ex r t =
      record {
        answer =
            t.answer
            ∙ ap (λ w. told (forces w buyer (members left) x) (responses w (members left) x)) ew
            ∙ ap₂ (λ l y. told (forces (wins cs (complete o)) buyer (members l) y) (responses (wins cs (complete o)) (members l) y)) el ex
            ∙ sym
            (ap (answered_by n cs o)
            (first_later (row 16 (ltb max_free (ones (free n o)))) [] (sym counted ∙ le-ltb max_free count h) ∙ first_none));
      }

-- ---- forced or open

-- with two options or more it goes by the answers
module _ (won : ℕ → Bool) (t : Turn) (count : ℕ) (a : Responses) (ec : count ≡ ones t.left) (two : 2 ≤ count) (ea : a ≡ responses won (members t.left) t.fitted) where
  by_answers : forces won buyer (members t.left) t.fitted ≡ (given a.out && given a.fitted)
  by_answers =
      go (members t.left) (omega (arith, length_members (ones t.left) t.left refl, ec, two)) ∙ ap (λ r. given r.out && given r.fitted) (sym ea)
    where
      go : (vs : List ℕ) → 2 ≤ length vs → forces won buyer vs t.fitted ≡ (given (responses won vs t.fitted).out && given (responses won vs t.fitted).fitted)
      go [] h = absurd (omega arith)
      go (v ∷ []) h = absurd (omega arith)
      go (v ∷ u ∷ vs) h = both_given won v u vs t.fitted

  pub one_missing : (p : Bool) → p ≡ given a.out → p ≡ false → IsForced won t p
  one_missing p ep e = record { forced = e ∙ sym (by_answers ∙ ap (λ b. b && given a.fitted) (sym ep ∙ e)) }

  pub one_given : (p : Bool) → p ≡ given a.out → p ≡ true → (q : Bool) → q ≡ given a.fitted → IsForced won t q
  one_given p ep e q eq = record { forced = eq ∙ sym (by_answers ∙ ap (λ b. b && given a.fitted) (sym ep ∙ e)) }

-- there is an answer
pub is_given : (o : Option declared.Response) → is_some o ≡ given (response_of o)
is_given None = refl
is_given (Some code.Out) = refl
is_given (Some code.Fitted) = refl

-- ---- the book

pub refused_whole : (bytes : List ℕ) (o : Order) (k : ℕ) → refused k ≡ admit bytes o → Answers bytes o (Refused k)
unfolding turns
refused_whole bytes o k e = record { answer = sym (ap (answered_by (vars_in bytes) (rules_in bytes) o) (first_among (admit_rows bytes o) _ k (admitted_row bytes o k e))) }

pub played_whole : (bytes : List ℕ) (o : Order) (b : Book) (t : List ℕ) (r : Turns) → book b.vars (clauses t b.clauses) ≡ admit bytes o
    → PlaysBook b.vars (clauses t b.clauses) o r → Answers bytes o r
unfolding turns
played_whole bytes o b t r e p =
    let a = admitted_book bytes o b.vars (clauses t b.clauses) e in
    record {
      answer =
          p.answer
          ∙ ap₂ (λ n cs. answered_by n cs o (first_row (free_rows n o))) (sym a.vars_are) (sym a.clauses_are)
          ∙ ap (answered_by (vars_in bytes) (rules_in bytes) o) (sym (first_after (admit_rows bytes o) (free_rows (vars_in bytes) o) a.no_row));
    }
