-- The identity leaves everything as it is: no option is reversed, and each keeps its number. So the bytes of a book are those that were read, and the outcome, which goes by the
-- completed order, is the same.
use mathlib.Core.Path.{◌≡◌, refl, sym, ap, ap₂, subst, ◌∙◌}
use mathlib.Core.Bool.{true}
use mathlib.Core.List.Memᴰ
use mathlib.Core.List.{List, [], ◌∷◌, map}
use Prim.Native.Nat.{ℕ}
use Rattle.words.specs.Words.{has, minus, first_vars, Within}
use Rattle.words.proofs.Truth.{iff}
use Rattle.words.proofs.Membership.{has_zero, ext}
use Rattle.words.proofs.Sets.{within_trans, or_within_l, or_within_r, lt_within}
use Rattle.steps.specs.Clause.{Clause, vars}
use Rattle.steps.specs.Shape.{AllProper}
use Rattle.order.specs.Order.{complete}
use Rattle.order.proofs.Completed.{without_standard}
use Rattle.book.specs.Bytes.{vars_in, rules_in, encode}
use Rattle.book.specs.Refusals.{first_row, book_rows, order_rows, admit_rows}
use Rattle.book.specs.Reading.{Reading.book, read}
use Rattle.book.specs.Conditions.{admit_conditions}
use Rattle.book.proofs.Refusals.{none_among, none_iff}
use Rattle.book.proofs.Conditions.{rows_decide}
use Rattle.book.proofs.Readings.{book_by}
use Rattle.book.proofs.Accepted.{none_admitted}
use Rattle.book.proofs.RoundTrip.{written_read}
use Rattle.contract.proofs.Demands as contract
use Rattle.renaming.specs.Renaming.{image}
use Rattle.renaming.proofs.Images.{image_named, image_has, first_below}
use Rattle.renumbering.specs.Renumbering.{exchanged, carried, renumbered_rule, renumbered_order, renumbered_choice, renumbered_book, renumbered_words, identity}
use Rattle.renumbering.specs.Demands.{Identity, IdentityOfBooks}
use Rattle.renumbering.proofs.Carrying.{exchanged_stays}

none_exchanged : (p q : ℕ) → exchanged 0 p q ≡ p
none_exchanged p q = ext _ p (λ k. exchanged_stays 0 p q k (has_zero k))

own_numbers : (n w : ℕ) → Within w (first_vars n) → image (λ k. k) n w ≡ w
own_numbers n w within =
    ext _ w
    (λ k.
    iff _ _
    (λ h. let i = image_named (λ j. j) n w k h in subst (λ v. has w v ≡ true) i.number i.member)
    (λ h. image_has (λ j. j) n w k (first_below n k (within k h)) h))

left : (n p q : ℕ) → Within p (first_vars n) → carried identity n p q ≡ p
unfolding carried
left n p q within = ap (image (λ k. k) n) (none_exchanged p q) ∙ own_numbers n p within

pub leaves : Identity
unfolding renumbered_rule renumbered_order renumbered_choice vars
leaves n =
    record {
      permutes = record { into = λ k h. h; apart = λ j k g h e. e };
      rule =
          λ c h.
          ap₂ (λ p q. record { pos = p; neg = q }) (left n c.pos c.neg (within_trans _ _ _ (or_within_l c.pos c.neg) h))
          (left n c.neg c.pos (within_trans _ _ _ (or_within_r c.pos c.neg) h));
      order = λ o f g. ap₂ (λ p q. record { pos = p; neg = q }) (left n o.pos o.neg f) (left n o.neg o.pos g);
      choice = λ x h. left n x (minus (first_vars n) x) (lt_within n x h);
    }

same_rules : (n : ℕ) (cs : List Clause) → AllProper n cs → map (renumbered_rule identity n) cs ≡ cs
same_rules n [] all = refl
same_rules n (c ∷ cs) all = ap₂ ◌∷◌ ((leaves n).rule c (all c (Memᴰ.head refl)).named) (same_rules n cs (λ d i. all d (Memᴰ.tail i)))

pub leaves_books : IdentityOfBooks
unfolding renumbered_book renumbered_words read admit_rows
leaves_books bytes o all h =
    let n = vars_in bytes in
    let cs = rules_in bytes in
    let row = (none_iff (admit_rows bytes o) (admit_conditions bytes o) (rows_decide bytes o)).1 h in
    let a = none_admitted bytes o row in
    let is : read bytes ≡ book n cs = sym (book_by (first_row (book_rows bytes)) n cs (none_among (book_rows bytes) (order_rows n o) row)) in
    record {
      book = ap (encode n) (same_rules n cs a.well_formed.proper) ∙ written_read bytes n cs all is;
      outcome =
          (contract.demands).by_completed bytes o _
          (sym (without_standard _ _ ∙ (leaves n).order (complete o) a.input.wanted a.input.unwanted));
    }
