-- Each demand, with its proof. What is said of a joint book that was written follows from its books being well formed and its pairs faultless (`Choices`).
use mathlib.Core.Path.{◌≡◌, refl, sym, ap, ◌∙◌}
use mathlib.Core.Bool.{true}
use mathlib.Core.List.{List, [], ◌∷◌, ◌++◌, map}
use mathlib.Core.Logic.{◌⊎◌, inl, inr, ⊎_elim}
use Prim.Native.Nat.{ℕ, ◌≤◌}
use native.Mathlib.Nat.{zero-add}
use native.Mathlib.Omega.{arith}
use lib.ListN.{length, take, drop, length-append, length-drop}
use lib.Seq.{take_at, drop_at}
use Rattle.words.specs.Words.{meets}
use Rattle.words.proofs.Truth.{both_ways, and_left, and_right, and_both}
use Rattle.words.proofs.Sets.{within_zero, within_minus, zero_meets}
use Rattle.steps.specs.Clause.{Clause, vars}
use Rattle.steps.specs.Meaning.{models, obeys}
use Rattle.book.specs.Bytes.{book_bytes, rules_in, encode}
use Rattle.book.specs.Reading.{Reading.book, read}
use Rattle.book.specs.Refusals.{above}
use Rattle.book.specs.Written.{placed}
use Rattle.book.specs.Conditions.{book_conditions}
use Rattle.book.proofs.Refusals.{Numbers, first_number, append_numbers, book_numbers}
use Rattle.book.proofs.Conditions.{names_above, in_both}
use Rattle.book.proofs.Orders.{above_within}
use Rattle.book.proofs.Encoding.{length_encode}
use Rattle.book.proofs.RoundTrip.{read_written}
use Rattle.renaming.specs.Renaming.{renamed}
use Rattle.renaming.proofs.Images.{image_members}
use Rattle.joint.specs.Pairs.{place}
use Rattle.joint.specs.Join.{Book, book_in, joint_vars, joint_count, joint_rules, joint_bytes, join}
use Rattle.joint.specs.Handed.{number_of, length_in}
use Rattle.joint.specs.Demands.{joint_conditions, join_conditions, IsWritten, NamedRefusal, Writing, Numbering, PlacedAll, Rules, Keeping, Parting, Meeting, no_wishes, Building, WithoutPairs, Taking, Demands}
use Rattle.joint.proofs.Numbers.{one_numbering}
use Rattle.joint.proofs.Judging.{left_written, judged, written_passed}
use Rattle.joint.proofs.Choices.{joint_rules_lem, Joinable, joinable, numbers, rules_count, rules_proper, rules_formed, kept, parted, met}
use Rattle.joint.proofs.Examples.{examples}

-- ---- the numbers of refusals

named_refusal : NamedRefusal
named_refusal first second pairs out k e =
    let P : ℕ → Type 0 = λ j. ((1 ≤ j) × (j ≤ 6)) ⊎ ((j ≡ 22) ⊎ (j ≡ 23)) in
    let book : (bytes : List ℕ) → Numbers P (book_conditions bytes) = book_numbers P (λ j low high. inl (low, high)) in
    let own = joint_conditions (book_in first) (book_in second) pairs (length out) in
    let both : Numbers P own = (inr (inl refl), (inr (inr refl), tt)) in
    first_number P (join_conditions first second pairs (length out)) k
    (append_numbers P (book_conditions first) (book_conditions second ++ own) (book first) (append_numbers P (book_conditions second) own (book second) both))
    (((judged first second pairs out).refused k).0 e)

-- ---- what is written

-- bytes at the beginning of a buffer
placed_first : (out bs : List ℕ) → placed out 0 bs ≡ bs ++ drop (length bs) out
unfolding placed
placed_first out bs = rw zero-add

-- the books of a call that writes can be joined
module _ (first second pairs out : List ℕ) (size : ℕ) (e : IsWritten first second pairs out size) where
  abbrev a : Book
  a = book_in first

  abbrev b : Book
  b = book_in second

  can_be : Joinable a b pairs (length out)
  can_be = joinable first second pairs (length out) (written_passed first second pairs out size e)

  bytes : List ℕ
  bytes = joint_bytes a b pairs

  size_is : size ≡ length bytes
  unfolding bytes
  size_is = let answer = (left_written first second pairs out (written_passed first second pairs out size e)).0 in cc

  bytes_are : bytes ≡ encode (joint_vars a b pairs) (joint_rules a b pairs)
  unfolding bytes joint_bytes
  bytes_are = refl

  after_is : (join first second pairs out).out ≡ bytes ++ drop (length bytes) out
  unfolding bytes
  after_is = (left_written first second pairs out (written_passed first second pairs out size e)).1 ∙ placed_first out bytes

  bytes_read : read bytes ≡ book (joint_vars a b pairs) (joint_rules a b pairs)
  bytes_read = ap read bytes_are ∙ read_written (joint_vars a b pairs) (joint_rules a b pairs) (rules_formed a b pairs (length out) can_be)

  book_length : length bytes ≡ book_bytes (joint_count a b)
  book_length = ap length bytes_are ∙ length_encode (joint_vars a b pairs) (joint_rules a b pairs) ∙ ap book_bytes (rules_count a b pairs (length out) can_be)

writing : Writing
writing first second pairs out size e =
    let bs = bytes first second pairs out size e in
    let s = size_is first second pairs out size e in
    let l = book_length first second pairs out size e in
    let after = after_is first second pairs out size e in
    let written = ap (take size) after ∙ take_at bs _ size (sym s) in
    record {
      length_is = s ∙ l;
      bytes = written ∙ bytes_are first second pairs out size e;
      reads = ap read written ∙ bytes_read first second pairs out size e;
      later = ap (drop size) after ∙ drop_at bs _ size (sym s) ∙ ap (λ k. drop k out) (sym s);
      same_length =
          ap length after
          ∙ omega (arith, length-append bs (drop (length bs) out), length-drop (length bs) out, l, (can_be first second pairs out size e).fits.bytes);
    }

numbering : Numbering
numbering first second pairs out size e = numbers (book_in first) (book_in second) pairs (length out) (can_be first second pairs out size e)

-- ---- the rules

placed_all : (f : ℕ → ℕ) (m : ℕ) (cs : List Clause) → PlacedAll f m cs (map (renamed f m) cs)
unfolding renamed
placed_all f m [] = tt
placed_all f m (c ∷ cs) = (record { pos = image_members f m c.pos; neg = image_members f m c.neg }, placed_all f m cs)

rules : Rules
unfolding vars
rules first second pairs out size e =
    let a = book_in first in
    let b = book_in second in
    let proper = rules_proper a b pairs (length out) (can_be first second pairs out size e) in
    record {
      later = map (renamed (place a.vars pairs) b.vars) b.rules;
      rules = joint_rules_lem a b pairs;
      placed = placed_all (place a.vars pairs) b.vars b.rules;
      once = λ c h both. both_ways (meets c.pos c.neg) ((in_both c.pos c.neg).1 both) (proper c h).consistent;
      within = λ c h high.
          both_ways (above (joint_vars a b pairs) c.pos c.neg) ((names_above (joint_vars a b pairs) c.pos c.neg).1 high)
          (above_within (joint_vars a b pairs) c.pos c.neg (proper c h).named);
    }

-- ---- choices

keeping : Keeping
keeping first second pairs out size e x y z p =
    let k = kept (book_in first) (book_in second) pairs (length out) (can_be first second pairs out size e) x y z p in
    let mine = models y (rules_in first) in
    let other = models z (rules_in second) in
    (λ h. let w = sym k ∙ h in (and_left mine other w, and_right mine other w), λ h. k ∙ and_both mine other h.0 h.1)

parting : Parting
parting first second pairs out size e = parted (book_in first) (book_in second) pairs (length out) (can_be first second pairs out size e)

meeting : Meeting
meeting first second pairs out size e = met (book_in first) (book_in second) pairs (length out) (can_be first second pairs out size e)

-- ---- what can be built

-- every choice keeps an order without wishes
no_wishes_lem : (x : ℕ) → obeys x no_wishes ≡ true
unfolding obeys
no_wishes_lem x = rw (within_minus 0 x (within_zero x), zero_meets x)

building : Building
building first second pairs out size e = (
  λ c.
      let t = parting first second pairs out size e c.0 c.1.choice in
      let k = (keeping first second pairs out size e c.0 t.y t.z t.parts).0 c.1.rules in
      record {
        y = t.y;
        z = t.z;
        first_choice = t.parts.first_choice;
        second_choice = t.parts.second_choice;
        first_kept = k.0;
        second_kept = k.1;
        agree = t.agree;
      },
  λ w.
      let t = meeting first second pairs out size e w.y w.z w.first_choice w.second_choice w.agree in (
        t.x,
        record {
          choice = t.parts.choice;
          rules = (keeping first second pairs out size e t.x w.y w.z t.parts).1 (w.first_kept, w.second_kept);
          order = no_wishes_lem t.x;
        },
      ),
)

without_pairs : WithoutPairs
without_pairs first second pairs out size e none = (
  λ c.
      let w = (building first second pairs out size e).0 c in (
        (w.y, record { choice = w.first_choice; rules = w.first_kept; order = no_wishes_lem w.y }),
        (w.z, record { choice = w.second_choice; rules = w.second_kept; order = no_wishes_lem w.z }),
      ),
  λ c.
      (building first second pairs out size e).1
      (record {
        y = c.0.0;
        z = c.1.0;
        first_choice = c.0.1.choice;
        second_choice = c.1.1.choice;
        first_kept = c.0.1.rules;
        second_kept = c.1.1.rules;
        agree = λ i j k p. absurd (omega (arith, p.whole, ap length none));
      }),
)

-- ---- for callers

taking : Taking
taking first second pairs before place r after place' h =
    record {
      written = λ size e. (h.number ∙ ap number_of e, h.length ∙ ap (length_in place) e, h.out);
      refused = λ k e.
          let number = h.number ∙ ap number_of e in (
            number,
            ⊎_elim (λ n. omega (arith, number, n.0)) (⊎_elim (λ n. omega (arith, number, n)) (λ n. omega (arith, number, n))) (named_refusal first second pairs before k e),
            h.length ∙ ap (length_in place) e,
            h.out ∙ (judged first second pairs before).untouched k e,
          );
    }

pub demands : Demands
demands =
    record {
      refusals = judged;
      named_refusal = named_refusal;
      writing = writing;
      numbering = numbering;
      one_numbering = one_numbering;
      rules = rules;
      keeping = keeping;
      parting = parting;
      meeting = meeting;
      building = building;
      without_pairs = without_pairs;
      taking = taking;
      examples = examples;
    }
