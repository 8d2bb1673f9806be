-- The demands on a morning, each as a named type that is proved in `proofs/`. The record at the end has them all; docs/STEPS.md says how to read the signs.
-- `morning bytes words allowance answers t` is the definition, for book bytes, the orders' words, an allowance, the table of answers and the lent tables t. It
-- is what a morning leaves: a number, the answers and the tables. There is one place for an answer an order, so the number of orders is the length of
-- `answers`. Bytes, words and tables are any, and an allowance has 32 bits. What a single check is and does is said in crate `contract`.
use Rattle.std.specs.Prelude.{◌≡◌, List, [], ◌∷◌, ◌++◌, ◌↔◌, ℕ, zero, suc, ◌*◌, ◌/◌, ◌%◌, ◌^◌, ◌≤◌, ◌<◌, length, get_or, replicate}
use Rattle.steps.specs.Marked.{clause}
use Rattle.order.specs.Order.{Order}
use Rattle.order.specs.Demands.{order}
use Rattle.book.specs.Bytes.{encode}
use Rattle.answer.specs.Answer.{tally_in, Answer.Can, Answer.Cannot, Answer.Refused}
use Rattle.answer.specs.Packed.{packed, unpacked}
use Rattle.contract.specs.Filled.{Tables, lent, lengths, Checked}
use Rattle.contract.specs.Asked.{Demanded, RefusedFirst}
use Rattle.contract.specs.Demands.{Permitted, first_places}
use Rattle.morning.specs.Parts.{part, part_of, remainder, remainder_of, part_lengths}
use Rattle.morning.specs.Morning.{order_at, Left, morning}

-- ---- 13

-- the orders are 1 to 16, of three words each
pub record OneToSixteen (words answers : List ℕ) : Type 0 where
  pub one : 1 ≤ length answers
  pub sixteen : length answers ≤ 16
  pub three_words : length words ≡ 3 * length answers

-- 13 exactly where they are not, whatever book, allowance and tables are: it is tested before everything. Neither answers nor tables change then
pub record Turned (bytes words : List ℕ) (allowance : ℕ) (answers : List ℕ) (t : Tables) : Type 0 where
  pub served : ((morning bytes words allowance answers t).number ≡ 0) ↔ OneToSixteen words answers
  pub refused : ((morning bytes words allowance answers t).number ≡ 13) ↔ (OneToSixteen words answers → ⊥)
  pub untouched :
      (OneToSixteen words answers → ⊥) → morning bytes words allowance answers t ≡ record { number = 13; answers = answers; tables = t }

abbrev pub Thirteen : Type 0
Thirteen = (bytes words : List ℕ) (allowance : ℕ) (answers : List ℕ) (t : Tables) → Turned bytes words allowance answers t

-- ---- the orders

-- the words of orders, one after the other: wanted, unwanted, standard
abbrev pub words_of : List Order → List ℕ
words_of [] = []
words_of (o ∷ os) = o.wanted ∷ o.unwanted ∷ o.standard ∷ words_of os

-- of these words, order i is the one before which i others stand
abbrev pub OrdersRead : Type 0
OrdersRead = (before after : List Order) (o : Order) → order_at (words_of (before ++ (o ∷ after))) (length before) ≡ o

-- ---- the parts

-- the parts of a table in turn, so many from part i on
abbrev pub parts_from : ℕ → ℕ → ℕ → List ℕ → List ℕ
parts_from k i zero t = []
parts_from k i (suc more) t = part k i t ++ parts_from k (suc i) more t

-- a table is its k parts in sequence from the first place on, and the remainder. The parts have equal lengths, by the table's own length
pub record Cuts (k : ℕ) (t : List ℕ) : Type 0 where
  pub in_turn : t ≡ parts_from k 0 k t ++ remainder k t
  pub equal : (i : ℕ) → i < k → length (part k i t) ≡ length t / k
  pub left_over : length (remainder k t) ≡ length t % k

abbrev pub Cutting : Type 0
Cutting = (k : ℕ) (t : List ℕ) → Cuts k t

-- part i of the five tables has part i of each, in its own place, and so it is with the remainders
pub record Own (k i : ℕ) (t : Tables) : Type 0 where
  pub parts : part_of k i t ≡ lent (part k i t.pos) (part k i t.neg) (part k i t.decided) (part k i t.trues) (part k i t.redundant)
  pub remainders :
      remainder_of k t ≡ lent (remainder k t.pos) (remainder k t.neg) (remainder k t.decided) (remainder k t.trues) (remainder k t.redundant)

abbrev pub OwnTables : Type 0
OwnTables = (k i : ℕ) (t : Tables) → Own k i t

-- ---- each order by itself

-- the word of the answer to order i, in what a morning left
abbrev pub word_of : Left → ℕ → ℕ
word_of left i = get_or left.answers i 0

-- the answer and the words of the part are those of the order asked singly with that part, as it was before the morning (`Checked`). The answer is told by
-- its word
pub record Singly (bytes : List ℕ) (o : Order) (allowance : ℕ) (before : Tables) (w : ℕ) (after : Tables) : Type 0 where
  pub checked : Checked bytes o allowance before (unpacked w) after
  pub word : w ≡ packed (unpacked w)

-- so it is of every order, and the places outside the parts are as they were
pub record ByItself (bytes words : List ℕ) (allowance : ℕ) (answers : List ℕ) (t : Tables) (left : Left) : Type 0 where
  pub singly :
      (i : ℕ) → i < length answers →
      Singly bytes (order_at words i) allowance (part_of (length answers) i t) (word_of left i) (part_of (length answers) i left.tables)
  pub lengths : lengths left.tables ≡ lengths t
  pub outside : remainder_of (length answers) left.tables ≡ remainder_of (length answers) t
  pub as_many : length left.answers ≡ length answers

abbrev pub EachByItself : Type 0
EachByItself =
    (bytes words : List ℕ) (allowance : ℕ) (answers : List ℕ) (t : Tables) → allowance < 2 ^ 32 → OneToSixteen words answers →
    ByItself bytes words allowance answers t (morning bytes words allowance answers t)

-- two mornings left the same to order i: the answer, and the words in the counted places of its part; where its part was the same before, all of it is
pub record NoDifference (k i : ℕ) (t t' : Tables) (left left' : Left) : Type 0 where
  pub word : word_of left i ≡ word_of left' i
  pub counted :
      first_places (tally_in (unpacked (word_of left i))) (part_of k i left.tables) ≡ first_places (tally_in (unpacked (word_of left i))) (part_of k i left'.tables)
  pub all : part_of k i t ≡ part_of k i t' → part_of k i left.tables ≡ part_of k i left'.tables

-- so it is with two mornings of as many orders that have the same order i and parts i of the same lengths. The other orders play no part, be they refused, stopped
-- or neither, nor does what they write, nor what a table held
abbrev pub OthersNoPart : Type 0
OthersNoPart =
    (bytes words words' : List ℕ) (allowance : ℕ) (answers answers' : List ℕ) (t t' : Tables) → allowance < 2 ^ 32 →
    OneToSixteen words answers → OneToSixteen words' answers' → length answers ≡ length answers' →
    (i : ℕ) → i < length answers → order_at words i ≡ order_at words' i →
    lengths (part_of (length answers) i t) ≡ lengths (part_of (length answers) i t') →
    NoDifference (length answers) i t t' (morning bytes words allowance answers t) (morning bytes words' allowance answers' t')

-- ---- refused orders

-- every order is refused by the first condition that holds, where 9 is judged on its part: the lengths of a part are those of the tables, by the number of orders. A
-- refused order's part is as it was (`RefusedFirst`, crate `contract`)
abbrev pub OrdersRefused : Type 0
OrdersRefused =
    (bytes words : List ℕ) (allowance : ℕ) (answers : List ℕ) (t : Tables) → allowance < 2 ^ 32 → OneToSixteen words answers →
    (i : ℕ) → i < length answers →
    let k : ℕ = length answers in
    let left : Left = morning bytes words allowance answers t in
    RefusedFirst bytes (order_at words i) (part_lengths k (lengths t)) (part_of k i t) (unpacked (word_of left i)) (part_of k i left.tables)

-- ---- demands 1 to 3, for every order of a morning

-- `Demanded` (crate `contract`) is what they say of an answer and the tables it left; so it is of every order and its part, with the whole allowance
abbrev pub CarryOver : Type 0
CarryOver =
    (bytes words : List ℕ) (allowance : ℕ) (answers : List ℕ) (t : Tables) → allowance < 2 ^ 32 → OneToSixteen words answers →
    (i : ℕ) → i < length answers →
    let k : ℕ = length answers in
    let left : Left = morning bytes words allowance answers t in
    Demanded bytes (order_at words i) allowance (part_lengths k (lengths t)) (part_of k i t) (unpacked (word_of left i)) (part_of k i left.tables)

-- ---- examples

-- the rules "1 or 2", "3 or not 1" and "not 2 or not 3". The first order is empty; the second wants option 4 of 3 and is refused, which does not hold up the third.
-- That one wants option 2, and option 3 is standard: it cannot be built, and needs the whole allowance. The derived tables have 7 and 8 places, which makes parts of
-- 2, and the record tables parts of 64, 65 and 66
abbrev pub ThreeOrders : Type 0
ThreeOrders =
    morning (encode 3 (clause 3 0 ∷ clause 4 1 ∷ clause 0 6 ∷ [])) (words_of (order 0 0 0 ∷ order 8 0 0 ∷ order 2 0 4 ∷ [])) 2 (8 ∷ 8 ∷ 8 ∷ [])
    (lent (replicate 7 9) (replicate 8 9) (replicate 192 9) (replicate 195 9) (replicate 200 9)) ≡
    record {
      number = 0;
      answers =
          packed (Can (record { branchings = 1; derived = 0; records = 2 })) ∷ packed (Refused 7) ∷
          packed (Cannot (record { branchings = 2; derived = 2; records = 1 })) ∷ [];
      tables =
          lent
          (9 ∷ 9 ∷ 9 ∷ 9 ∷ 0 ∷ 0 ∷ 9 ∷ [])
          (9 ∷ 9 ∷ 9 ∷ 9 ∷ 2 ∷ 0 ∷ 9 ∷ 9 ∷ [])
          (1 ∷ 1 ∷ (replicate 126 9 ++ (0 ∷ replicate 63 9)))
          (0 ∷ 0 ∷ (replicate 128 9 ++ (0 ∷ replicate 64 9)))
          (4 ∷ 6 ∷ (replicate 130 9 ++ (7 ∷ replicate 67 9)));
    }

-- the longest tables that are permitted to 16 orders, with remainders, and tables that are one place too long for 15
pub record Longest : Type 0 where
  pub sixteen : Permitted (part_lengths 16 (record { pos = 32783; neg = 32768; decided = 1024; trues = 1039; redundant = 5000 }))
  pub fifteen : Permitted (part_lengths 15 (record { pos = 30735; neg = 30735; decided = 1024; trues = 1024; redundant = 1024 })) → ⊥

-- ---- all of them

-- every demand, proved in `proofs/Demands.antt`
pub record Demands : Type 0 where
  pub thirteen : Thirteen
  pub orders_read : OrdersRead
  pub cutting : Cutting
  pub own_tables : OwnTables
  pub each_by_itself : EachByItself
  pub others_no_part : OthersNoPart
  pub orders_refused : OrdersRefused
  pub carry_over : CarryOver
  pub three_orders : ThreeOrders
  pub longest : Longest
