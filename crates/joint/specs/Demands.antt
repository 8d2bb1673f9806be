-- The demands on two books that are joined, each as a named type that is proved in `proofs/`. The record at the end has them all; docs/STEPS.md says how to read the
-- signs. `join first second pairs out` is the definition, for the bytes of two books, the bytes of pairs and the bytes of a lent buffer. It is what is left: the
-- answer, how many bytes were written or a refusal, and the buffer. Bytes are any numbers. Option k + 1 stands at bit k, and its place is k.
use Rattle.std.specs.Prelude.{◌≡◌, true, ◌⊎◌, ◌↔◌, ℕ, suc, ◌+◌, ◌*◌, ◌^◌, ◌≤◌, ◌<◌, length, get_or, take, drop, replicate}
use mathlib.Core.List.{List, [], ◌∷◌, ◌++◌, Memᴰ}
use Rattle.words.specs.Words.{has}
use Rattle.words.specs.Demands.{Ascending}
use Rattle.steps.specs.Clause.{Clause}
use Rattle.steps.specs.Run.{Assumptions}
use Rattle.steps.specs.Meaning.{models, Buildable}
use Rattle.steps.specs.Marked.{clause}
use Rattle.book.specs.Bytes.{book_bytes, encode}
use Rattle.book.specs.Reading.{Reading.book, read}
use Rattle.book.specs.Conditions.{Condition, condition, First, NoRow, NamesAbove, InBoth, book_conditions}
use Rattle.renaming.specs.Demands.{Named}
use Rattle.joint.specs.Pairs.{place}
use Rattle.joint.specs.Join.{Book, book_in, joint_vars, joint_count, joint_rules, join, Joined.Written, Joined.Refused}
use Rattle.joint.specs.Handed.{Hands}

-- ---- refusals

-- pair i, from 0 on, is option a of the first book and option b of the second: two whole bytes
pub record IsPair (pairs : List ℕ) (i a b : ℕ) : Type 0 where
  pub whole : 2 * i + 1 < length pairs
  pub first : get_or pairs (2 * i) 0 ≡ a
  pub second : get_or pairs (2 * i + 1) 0 ≡ b

-- the last pair is incomplete
abbrev pub Incomplete : List ℕ → Type 0
Incomplete pairs = (k : ℕ) × (length pairs ≡ 2 * k + 1)

-- option k is none of 1 to n
abbrev pub Outside : ℕ → ℕ → Type 0
Outside n k = (k ≡ 0) ⊎ (n < k)

-- a pair names an option outside its book
pub record NamesOutside (n m : ℕ) (pairs : List ℕ) : Type 0 where
  pub pair : ℕ
  pub a : ℕ
  pub b : ℕ
  pub is_pair : IsPair pairs pair a b
  pub outside : Outside n a ⊎ Outside m b

-- a pair names an option that an earlier pair names, of the same book
pub record AlreadyPaired (pairs : List ℕ) : Type 0 where
  pub earlier : ℕ
  pub a : ℕ
  pub b : ℕ
  pub pair : ℕ
  pub a' : ℕ
  pub b' : ℕ
  pub before : earlier < pair
  pub is_earlier : IsPair pairs earlier a b
  pub is_pair : IsPair pairs pair a' b'
  pub same : (a ≡ a') ⊎ (b ≡ b')

-- 22, and 23 of n options and m rules
abbrev pub pairs_condition : ℕ → ℕ → List ℕ → Condition
pairs_condition n m pairs = condition 22 (Incomplete pairs ⊎ (NamesOutside n m pairs ⊎ AlreadyPaired pairs))

abbrev pub size_condition : ℕ → ℕ → ℕ → Condition
size_condition n m room = condition 23 ((64 < n) ⊎ ((1024 < m) ⊎ (room < 3 + 16 * m)))

-- of two books: 22, and 23 of the first's options and those of the second that are in no pair, and of the rules of both
abbrev pub joint_conditions : Book → Book → List ℕ → ℕ → List Condition
joint_conditions a b pairs room = pairs_condition a.vars b.vars pairs ∷ size_condition (joint_vars a b pairs) (joint_count a b) room ∷ []

-- the table of refusals in docs/FORMAT.md: 1 to 6 of the first book, 1 to 6 of the second, 22, 23
abbrev pub join_conditions : List ℕ → List ℕ → List ℕ → ℕ → List Condition
join_conditions first second pairs room = book_conditions first ++ (book_conditions second ++ joint_conditions (book_in first) (book_in second) pairs room)

-- refused by the first condition that holds, and then the buffer is as it was; written where none holds
pub record RefusedOrWritten (first second pairs out : List ℕ) : Type 0 where
  pub refused : (k : ℕ) → ((join first second pairs out).answer ≡ Refused k) ↔ First (join_conditions first second pairs (length out)) k
  pub untouched : (k : ℕ) → (join first second pairs out).answer ≡ Refused k → (join first second pairs out).out ≡ out
  pub written : NoRow (join_conditions first second pairs (length out)) ↔ ((size : ℕ) × ((join first second pairs out).answer ≡ Written size))

abbrev pub Refusals : Type 0
Refusals = (first second pairs out : List ℕ) → RefusedOrWritten first second pairs out

-- demand 1: a refusal has its number
abbrev pub NamedRefusal : Type 0
NamedRefusal = (first second pairs out : List ℕ) (k : ℕ) → (join first second pairs out).answer ≡ Refused k → ((1 ≤ k) × (k ≤ 6)) ⊎ ((k ≡ 22) ⊎ (k ≡ 23))

-- ---- what is written

-- the answer is that so many bytes were written
abbrev pub IsWritten : List ℕ → List ℕ → List ℕ → List ℕ → ℕ → Type 0
IsWritten first second pairs out size = (join first second pairs out).answer ≡ Written size

-- so it is with the books in the bytes of every call that writes
abbrev pub WhereWritten : (Book → Book → List ℕ → Type 0) → Type 0
WhereWritten X = (first second pairs out : List ℕ) (size : ℕ) → IsWritten first second pairs out size → X (book_in first) (book_in second) pairs

-- at the beginning of the buffer stand the bytes of a book of these options and rules, which read as that book, and all later bytes are as they were
pub record WrittenBook (a b : Book) (pairs out after : List ℕ) (size : ℕ) : Type 0 where
  pub length_is : size ≡ book_bytes (joint_count a b)
  pub bytes : take size after ≡ encode (joint_vars a b pairs) (joint_rules a b pairs)
  pub reads : read (take size after) ≡ book (joint_vars a b pairs) (joint_rules a b pairs)
  pub later : drop size after ≡ drop size out
  pub same_length : length after ≡ length out

abbrev pub Writing : Type 0
Writing =
    (first second pairs out : List ℕ) (size : ℕ) → IsWritten first second pairs out size →
    WrittenBook (book_in first) (book_in second) pairs out (join first second pairs out).out size

-- ---- the options

-- f is the place among the joint book's options of each of the second book's m: a paired one has its partner's; the others, ascending, follow the first book's n.
-- There are N in all
pub record Numbered (n m : ℕ) (pairs : List ℕ) (N : ℕ) (f : ℕ → ℕ) : Type 0 where
  pub partner : (i a b k : ℕ) → IsPair pairs i a b → b ≡ suc k → a ≡ suc (f k)
  pub unpaired : List ℕ
  pub listed : (k : ℕ) → Memᴰ k unpaired ↔ ((k < m) × ((i a : ℕ) → IsPair pairs i a (suc k) → ⊥))
  pub ascending : Ascending unpaired
  pub follow : (i : ℕ) → i < length unpaired → f (get_or unpaired i 0) ≡ n + i
  pub all : N ≡ n + length unpaired

abbrev pub Numbering : Type 0
Numbering = WhereWritten (λ a b pairs. Numbered a.vars b.vars pairs (joint_vars a b pairs) (place a.vars pairs))

-- and no other places are so, nor another number of options
abbrev pub OneNumbering : Type 0
OneNumbering =
    (n m : ℕ) (pairs : List ℕ) (N N' : ℕ) (f g : ℕ → ℕ) → Numbered n m pairs N f → Numbered n m pairs N' g →
    (N ≡ N') × ((k : ℕ) → k < m → f k ≡ g k)

-- ---- the rules

-- the rule d is c with its m options in the places f
pub record Placed (f : ℕ → ℕ) (m : ℕ) (c d : Clause) : Type 0 where
  pub pos : (j : ℕ) → (has d.pos j ≡ true) ↔ Named f m c.pos j
  pub neg : (j : ℕ) → (has d.neg j ≡ true) ↔ Named f m c.neg j

-- so it is with two lists of rules, in turn
abbrev pub PlacedAll : (ℕ → ℕ) → ℕ → List Clause → List Clause → Type 0
PlacedAll f m [] [] = Unit {0}
PlacedAll f m [] (d ∷ ds) = ⊥
PlacedAll f m (c ∷ cs) [] = ⊥
PlacedAll f m (c ∷ cs) (d ∷ ds) = Placed f m c d × PlacedAll f m cs ds

-- the first book's rules as they are, then the second's with their options in place; no rule names an option twice, or one above N
pub record RulesOfBoth (a b : Book) (pairs : List ℕ) : Type 0 where
  pub later : List Clause
  pub rules : joint_rules a b pairs ≡ a.rules ++ later
  pub placed : PlacedAll (place a.vars pairs) b.vars b.rules later
  pub once : (c : Clause) → Memᴰ c (joint_rules a b pairs) → InBoth c.pos c.neg → ⊥
  pub within : (c : Clause) → Memᴰ c (joint_rules a b pairs) → NamesAbove (joint_vars a b pairs) c.pos c.neg → ⊥

abbrev pub Rules : Type 0
Rules = WhereWritten RulesOfBoth

-- ---- choices

-- the choice x of the joint options has the parts y and z: what it says of the first book's options, and of the second's
pub record Parts (a b : Book) (pairs : List ℕ) (x y z : ℕ) : Type 0 where
  pub choice : x < 2 ^ joint_vars a b pairs
  pub first_choice : y < 2 ^ a.vars
  pub second_choice : z < 2 ^ b.vars
  pub of_first : (k : ℕ) → k < a.vars → has y k ≡ has x k
  pub of_second : (k : ℕ) → k < b.vars → has z k ≡ has x (place a.vars pairs k)

-- a choice keeps the joint book exactly if its two parts keep their own
abbrev pub Keeping : Type 0
Keeping =
    WhereWritten
    (λ a b pairs.
    (x y z : ℕ) → Parts a b pairs x y z → (models x (joint_rules a b pairs) ≡ true) ↔ ((models y a.rules ≡ true) × (models z b.rules ≡ true)))

-- two choices, one of each book, say the same of paired options
abbrev pub Agree : List ℕ → ℕ → ℕ → Type 0
Agree pairs y z = (i j k : ℕ) → IsPair pairs i (suc j) (suc k) → has y j ≡ has z k

-- each choice of the joint options has its two parts, which agree
pub record Parted (a b : Book) (pairs : List ℕ) (x : ℕ) : Type 0 where
  pub y : ℕ
  pub z : ℕ
  pub parts : Parts a b pairs x y z
  pub agree : Agree pairs y z

abbrev pub Parting : Type 0
Parting = WhereWritten (λ a b pairs. (x : ℕ) → x < 2 ^ joint_vars a b pairs → Parted a b pairs x)

-- and two choices that agree are the parts of one joint choice, and of no other
pub record Met (a b : Book) (pairs : List ℕ) (y z : ℕ) : Type 0 where
  pub x : ℕ
  pub parts : Parts a b pairs x y z
  pub only : (x' : ℕ) → Parts a b pairs x' y z → x' ≡ x

abbrev pub Meeting : Type 0
Meeting = WhereWritten (λ a b pairs. (y z : ℕ) → y < 2 ^ a.vars → z < 2 ^ b.vars → Agree pairs y z → Met a b pairs y z)

-- ---- what can be built

-- no wishes
abbrev pub no_wishes : Assumptions
no_wishes = record { pos = 0; neg = 0 }

-- some choice keeps the rules of this book
abbrev pub CanBeBuilt : ℕ → List Clause → Type 0
CanBeBuilt n rules = Buildable n rules no_wishes

-- choices that keep both books and agree
pub record BothKept (a b : Book) (pairs : List ℕ) : Type 0 where
  pub y : ℕ
  pub z : ℕ
  pub first_choice : y < 2 ^ a.vars
  pub second_choice : z < 2 ^ b.vars
  pub first_kept : models y a.rules ≡ true
  pub second_kept : models z b.rules ≡ true
  pub agree : Agree pairs y z

-- the joint book can be built exactly if there are such
abbrev pub Building : Type 0
Building = WhereWritten (λ a b pairs. CanBeBuilt (joint_vars a b pairs) (joint_rules a b pairs) ↔ BothKept a b pairs)

-- without pairs it can be built exactly if both books can
abbrev pub WithoutPairs : Type 0
WithoutPairs =
    WhereWritten
    (λ a b pairs.
    pairs ≡ [] →
    CanBeBuilt (joint_vars a b pairs) (joint_rules a b pairs) ↔ (CanBeBuilt a.vars a.rules × CanBeBuilt b.vars b.rules))

-- ---- for callers in C and Rust

-- what a caller takes: `place` is what the place of the length held, and r and place' what is returned and what it holds afterwards
pub record Takes (first second pairs before : List ℕ) (place r : ℕ) (after : List ℕ) (place' : ℕ) : Type 0 where
  pub written :
      (size : ℕ) → IsWritten first second pairs before size → (r ≡ 0) × (place' ≡ size) × (after ≡ (join first second pairs before).out)
  pub refused : (k : ℕ) → (join first second pairs before).answer ≡ Refused k → (r ≡ k) × (0 < r) × (place' ≡ place) × (after ≡ before)

-- so it is with what the exported function promises (`Hands`)
abbrev pub Taking : Type 0
Taking =
    (first second pairs before : List ℕ) (place r : ℕ) (after : List ℕ) (place' : ℕ) → Hands first second pairs before place r after place' →
    Takes first second pairs before place r after place'

-- ---- examples

-- three options and the rule "1 or not 3"; four options and the rules "2 or not 1" and "3 or 4"
abbrev pub dosing : List ℕ
dosing = encode 3 (clause 1 4 ∷ [])

abbrev pub drying : List ℕ
drying = encode 4 (clause 2 1 ∷ clause 12 0 ∷ [])

-- bytes that hold something else
abbrev pub rubbish : ℕ → List ℕ
rubbish room = replicate room 9

-- what is left is this refusal, and the buffer as it was
abbrev pub Refuses : List ℕ → List ℕ → List ℕ → ℕ → ℕ → Type 0
Refuses first second pairs room k = join first second pairs (rubbish room) ≡ record { answer = Refused k; out = rubbish room }

pub record Examples : Type 0 where
  -- the second's option 2 is the first's 3, and its 4 the first's 1; its 1 and 3 become 4 and 5. So its rules become "3 or not 4" and "5 or 1"
  pub two_pairs :
      join dosing drying (3 ∷ 2 ∷ 1 ∷ 4 ∷ []) (rubbish 60) ≡
      record { answer = Written 51; out = encode 5 (clause 1 4 ∷ clause 4 8 ∷ clause 17 0 ∷ []) ++ rubbish 9 }
  -- without pairs its options become 4 to 7
  pub no_pairs :
      join dosing drying [] (rubbish 51) ≡ record { answer = Written 51; out = encode 7 (clause 1 4 ∷ clause 16 8 ∷ clause 96 0 ∷ []) }
  -- all paired, in the other order
  pub all_paired :
      join drying dosing (3 ∷ 1 ∷ 2 ∷ 2 ∷ 1 ∷ 3 ∷ []) (rubbish 51) ≡
      record { answer = Written 51; out = encode 4 (clause 2 1 ∷ clause 12 0 ∷ clause 4 1 ∷ []) }
  -- one byte too few; a byte left over; option 0; options above n; an option paired twice, on either side
  pub one_byte_short : Refuses dosing drying [] 50 23
  pub left_over : Refuses dosing drying (3 ∷ 2 ∷ 1 ∷ []) 60 22
  pub zero_first : Refuses dosing drying (0 ∷ 2 ∷ []) 60 22
  pub zero_second : Refuses dosing drying (3 ∷ 0 ∷ []) 60 22
  pub above_first : Refuses dosing drying (4 ∷ 2 ∷ []) 60 22
  pub above_second : Refuses dosing drying (3 ∷ 5 ∷ []) 60 22
  pub first_twice : Refuses dosing drying (3 ∷ 2 ∷ 3 ∷ 4 ∷ []) 60 22
  pub second_twice : Refuses dosing drying (3 ∷ 2 ∷ 1 ∷ 2 ∷ []) 60 22
  -- 64 options, and 65; 22 comes before 23, and the books before both, the first first
  pub sixty_four : join (encode 32 []) (encode 33 []) (32 ∷ 33 ∷ []) (rubbish 3) ≡ record { answer = Written 3; out = encode 64 [] }
  pub sixty_five : Refuses (encode 32 []) (encode 33 []) [] 3 23
  pub pairs_first : Refuses (encode 32 []) (encode 33 []) (33 ∷ 33 ∷ []) 2 22
  pub books_first : Refuses dosing (encode 1 (clause 2 0 ∷ [])) (0 ∷ []) 0 5
  pub first_first : Refuses (encode 1 (clause 1 1 ∷ [])) (encode 1 (clause 2 0 ∷ [])) (0 ∷ []) 0 6

-- ---- all of them

-- every demand, proved in `proofs/Demands.antt`
pub record Demands : Type 0 where
  pub refusals : Refusals
  pub named_refusal : NamedRefusal
  pub writing : Writing
  pub numbering : Numbering
  pub one_numbering : OneNumbering
  pub rules : Rules
  pub keeping : Keeping
  pub parting : Parting
  pub meeting : Meeting
  pub building : Building
  pub without_pairs : WithoutPairs
  pub taking : Taking
  pub examples : Examples
