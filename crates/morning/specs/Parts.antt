-- Tables cut into equal parts, each table by its own length, from the first place on. What is left over at the end belongs to no part.
use Rattle.std.specs.Prelude.{List, ◌++◌, ℕ, ◌+◌, ◌*◌, ◌/◌, length, take, drop}
use Rattle.contract.specs.Check.{Lengths}
use Rattle.contract.specs.Filled.{Tables}

-- ---- one table, in k parts

-- how many places each part has
abbrev pub share : ℕ → List ℕ → ℕ
share k t = length t / k

-- the place at which part i begins, counted from 0, and the one after its last
abbrev pub begin : ℕ → ℕ → List ℕ → ℕ
begin k i t = i * share k t

abbrev pub end : ℕ → ℕ → List ℕ → ℕ
end k i t = begin k i t + share k t

-- part i
abbrev pub part : ℕ → ℕ → List ℕ → List ℕ
part k i t = take (share k t) (drop (begin k i t) t)

-- the table with other words in part i
abbrev pub with_part : ℕ → ℕ → List ℕ → List ℕ → List ℕ
with_part k i t words = take (begin k i t) t ++ (words ++ drop (end k i t) t)

-- the places after the last part: part k would begin there
abbrev pub remainder : ℕ → List ℕ → List ℕ
remainder k t = drop (begin k k t) t

-- ---- five tables, each in k parts

-- the same of each table
abbrev pub each : (List ℕ → List ℕ) → Tables → Tables
each f t = record { pos = f t.pos; neg = f t.neg; decided = f t.decided; trues = f t.trues; redundant = f t.redundant }

abbrev pub part_of : ℕ → ℕ → Tables → Tables
part_of k i t = each (part k i) t

abbrev pub with_part_of : ℕ → ℕ → Tables → Tables → Tables
with_part_of k i t x =
    record {
      pos = with_part k i t.pos x.pos;
      neg = with_part k i t.neg x.neg;
      decided = with_part k i t.decided x.decided;
      trues = with_part k i t.trues x.trues;
      redundant = with_part k i t.redundant x.redundant;
    }

abbrev pub remainder_of : ℕ → Tables → Tables
remainder_of k t = each (remainder k) t

-- the lengths of every part
abbrev pub part_lengths : ℕ → Lengths → Lengths
part_lengths k l =
    record {
      pos = l.pos / k;
      neg = l.neg / k;
      decided = l.decided / k;
      trues = l.trues / k;
      redundant = l.redundant / k;
    }
