-- A book's bytes read as that book, and bytes that read as a book are that book's bytes. Each array is taken word by word, and a word
-- byte by byte: the bytes of a number below 256 to the power k make that number, and k bytes are the bytes of the number that they make.
use mathlib.Core.Path.{◌≡◌, refl, sym, ap, ap₂, subst, ◌∙◌}
use mathlib.Core.Bool.{Bool, true, false}
use mathlib.Core.List.Memᴰ
use mathlib.Core.List.{List, [], ◌∷◌, ◌++◌, map, append_assoc, append-nil}
use mathlib.Core.Option.{none}
use Prim.Native.Nat.{ℕ, zero, suc, ◌+◌, ◌*◌, ◌/◌, ◌%◌, ◌^◌, ◌≤◌, ◌<◌}
use native.Mathlib.Nat.{pow-succ', lt_of_lt_of_le, mod-eq_of_lt}
use native.Mathlib.Omega.{arith}
use borrow.Author.Tests.{ltb-true, ltb-false}
use lib.Dec.{ltb}
use lib.ListN.{length, get_or, take, drop, length-drop, take-append-drop, get_or-eq_default, length-take, length-append, length-map}
use lib.Seq.{get_or-take, length-take-le, take_at, drop_at, take-add, take_all, drop-drop}
use lib.Pow.{pow_mono}
use Rattle.words.specs.Words.{first_vars, Within}
use Rattle.words.proofs.Sets.{within_trans, or_within_l, or_within_r, within_lt}
use Rattle.steps.specs.Clause.{Clause, literals, vars}
use Rattle.steps.specs.Shape.{Proper, AllProper}
use Rattle.order.specs.Order.{Order}
use Rattle.book.specs.Limits.{max_vars, max_clauses}
use Rattle.book.specs.Bytes.{AllBytes, number, bytes_of, words_in, pair, vars_in, count_in, clauses_in, rules_in, flat, encode}
use Rattle.book.specs.Refusals.{first_row, book_rows, order_rows, admit_rows}
use Rattle.book.specs.Reading.{Reading.book, read, WellFormed}
use Rattle.book.specs.Demands.{ReadWritten, WrittenRead}
use Rattle.book.proofs.Refusals.{first_after}
use Rattle.book.proofs.Readings.{judged_book}
use Rattle.book.proofs.Bytes.{bytes_drop, length_bytes_of, length_words_in, length_clauses_in}
use Rattle.book.proofs.Accepted.{passed_read, FromBytes, bytes_book}
use Rattle.book.proofs.Encoding.{length_column, length_encode}

-- a number from its bytes
number_bytes_of : (k x : ℕ) → x < 256 ^ k → number (bytes_of k x) ≡ x
unfolding number bytes_of
number_bytes_of zero x h = omega (arith, h)
number_bytes_of (suc k) x h =
    let h' : x < 256 * 256 ^ k = rw pow-succ' at h in
    let e = number_bytes_of k (x / 256) (omega arith) in
    omega (arith, e)

-- bytes from their number
bytes_of_number : (bs : List ℕ) → AllBytes bs → bytes_of (length bs) (number bs) ≡ bs
unfolding number bytes_of
bytes_of_number [] all = refl
bytes_of_number (b ∷ bs) all =
    let small : b < 256 = all 0 in
    let first : (b + 256 * number bs) % 256 ≡ b = omega arith in
    let rest : (b + 256 * number bs) / 256 ≡ number bs = omega arith in
    rw (first, rest) (ap (λ l. b ∷ l) (bytes_of_number bs (λ i. all (suc i))))

-- the first k bytes
bytes_take : (k : ℕ) (bs : List ℕ) → AllBytes bs → AllBytes (take k bs)
bytes_take k bs all i = go (ltb i k) refl
  where
    go : (b : Bool) → ltb i k ≡ b → get_or (take k bs) i 0 < 256
    go true h = rw (get_or-take k bs i 0 (ltb-true _ _ h)) (all i)
    go false h =
        let short : length (take k bs) ≤ i = rw length-take (omega (arith, ltb-false i k h)) in
        rw (get_or-eq_default (take k bs) 0 short) (omega arith)

-- words from their bytes
words_in_flat : (ws rest : List ℕ) → ((i : ℕ) → get_or ws i 0 < 256 ^ 8) → words_in (length ws) (flat ws ++ rest) ≡ ws
unfolding words_in flat
words_in_flat [] rest small = refl
words_in_flat (w ∷ ws) rest small =
    rw (
      append_assoc (bytes_of 8 w) (flat ws) rest,
      take_at (bytes_of 8 w) (flat ws ++ rest) 8 (length_bytes_of 8 w),
      drop_at (bytes_of 8 w) (flat ws ++ rest) 8 (length_bytes_of 8 w),
      number_bytes_of 8 w (small 0),
    )
    (ap (λ l. w ∷ l) (words_in_flat ws rest (λ i. small (suc i))))

-- bytes from their words
flat_words_in : (k : ℕ) (bs : List ℕ) → AllBytes bs → 8 * k ≤ length bs → flat (words_in k bs) ≡ take (8 * k) bs
unfolding words_in flat
flat_words_in zero bs all h = refl
flat_words_in (suc k) bs all h =
    let eight : length (take 8 bs) ≡ 8 = length-take-le 8 bs (omega arith) in
    let one : bytes_of 8 (number (take 8 bs)) ≡ take 8 bs = rw eight at (bytes_of_number (take 8 bs) (bytes_take 8 bs all)) in
    let more : 8 * suc k ≡ 8 + 8 * k = omega arith in
    let enough : 8 * k ≤ length (drop 8 bs) = rw length-drop (omega arith) in
    rw (one, flat_words_in k (drop 8 bs) (bytes_drop bs 8 all) enough, more) (sym (take-add 8 (8 * k) bs))

-- clauses from their two columns, and the columns of two arrays
pair_columns : (cs : List Clause) → pair (map (literals true) cs) (map (literals false) cs) ≡ cs
unfolding pair
pair_columns [] = refl
pair_columns (c ∷ cs) = ap (λ l. c ∷ l) (pair_columns cs)

column_pos : (ps ns : List ℕ) → length ps ≡ length ns → map (literals true) (pair ps ns) ≡ ps
unfolding pair
column_pos [] ns e = refl
column_pos (p ∷ ps) [] e = absurd (omega arith)
column_pos (p ∷ ps) (n ∷ ns) e = ap (λ l. p ∷ l) (column_pos ps ns (omega arith))

column_neg : (ps ns : List ℕ) → length ps ≡ length ns → map (literals false) (pair ps ns) ≡ ns
unfolding pair
column_neg [] [] e = refl
column_neg [] (n ∷ ns) e = absurd (omega arith)
column_neg (p ∷ ps) [] e = absurd (omega arith)
column_neg (p ∷ ps) (n ∷ ns) e = ap (λ l. n ∷ l) (column_neg ps ns (omega arith))

-- a word of a proper clause has eight bytes
word_small : (n : ℕ) (b : Bool) (c : Clause) → n ≤ max_vars → Proper n c → literals b c < 256 ^ 8
unfolding vars
word_small n b c few p = lt_of_lt_of_le (within_lt n (literals b c) (side b)) (pow_mono few)
  where
    side : (b : Bool) → Within (literals b c) (first_vars n)
    side true = within_trans _ _ _ (or_within_l c.pos c.neg) p.named
    side false = within_trans _ _ _ (or_within_r c.pos c.neg) p.named

column_small : (n : ℕ) (b : Bool) (cs : List Clause) → n ≤ max_vars → AllProper n cs → (i : ℕ) → get_or (map (literals b) cs) i 0 < 256 ^ 8
column_small n b [] few all i = omega arith
column_small n b (c ∷ cs) few all zero = word_small n b c few (all c (Memᴰ.head refl))
column_small n b (c ∷ cs) few all (suc i) = column_small n b cs few (λ d m. all d (Memᴰ.tail m)) i

-- the sizes in a book's bytes
count_encode : (n : ℕ) (cs : List Clause) → length cs ≤ max_clauses → count_in (encode n cs) ≡ length cs
unfolding encode bytes_of
count_encode n cs few = omega arith

-- the clauses in a book's bytes
clauses_encode : (n : ℕ) (cs : List Clause) → n ≤ max_vars → AllProper n cs → clauses_in (length cs) (encode n cs) ≡ cs
unfolding clauses_in encode bytes_of
clauses_encode n cs few all =
    let pos = flat (map (literals true) cs) in
    let neg = flat (map (literals false) cs) in
    let head = n ∷ bytes_of 2 (length cs) in
    let fitted : words_in (length cs) (pos ++ neg) ≡ map (literals true) cs =
    ap (λ k. words_in k (pos ++ neg)) (sym (length-map cs (literals true))) ∙ words_in_flat (map (literals true) cs) neg (column_small n true cs few all)
    in
    let left_out : words_in (length cs) neg ≡ map (literals false) cs =
    ap₂ words_in (sym (length-map cs (literals false))) (sym (append-nil neg)) ∙ words_in_flat (map (literals false) cs) [] (column_small n false cs few all)
    in
    let after : drop (3 + 8 * length cs) (head ++ pos ++ neg) ≡ neg =
    drop_at (head ++ pos) neg (3 + 8 * length cs) (omega (arith, length-append head pos, length_column true cs))
    in
    ap₂ pair fitted (ap (words_in (length cs)) after ∙ left_out) ∙ pair_columns cs

-- reading a book's bytes gives the book back
pub read_written : ReadWritten
unfolding encode
read_written n cs w =
    let bs = encode n cs in
    let size = length_encode n cs in
    let count : count_in bs ≡ length cs = count_encode n cs w.clauses_few in
    let rules : rules_in bs ≡ cs = ap (λ m. clauses_in m bs) count ∙ clauses_encode n cs w.vars_few w.proper in
    passed_read bs
    (record {
      vars_few = w.vars_few;
      clauses_few = omega (arith, w.clauses_few);
      length_is = omega arith;
      proper = subst (AllProper n) (sym rules) w.proper;
    })
    ∙ ap (book n) rules

-- the options and rules in a book's bytes
pub written_holds : (n : ℕ) (cs : List Clause) → WellFormed n cs → FromBytes (encode n cs) n cs
written_holds n cs w = bytes_book (encode n cs) n cs (sym (read_written n cs w))

-- with an order that passes no row refuses them
pub written_admitted : (n : ℕ) (cs : List Clause) (o : Order) → WellFormed n cs → first_row (order_rows n o) ≡ none → first_row (admit_rows (encode n cs) o) ≡ none
unfolding admit_rows read
written_admitted n cs o w passes =
    let bs = encode n cs in
    first_after (book_rows bs) (order_rows (vars_in bs) o) (judged_book (first_row (book_rows bs)) (vars_in bs) n (rules_in bs) cs (read_written n cs w)).0
    ∙ ap (λ k. first_row (order_rows k o)) (written_holds n cs w).vars_are
    ∙ passes

-- the arrays of a book that was read
arrays_read : (m : ℕ) (bs : List ℕ) → AllBytes bs → length bs ≡ 3 + 16 * m
    → flat (map (literals true) (clauses_in m bs)) ++ flat (map (literals false) (clauses_in m bs)) ≡ drop 3 bs
unfolding clauses_in
arrays_read m bs all size =
    let ps = words_in m (drop 3 bs) in
    let ns = words_in m (drop (3 + 8 * m) bs) in
    let same : length ps ≡ length ns = length_words_in m (drop 3 bs) ∙ sym (length_words_in m (drop (3 + 8 * m) bs)) in
    let room : length (drop 3 bs) ≡ 16 * m = rw length-drop (omega arith) in
    let left : length (drop (3 + 8 * m) bs) ≡ 8 * m = rw length-drop (omega arith) in
    let fitted : flat ps ≡ take (8 * m) (drop 3 bs) = flat_words_in m (drop 3 bs) (bytes_drop bs 3 all) (omega arith) in
    let left_out : flat ns ≡ drop (8 * m) (drop 3 bs) =
    flat_words_in m (drop (3 + 8 * m) bs) (bytes_drop bs (3 + 8 * m) all) (omega arith)
    ∙ take_all (8 * m) (drop (3 + 8 * m) bs) (omega arith) ∙ sym (drop-drop (8 * m) 3 bs)
    in
    rw (column_pos ps ns same, column_neg ps ns same, fitted, left_out) (take-append-drop (8 * m) (drop 3 bs))

-- the sizes of a book that was read
sizes_read : (n m : ℕ) (bs : List ℕ) → AllBytes bs → 3 ≤ length bs → vars_in bs ≡ n → count_in bs ≡ m → n ∷ bytes_of 2 m ≡ take 3 bs
unfolding bytes_of
sizes_read n m [] all h v c = absurd (omega arith)
sizes_read n m (x ∷ []) all h v c = absurd (omega arith)
sizes_read n m (x ∷ y ∷ []) all h v c = absurd (omega arith)
sizes_read n m (x ∷ y ∷ z ∷ bs) all h v c =
    let low : m % 256 ≡ y = omega (arith, all 1) in
    let quotient : m / 256 ≡ z = omega (arith, all 1) in
    let small : z < 256 = all 2 in
    let high : m / 256 % 256 ≡ z = ap (λ q. q % 256) quotient ∙ mod-eq_of_lt small in
    rw (sym v, low, high)

-- bytes that read as a book are that book's bytes
pub written_read : WrittenRead
unfolding encode
written_read bs n cs all e =
    let r = bytes_book bs n cs (sym e) in
    let count : count_in bs ≡ length cs = sym (length_clauses_in (count_in bs) bs) ∙ ap length r.clauses_are in
    let size = r.length_is in
    let pos = flat (map (literals true) cs) in
    let neg = flat (map (literals false) cs) in
    let arrays : pos ++ neg ≡ drop 3 bs =
    ap (λ ds. flat (map (literals true) ds) ++ flat (map (literals false) ds)) (sym r.clauses_are) ∙ arrays_read (count_in bs) bs all size
    in
    append_assoc (n ∷ bytes_of 2 (length cs)) pos neg
    ∙ ap₂ ◌++◌ (sizes_read n (length cs) bs all (omega arith) r.vars_are count) arrays ∙ take-append-drop 3 bs
