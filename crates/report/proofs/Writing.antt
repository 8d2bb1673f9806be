-- Laws of writing a text into a buffer. A text of two parts is written by writing the first and, from the place after it, the second:
-- the buffer then starts with what stood before the place and the first part, which the second leaves alone.
-- `Left` says what is left to be written of a whole text, so that a function that writes part after part, in a row or in a loop, goes by its laws alone.
use mathlib.Core.Path.{◌≡◌, refl, sym, ap, ◌∙◌, subst}
use mathlib.Core.List.{List, [], ◌∷◌, ◌++◌, append_assoc, append-nil}
use Prim.Native.Nat.{ℕ, ◌+◌, ◌-◌, ◌≤◌}
use native.Mathlib.Nat.{add-zero, zero-add, add_assoc}
use native.Mathlib.Numerals.{add-one}
use native.Mathlib.Omega.{arith}
use lib.ListN.{length, take, drop, set, length-append, length-take, length-drop, take-append-drop}
use lib.Seq.{take_at, drop-append-add, drop-drop, set_split, append_snoc}
use borrow.Rule.Slice.PartMut.{put_mid}
use Rattle.report.specs.Text.{Printed}
use Rattle.report.specs.Write.{placed, Room, Wrote}
use Rattle.report.specs.Writer.{Free, Writes}
use Rattle.report.specs.declared.writer.Writer.{Writer}

-- what was printed is within the buffer
pub printed_within : {text before after : List ℕ} {r : ℕ} → Printed text before after r → r ≤ length after
printed_within {text} {before} p = omega (arith, p.size, ap length p.bytes, length-append text (drop (length text) before))

-- writing nothing changes nothing
placed_nothing : (out : List ℕ) (at : ℕ) → placed out at [] ≡ out
unfolding placed
placed_nothing out at = rw (append-nil, add-zero, take-append-drop)

-- writing a byte is a store
placed_byte : (out : List ℕ) (at : ℕ) (byte : ℕ) → Room out at (byte ∷ []) → placed out at (byte ∷ []) ≡ set out at byte
unfolding placed
placed_byte out at byte room = rw (append_snoc, add-one) (sym (set_split out at byte (omega arith)))

-- a buffer stays as long as it was
placed_length : (out : List ℕ) (at : ℕ) (text : List ℕ) → Room out at text → length (placed out at text) ≡ length out
unfolding placed
placed_length out at text room = simp (length-append, length-take, length-drop) (omega arith)

-- two texts, one after the other
placed_both : (out : List ℕ) (at : ℕ) (s t : List ℕ) → at ≤ length out → placed (placed out at s) (at + length s) t ≡ placed out at (s ++ t)
unfolding placed
placed_both out at s t h =
    let front : length (take at out ++ s) ≡ at + length s = simp (length-append, length-take) (omega arith) in
    let rest = drop (at + length s) out in
    ap (λ (p : List ℕ). p ++ t ++ drop (at + length s + length t) (take at out ++ s ++ rest)) (take_at (take at out ++ s) rest (at + length s) front)
    ∙ ap (λ (q : List ℕ). take at out ++ s ++ t ++ q) (ap (λ (n : ℕ). drop (n + length t) (take at out ++ s ++ rest)) (sym front) ∙ drop-append-add (take at out ++ s) rest (length t) ∙ drop-drop (length t) (at + length s) out)
    ∙ simp (append_assoc, add_assoc, length-append)

-- storing a byte writes it
pub wrote_byte : (out : List ℕ) (at byte : ℕ) → Room out at (byte ∷ []) → Wrote out at (byte ∷ []) (set out at byte) (at + 1)
wrote_byte out at byte room = record { bytes = sym (placed_byte out at byte room); end = refl }

-- and so does changing as many bytes as the text has into the text
pub wrote_part : (out : List ℕ) (at n : ℕ) (text : List ℕ) → n ≡ length text → Wrote out at text (put_mid at (at + n - at) out text) (at + n)
unfolding placed
wrote_part out at n text long =
    let size : at + n - at ≡ length text = omega arith in
    record {
      bytes = ap (λ (k : ℕ). put_mid at k out text) size ∙ ap (λ (l : List ℕ). take at out ++ (text ++ l)) (drop-drop (length text) at out) ∙ sym (append_assoc (take at out) text (drop (at + length text) out));
      end = omega arith;
    }

-- a buffer stays as long as it was
pub wrote_long : {before : List ℕ} {at : ℕ} {text after : List ℕ} {next : ℕ} → Room before at text → Wrote before at text after next → length after ≡ length before
wrote_long {before} {at} {text} room w = ap length w.bytes ∙ placed_length before at text room

-- what is left to be written: writing `rest` by the writer `now` is writing `whole` by the writer `before`, and there is room for it
pub record Left (before : Writer) (whole : List ℕ) (now : Writer) (rest : List ℕ) : Type 0 where
  pub room : Free now rest
  pub end : now.at + length rest ≡ before.at + length whole
  pub bytes : placed now.out.now now.at rest ≡ placed before.out.now before.at whole
  pub same : now.out.ghost_name ≡ before.out.ghost_name

-- at the start the whole text is left
pub left_all : {w : Writer} {whole : List ℕ} → Free w whole → Left w whole w whole
left_all r = record { room = r; end = refl; bytes = refl; same = refl }

-- by another name
pub left_as : {before : Writer} {whole : List ℕ} {now : Writer} {rest other : List ℕ} → rest ≡ other → Left before whole now rest → Left before whole now other
left_as {before} {whole} {now} e left = subst (Left before whole now) e left

-- where what is left has two parts, there is room for the first
pub left_room : {before : Writer} {whole : List ℕ} {now : Writer} {rest s : List ℕ} (t : List ℕ) → rest ≡ s ++ t → Left before whole now rest → Free now s
left_room {s = s} t e left = record { room = record { fits = omega (arith, left.room.room.fits, ap length e, length-append s t) } }

-- and once it is written, the second is left
pub left_next :
    {before : Writer} {whole : List ℕ} {now : Writer} {rest s : List ℕ} {next : Writer} (t : List ℕ)
    → rest ≡ s ++ t → Left before whole now rest → Writes now s next → Left before whole next t
left_next {now = now} {s = s} {next = next} t e left w =
    let long : length next.out.now ≡ length now.out.now = wrote_long (left_room t e left).room w.wrote in
    record {
      room = record { room = record { fits = omega (arith, left.room.room.fits, ap length e, length-append s t, w.wrote.end) } };
      end = omega (arith, left.end, ap length e, length-append s t, w.wrote.end);
      bytes = rw (w.wrote.bytes, w.wrote.end, placed_both now.out.now now.at s t (omega (arith, left.room.room.fits))) (rw e at left.bytes);
      same = w.same ∙ left.same;
    }

-- where nothing is left, the whole text is written
pub left_none : {before : Writer} {whole : List ℕ} {now : Writer} {rest : List ℕ} → rest ≡ [] → Left before whole now rest → Writes before whole now
left_none {now = now} e left = record {
  wrote = record {
    bytes = sym (ap (placed now.out.now now.at) e ∙ placed_nothing now.out.now now.at) ∙ left.bytes;
    end = omega (arith, left.end, ap length e);
  };
  same = left.same;
}

-- once all that is left is written, the whole text is
pub left_last : {before : Writer} {whole : List ℕ} {now : Writer} {rest : List ℕ} {last : Writer} → Left before whole now rest → Writes now rest last → Writes before whole last
left_last {rest = rest} left w = left_none refl (left_next [] (sym (append-nil rest)) left w)

-- a text that is written at the start of a buffer
pub printed : {text before after : List ℕ} {r : ℕ} → Wrote before 0 text after r → Printed text before after r
unfolding placed
printed {text} w = record { bytes = rw zero-add at w.bytes; size = w.end ∙ zero-add (length text) }

-- by a writer that begins there; the buffer ends as what the writer holds, which is the same one
pub printed_by :
    {before after : Writer} {text out : List ℕ} → Writes before text after → before.at ≡ 0 → (before.out.ghost_name ≡ after.out.ghost_name → out ≡ after.out.now)
    → Printed text before.out.now out after.at
printed_by {after = after} w start ends = rw (ends (sym w.same)) (printed (rw start at w.wrote))

-- a text that was printed, by another name
pub printed_as : {text same before after : List ℕ} {r : ℕ} → text ≡ same → Printed text before after r → Printed same before after r
printed_as {before = before} {after = after} {r = r} e p = subst (λ (t : List ℕ). Printed t before after r) e p
