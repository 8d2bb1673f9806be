-- Laws of fields: a text that fits its field fills it up to its width.
use mathlib.Core.Path.{◌≡◌, ◌∙◌}
use mathlib.Core.List.{List}
use Prim.Native.Nat.{ℕ, ◌+◌, ◌-◌, ◌≤◌, ◌<◌}
use native.Mathlib.Omega.{arith}
use lib.ListN.{length, get_or, length-append, length-replicate, get_or-replicate, get_or-append}
use lib.Seq.{take-append_seam, drop_at, get_or-append-add}
use Rattle.report.specs.Fields.{blanks, set_left, set_right}
use Rattle.report.specs.Demands.{Fields}

module _ (width : ℕ) (text : List ℕ) (h : length text ≤ width) where
  pub left_wide : length (set_left width text) ≡ width
  unfolding set_left
  left_wide = length-append text (blanks (width - length text)) ∙ omega (arith, length-replicate {A = ℕ} (width - length text) 32)

  pub right_wide : length (set_right width text) ≡ width
  unfolding set_right
  right_wide = length-append (blanks (width - length text)) text ∙ omega (arith, length-replicate {A = ℕ} (width - length text) 32)

  left_blank : (i : ℕ) → length text ≤ i → i < width → get_or (set_left width text) i 0 ≡ 32
  unfolding set_left
  left_blank i l g =
      let at : i ≡ length text + (i - length text) = omega arith in
      rw at (get_or-append-add text (blanks (width - length text)) (i - length text) 0 ∙ get_or-replicate (width - length text) (i - length text) 32 0 (omega arith))

  right_blank : (i : ℕ) → i + length text < width → get_or (set_right width text) i 0 ≡ 32
  unfolding set_right
  right_blank i l =
      get_or-append (blanks (width - length text)) text 0 i (omega (arith, length-replicate {A = ℕ} (width - length text) 32))
      ∙ get_or-replicate (width - length text) i 32 0 (omega arith)

pub fields : Fields
unfolding set_left set_right
fields =
    record {
      left = λ width text h. record {
        wide = left_wide width text h;
        text_first = take-append_seam text (blanks (width - length text));
        blanks = left_blank width text h;
      };
      right = λ width text h. record {
        wide = right_wide width text h;
        text_last = drop_at (blanks (width - length text)) text (width - length text) (length-replicate {A = ℕ} (width - length text) 32);
        blanks = right_blank width text h;
      };
    }
