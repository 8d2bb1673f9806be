-- Trying settings in turn. The last one tried is the first that stops, and where none stops the last of all; by induction on the list.
use mathlib.Core.Path.{◌≡◌, refl, sym, ap, subst⁻¹, ◌∙◌}
use mathlib.Core.Bool.{Bool, true, false, ◌&&◌, ◌||◌, or-true}
use mathlib.Core.List.Memᴰ
use mathlib.Core.List.{List, [], ◌∷◌, ◌++◌, Memᴰ}
use mathlib.Core.Logic.{⊎_elim}
use Prim.Native.Nat.{ℕ}
use Rattle.words.proofs.Truth.{both_ways, clash, and_left, and_right, and_both, or_either}
use Rattle.answer.specs.Answer.{Answer}
use Rattle.undecided.specs.Undecided.{is_can, is_stop, last_tried, all_can, some_can, verdict_by}
use Rattle.undecided.specs.declared.Verdict.TheVariants.{Always, Sometimes, Never, Stopped}

module _ (f : ℕ → Answer) where
  -- ---- the last one tried

  -- after one that does not stop, those after it are tried
  pub last_goes : (x s : ℕ) (ss : List ℕ) → is_stop (f s) ≡ false → last_tried f x (s ∷ ss) ≡ last_tried f s ss
  last_goes x s ss e = rw (e, last_tried)

  -- and one that stops is the last
  pub last_stops : (x s : ℕ) (ss : List ℕ) → is_stop (f s) ≡ true → last_tried f x (s ∷ ss) ≡ s
  last_stops x s ss e = rw (e, last_tried)

  -- where it stands in the list
  pub record Place (ss : List ℕ) (s : ℕ) : Type 0 where
    pub earlier : List ℕ
    pub later : List ℕ
    pub listed : ss ≡ earlier ++ (s ∷ later)
    pub none_stopped : (u : ℕ) → Memᴰ u earlier → is_stop (f u) ≡ false
    pub all : is_stop (f s) ≡ false → later ≡ []

  -- one more before it, which does not stop
  place_after : (u s : ℕ) (ss : List ℕ) → is_stop (f u) ≡ false → Place ss s → Place (u ∷ ss) s
  place_after u s ss e p =
      record {
        earlier = u ∷ p.earlier;
        later = p.later;
        listed = ap (λ (l : List ℕ). u ∷ l) p.listed;
        none_stopped = λ v m. ⊎_elim (λ same. ap (λ (w : ℕ). is_stop (f w)) same ∙ e) (p.none_stopped v) (Memᴰ.cases_cons m);
        all = p.all;
      }

  -- it is the first of those that are left
  place_here : (s : ℕ) (ss : List ℕ) → (is_stop (f s) ≡ false → ss ≡ []) → Place (s ∷ ss) s
  place_here s ss all = record { earlier = []; later = ss; listed = refl; none_stopped = λ u m. absurd (Memᴰ.not-nil m); all = all }

  pub place : (x s : ℕ) (ss : List ℕ) → Place (s ∷ ss) (last_tried f x (s ∷ ss))
  place x s [] = go (is_stop (f s)) refl
    where
      go : (b : Bool) → is_stop (f s) ≡ b → Place (s ∷ []) (last_tried f x (s ∷ []))
      go true e = subst⁻¹ (Place (s ∷ [])) (last_stops x s [] e) (place_here s [] (λ h. refl))
      go false e = subst⁻¹ (Place (s ∷ [])) (last_goes x s [] e) (place_here s [] (λ h. refl))
  place x s (t ∷ ts) = go (place s t ts) (is_stop (f s)) refl
    where
      go : Place (t ∷ ts) (last_tried f s (t ∷ ts)) → (b : Bool) → is_stop (f s) ≡ b → Place (s ∷ t ∷ ts) (last_tried f x (s ∷ t ∷ ts))
      go rest true e = subst⁻¹ (Place (s ∷ t ∷ ts)) (last_stops x s (t ∷ ts) e) (place_here s (t ∷ ts) (λ h. both_ways (is_stop (f s)) e h))
      go rest false e = subst⁻¹ (Place (s ∷ t ∷ ts)) (last_goes x s (t ∷ ts) e) (place_after s _ (t ∷ ts) e rest)

  -- the first that stops is the last one tried
  pub first_stop : (x s : ℕ) (before after : List ℕ) → ((u : ℕ) → Memᴰ u before → is_stop (f u) ≡ false) → is_stop (f s) ≡ true → last_tried f x (before ++ (s ∷ after)) ≡ s
  first_stop x s [] after none e = last_stops x s after e
  first_stop x s (u ∷ before) after none e =
      last_goes x u (before ++ (s ∷ after)) (none u (Memᴰ.head refl)) ∙ first_stop u s before after (λ v m. none v (Memᴰ.tail m)) e

  -- ---- all of them, some of them

  pub every_one_can : (ss : List ℕ) → all_can f ss ≡ true → (s : ℕ) → Memᴰ s ss → is_can (f s) ≡ true
  every_one_can [] e s m = absurd (Memᴰ.not-nil m)
  every_one_can (u ∷ ss) e s m =
      ⊎_elim (λ same. ap (λ (w : ℕ). is_can (f w)) same ∙ and_left (is_can (f u)) (all_can f ss) e) (every_one_can ss (and_right (is_can (f u)) (all_can f ss) e) s)
      (Memᴰ.cases_cons m)

  pub each_can : (ss : List ℕ) → ((s : ℕ) → Memᴰ s ss → is_can (f s) ≡ true) → all_can f ss ≡ true
  each_can [] h = refl
  each_can (u ∷ ss) h = and_both (is_can (f u)) (all_can f ss) (h u (Memᴰ.head refl)) (each_can ss (λ s m. h s (Memᴰ.tail m)))

  pub not_all : (ss : List ℕ) → all_can f ss ≡ false → (s : ℕ) × Memᴰ s ss × (is_can (f s) ≡ false)
  not_all [] e = both_ways true refl e
  not_all (u ∷ ss) e = go (not_all ss) (is_can (f u)) refl
    where
      go : (all_can f ss ≡ false → (s : ℕ) × Memᴰ s ss × (is_can (f s) ≡ false)) → (b : Bool) → is_can (f u) ≡ b →
          (s : ℕ) × Memᴰ s (u ∷ ss) × (is_can (f s) ≡ false)
      go rest true h = let m = rest (sym (ap (λ (b : Bool). b && all_can f ss) h) ∙ e) in (m.0, Memᴰ.tail m.1, m.2)
      go rest false h = (u, Memᴰ.head refl, h)

  pub some_one_can : (ss : List ℕ) → some_can f ss ≡ true → (s : ℕ) × Memᴰ s ss × (is_can (f s) ≡ true)
  some_one_can [] e = both_ways false e refl
  some_one_can (u ∷ ss) e =
      ⊎_elim (λ h. (u, Memᴰ.head refl, h)) (λ h. let m = some_one_can ss h in (m.0, Memᴰ.tail m.1, m.2)) (or_either (is_can (f u)) (some_can f ss) e)

  pub one_can : (ss : List ℕ) (s : ℕ) → Memᴰ s ss → is_can (f s) ≡ true → some_can f ss ≡ true
  one_can [] s m h = absurd (Memᴰ.not-nil m)
  one_can (u ∷ ss) s m h =
      ⊎_elim
      (λ same. ap (λ (b : Bool). b || some_can f ss) (sym (ap (λ (w : ℕ). is_can (f w)) same) ∙ h))
      (λ n. ap (λ (b : Bool). is_can (f u) || b) (one_can ss s n h) ∙ or-true (is_can (f u)))
      (Memᴰ.cases_cons m)

-- ---- the verdict by its tests

pub stops_verdict : (stop all some : Bool) → verdict_by stop all some ≡ Stopped → stop ≡ true
stops_verdict true all some e = refl
stops_verdict false true some e = clash cc
stops_verdict false false true e = clash cc
stops_verdict false false false e = clash cc

pub always_verdict : (stop all some : Bool) → verdict_by stop all some ≡ Always → all ≡ true
always_verdict true all some e = clash cc
always_verdict false true some e = refl
always_verdict false false true e = clash cc
always_verdict false false false e = clash cc

pub sometimes_verdict : (stop all some : Bool) → verdict_by stop all some ≡ Sometimes → (all ≡ false) × (some ≡ true)
sometimes_verdict true all some e = clash cc
sometimes_verdict false true some e = clash cc
sometimes_verdict false false true e = (refl, refl)
sometimes_verdict false false false e = clash cc

pub never_verdict : (stop all some : Bool) → verdict_by stop all some ≡ Never → some ≡ false
never_verdict true all some e = clash cc
never_verdict false true some e = clash cc
never_verdict false false true e = clash cc
never_verdict false false false e = refl
