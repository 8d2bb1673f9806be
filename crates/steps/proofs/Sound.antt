-- What is kept true of the table and the D-sequents in the course of a run over book and order t₀. A choice that keeps t₀ keeps the table, and the
-- table begins with t₀. A D-sequent gives a model of t₀ from each choice that has its decisions and keeps the clauses that name nothing of its set:
-- more clauses keep that true, and it is true of what the empty list stands for.
use mathlib.Core.Path.{◌≡◌, sym, ap, ◌∙◌, subst}
use mathlib.Core.Logic.{⊎_elim}
use mathlib.Core.Bool.{false}
use mathlib.Core.List.Memᴰ
use mathlib.Core.List.{List, [], ◌∷◌, ◌++◌, append-nil, append_assoc, Memᴰ}
use Prim.Native.Nat.{ℕ}
use Rattle.words.proofs.Sets.{meets_zero}
use Rattle.steps.specs.Clause.{Clause, vars, names, DSequent, no_dSequent, last}
use Rattle.steps.specs.State.{State}
use Rattle.steps.proofs.ShapeLists.{last_has}
use Rattle.steps.proofs.Models.{Satisfied, Models, Agrees}

-- the choice keeps the clauses of t that name nothing of k
abbrev pub ModelsBut : ℕ → ℕ → List Clause → Type 0
ModelsBut x k t = (c : Clause) → Memᴰ c t → names k c ≡ false → Satisfied x c

-- some choice keeps t₀
abbrev pub Modeled : List Clause → Type 0
Modeled t₀ = (x : ℕ) × Models x t₀

-- a choice that has the decisions of d and keeps the clauses that are not dropped gives a model of t₀
abbrev pub Gives : List Clause → List Clause → DSequent → Type 0
Gives t₀ t d = (x : ℕ) → Agrees x d.decisions → ModelsBut x d.redundant t → Modeled t₀

-- every clause of s is one of t
abbrev pub Among : List Clause → List Clause → Type 0
Among s t = (c : Clause) → Memᴰ c s → Memᴰ c t

-- they are where t begins with s
pub begins_among : (s t more : List Clause) → t ≡ s ++ more → Among s t
begins_among s t more is c m = subst (Memᴰ c) (sym is) (Memᴰ.append_left more m)

-- what gives a model does so in a larger table too
pub gives_more : (t₀ s t : List Clause) (d : DSequent) → Among s t → Gives t₀ s d → Gives t₀ t d
gives_more t₀ s t d i g x h m = g x h (λ c l. m c (i c l))

-- t is a table over t₀, and rs are D-sequents over it
pub record Sound (t₀ t : List Clause) (rs : List DSequent) : Type 0 where
  pub follows : (x : ℕ) → Models x t₀ → Models x t
  pub begins : (more : List Clause) × (t ≡ t₀ ++ more)
  pub records : (d : DSequent) → Memᴰ d rs → Gives t₀ t d

-- the same of a state
abbrev pub SoundState : List Clause → State → Type 0
SoundState t₀ s = Sound t₀ s.table s.records

module _ (t₀ t : List Clause) (rs : List DSequent) (h : Sound t₀ t rs) where
  -- what the empty list stands for gives
  none_gives : Gives t₀ t no_dSequent
  unfolding names
  none_gives x e m = (x, λ c l. m c (begins_among t₀ t h.begins.0 h.begins.1 c l) (meets_zero (vars c)))

  -- the last D-sequent gives
  pub last_gives : Gives t₀ t (last rs)
  last_gives = last_has (Gives t₀ t) no_dSequent rs none_gives h.records

  -- some D-sequents left out
  pub sound_fewer : (qs : List DSequent) → ((d : DSequent) → Memᴰ d qs → Memᴰ d rs) → Sound t₀ t qs
  sound_fewer qs i = record { follows = h.follows; begins = h.begins; records = λ d m. h.records d (i d m) }

  -- one more D-sequent
  pub sound_append : (d : DSequent) → Gives t₀ t d → Sound t₀ t (rs ++ (d ∷ []))
  sound_append d g =
      record {
        follows = h.follows;
        begins = h.begins;
        records = λ q m. ⊎_elim (h.records q) (λ l. subst (Gives t₀ t) (sym (Memᴰ.eq_of_singleton l)) g) (Memᴰ.append_cases rs m);
      }

  -- one more clause, which follows
  pub sound_added : (c : Clause) → ((x : ℕ) → Models x t → Satisfied x c) → Sound t₀ (t ++ (c ∷ [])) rs
  sound_added c f =
      record {
        follows =
            λ x m d l. ⊎_elim (h.follows x m d) (λ q. subst (Satisfied x) (sym (Memᴰ.eq_of_singleton q)) (f x (h.follows x m))) (Memᴰ.append_cases t l);
        begins = (h.begins.0 ++ (c ∷ []), ap (λ (s : List Clause). s ++ (c ∷ [])) h.begins.1 ∙ append_assoc t₀ h.begins.0 (c ∷ []));
        records = λ d m. gives_more t₀ t (t ++ (c ∷ [])) d (λ q l. Memᴰ.append_left (c ∷ []) l) (h.records d m);
      }

-- at the start
pub sound_start : (t₀ : List Clause) → Sound t₀ t₀ []
sound_start t₀ =
    record { follows = λ x m. m; begins = ([], sym (append-nil t₀)); records = λ d m. absurd (Memᴰ.not-nil m) }
