-- What a chain over a walk comes to, as `any` and `find`: its calls fail at the clauses that come, and those that are not in both rows fail too. So where a call passes, all
-- clauses before that one fail, and where the walk ends, all do. Is says of the closure what each call leaves true.
use mathlib.Core.Path.{◌≡◌, sym, ◌∙◌}
use mathlib.Core.Bool.{Bool, true, false, ◌&&◌}
use mathlib.Core.List.{List, [], ◌∷◌}
use mathlib.Core.Option.{some, none}
use Prim.Native.Nat.{ℕ, ◌<◌}
use native.Mathlib.Nat.{le_refl}
use denote.Param.Members.{Mut}
use denote.Ref.{Bor}
use Rattle.std.specs.Prelude.{Option, Some, None}
use Rattle.std.specs.Option.{MatchOption, IfSome}
use Rattle.std.specs.Fn.{Called, CalledAt}
use Rattle.std.specs.Iterator.{Yields, YieldsThen, CallableAtEachTurn}
use Rattle.std.specs.List.{FoldsTo}
use Rattle.steps.specs.Lists.{any, find}
use Rattle.rows.specs.Rows.{from}
use Rattle.rows.specs.Index.{is_in, NoneIn, coming, Walks, Comes, ComesTo}
use Rattle.rows.specs.declared.index.Walk.{Walk}
use Rattle.rows.proofs.Both.{Turn, turn}
use Rattle.rows.proofs.Lists.{any_at, any_none, find_at, find_none}
use Rattle.rows.proofs.Reading.{walk_begins, walk_ends, walk_comes, walk_goes}

module _ {F : Type 0} (R : F → ℕ → F → Type 0) {q : List ℕ} {m u w : ℕ} where
  -- J holds wherever its turns lead, where each of them keeps it
  chain : (J : Walk → F → Type 0)
      → ((s t : Walk) (f h : F) (i : ℕ) → J s f → Turn q m u w s i t → R f i h → J t h)
      → (xs : List ℕ) (s t : Walk) (f h : F) → Walks q m u w s → J s f → Yields Comes s xs t → FoldsTo R f xs h → Walks q m u w t × J t h
  chain J keep [] s t f h go j y z = rw (← y, ← z) (go, j)
  chain J keep (x ∷ xs) s t f h go j y z =
      let o = turn go y.1 in
      chain J keep xs y.0 t z.0 h o.goes (keep s y.0 f z.0 x j o z.1) y.2 z.2

  -- a closure that may be called at each of the m clauses may be called at those that come
  pub serves : {Q : F → ℕ → Type 0} (Is : F → Type 0)
      → ((f h : F) (i : ℕ) → Is f → R f i h → Is h)
      → ((f : F) (i : ℕ) → i < m → Is f → Q f i)
      → {s : Walk} {f : F} → Walks q m u w s → Is f → CallableAtEachTurn Comes R Q s f
  serves Is keep may {s} {f} go is =
      record {
        at =
            λ xs t h x v y z c.
            let here = chain (λ t. Is) (λ s t f h i j o. keep f h i j) xs s t f h go is y z in
            may h x (turn here.0 c).below here.1;
      }

  -- where its calls fail, all clauses that the walk has passed do
  passed : (P : ℕ → Type 0) (Is : F → Type 0)
      → ((x : ℕ) → x < m → (is_in q u x && is_in q w x) ≡ false → P x)
      → ((f h : F) (i : ℕ) → i < m → (is_in q u i && is_in q w i) ≡ true → Is f → R f i h → Is h × P i)
      → {s : Walk} {f : F} → Walks q m u w s × NoneIn q m u w 0 (coming s)
      → Is f
      → (xs : List ℕ) (t : Walk) (h : F) → Yields Comes s xs t → FoldsTo R f xs h
      → Walks q m u w t × (Is h × ((x : ℕ) → x < coming t → x < m → P x))
  passed P Is out fails {s} {f} go is xs t h =
      chain (λ t h. Is h × ((x : ℕ) → x < coming t → x < m → P x))
      (λ s t f h i j o c. let k = fails f h i o.below o.here j.0 c in (k.0, walk_goes P out j.1 o k.1))
      xs s t f h go.0 (is, walk_begins P out go)

module _ {q : List ℕ} {m u w : ℕ} where
  -- the clause that comes is one of the m
  pub comes_below : (xs : List ℕ) (s t v : Walk) (i : ℕ) → Walks q m u w s → Yields Comes s xs t → ComesTo t i v → i < m
  comes_below [] s t v i go y c = let d : ComesTo s i v = rw y c in (turn go d).below
  comes_below (x ∷ xs) s t v i go y c = comes_below xs y.0 t v i (turn go y.1).goes y.2 c

module _ {A F : Type 0} (p : A → Bool) (at : ℕ → A) (Is : F → Type 0) {q : List ℕ} {m u w : ℕ} (out : (x : ℕ) → x < m → (is_in q u x && is_in q w x) ≡ false → p (at x) ≡ false) where
  pub any_is : {g : Mut F (ℕ × Unit {0}) Bool}
      → ((b : Bool) (f h : F) (i : ℕ) → i < m → (is_in q u i && is_in q w i) ≡ true → Is f → Called g f (i, tt) b h → Is h × (p (at i) ≡ b))
      → {s v : Walk} {f : F} {r : Bool} → Walks q m u w s × NoneIn q m u w 0 (coming s)
      → Is f
      → (xs : List ℕ) × (o : Option ℕ) × (h : F) × YieldsThen Comes s xs o v × FoldsTo (λ a x b. Called g a (x, tt) false b) f xs h
      × MatchOption o (r ≡ false) (λ x. (r ≡ true) × ((j : F) × Called g h (x, tt) true j))
      → r ≡ any p (from at 0 m)
  any_is {g} called {s} {v} {f} {r} go is ran = ends ran.1 ran.3.2 ran.5
    where
      here : Walks q m u w ran.3.0 × (Is ran.2 × ((x : ℕ) → x < coming ran.3.0 → x < m → p (at x) ≡ false))
      here = passed _ (λ x. p (at x) ≡ false) Is out (called false) go is ran.0 ran.3.0 ran.2 ran.3.1 ran.4

      ends : (o : Option ℕ) → Comes ran.3.0 o v → MatchOption o (r ≡ false) (λ x. (r ≡ true) × ((j : F) × Called g ran.2 (x, tt) true j)) → r ≡ any p (from at 0 m)
      ends None c e = e ∙ sym (any_none p at m m (le_refl m) (walk_ends (λ x. p (at x) ≡ false) out here.1.1 here.0 c))
      ends (Some i) c e =
          let o = turn here.0 c in
          let k = called true ran.2 e.1.0 i o.below o.here here.1.0 e.1.1 in
          e.0 ∙ sym (any_at p at i m o.below (walk_comes (λ x. p (at x) ≡ false) out here.1.1 o) k.1)

  pub find_is : {g : Mut F (Bor ℕ × Unit {0}) Bool}
      → ((b : Bool) (f h : F) (i : ℕ) → i < m → (is_in q u i && is_in q w i) ≡ true → Is f → CalledAt g f i b h → Is h × (p (at i) ≡ b))
      → {s : Walk} {f : F} (v : Walk) (r : Option ℕ) → Walks q m u w s × NoneIn q m u w 0 (coming s)
      → Is f
      → (xs : List ℕ) × (h : F) × YieldsThen Comes s xs r v × FoldsTo (λ a x b. CalledAt g a x false b) f xs h
      × IfSome r (λ x. (j : F) × CalledAt g h x true j)
      → MatchOption r (find p (from at 0 m) ≡ none) (λ i. (i < m) × (find p (from at 0 m) ≡ some (at i)))
  find_is {g} called {s} {f} v r go is ran = ends r ran.2.2 ran.4
    where
      here : Walks q m u w ran.2.0 × (Is ran.1 × ((x : ℕ) → x < coming ran.2.0 → x < m → p (at x) ≡ false))
      here = passed _ (λ x. p (at x) ≡ false) Is out (called false) go is ran.0 ran.2.0 ran.1 ran.2.1 ran.3

      ends : (o : Option ℕ) → Comes ran.2.0 o v → IfSome o (λ x. (j : F) × CalledAt g ran.1 x true j) → MatchOption o (find p (from at 0 m) ≡ none) (λ i. (i < m) × (find p (from at 0 m) ≡ some (at i)))
      ends None c e = find_none p at m m (le_refl m) (walk_ends (λ x. p (at x) ≡ false) out here.1.1 here.0 c)
      ends (Some i) c e =
          let o = turn here.0 c in
          let k = called true ran.1 e.0 i o.below o.here here.1.0 e.1 in
          (o.below, find_at p at i m o.below (walk_comes (λ x. p (at x) ≡ false) out here.1.1 o) k.1)
