-- What a choice keeps goes over to other numbers: a literal that is true under the choice is one that is true under the choice read back, and the other way
-- round. That no variable stands in a clause twice goes over where no two variables get one number.
use mathlib.Core.Path.{◌≡◌, refl, sym, ap, ap₂, subst, ◌∙◌}
use mathlib.Core.Bool.{Bool, true, false, ◌&&◌}
use mathlib.Core.List.Memᴰ
use mathlib.Core.List.{List, [], ◌∷◌, map}
use Prim.Native.Nat.{ℕ, ◌≤◌, ◌<◌}
use Rattle.words.specs.Words.{has, first_vars, Within}
use Rattle.words.proofs.Truth.{both_ways, refuted, iff}
use Rattle.words.proofs.Sets.{within_trans, or_within_l, or_within_r, or_within, meets_false, meets_false_intro}
use Rattle.steps.specs.Clause.{Clause, literals, vars}
use Rattle.steps.specs.Meaning.{satisfies, models}
use Rattle.steps.specs.Shape.{Proper, AllProper}
use Rattle.steps.proofs.Models.{Satisfied, Satisfied.at, satisfies_true, true_satisfies}
use Rattle.renaming.specs.Renaming.{image, renamed, Pulled}
use Rattle.renaming.specs.Demands.{Keeping, KeepingAll, StaysProper}
use Rattle.renaming.proofs.Images.{first_below, image_named, image_has, image_within, image_same}

-- the literals of one sign
pub literals_renamed : (b : Bool) (f : ℕ → ℕ) (n : ℕ) (c : Clause) → literals b (renamed f n c) ≡ image f n (literals b c)
unfolding renamed
literals_renamed true f n c = refl
literals_renamed false f n c = refl

-- a literal's variable is among the first n
pub literal_within : (b : Bool) (n : ℕ) (c : Clause) → Proper n c → Within (literals b c) (first_vars n)
unfolding vars
literal_within true n c p = within_trans _ _ _ (or_within_l c.pos c.neg) p.named
literal_within false n c p = within_trans _ _ _ (or_within_r c.pos c.neg) p.named

pub literal_below : (b : Bool) (n : ℕ) (c : Clause) → Proper n c → (k : ℕ) → has (literals b c) k ≡ true → k < n
literal_below b n c p k h = first_below n k (literal_within b n c p k h)

module _ (f : ℕ → ℕ) (n x z : ℕ) (c : Clause) (p : Proper n c) (pulled : Pulled f n x z) where
  back : Satisfied x (renamed f n c) → Satisfied z c
  back (at j b l h) =
      let i = image_named f n (literals b c) j (rw (literals_renamed b f n c) at l) in
      at i.var b i.member (pulled i.var i.below ∙ ap (has x) i.number ∙ h)

  forth : Satisfied z c → Satisfied x (renamed f n c)
  forth (at k b l h) =
      let less = literal_below b n c p k l in
      at (f k) b (rw (literals_renamed b f n c) (image_has f n (literals b c) k less l)) (sym (pulled k less) ∙ h)

pub keeping : Keeping
keeping f n x z c p pulled =
    iff (satisfies x (renamed f n c)) (satisfies z c)
    (λ e. true_satisfies z c (back f n x z c p pulled (satisfies_true x (renamed f n c) e)))
    (λ e. true_satisfies x (renamed f n c) (forth f n x z c p pulled (satisfies_true z c e)))

pub keeping_all : KeepingAll
keeping_all f n x z [] all pulled = refl
keeping_all f n x z (c ∷ cs) all pulled =
    ap₂ ◌&&◌ (keeping f n x z c (all c (Memᴰ.head refl)) pulled) (keeping_all f n x z cs (λ d m. all d (Memᴰ.tail m)) pulled)

-- clauses of the first n variables do not see more of a choice than these
pub same_kept : (n x y : ℕ) (c : Clause) → Proper n c → ((k : ℕ) → k < n → has y k ≡ has x k) → satisfies x c ≡ satisfies y c
same_kept n x y c p same =
    iff (satisfies x c) (satisfies y c)
    (λ e. true_satisfies y c (seen x y same (satisfies_true x c e)))
    (λ e. true_satisfies x c (seen y x (λ k h. sym (same k h)) (satisfies_true y c e)))
  where
    seen : (u v : ℕ) → ((k : ℕ) → k < n → has v k ≡ has u k) → Satisfied u c → Satisfied v c
    seen u v f (at k b l h) = at k b l (f k (literal_below b n c p k l) ∙ h)

pub same_kept_all : (n x y : ℕ) (cs : List Clause) → AllProper n cs → ((k : ℕ) → k < n → has y k ≡ has x k) → models x cs ≡ models y cs
same_kept_all n x y [] all same = refl
same_kept_all n x y (c ∷ cs) all same =
    ap₂ ◌&&◌ (same_kept n x y c (all c (Memᴰ.head refl)) same) (same_kept_all n x y cs (λ d m. all d (Memᴰ.tail m)) same)

-- clauses of the first n variables under maps that agree on these
pub renamed_same :
    (f g : ℕ → ℕ) (n m : ℕ) (cs : List Clause) → n ≤ m → AllProper n cs → ((k : ℕ) → k < n → f k ≡ g k) → map (renamed f m) cs ≡ map (renamed g n) cs
unfolding renamed
renamed_same f g n m [] le all same = refl
renamed_same f g n m (c ∷ cs) le all same =
    let p = all c (Memᴰ.head refl) in
    ap₂ ◌∷◌ (one p) (renamed_same f g n m cs le (λ d h. all d (Memᴰ.tail h)) same)
  where
    one : Proper n c → renamed f m c ≡ renamed g n c
    one p =
        ap₂ (λ x y. record { pos = x; neg = y }) (image_same f g n m c.pos le (literal_within true n c p) same)
        (image_same f g n m c.neg le (literal_within false n c p) same)

pub stays_proper : StaysProper
unfolding vars renamed
stays_proper f n m c apart into p =
    record {
      named = or_within (image f n c.pos) (image f n c.neg) (first_vars m) (image_within f n m c.pos into) (image_within f n m c.neg into);
      consistent =
          meets_false_intro (image f n c.pos) (image f n c.neg)
          (λ j h.
          refuted (has (image f n c.neg) j)
          (λ g.
          let a = image_named f n c.pos j h in
          let b = image_named f n c.neg j g in
          let same : a.var ≡ b.var = apart a.var b.var a.below b.below (a.number ∙ sym b.number) in
          both_ways (has c.neg a.var) (subst (λ k. has c.neg k ≡ true) (sym same) b.member)
          (meets_false c.pos c.neg p.consistent a.var a.member)));
    }
