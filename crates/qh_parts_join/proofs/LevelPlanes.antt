-- Ids in a plane with no id above it, list by list.
use Rattle.qh_model.proofs.Common.{◌≡◌, ℕ, ◌+◌, ◌<◌, inl, inr, List, [], ◌∷◌, ◌++◌, length, get_or, map, take, ap, sym, subst, ◌∙◌, flat_map-append}
use Rattle.qh_model.proofs.Common.{by_lt_z, append_assoc, append-nil, map-append, take_more, flat_map, ◌↔◌, ℤ, pos, ◌≤ℤ◌, ◌<ℤ◌, Vector, place, In}
use Rattle.qh_model.proofs.algebra.{Order.le_less, Signs.less_le, Signs.less_differ, Signs.equal_le}
use Rattle.{qh_model.proofs.lists.Joined.in_append, qh_model.proofs.lists.Joined.of_append, qh_places.specs.contract.Places.AreLevel}
use Rattle.qh_pred.specs.contract.Planes.{PlaneValue, height}

module _ (pts : List Vector) (plane : PlaneValue) where
  -- the empty list has no id
  pub none_level : AreLevel pts [] plane []
  none_level = record { below = λ l m. absurd m; members = λ l. (λ m. absurd m, λ m. absurd m.0) }

  -- the ids found in two lists
  pub level_both : (a b f g : List ℕ) → AreLevel pts a plane f → AreLevel pts b plane g → AreLevel pts (a ++ b) plane (f ++ g)
  level_both a b f g x y = record {
    below = λ l m. elim (of_append a b l m) [ inl i ↦ x.below l i | inr i ↦ y.below l i ];
    members = λ l. (there l, back l);
  }
    where
      there : (l : ℕ) → In l (f ++ g) → In l (a ++ b) × (height plane (place pts l) ≡ pos 0)
      there l m = elim (of_append f g l m) [
        | inl i ↦ (let h = (x.members l).0 i in (in_append a b l (inl h.0), h.1))
        | inr i ↦ (let h = (y.members l).0 i in (in_append a b l (inr h.0), h.1))
      ]

      back : (l : ℕ) → In l (a ++ b) × (height plane (place pts l) ≡ pos 0) → In l (f ++ g)
      back l m = in_append f g l (elim (of_append a b l m.0) [ inl i ↦ inl ((x.members l).1 (i, m.1)) | inr i ↦ inr ((y.members l).1 (i, m.1)) ])

  -- one more id is in the plane
  pub level_on : (a f : List ℕ) (l : ℕ) → AreLevel pts a plane f → height plane (place pts l) ≡ pos 0
      → AreLevel pts (a ++ l ∷ []) plane (f ++ l ∷ [])
  level_on a f l x e = level_both a (l ∷ []) f (l ∷ []) x (record { below = below; members = members })
    where
      below : (k : ℕ) → In k (l ∷ []) → height plane (place pts k) ≤ℤ pos 0
      below k (inl s) = subst (λ n. height plane (place pts n) ≤ℤ pos 0) (sym s) (equal_le _ _ e)
      below k (inr n) = absurd n

      members : (k : ℕ) → In k (l ∷ []) ↔ (In k (l ∷ []) × (height plane (place pts k) ≡ pos 0))
      members k = (λ m. (m, on m), λ m. m.0)
        where
          on : In k (l ∷ []) → height plane (place pts k) ≡ pos 0
          on (inl s) = subst (λ n. height plane (place pts n) ≡ pos 0) (sym s) e
          on (inr n) = absurd n

  -- one more id is below the plane
  pub level_under : (a f : List ℕ) (l : ℕ) → AreLevel pts a plane f → height plane (place pts l) <ℤ pos 0
      → AreLevel pts (a ++ l ∷ []) plane f
  level_under a f l x h = record { below = below; members = λ k. (there k, back k) }
    where
      under : (k : ℕ) → In k (l ∷ []) → height plane (place pts k) <ℤ pos 0
      under k (inl s) = subst (λ n. height plane (place pts n) <ℤ pos 0) (sym s) h
      under k (inr n) = absurd n

      below : (k : ℕ) → In k (a ++ l ∷ []) → height plane (place pts k) ≤ℤ pos 0
      below k m = elim (of_append a (l ∷ []) k m) [ inl i ↦ x.below k i | inr i ↦ less_le _ _ (under k i) ]

      there : (k : ℕ) → In k f → In k (a ++ l ∷ []) × (height plane (place pts k) ≡ pos 0)
      there k m = let h = (x.members k).0 m in (in_append a (l ∷ []) k (inl h.0), h.1)

      back : (k : ℕ) → In k (a ++ l ∷ []) × (height plane (place pts k) ≡ pos 0) → In k f
      back k m = elim (of_append a (l ∷ []) k m.0) [ inl i ↦ (x.members k).1 (i, m.1) | inr i ↦ absurd (less_differ _ _ (under k i) m.1) ]

  -- the same ids in another list
  pub level_for : (a b f g : List ℕ) → AreLevel pts a plane f → ((l : ℕ) → In l a ↔ In l b) → ((l : ℕ) → In l g ↔ In l f)
      → AreLevel pts b plane g
  level_for a b f g x same found = record {
    below = λ l m. x.below l ((same l).1 m);
    members = λ l. (
      λ m. (let h = (x.members l).0 ((found l).0 m) in ((same l).0 h.0, h.1)),
      λ m. (found l).1 ((x.members l).1 ((same l).1 m.0, m.1)),
    );
  }

-- an id that is neither above nor in the plane is below it
pub below_rest : (z : ℤ) → ¬ (pos 0 <ℤ z) → ¬ (z ≡ pos 0) → z <ℤ pos 0
below_rest z up on = by_lt_z (pos 0) z (λ x. absurd (up x)) (λ x. le_less _ _ x on)

-- ---- a loop over lists: one more list
pub one_next : (ids xs : List ℕ) (k x : ℕ) → k < length xs → x ≡ get_or xs k x → ids ++ take (k + 1) xs ≡ (ids ++ take k xs) ++ x ∷ []
one_next ids xs k x h e = ap (λ t. ids ++ t) (take_more xs k x h ∙ ap (λ y. take k xs ++ y ∷ []) (sym e)) ∙ sym (append_assoc ids (take k xs) (x ∷ []))

pub flat_next : {X Y : Type 0} (f : Y → List ℕ) (g : X → Y) (ids : List ℕ) (xs : List X) (k : ℕ) (x : X) → k < length xs
    → x ≡ get_or xs k x → ids ++ flat_map f (map g (take (k + 1) xs)) ≡ (ids ++ flat_map f (map g (take k xs))) ++ f (g x)
flat_next f g ids xs k x h e =
    ap (λ t. ids ++ flat_map f (map g t)) (take_more xs k x h ∙ ap (λ y. take k xs ++ y ∷ []) (sym e))
    ∙ ap (λ t. ids ++ flat_map f t) (map-append g (take k xs) (x ∷ []))
    ∙ ap (λ t. ids ++ t) (flat_map-append f (map g (take k xs)) (g x ∷ []) ∙ ap (λ t. flat_map f (map g (take k xs)) ++ t) (append-nil (f (g x))))
    ∙ sym (append_assoc ids (flat_map f (map g (take k xs))) (f (g x)))
