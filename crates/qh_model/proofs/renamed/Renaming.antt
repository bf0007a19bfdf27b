-- A set of ids that is renamed in its order with the same points: its extreme ids and its dimension.
use Rattle.qh_model.proofs.Common.{◌≡◌, ℕ, ◌<◌, arith, sym, ap, subst, ◌∙◌, Vector, Combination, IsDimension, Others, Extreme, cross, vol}
use Rattle.qh_model.proofs.combinations.OtherNames.{combination_by_names}
use Rattle.qh_model.proofs.extremes.SameDimension.{dimension_as, tetrahedron_by_names, triangle_by_names, segment_by_names}

-- f names each id of A by one of B, and g is the inverse, with the same points and in the same order
pub record IsRenaming (at at' : ℕ → Vector) (A B : ℕ → Type 0) (f g : ℕ → ℕ) : Type 0 where
  pub to : (i : ℕ) → A i → B (f i)
  pub from : (k : ℕ) → B k → A (g k)
  pub over : (i : ℕ) → A i → g (f i) ≡ i
  pub under : (k : ℕ) → B k → f (g k) ≡ k
  pub point : (i : ℕ) → A i → at' (f i) ≡ at i
  pub rises : (i j : ℕ) → A i → A j → i < j → f i < f j

module _ {at at' : ℕ → Vector} {A B : ℕ → Type 0} {f g : ℕ → ℕ} (r : IsRenaming at at' A B f g) where
  -- two ids with the same name are equal
  pub renaming_apart : (i j : ℕ) → A i → A j → f i ≡ f j → i ≡ j
  renaming_apart i j a b e = sym (r.over i a) ∙ ap g e ∙ r.over j b

  -- rising names are those of rising ids
  pub renaming_falls : (i j : ℕ) → A i → A j → f i < f j → i < j
  renaming_falls = grind arith

  -- the inverse renaming
  pub renaming_back : IsRenaming at' at B A g f
  renaming_back = grind arith

  -- a part of the set is renamed to a part of the names
  pub part_renamed : {X Y : ℕ → Type 0} → ((i : ℕ) → X i → A i) → ((k : ℕ) → Y k → B k) → ((i : ℕ) → X i → Y (f i))
      → ((k : ℕ) → Y k → X (g k)) → IsRenaming at at' X Y f g
  part_renamed = grind arith

  -- the normal of three members
  pub normal_renamed : (i j k : ℕ) → A i → A j → A k → cross (at' (f i)) (at' (f j)) (at' (f k)) ≡ cross (at i) (at j) (at k)
  normal_renamed i j k a b c = λ z. cross (r.point i a z) (r.point j b z) (r.point k c z)

  -- the volume of three members and a name
  pub volume_renamed : (i j k l : ℕ) → A i → A j → A k → B l → vol (at' (f i)) (at' (f j)) (at' (f k)) (at' l) ≡ vol (at i) (at j) (at k) (at (g l))
  volume_renamed i j k l a b c d = λ z. vol (r.point i a z) (r.point j b z) (r.point k c z) (sym (renaming_back.point l d) z)

module _ {at at' : ℕ → Vector} {A B : ℕ → Type 0} {f g : ℕ → ℕ} (r : IsRenaming at at' A B f g) where
  -- an extreme id has an extreme name
  pub extreme_renamed : (i : ℕ) → Extreme at A i → Extreme at' B (f i)
  extreme_renamed i h = (
    r.to i h.0,
    λ m. h.1 (subst (Combination at (Others A i)) (r.point i h.0) (combination_by_names at' at (Others B (f i)) (Others A i) g
        (λ j o. (r.from j o.0, λ e. o.1 (sym (r.under j o.0) ∙ ap f e))) (λ j o. (renaming_back r).point j o.0) (at' (f i)) m)),
  )

  -- the dimension stays the same
  pub dimension_renamed : (k : ℕ) → IsDimension at A k → IsDimension at' B k
  dimension_renamed =
      let q = renaming_back r in
      dimension_as at at' A B (tetrahedron_by_names f r.to r.point, tetrahedron_by_names g q.to q.point)
      (triangle_by_names f r.to r.point, triangle_by_names g q.to q.point)
      (segment_by_names f r.to (renaming_apart r), segment_by_names g q.to (renaming_apart q))

module _ {at at' : ℕ → Vector} {A B : ℕ → Type 0} {f g : ℕ → ℕ} (r : IsRenaming at at' A B f g) where
  -- the extreme ids are renamed
  pub extremes_renamed : IsRenaming at at' (Extreme at A) (Extreme at' B) f g
  extremes_renamed = part_renamed r (λ i h. h.0) (λ k h. h.0) (extreme_renamed r) (extreme_renamed (renaming_back r))
