-- The ids that a plane finds, position by position and in a set.
use Rattle.qh_model.proofs.Common.{◌≡◌, ℕ, ◌+◌, ◌<◌, ◌≤◌, arith, refl, sym, ap, subst, ◌∙◌, inl, inr, List, [], ◌∷◌, ◌++◌, length, get_or, get_or_default}
use Rattle.qh_model.proofs.Common.{length-map, get_or-map, ints, by_lt_z, cases_lt, ℤ, pos, ◌<ℤ◌, ◌≤ℤ◌, Option, Some, None, MatchOption, Vector, origin, place}
use Rattle.qh_model.proofs.{Common.In, Members.In-get_or, Members.in_at, algebra.Order.le_less, algebra.Signs.less_le, algebra.Signs.less_differ}
use Rattle.{qh_model.proofs.lists.Joined.in_append, qh_model.proofs.lists.Joined.of_append, qh_places.proofs.NearPositions.begun}
use Rattle.qh_places.specs.contract.{Bundles.IsOfBundle, Near.rise_at, Near.IsNear, Places.ArePlaces, Places.IsAbove, Places.AreLevel}
use Rattle.qh_places.specs.{declared.places.Near.Near, declared.places.Places.Places, steps.Levels.AreOn, steps.Levels.IsAboveAt, steps.Levels.HasLooked}
use Rattle.{qh_places.specs.steps.Levels.HasSeen, qh_pred.specs.contract.Planes.PlaneValue, qh_pred.specs.contract.Planes.height}

-- ---- position by position
module _ (points : List Vector) (ids : List ℕ) (plane : PlaneValue) where
  -- no position is tested
  pub look_start : (from : ℕ) (old : List ℕ) → HasLooked points ids plane from from old old
  look_start from old = record { below = λ k f h l. absurd (omega arith); lists = λ k f h l e. absurd (omega arith); kept = λ i m. m; only = λ o. o }

  -- a point in the plane
  found_on : (from k : ℕ) (old found : List ℕ) → HasLooked points ids plane from k old found → k < length points
      → rise_at points plane k ≡ pos 0 → HasLooked points ids plane from (k + 1) old (found ++ get_or ids k 0 ∷ [])
  found_on from k old found h l e = record {
    below = λ j f m n. elim (cases_lt j k) [ inl x ↦ h.below j f x n | inr x ↦ level j m x ];
    lists = λ j f m n z. elim (cases_lt j k) [
      | inl x ↦ in_append found (get_or ids k 0 ∷ []) (get_or ids j 0) (inl (h.lists j f x n z))
      | inr x ↦ last j m x
    ];
    kept = λ i m. in_append found (get_or ids k 0 ∷ []) i (inl (h.kept i m));
    only = λ o i m. elim (of_append found (get_or ids k 0 ∷ []) i m) [ inl x ↦ h.only o i x | inr x ↦ own i x ];
  }
    where
      same : (j : ℕ) → j < k + 1 → k ≤ j → k ≡ j
      same j m x = omega arith

      zero_le : (z : ℤ) → z ≡ pos 0 → z ≤ℤ pos 0
      zero_le z e = omega (arith, ints)

      level : (j : ℕ) → j < k + 1 → k ≤ j → rise_at points plane j ≤ℤ pos 0
      level j m x = subst (λ i. rise_at points plane i ≤ℤ pos 0) (same j m x) (zero_le _ e)

      last : (j : ℕ) → j < k + 1 → k ≤ j → In (get_or ids j 0) (found ++ get_or ids k 0 ∷ [])
      last j m x =
          subst (λ i. In (get_or ids i 0) (found ++ get_or ids k 0 ∷ [])) (same j m x) (in_append found (get_or ids k 0 ∷ []) (get_or ids k 0) (inr (inl refl)))

      own : (i : ℕ) → In i (get_or ids k 0 ∷ [])
          → (j : ℕ) × (j < length points) × (get_or ids j 0 ≡ i) × (rise_at points plane j ≡ pos 0)
      own i (inl d) = (k, l, sym d, e)
      own i (inr d) = absurd d

  -- a point that the plane is above
  found_under : (from k : ℕ) (old found : List ℕ) → HasLooked points ids plane from k old found
      → rise_at points plane k <ℤ pos 0 → HasLooked points ids plane from (k + 1) old found
  found_under from k old found h u = record {
    below = λ j f m n. elim (cases_lt j k) [ inl x ↦ h.below j f x n | inr x ↦ less_le _ _ (under j m x) ];
    lists = λ j f m n z. elim (cases_lt j k) [ inl x ↦ h.lists j f x n z | inr x ↦ absurd (less_differ _ _ (under j m x) z) ];
    kept = h.kept;
    only = h.only;
  }
    where
      under : (j : ℕ) → j < k + 1 → k ≤ j → rise_at points plane j <ℤ pos 0
      under j m x = let same : k ≡ j = omega arith in subst (λ i. rise_at points plane i <ℤ pos 0) same u

  -- the same for a point that is read
  pub look_on : (from k : ℕ) (p : Vector) (i : ℕ) (old found : List ℕ) → HasLooked points ids plane from k old found
      → k < length points → k < length ids → p ≡ get_or points k p → i ≡ get_or ids k i → height plane p ≡ pos 0
      → HasLooked points ids plane from (k + 1) old (found ++ i ∷ [])
  look_on from k p i old found h l m e f z =
      rw (f ∙ get_or_default ids k i 0 m) (found_on from k old found h l (subst (λ q. height plane q ≡ pos 0) (e ∙ get_or_default points k p origin l) z))

  pub look_under : (from k : ℕ) (p : Vector) (old found : List ℕ) → HasLooked points ids plane from k old found
      → k < length points → p ≡ get_or points k p → ¬ (pos 0 <ℤ height plane p) → ¬ (height plane p ≡ pos 0) → HasLooked points ids plane from (k + 1) old found
  look_under from k p old found h l e up on =
      found_under from k old found h (subst (λ q. height plane q <ℤ pos 0) (e ∙ get_or_default points k p origin l)
      (by_lt_z (pos 0) (height plane p) (λ x. absurd (up x)) (λ x. le_less _ _ x on)))

  -- a point above the plane
  pub look_above : (k : ℕ) (p : Vector) (i : ℕ) → k < length points → k < length ids → p ≡ get_or points k p
      → i ≡ get_or ids k i → pos 0 <ℤ height plane p → IsAboveAt points ids plane i
  look_above k p i l m e f h = (
    k,
    l,
    sym (f ∙ get_or_default ids k i 0 m),
    subst (λ q. pos 0 <ℤ height plane q) (e ∙ get_or_default points k p origin l) h,
  )

-- ---- the ids of a set
module _ (pts : List Vector) (ids : List ℕ) (p : Places) (are : ArePlaces pts ids p) (plane : PlaneValue) where
  long : length p.points.items ≡ length p.ids.items
  long = ap length are.points ∙ length-map p.ids.items (place pts)

  -- the point at a position is that of the id there
  rise_of : (n l : ℕ) → n < length p.ids.items → get_or p.ids.items n 0 ≡ l
      → rise_at p.points.items plane n ≡ height plane (place pts l)
  rise_of n l m e =
      ap (λ ps. height plane (get_or ps n origin)) are.points ∙ ap (height plane) (get_or-map (place pts) p.ids.items n 0 origin m ∙ ap (place pts) e)

  -- the id at a position is one of the set
  id_at : (n l : ℕ) → n < length p.points.items → get_or p.ids.items n 0 ≡ l → In l ids
  id_at n l m e = (are.same l).0 (subst (λ i. In i p.ids.items) e (In-get_or p.ids.items n 0 (subst (λ k. n < k) long m)))

  inside : (n : ℕ) → n < length p.points.items → n < length p.ids.items
  inside n m = subst (λ k. n < k) long m

  pub above_of : (i : ℕ) → IsAboveAt p.points.items p.ids.items plane i → IsAbove pts ids plane i
  above_of i (n, m, e, h) = (id_at n i m e, subst (λ v. pos 0 <ℤ v) (rise_of n i (inside n m) e) h)

  -- the result for all positions
  pub level_of : (found : List ℕ)
      → ((k : ℕ) → k < length p.points.items → rise_at p.points.items plane k ≤ℤ pos 0)
      → ((k : ℕ) → k < length p.points.items → rise_at p.points.items plane k ≡ pos 0 → In (get_or p.ids.items k 0) found)
      → AreOn p.points.items p.ids.items plane found → AreLevel pts ids plane found
  level_of found below lists only = record {
    below = λ l m. (let a = in_at p.ids.items l ((are.same l).1 m) in
        subst (λ v. v ≤ℤ pos 0) (rise_of a.0 l a.1 a.2) (below a.0 (back a.0 a.1)));
    members = λ l. (there l, again l);
  }
    where
      back : (n : ℕ) → n < length p.ids.items → n < length p.points.items
      back n m = subst (λ k. n < k) (sym long) m

      there : (l : ℕ) → In l found → In l ids × (height plane (place pts l) ≡ pos 0)
      there l m = let f = only l m in (id_at f.0 l f.1 f.2, sym (rise_of f.0 l (inside f.0 f.1) f.2) ∙ f.3)

      again : (l : ℕ) → In l ids × (height plane (place pts l) ≡ pos 0) → In l found
      again l o = let a = in_at p.ids.items l ((are.same l).1 o.0) in
          subst (λ x. In x found) a.2 (lists a.0 (back a.0 a.1) (rise_of a.0 l a.1 a.2 ∙ o.1))

  -- the result if all positions were tested
  pub level_of_all : (found : List ℕ) → HasLooked p.points.items p.ids.items plane 0 (length p.points.items) [] found
      → AreLevel pts ids plane found
  level_of_all found h = level_of found (λ k l. h.below k (omega arith) l l) (λ k l e. h.lists k (omega arith) l l e)
      (h.only (λ i m. absurd m))

  -- the result if the near ones were tested, and the plane is in the bundle
  pub level_of_near : (near : Near) (found : List ℕ) → IsNear p.points.items near → IsOfBundle near.bundle plane
      → HasSeen p.points.items p.ids.items plane near.starts.items (length near.starts.items) found → AreLevel pts ids plane found
  level_of_near near found n o h = level_of found
      (λ k l. elim (begun near.starts.items (length near.starts.items) k) [ inl b ↦ h.below k b l | inr b ↦ less_le _ _ (n plane o k l l b) ])
      (λ k l e. elim (begun near.starts.items (length near.starts.items) k) [
        | inl b ↦ h.lists k b l e
        | inr b ↦ absurd (less_differ _ _ (n plane o k l l b) e)
      ])
      h.only

  -- the result of testing all positions
  pub all_looked : (o : Option ℕ) (found : List ℕ)
      → MatchOption o (0 ≤ length p.points.items → HasLooked p.points.items p.ids.items plane 0 (length p.points.items) [] found)
      (IsAboveAt p.points.items p.ids.items plane) → MatchOption o (AreLevel pts ids plane found) (IsAbove pts ids plane)
  all_looked None found h = level_of_all found (h (omega arith))
  all_looked (Some i) found h = above_of i h

-- if no id is found in the plane, all are strictly below it
pub none_found : (pts : List Vector) (ids : List ℕ) (plane : PlaneValue) (found : List ℕ) → AreLevel pts ids plane found
    → length found ≡ 0 → (l : ℕ) → In l ids → height plane (place pts l) <ℤ pos 0
none_found pts ids plane found h e l m =
    le_less (height plane (place pts l)) (pos 0) (h.below l m) (λ z. none found e ((h.members l).1 (m, z)))
  where
    none : (xs : List ℕ) → length xs ≡ 0 → In l xs → ⊥
    none [] e m = m
    none (x ∷ xs) e m = absurd (omega (arith, e))
