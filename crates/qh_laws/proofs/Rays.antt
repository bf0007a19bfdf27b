-- Near a ray that meets or misses each triangle there is a ray that meets the same triangles and is off all planes through z and an edge.
use Rattle.qh_model.proofs.Common.{◌≡◌, ℕ, refl, sym, ap, subst, ◌∙◌, arith, List, [], ◌∷◌, ◌++◌, Bool, true, false, ◌⊎◌, inl, inr, ⊎_elim, and_parts, and_from}
use Rattle.qh_model.proofs.Common.{ints, ℤ, pos, neg_ℤ, ◌<ℤ◌, Triple, cross, vol, In, Vector, minus, dot}
use Rattle.std.proofs.lemmas.Bool.{and_left, and_right}
use Rattle.qh_model.proofs.{algebra.Signs.less_le, algebra.Signs.negated_positive, closed_surfaces.Sums.count, lists.Joined.in_append, lists.Joined.of_append}
use Rattle.qh_model.proofs.algebra.VectorIdentities.{opposite, dot-opposite, vol-dot}
use Rattle.qh_laws.specs.contract.LocallyConvex.{is_met, IsMissed}
use Rattle.qh_laws.proofs.{OffPoints.plus, OffPoints.edge_above, OffPoints.vol-plus, Perturbed.AllUp, Signs.above, Signs.above_is, Signs.not_above}

-- tests with equal results have equal counts
pub count-alike : {X : Type 0} (p q : X → Bool) (xs : List X) → ((x : X) → In x xs → p x ≡ q x) → count p xs ≡ count q xs
count-alike p q [] h = refl
count-alike p q (x ∷ xs) h = rw (h x (inl refl), count-alike p q xs (λ y i. h y (inr i))) refl

module _ (at : ℕ → Vector) (z d : Vector) where
  -- forms that are positive at d; each direction at which they are positive meets the same triangles
  pub record Forms (Same : Vector → Type 0) : Type 0 where
    pub list : List Vector
    pub here : AllUp list (minus d z)
    pub tell : (y : Vector) → AllUp list y → Same y

  -- both directions meet the triangle, or neither does
  abbrev pub MeetsSame : Triple → Vector → Type 0
  MeetsSame t y = is_met at z (plus z y) t ≡ is_met at z d t

  -- the sign of a volume with a point, from the direction from z
  at_least : (a b : Vector) → pos 0 <ℤ vol z a b d → pos 0 <ℤ dot (cross z a b) (minus d z)
  at_least a b h = subst (λ v. pos 0 <ℤ v) (vol-dot z a b d) h

  -- a triangle that is met
  of_met : (t : Triple) → is_met at z d t ≡ true → Forms (MeetsSame t)
  of_met t e = record { list = cross z (at t.i) (at t.j) ∷ cross z (at t.j) (at t.k) ∷ cross z (at t.k) (at t.i) ∷ []; here = here; tell = tell }
    where
      part : (above (vol z (at t.i) (at t.j) d) ≡ true) × (above (vol z (at t.j) (at t.k) d) ≡ true) × (above (vol z (at t.k) (at t.i) d) ≡ true)
      part = let p = and_parts _ _ e in let q = and_parts _ _ p.1 in (p.0, q.0, q.1)

      here : AllUp (cross z (at t.i) (at t.j) ∷ cross z (at t.j) (at t.k) ∷ cross z (at t.k) (at t.i) ∷ []) (minus d z)
      here p (inl f) = subst (λ v. pos 0 <ℤ dot v (minus d z)) (sym f) (at_least (at t.i) (at t.j) (above_is _ part.0))
      here p (inr (inl f)) = subst (λ v. pos 0 <ℤ dot v (minus d z)) (sym f) (at_least (at t.j) (at t.k) (above_is _ part.1))
      here p (inr (inr (inl f))) = subst (λ v. pos 0 <ℤ dot v (minus d z)) (sym f) (at_least (at t.k) (at t.i) (above_is _ part.2))
      here p (inr (inr (inr x))) = absurd x

      tell : (y : Vector) → AllUp (cross z (at t.i) (at t.j) ∷ cross z (at t.j) (at t.k) ∷ cross z (at t.k) (at t.i) ∷ []) y → MeetsSame t y
      tell y up =
          and_from _ _ (edge_above z y (at t.i) (at t.j) (up (cross z (at t.i) (at t.j)) (inl refl)))
          (and_from _ _ (edge_above z y (at t.j) (at t.k) (up (cross z (at t.j) (at t.k)) (inr (inl refl))))
          (edge_above z y (at t.k) (at t.i) (up (cross z (at t.k) (at t.i)) (inr (inr (inl refl)))))) ∙ sym e

  -- a triangle that is missed beyond an edge
  of_edge : (t : Triple) (a b : Vector) → vol z a b d <ℤ pos 0 → ((q : Vector) → above (vol z a b q) ≡ false → is_met at z q t ≡ false) → Forms (MeetsSame t)
  of_edge t a b h out = record { list = opposite (cross z a b) ∷ []; here = here; tell = tell }
    where
      here : AllUp (opposite (cross z a b) ∷ []) (minus d z)
      here p (inl f) =
          subst (λ v. pos 0 <ℤ dot v (minus d z)) (sym f)
          (negated_positive (dot (opposite (cross z a b)) (minus d z)) (vol z a b d)
          (dot-opposite (cross z a b) (minus d z) ∙ ap neg_ℤ (sym (vol-dot z a b d))) h)
      here p (inr x) = absurd x

      tell : (y : Vector) → AllUp (opposite (cross z a b) ∷ []) y → MeetsSame t y
      tell y up =
          out (plus z y) (not_above (vol z a b (plus z y))
          (omega (arith, ints, dot-opposite (cross z a b) y ∙ ap neg_ℤ (sym (vol-plus z a b y)), up (opposite (cross z a b)) (inl refl))))
          ∙ sym (out d (not_above (vol z a b d) (less_le (vol z a b d) (pos 0) h)))

  -- a triangle that is met or missed
  of_told : (t : Triple) → is_met at z d t ≡ true ⊎ IsMissed at z d t → Forms (MeetsSame t)
  of_told t (inl e) = of_met t e
  of_told t (inr (inl h)) = of_edge t (at t.i) (at t.j) h (λ q e. and_left _ _ e)
  of_told t (inr (inr (inl h))) = of_edge t (at t.j) (at t.k) h (λ q e. and_right _ _ (and_left _ _ e))
  of_told t (inr (inr (inr h))) = of_edge t (at t.k) (at t.i) h (λ q e. and_right _ _ (and_right _ _ e))

  -- all triangles
  pub of_all : (ts : List Triple) → ((t : Triple) → In t ts → is_met at z d t ≡ true ⊎ IsMissed at z d t) → Forms (λ y. (t : Triple) → In t ts → MeetsSame t y)
  of_all [] h = record { list = []; here = λ p i. absurd i; tell = λ y up t i. absurd i }
  of_all (t ∷ ts) h = join (of_told t (h t (inl refl))) (of_all ts (λ s i. h s (inr i)))
    where
      join : Forms (MeetsSame t) → Forms (λ y. (s : Triple) → In s ts → MeetsSame s y) → Forms (λ y. (s : Triple) → In s (t ∷ ts) → MeetsSame s y)
      join f g = record { list = f.list ++ g.list; here = here; tell = tell }
        where
          here : AllUp (f.list ++ g.list) (minus d z)
          here p i = ⊎_elim (λ j. f.here p j) (λ j. g.here p j) (of_append f.list g.list p i)

          tell : (y : Vector) → AllUp (f.list ++ g.list) y → (s : Triple) → In s (t ∷ ts) → MeetsSame s y
          tell y up s (inl e) = subst (λ r. MeetsSame r y) (sym e) (f.tell y (λ p j. up p (in_append f.list g.list p (inl j))))
          tell y up s (inr i) = g.tell y (λ p j. up p (in_append f.list g.list p (inr j))) s i
