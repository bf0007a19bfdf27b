-- Buffers that begin with the lists of a flat hull.
use Rattle.qh_model.proofs.Common.{◌≡◌, ℕ, ◌+◌, ◌<◌, List, [], ◌∷◌, length, take, drop, ap, sym, subst, ◌∙◌, refl, ◌⊎◌, inl, inr, arith, Vector}
use Rattle.qconvex_c.specs.contract.{Flat.ends_from, Flat.IsFlatHull, Answered.IsAnswered, Answered.NeedsRoom}
use Rattle.qconvex_c.specs.declared.sizes.Sizes.{Sizes}

-- the number of ends is the number of faces
length-ends : (n : ℕ) (qs : List (List ℕ)) → length (ends_from n qs) ≡ length qs
length-ends n [] = refl
length-ends n (q ∷ qs) = omega (arith, length-ends (n + length q) qs)

-- the elements after n in a buffer that ends as another
pub rest_of : (n : ℕ) (xs ys zs : List ℕ) → xs ≡ ys → drop n ys ≡ drop n zs → drop n xs ≡ drop n zs
rest_of n xs ys zs e h = ap (drop n) e ∙ h

module _ (pts : List Vector) (s : Sizes) (es os cs : List ℕ) (f : IsFlatHull pts s es os cs) where
  extremes_len : length es ≡ s.extremes
  extremes_len = ap length f.extreme_ids ∙ sym f.sizes.extremes

  offsets_len : length os ≡ s.faces + 1
  offsets_len = omega (arith, ap length f.face_offsets, length-ends 0 f.hull.body.polygons, f.sizes.faces)

  corners_len : length cs ≡ s.corners
  corners_len = ap length f.face_corners ∙ sym f.sizes.corners

  -- buffers that end as the filled ones
  pub filled : (eb ob cb eb' ob' cb' : List ℕ) → eb' ≡ eb → ob' ≡ ob → cb' ≡ cb
      → take (length es) eb ≡ es → take (length os) ob ≡ os → take (length cs) cb ≡ cs → IsAnswered pts s eb' ob' cb'
  filled eb ob cb eb' ob' cb' se so sc e o c = record {
    flat = record {
      hull = f.hull;
      right = f.right;
      sizes = f.sizes;
      extreme_ids = ap (λ n. take n eb') (sym extremes_len) ∙ ap (take (length es)) se ∙ e ∙ f.extreme_ids;
      face_offsets = ap (λ n. take n ob') (sym offsets_len) ∙ ap (take (length os)) so ∙ o ∙ f.face_offsets;
      face_corners = ap (λ n. take n cb') (sym corners_len) ∙ ap (take (length cs)) sc ∙ c ∙ f.face_corners;
    };
  }

  pub rest_kept : (eb ob cb eb' ob' cb' : List ℕ) → (drop (length es) eb' ≡ drop (length es) eb)
      × (drop (length os) ob' ≡ drop (length os) ob) × (drop (length cs) cb' ≡ drop (length cs) cb)
      → (drop s.extremes eb' ≡ drop s.extremes eb) × (drop (s.faces + 1) ob' ≡ drop (s.faces + 1) ob) × (drop s.corners cb' ≡ drop s.corners cb)
  rest_kept eb ob cb eb' ob' cb' (e, o, c) =
      (subst (λ n. drop n eb' ≡ drop n eb) extremes_len e, subst (λ n. drop n ob' ≡ drop n ob) offsets_len o, subst (λ n. drop n cb' ≡ drop n cb) corners_len c)

  pub needs_room : (eb ob cb : List ℕ) → (length eb < length es) ⊎ (length ob < length os) ⊎ (length cb < length cs) → NeedsRoom pts s eb ob cb
  needs_room eb ob cb h = record { all_extremes = es; all_offsets = os; all_corners = cs; flat = f; short = short h }
    where
      short : (length eb < length es) ⊎ (length ob < length os) ⊎ (length cb < length cs)
          → (length eb < s.extremes) ⊎ (length ob < s.faces + 1) ⊎ (length cb < s.corners)
      short (inl h) = inl (subst (λ n. length eb < n) extremes_len h)
      short (inr (inl h)) = inr (inl (subst (λ n. length ob < n) offsets_len h))
      short (inr (inr h)) = inr (inr (subst (λ n. length cb < n) corners_len h))
