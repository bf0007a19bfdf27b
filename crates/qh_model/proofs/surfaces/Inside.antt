-- A point strictly below all facets of the surface of a part of a set is no extreme point of the set.
use Rattle.qh_model.proofs.Common.{Extreme, In, IsFinished, IsLiveCorner, List, Members, Others, Surface, Vector, arith, inl, inr, pos, refl, vol, ℕ, ◌<ℤ◌, ◌∷◌}
use Rattle.qh_model.proofs.{Common.◌≤ℤ◌, algebra.Signs.less_differ, algebra.Signs.less_le}
use Rattle.qh_model.proofs.algebra.VectorIdentities.{vol-first, vol-second, vol-third}
use Rattle.qh_model.proofs.{extremes.ExtremeIds.combination_within, surfaces.Facets.of_corners, surfaces.Finished.extremes_are_corners}

-- a surface is finished for each list that has its ids and no id above a facet
pub finished_over : (at : ℕ → Vector) (ids more : List ℕ) (m : Surface) → IsFinished at ids m → ((l : ℕ) → In l ids → In l more)
    → ((f : ℕ) → In f m.live → (l : ℕ) → In l more → vol (at (m.i f)) (at (m.j f)) (at (m.k f)) (at l) ≤ℤ pos 0) → IsFinished at more m
finished_over = grind arith

-- one more id that is above no facet
pub finished_with : (at : ℕ → Vector) (ids : List ℕ) (m : Surface) → IsFinished at ids m → (l : ℕ)
    → ((f : ℕ) → In f m.live → vol (at (m.i f)) (at (m.j f)) (at (m.k f)) (at l) ≤ℤ pos 0) → IsFinished at (l ∷ ids) m
finished_with = grind arith

module _ (at : ℕ → Vector) (part : List ℕ) (m : Surface) (z : IsFinished at part m) (l : ℕ)
    (below : (f : ℕ) → In f m.live → vol (at (m.i f)) (at (m.j f)) (at (m.k f)) (at l) <ℤ pos 0) where
  -- the surface has no corner at the point
  no_corner : IsLiveCorner m l → ⊥
  no_corner = grind (arith, less_differ, of_corners, vol-first, vol-second, vol-third)

  -- so the point is not extreme in a set that includes the part
  pub inner_is_not_extreme : (ids : List ℕ) → ((i : ℕ) → In i part → In i ids) → ¬ (Extreme at (Members ids) l)
  inner_is_not_extreme ids sub x = no_corner (extremes_are_corners at (l ∷ part) m (finished_with at part m z l (λ f i. less_le _ _ (below f i))) l
      (inl refl, λ c. x.1 (combination_within at (Others (Members (l ∷ part)) l) (Others (Members ids) l) (at l) c others)))
    where
      others : (j : ℕ) → Others (Members (l ∷ part)) l j → Others (Members ids) l j
      others j (inl e, n) = absurd (n e)
      others j (inr i, n) = (sub j i, n)
