-- The facets of a part that stay support the whole set, and those in clear planes have its polygons.
use Rattle.qh_laws.proofs.{LevelPoints.level_point, LevelPoints.level_stay, LevelPoints.sides_hide_rest, Rings.ring_hides_rest}
use Rattle.qh_laws.specs.contract.{Parts.AreKept, Parts.IsClear, Parts.IsPart, Seam.IsBelowAll, Seam.IsRing, Seam.SeesGone, Seam.height_over}
use Rattle.qh_laws.specs.laws.PartLaws.{ExtremesAreKept, SeamOfOthers, StayingHasPolygon, StayingSupports, StrictIsClear}
use Rattle.qh_laws.specs.laws.PointLaws.{IsBeside}
use Rattle.qh_model.proofs.Common.{Bool, Extreme, HasDistinctPoints, In, IsFacePolygon, IsFinished, IsLevelFacet, IsLiveCorner, List, Members, OnPlane, Others}
use Rattle.qh_model.proofs.Common.{Supports, Surface, Vector, ap, false, inl, inr, pos, refl, subst, true, ℕ, ⊎_elim, ◌<ℤ◌, ◌↔◌, ◌∙◌, ◌∷◌, ◌≡◌, ◌≤ℤ◌, ◌⊎◌}
use Rattle.qh_model.proofs.algebra.{Order.zero_or_not, Signs.at_most_zero, Signs.less_differ, Signs.not_less}
use Rattle.qh_model.proofs.extremes.ExtremeIds.{Listed, combination_within, extremes_between, listed_itself, listed_part}
use Rattle.qh_model.proofs.extremes.Faces.{extremes_of_face, support_of_extremes}
use Rattle.qh_model.proofs.surfaces.{Finished.extremes_are_corners, Finished.facet_area, Inside.finished_with}

-- proof of the law `ExtremesAreKept`
pub extremes_are_kept : ExtremesAreKept
extremes_are_kept at all ids m z sub l x i =
    extremes_are_corners at ids m z l (i, λ c. x.1 (combination_within at (Others (Members ids) l) (Others (Members all) l) (at l) c (λ j o. (sub j o.0, o.1))))

module _ (at : ℕ → Vector) (all kept ids : List ℕ) (m : Surface) (stay : ℕ → Bool) (distinct : HasDistinctPoints at (Members all))
    (known : AreKept at all kept) (part : IsPart at all kept ids m stay) where
  abbrev z : IsFinished at ids m
  z = part.finished

  -- a kept id is above no facet that stays
  below : (l : ℕ) → In l kept → (f : ℕ) → In f m.live → stay f ≡ true → height_over at m f (at l) ≤ℤ pos 0
  below l h f live stays =
      ⊎_elim (λ b. b f live) (λ s. ring_hides_rest at ids m z stay (at l) s (λ g r. part.seam.ring g r l h) f live stays) (part.seam.answer l h)

  -- so a facet that stays supports the whole set
  supports : (f : ℕ) → In f m.live → stay f ≡ true → Supports at (Members all) (m.i f) (m.j f) (m.k f)
  supports f live stays = support_of_extremes at all distinct (m.i f) (m.j f) (m.k f) (λ l e. below l (known.extremes l e) f live stays)

  -- an extreme id that is above no facet is in the part
  extreme_inside : (l : ℕ) → Extreme at (Members all) l → IsBelowAll at m (at l) → In l ids
  extreme_inside l x b = corner (extremes_are_kept at (l ∷ all) (l ∷ ids) m (finished_with at ids m z l b) more l again (inl refl))
    where
      more : (j : ℕ) → In j (l ∷ ids) → In j (l ∷ all)
      more j (inl e) = inl e
      more j (inr i) = inr (part.inside j i)

      others : (j : ℕ) → Others (Members (l ∷ all)) l j → Others (Members all) l j
      others j (inl e, n) = absurd (n e)
      others j (inr i, n) = (i, n)

      again : Extreme at (Members (l ∷ all)) l
      again = (inl refl, λ c. x.1 (combination_within at (Others (Members (l ∷ all)) l) (Others (Members all) l) (at l) c others))

      corner : IsLiveCorner m l → In l ids
      corner c = z.corners c.0 c.1 l c.2

  -- ---- a clear facet
  module _ (f : ℕ) (live : In f m.live) (stays : stay f ≡ true) (clear : IsClear at kept m stay f) where
    -- a kept id in the plane of f is above no facet
    level_below : (l : ℕ) → In l kept → height_over at m f (at l) ≡ pos 0 → IsBelowAll at m (at l)
    level_below l h on w i = at_most_zero _ (λ above. not_less (pos 0) _ above (hidden above w i))
      where
        -- if a kept id in the plane of f is above some facet, no facet of the ring lies in the plane
        no_ring : pos 0 <ℤ height_over at m w (at l) → (g : ℕ) → IsRing m stay g → IsLevelFacet at m f g → ⊥
        no_ring above g r level = not_less (pos 0) _ above (clear g r level l (h, level_point at ids m z f live (at l) on g r.live level) w i)

        hidden : pos 0 <ℤ height_over at m w (at l) → IsBelowAll at m (at l)
        hidden above = sides_hide_rest at ids m z f live (at l) on side
          where
            side : (g : ℕ) → IsBeside at m f g → height_over at m g (at l) ≤ℤ pos 0
            side g b = by_mark (stay g) refl
              where
                over_live : In g m.live
                over_live = subst (λ x. In x m.live) b.over_is (z.whole b.h b.live b.side).live

                near_stays : stay b.h ≡ true
                near_stays = level_stay at ids m z f live stay stays (no_ring above) b.h b.live b.level

                by_mark : (x : Bool) → stay g ≡ x → height_over at m g (at l) ≤ℤ pos 0
                by_mark true e = below l h g over_live e
                by_mark false e = absurd (no_ring above b.h
                    (record { live = b.live; stays = near_stays; side = b.side; gone = ap stay b.over_is ∙ e }) b.level)

    -- the members of the part in the plane
    abbrev Own : ℕ → Type 0
    Own = OnPlane at (Members ids) (m.i f) (m.j f) (m.k f)

    -- the members of the whole set in the plane
    abbrev Whole : ℕ → Type 0
    Whole = OnPlane at (Members all) (m.i f) (m.j f) (m.k f)

    -- both have the same extreme ids
    same_extremes : (l : ℕ) → OnPlane at (Extreme at (Members ids)) (m.i f) (m.j f) (m.k f) l ↔ OnPlane at (Extreme at (Members all)) (m.i f) (m.j f) (m.k f) l
    same_extremes l = between (listed_part (Members all) (λ h. height_over at m f (at h) ≡ pos 0) (λ h. zero_or_not _) all (listed_itself all))
      where
        small : (h : ℕ) → Extreme at Own h ↔ OnPlane at (Extreme at (Members ids)) (m.i f) (m.j f) (m.k f) h
        small h = extremes_of_face at ids (m.i f) (m.j f) (m.k f) (z.unseen f live) h

        large : (h : ℕ) → Extreme at Whole h ↔ OnPlane at (Extreme at (Members all)) (m.i f) (m.j f) (m.k f) h
        large h = extremes_of_face at all (m.i f) (m.j f) (m.k f) (supports f live stays) h

        inside : (h : ℕ) → Extreme at Whole h → Own h
        inside h x = let e = (large h).0 x in (extreme_inside h e.0 (level_below h (known.extremes h e.0) e.1), e.1)

        between : (ys : List ℕ) × Listed Whole ys → OnPlane at (Extreme at (Members ids)) (m.i f) (m.j f) (m.k f) l
            ↔ OnPlane at (Extreme at (Members all)) (m.i f) (m.j f) (m.k f) l
        between (ys, q) = (λ x. (large l).0 ((same l).0 ((small l).1 x)), λ x. (small l).0 ((same l).1 ((large l).1 x)))
          where
            same : (h : ℕ) → Extreme at Own h ↔ Extreme at Whole h
            same = extremes_between at Whole Own ys q (λ x y fx fy e. distinct x y fx.0 fy.0 e) (λ h c. (part.inside h c.0, c.1)) inside

-- proof of the law `StayingSupports`
pub staying_supports : StayingSupports
staying_supports at all kept ids m stay distinct known part f live stays = record {
  has_i = part.inside (m.i f) (part.finished.corners f live (m.i f) (inl refl));
  has_j = part.inside (m.j f) (part.finished.corners f live (m.j f) (inr (inl refl)));
  has_k = part.inside (m.k f) (part.finished.corners f live (m.k f) (inr (inr refl)));
  area = facet_area at ids m part.finished f live;
  supports = supports at all kept ids m stay distinct known part f live stays;
}

-- polygons of one plane over sets with the same extreme ids in it
pub polygon_of_same : (at : ℕ → Vector) (A B : ℕ → Type 0) (i j k : ℕ) → ((l : ℕ) → OnPlane at (Extreme at A) i j k l → OnPlane at (Extreme at B) i j k l)
    → ((l : ℕ) → OnPlane at (Extreme at B) i j k l → OnPlane at (Extreme at A) i j k l)
    → (q : List ℕ) → IsFacePolygon at A i j k q → IsFacePolygon at B i j k q
polygon_of_same at A B i j k to from q p = record {
  members = λ l. (λ h. to l ((p.members l).0 h), λ h. (p.members l).1 (from l h));
  once = p.once;
  round = p.round;
  least = p.least;
}

-- proof of the law `StayingHasPolygon`
pub staying_has_polygon : StayingHasPolygon
staying_has_polygon at all kept ids m stay distinct known part f live stays clear q = (
  polygon_of_same at (Members ids) (Members all) (m.i f) (m.j f) (m.k f) (λ l. (same l).0) (λ l. (same l).1) q,
  polygon_of_same at (Members all) (Members ids) (m.i f) (m.j f) (m.k f) (λ l. (same l).1) (λ l. (same l).0) q,
)
  where
    same : (l : ℕ) → OnPlane at (Extreme at (Members ids)) (m.i f) (m.j f) (m.k f) l ↔ OnPlane at (Extreme at (Members all)) (m.i f) (m.j f) (m.k f) l
    same = same_extremes at all kept ids m stay distinct known part f live stays clear

-- proof of the law `StrictIsClear`
pub strict_is_clear : StrictIsClear
strict_is_clear at kept ids m stay z strict f g r level l h =
    ⊎_elim (λ i. λ f live. z.unseen f live l i) (λ b. absurd (less_differ _ (pos 0) b h.1)) (strict g r l h.0)

-- proof of the law `SeamOfOthers`
pub seam_of_others : SeamOfOthers
seam_of_others at kept others ids m stay z split seam = record { answer = λ l h. answer l (split l h); ring = λ f r l h. ring f r l (split l h) }
  where
    answer : (l : ℕ) → In l ids ⊎ In l others → IsBelowAll at m (at l) ⊎ SeesGone at m stay (at l)
    answer l (inl i) = inl (λ f live. z.unseen f live l i)
    answer l (inr o) = seam.answer l o

    ring : (f : ℕ) → IsRing m stay f → (l : ℕ) → In l ids ⊎ In l others → height_over at m f (at l) ≤ℤ pos 0
    ring f r l (inl i) = z.unseen f r.live l i
    ring f r l (inr o) = seam.ring f r l o
