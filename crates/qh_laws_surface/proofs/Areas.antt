-- The areas of the pieces in the plane of a face add up to that of the face.
use Rattle.qh_model.proofs.Common.{◌≡◌, ℕ, arith, sym, ◌∙◌, List, [], ◌∷◌, ints, filter, pos, cross, Vector, dot}
use Rattle.qh_model.proofs.algebra.VectorIdentities.{vector_path, left-dot, dot-origin}
use Rattle.qh_model.proofs.closed_surfaces.Sums.{sum_z}
use Rattle.qh_laws.proofs.PolygonFaces.{dot-plus}
use Rattle.qh_laws_surface.specs.contract.Measures.{lies_in, area_along, doubled_area, doubled_areas}
use Rattle.qh_laws_surface.specs.laws.MeasureLaws.{AreasAddUp}
use Rattle.qh_laws_surface.proofs.{FaceWays.goes_round_once, PlanePieces.pieces_of, PlanePieces.OverFace}
use Rattle.qh_laws_surface.proofs.FanAreas.{swept, swept-odd, all_swept, round_swept, turns_along, turns_of}

-- vectors with the same scalar products are equal
by_products : (p q : Vector) → ((m : Vector) → dot p m ≡ dot q m) → p ≡ q
by_products p q h = vector_path p q
    (let e = h (record { x = pos 1; y = pos 0; z = pos 0 }) in omega (arith, ints, e))
    (let e = h (record { x = pos 0; y = pos 1; z = pos 0 }) in omega (arith, ints, e))
    (let e = h (record { x = pos 0; y = pos 0; z = pos 1 }) in omega (arith, ints, e))

along_product : (m : Vector) (at : ℕ → Vector) (a u : ℕ) (r : List ℕ) → dot (area_along at a u r) m ≡ turns_along m at a u r
along_product m at a u [] = dot-origin m
along_product m at a u (w ∷ r) =
    dot-plus (cross (at a) (at u) (at w)) (area_along at a w r) m
    ∙ omega (arith, ints, left-dot m (at a) (at u) (at w), along_product m at a w r)

area_product : (m : Vector) (at : ℕ → Vector) (q : List ℕ) → dot (doubled_area at q) m ≡ turns_of m at q
area_product m at [] = dot-origin m
area_product m at (a ∷ []) = dot-origin m
area_product m at (a ∷ u ∷ r) = along_product m at a u r

areas_product : (m : Vector) (at : ℕ → Vector) (qs : List (List ℕ)) → dot (doubled_areas at qs) m ≡ sum_z (turns_of m at) qs
areas_product m at [] = dot-origin m
areas_product m at (q ∷ qs) =
    dot-plus (doubled_area at q) (doubled_areas at qs) m ∙ omega (arith, ints, area_product m at q, areas_product m at qs)

pub areas_add_up : AreasAddUp
areas_add_up at ids qs d solid h i j k F plane f = by_products (doubled_areas at parts) (doubled_area at F) (λ m.
    areas_product m at parts ∙ sym (all_swept m at i parts) ∙ goes_round_once over (pieces_of at ids qs solid h) (swept m at i) (swept-odd m at i)
    ∙ round_swept m at i F ∙ sym (area_product m at F))
  where
    parts : List (List ℕ)
    parts = filter (lies_in at i j k) qs

    over : OverFace at ids qs i j k F
    over = record { distinct = d; solid = solid; are = (pieces_of at ids qs solid h).pieces; plane = plane; polygon = f }
