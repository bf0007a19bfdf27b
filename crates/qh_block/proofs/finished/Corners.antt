-- The corners of a list of facets.
use Rattle.qh_model.proofs.Common.{All, ℕ, ◌<◌, List, length, arith, ◌↔◌, AreIndices, IsCorner, StoredFacet, surface_of, Vector, In}
use Rattle.qh_model.proofs.{Members.All-In, Members.All-of, lists.Joined.in_flat_map, lists.Joined.of_flat_map}
use Rattle.{qh_mesh.specs.contract.Replacement.IsLive, qh_surface.specs.contract.Corners.AreCornersBelow}
use Rattle.qh_block.specs.steps.Faces.{three_of, corners_of, IsListedCorner}

-- the corners of one facet
in_three : (fs : List StoredFacet) (v : ℕ) (l : ℕ) → In l (three_of fs v) ↔ IsCorner (surface_of fs) v l
in_three fs v l = (λ m. grind (arith, m), λ c. grind (arith, c))

-- the corners of the listed facets
pub in_corners : (fs : List StoredFacet) (vs : List ℕ) (l : ℕ) → In l (corners_of fs vs) ↔ IsListedCorner fs vs l
in_corners fs vs l = (
  λ i. let r = of_flat_map (three_of fs) vs l i in (r.0, r.1, (in_three fs r.0 l).0 r.2),
  λ c. in_flat_map (three_of fs) vs c.0 l c.1 ((in_three fs c.0 l).1 c.2),
)

-- corners of live facets are ids of points
pub corners_in : (pts : List Vector) (fs : List StoredFacet) (vs : List ℕ) (corners : List ℕ) → AreCornersBelow (length pts) fs
    → All (IsLive fs) vs → ((i : ℕ) → In i corners ↔ IsListedCorner fs vs i) → AreIndices pts corners
corners_in pts fs vs corners b live members =
    All-of (λ i. i < length pts) corners (λ l i. let c = (members l).0 i in let v = All-In (IsLive fs) vs c.0 live c.1 in
    grind (arith, c.2, b.i_in c.0 v, b.j_in c.0 v, b.k_in c.0 v))
