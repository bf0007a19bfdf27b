-- The planes of a mesh, one for each place, so that a side test needs no corner.
-- Source: Barber, Dobkin and Huhdanpaa 1996 (a facet keeps its hyperplane).
use Rattle.std.specs.Prelude.{◌≡◌, ℕ, ◌≤◌, List, length, slice_index_or, pos}
use Rattle.qh_model.specs.{contract.StoredSurface.StoredFacet, headline.Vector.Vector, headline.Vector.origin}
use Rattle.qh_pred.specs.contract.Planes.{PlaneValue, height}
use Rattle.qh_mesh.specs.contract.{Replacement.IsLive, SoundMesh.facet_vol}

-- the value of a plane past the end
abbrev pub no_plane : PlaneValue
no_plane = record { normal = origin; offset = pos 0 }

-- the plane at a place
abbrev pub plane_at : List PlaneValue → ℕ → PlaneValue
plane_at ps f = slice_index_or ps f no_plane

-- each place has a plane, and the plane of a live facet is right
pub record ArePlanes (at : ℕ → Vector) (fs : List StoredFacet) (ps : List PlaneValue) : Type 0 where
  pub room : length fs ≤ length ps
  pub right : (f : ℕ) → IsLive fs f → (p : Vector) → height (plane_at ps f) p ≡ facet_vol at fs f p
