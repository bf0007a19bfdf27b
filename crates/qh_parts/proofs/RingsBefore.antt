-- The ring of a mesh over positions is that of the mesh over ids.
use Rattle.qh_model.proofs.Common.{ℕ, Bool, sym, ap, ◌∙◌, subst, surface_of, In}
use Rattle.qh_surface.{specs.contract.NamedMeshes.named, specs.declared.named_mesh.NamedMesh.NamedMesh, proofs.NamedFacets.names}
use Rattle.qh_laws.specs.contract.Seam.{IsRing}

-- a facet of the ring over ids is a facet of the ring over positions
pub ring_before : (s : NamedMesh) (stay : ℕ → Bool) (f : ℕ) → IsRing (surface_of (named s)) stay f → IsRing (surface_of s.mesh) stay f
ring_before s stay f r =
    let live = subst (In f) (names s).live r.live in
    record { live = live; stays = r.stays; side = r.side; gone = ap stay (sym ((names s).over_is f r.side live)) ∙ r.gone }
