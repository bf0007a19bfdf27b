-- A mesh over positions of a list of ids, and the same mesh over the ids.
use Rattle.std.specs.Prelude.{◌≡◌, List, length, map}
use Rattle.qh_model.specs.{contract.StoredSurface.StoredFacet, contract.StoredSurface.named_facet, headline.Vector.Vector, headline.Predicates.place}
use Rattle.qh_mesh.specs.contract.Names.{name_in}
use Rattle.qh_surface.specs.{contract.Corners.AreCornersBelow, declared.named_mesh.NamedMesh.NamedMesh}

-- the facets of the mesh, with ids as corners
abbrev pub named : NamedMesh → List StoredFacet
named m = map (named_facet (name_in m.ids.items)) m.mesh

-- the positions are those of ids, and the mesh has the points of these ids
pub record IsNamedMesh (pts : List Vector) (m : NamedMesh) : Type 0 where
  pub points : m.points.items ≡ map (place pts) m.ids.items
  pub positions : AreCornersBelow (length m.ids.items) m.mesh
  pub corners : AreCornersBelow (length pts) (named m)
