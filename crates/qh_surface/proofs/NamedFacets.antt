-- The same facets are live in a mesh over positions and over ids.
use Rattle.qh_model.proofs.{Common.ℕ, Common.sym, Common.subst, Common.surface_of, Common.In, surfaces.Named.IsNamed, surfaces.Named.stored_named}
use Rattle.{qh_model.proofs.surfaces.Stored.live_is_marked, qh_mesh.specs.contract.Names.name_in, qh_mesh.specs.contract.Replacement.IsLive}
use Rattle.qh_surface.specs.{contract.NamedMeshes.named, declared.named_mesh.NamedMesh.NamedMesh}

module _ (n : NamedMesh) where
  -- the mesh over ids is the mesh over positions with renamed corners
  pub names : IsNamed (surface_of n.mesh) (surface_of (named n)) (name_in n.ids.items)
  names = stored_named (name_in n.ids.items) n.mesh

  -- a facet that is live over positions is live over ids
  pub named_live : (f : ℕ) → IsLive n.mesh f → IsLive (named n) f
  named_live f l = (live_is_marked (named n) f).0 (subst (In f) (sym names.live) ((live_is_marked n.mesh f).1 l))

  -- a facet that is live over ids is live over positions
  pub live_before : (f : ℕ) → IsLive (named n) f → IsLive n.mesh f
  live_before f l = (live_is_marked n.mesh f).0 (subst (In f) names.live ((live_is_marked (named n) f).1 l))
