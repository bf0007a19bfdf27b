-- A tetrahedron is a mesh: each of its twelve sides has its twin.
use Rattle.qh_model.proofs.Common.{ℕ, suc, rules, ◌∙◌, Side, first, second, third}
use Rattle.qh_mesh.proofs.mesh.Mesh.of_corners.Goals as goal
use Rattle.qh_mesh.specs.{contract.Edges.edge_of, contract.Replacement.IsLive, contract.SoundMesh.simplex_facets, steps.Twins.HasTwin}
use Rattle.qh_mesh.proofs.EdgeSides.{twins_by_side}

-- each of the twelve sides has its twin
twelve : (a b c d f : ℕ) → IsLive (simplex_facets a b c d) f → (s : Side) → HasTwin (simplex_facets a b c d) (edge_of f s)
twelve a b c d (suc (suc (suc (suc f)))) l = absurd (cc)
twelve a b c d f l = elim [ first ↦ search rules | second ↦ search rules | third ↦ search rules ]

pub invariant_of-result : goal.invariant_of-result
invariant_of-result c = record {
  twins = rw (c.in-Ok.ensures.items ∙ c.four-four.ensures)
      (twins_by_side (simplex_facets _ _ _ _) (twelve _ _ _ _));
  pool = search rules;
  small = search rules;
}
