-- The edge across an edge's side is its twin.
use Rattle.qh_mesh.proofs.mesh.Mesh.twin.Goals as goal
use Rattle.std.proofs.Common.{◌≡◌, ◌∙◌, ap}
use Rattle.qh_mesh.specs.contract.Edges.{edge_end, edge_of, edge_start, nth_side, twin_of}
use Rattle.qh_mesh.proofs.{EdgeSides.edge_is, mesh.Mesh.twin.Goals.After-across}

module _ (c : After-across) where
  -- the side of the edge's facet is the edge
  is : edge_of c.facet.result (nth_side c.side.result) ≡ c.args.e
  is = (λ i. edge_of (c.facet.ensures i) (c.side.ensures.side i)) ∙ edge_is c.args.e

pub returns-clause-twin : goal.returns-clause-twin
returns-clause-twin c = c.across.ensures.twin ∙ ap (twin_of c.args.self.now) (is c)

pub returns-clause-back : goal.returns-clause-back
returns-clause-back c = c.across.ensures.back ∙ is c

pub returns-clause-starts : goal.returns-clause-starts
returns-clause-starts c = c.across.ensures.starts ∙ ap (edge_end c.args.self.now) (is c)

pub returns-clause-ends : goal.returns-clause-ends
returns-clause-ends c = c.across.ensures.ends ∙ ap (edge_start c.args.self.now) (is c)
