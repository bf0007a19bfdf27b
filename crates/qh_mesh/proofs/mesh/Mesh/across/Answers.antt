-- The edge across a side of a live facet is its twin.
use Rattle.qh_mesh.proofs.mesh.Mesh.across.Goals as goal
use Rattle.std.proofs.Common.{◌≡◌, ◌∙◌, ap, sym}
use Rattle.qh_mesh.specs.{contract.Edges.edge_of, contract.Edges.nth_side, contract.Edges.twin_of, steps.Kept.outer_of, steps.Twins.HasTwin}
use Rattle.qh_mesh.proofs.{EdgeSides.twin-at, EdgeSides.twin-is, mesh.Mesh.across.Goals.After-across}

module _ (c : After-across) where
  own : HasTwin c.args.self.now (edge_of c.args.f (nth_side c.args.side))
  own = twin-at c.args.self.now c.kept.ensures.twins c.args.f c.requires.facet (nth_side c.args.side)

  is : c.across.result ≡ twin_of c.args.self.now (edge_of c.args.f (nth_side c.args.side))
  is = c.across.ensures ∙ ap (λ t. outer_of t (nth_side c.args.side)) c.kept.ensures.facet
      ∙ sym (twin-is c.args.self.now c.args.f (nth_side c.args.side))

pub returns-clause-twin : goal.returns-clause-twin
returns-clause-twin c = is c

pub returns-clause-live : goal.returns-clause-live
returns-clause-live c = rw (is c) (own c).live

pub returns-clause-back : goal.returns-clause-back
returns-clause-back c = rw (is c) (own c).back

pub returns-clause-starts : goal.returns-clause-starts
returns-clause-starts c = rw (is c) (own c).starts

pub returns-clause-ends : goal.returns-clause-ends
returns-clause-ends c = rw (is c) (own c).ends
