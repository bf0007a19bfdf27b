-- The faces with their members and edges are the hull.
use Rattle.qh_model.proofs.lists.Joined.{in_flat_map}
use Rattle.qh_bodies.proofs.ClosedBodies.{closed_body}
use Rattle.qh_bodies.proofs.tallies.body_of_faces.Goals as goal

pub invariant_of-result : goal.invariant_of-result
invariant_of-result c = record {
  rising = c.requires.rising;
  named = λ q m i h. (c.requires.members i).1 (in_flat_map (λ p. p) _ q i m h);
}

pub returns : goal.returns
returns c = λ at ids distinct solid closed rising.
    rw c.requires.edges (closed_body at ids _ distinct solid closed rising _ c.requires.rising c.requires.members)
