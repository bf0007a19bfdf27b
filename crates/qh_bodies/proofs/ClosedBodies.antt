-- Faces that close up determine the hull of a solid set.
use Rattle.qh_model.proofs.Common.{inl, ℕ, List, refl, ◌↔◌, IsStrictlyIncreasing, AreClosedFaces, HasDistinctPoints, Vector, In, Members, Extreme, IsDimension}
use Rattle.qh_model.proofs.Common.{IsBody, RiseStrictly}
use Rattle.qh_model.proofs.{lists.Joined.in_flat_map, lists.Joined.of_flat_map, polygons.Steps.ordered_once}
use Rattle.qh_model.proofs.{lists.Lexicographic.rising-ordered, polygons.ClosedFaces.closed_faces_are_all, polygons.ClosedFaces.closed_faces_have_extremes}
use Rattle.qh_bodies.specs.contract.{SolidEdges.all_edges_up, Tallies.all_members}
use Rattle.qh_bodies.proofs.EdgeCounts.{edges_of_faces}

-- the hull of a solid set from faces that close up, with their members and their steps up
module _ (at : ℕ → Vector) (ids : List ℕ) (qs : List (List ℕ)) (d : HasDistinctPoints at (Members ids))
    (solid : IsDimension at (Members ids) 3) (closed : AreClosedFaces at (Members ids) qs) (rising : RiseStrictly qs) where
  corner_law : (i : ℕ) → Extreme at (Members ids) i ↔ ((q : List ℕ) × In q qs × In i q)
  corner_law = closed_faces_have_extremes at ids qs d closed

  -- a member of a face is an extreme id, and conversely
  forth : (i : ℕ) → In i (all_members qs) → Extreme at (Members ids) i
  forth i m = (corner_law i).1 (of_flat_map (λ q. q) qs i m)

  back : (i : ℕ) → Extreme at (Members ids) i → In i (all_members qs)
  back i x = let r = (corner_law i).0 x in in_flat_map (λ q. q) qs r.0 i r.1 r.2

  pub closed_body : (v : List ℕ) → IsStrictlyIncreasing v → ((i : ℕ) → In i v ↔ In i (all_members qs))
      → IsBody at (Members ids) (record { dim = 3; extremes = v; polygons = qs; edges = all_edges_up qs })
  closed_body v order members =
      let all = closed_faces_are_all at ids qs d closed rising in
      record {
        dim = solid;
        extremes = record {
          rising = order;
          members = λ i. (λ m. forth i ((members i).0 m), λ x. (members i).1 (back i x));
        };
        polygons = inl (refl, all);
        edges = edges_of_faces at ids qs d solid all (ordered_once qs (rising-ordered qs rising));
      }
