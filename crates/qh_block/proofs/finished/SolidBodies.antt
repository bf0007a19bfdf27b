-- The faces of a finished mesh have the extreme ids as their members, and close up.
use Rattle.{qh_block.specs.steps.Faces.AreFacetFaces, qh_bodies.specs.contract.Tallies.all_members}
use Rattle.qh_model.proofs.Common.{ℕ, List, ◌↔◌, IsStrictlyIncreasing, AreClosedFaces}
use Rattle.qh_model.proofs.Common.{IsIdSet, IsFinished, StoredFacet, surface_of, Vector, place, In, Members, Extreme, AreExtremes, AreFaces, RiseStrictly}
use Rattle.qh_model.proofs.{lists.Joined.in_flat_map, lists.Joined.of_flat_map, polygons.Steps.faces_close, surfaces.Complete.finished_is_solid}
use Rattle.qh_model.proofs.surfaces.{Complete.polygons_of_facets, FacetPlanes.level_itself, Finished.extremes_are_corners, Stored.live_is_marked}

module _ (pts : List Vector) (ids : List ℕ) (fs : List StoredFacet) (set : IsIdSet pts ids) (z : IsFinished (place pts) ids (surface_of fs))
    (qs : List (List ℕ)) (faces : AreFacetFaces (place pts) (Members ids) fs qs) where
  -- the members of the faces are the extreme ids
  face_members : (i : ℕ) → In i (all_members qs) ↔ Extreme (place pts) (Members ids) i
  face_members i = (
    λ m. let l = of_flat_map (λ q. q) qs i m in let o = faces.only l.0 l.1 in ((o.2.members i).0 l.2).0,
    λ x. let c = extremes_are_corners (place pts) ids (surface_of fs) z i x in let r = faces.each c.0 ((live_is_marked fs c.0).0 c.1) in
        in_flat_map (λ q. q) qs r.0 i r.1 ((r.2.members i).1 (x, level_itself (place pts) (surface_of fs) c.0 i c.2)),
  )

  pub extremes : (v : List ℕ) → IsStrictlyIncreasing v → ((i : ℕ) → In i v ↔ In i (all_members qs))
      → AreExtremes (place pts) (Members ids) v
  extremes v rising members = record {
    rising = rising;
    members = λ i. (λ m. (face_members i).0 ((members i).0 m), λ x. (members i).1 ((face_members i).1 x));
  }

  -- sorted, they are the faces of the set, and close up
  pub closed : (ps : List (List ℕ)) → RiseStrictly ps → ((q : List ℕ) → In q ps ↔ In q qs)
      → AreClosedFaces (place pts) (Members ids) ps
  closed ps order same = let first = faces.each z.some ((live_is_marked fs z.some).0 z.some_live) in record {
    some = first.0;
    there = (same first.0).1 first.1;
    faces = all.only;
    closed = faces_close (place pts) ids ps set.distinct (finished_is_solid (place pts) ids (surface_of fs) z) all;
  }
    where
      all : AreFaces (place pts) (Members ids) ps
      all =
          polygons_of_facets (place pts) ids (surface_of fs) ps z order
          (λ f l. (let r = faces.each f ((live_is_marked fs f).0 l) in (r.0, (same r.0).1 r.1, r.2)))
          (λ q m. (let r = faces.only q ((same q).0 m) in (r.0, (live_is_marked fs r.0).1 r.1, r.2)))
