-- The ids of the triangles and of the other polygons are those of all polygons, and so are the steps up.
use Rattle.qh_model.proofs.Common.{◌∙◌, ◌++◌, ℕ, List, ap, flat_map, flat_map-append, map, sym}
use Rattle.std.proofs.lemmas.List.Folds.{flat_map-map}
use Rattle.qh_bodies.specs.{contract.Tallies.all_members, steps.FaceKeys.triangle_in}
use Rattle.qh_bodies.proofs.EdgeCounts.{edges_append}
use Rattle.qh_bodies.proofs.tallies.tally_with.Goals as goal

pub returns : goal.returns
returns c = λ others listed more.
    let keys = c.args.keys.now in
    let with_listed = λ (xs : List ℕ). xs ++ c.args.listed.now in
    let with_others = λ (xs : List ℕ). xs ++ all_members others in
    let split = flat_map-append (λ (q : List ℕ). q) (map triangle_in keys) others ∙ ap with_others (flat_map-map (λ q. q) triangle_in keys) in
    let all = c.in_ok-extend_from_slice.ensures.items ∙ ap with_listed c.in_ok-all.ensures ∙ ap (λ ys. flat_map triangle_in keys ++ ys) listed ∙ sym split in
    record {
      rising = c.in_ok-extremes.ensures.rising;
      members = rw (c.deref.ensures.value ∙ all) at c.in_ok-extremes.ensures.members;
      edges = c.in_ok-edges.ensures ∙ rw more (sym (edges_append (map triangle_in keys) others));
    }
