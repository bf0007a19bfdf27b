-- The corners of the facets, sorted and without duplicates.
use Rattle.std.proofs.{Common.eqb, lemmas.List.Filters.dedup_is, lemmas.Map.Keys.IsStrictlyIncreasing-dedup}
use Rattle.{qh_surface.specs.contract.NamedMeshes.named, qh_block.proofs.finished.Corners.in_corners, qh_polygon.proofs.KeptIds.kept_members}
use Rattle.qh_block.proofs.faces.Scratch.gather_corners.Goals as goal

pub returns-clause-rising : goal.returns-clause-rising
returns-clause-rising c = rw (dedup_is eqb _ _ c.dedup.ensures.filtered) (IsStrictlyIncreasing-dedup _ c.sort_unstable.ensures.sorted)

pub returns-clause-members : goal.returns-clause-members
returns-clause-members c = λ i.
    let all = in_corners (named c.args.surface.now) c.args.self.now.facets.items i in
    let kept = kept_members _ _ _ c.sort_unstable.ensures.permutation (dedup_is eqb _ _ c.dedup.ensures.filtered) i in
    let same = rw c.in_ok-list_corners.ensures at kept in (λ m. all.0 (same.0 m), λ x. same.1 (all.1 x))
