-- The key of the facet is listed, or the facet is not in the ring.
use Rattle.qh_model.proofs.Common.{◌∙◌, ◌++◌, inl, inr, ap, map, refl, [], ◌∷◌, both_ways, map-append}
use Rattle.qh_parts.specs.steps.RingKeys.{facet_in}
use Rattle.qh_parts.proofs.seam.marked.Marked.list_ring.Goals as goal

pub returns-then-not-is_ring : goal.returns-then-not-is_ring
returns-then-not-is_ring c = inr (λ r. both_ways _ c.if-not-is_ring.true (c.is_ring.ensures r), refl)

pub returns : goal.returns
returns c =
    let keys = c.args.keys.now.items in
    inl (ap (map facet_in) c.in_ok-push.ensures.items ∙ map-append facet_in keys (c.ring_key.result ∷ [])
    ∙ ap (λ f. map facet_in keys ++ f ∷ []) c.ring_key.ensures)
