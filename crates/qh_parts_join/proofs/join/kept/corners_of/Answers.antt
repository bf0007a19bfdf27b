-- The places of one more part.
use Rattle.qh_model.proofs.Common.{arith, sym, ◌∙◌, ap, map, [], ◌∷◌, ◌++◌, reverse, append_assoc, append-nil, map-append, nil_from_length, reverse-append}
use Rattle.qh_parts_join.specs.contract.Kept.{places_of}
use Rattle.qh_parts_join.proofs.join.kept.corners_of.Goals as goal

pub loop-part-init : goal.loop-part-init
loop-part-init c = rw c.in_ok-corners.ensures.items (sym (append-nil (map places_of c.args.parts.items)))

pub loop-part-preserved : goal.loop-part-preserved
loop-part-preserved c =
    let part = c.in-Some.part in let listed = c.loop-part.corners.items in
    rw (c.in_ok-push.ensures.items, reverse-append listed (places_of part ∷ []))
    (rw c.in-Some.ensures.items at c.loop-part.invariant
    ∙ ap (λ t. t ++ reverse listed) (map-append places_of _ (part ∷ [])) ∙ append_assoc (map places_of _) (places_of part ∷ []) (reverse listed))

pub returns : goal.returns
returns c =
    let parts = c.loop-part.parts in let none = c.in_default.ensures.cases.0 in let long = parts.ok.0 in
    rw c.reverse.ensures.items (sym (rw (nil_from_length parts.items (omega arith)) at c.loop-part.invariant))
