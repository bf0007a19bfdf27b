-- The corners of the parts and the shared ids are the kept ids.
use Rattle.qh_model.proofs.Common.{◌++◌, flat_map}
use Rattle.qh_model.proofs.lists.Joined.{in_append, of_append}
use Rattle.qh_parts_join.specs.contract.Parts.{own_in, KeepsCorners}
use Rattle.qh_parts.proofs.joint.is_kept.Goals as goal

pub returns : goal.returns
returns c = λ all.
    let parts = c.args.parts.now in let shared = c.args.shared.now in let kept = flat_map own_in parts ++ shared in
    let corners : KeepsCorners parts shared kept = (λ l. (of_append _ _ l, in_append _ _ l)) in
    record { kept = kept; corners = corners; inside = c.in_ok-all.ensures.inside all; stand = c.in_ok-all.ensures.kept all kept corners }
