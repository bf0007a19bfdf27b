-- Sorting keeps the corners and shared ids.
use Rattle.{std.proofs.Common.◌∙◌, std.proofs.lemmas.Result.IfOk-weaker, qh_model.proofs.lists.Joined.in_append, qh_model.proofs.lists.Joined.of_append}
use Rattle.qh_parts_join.proofs.kept.corners_and_shared.Goals as goal

pub returns-clause-members : goal.returns-clause-members
returns-clause-members c =
    IfOk-weaker c.rising_ids.result _ _
    (λ v is l. (let members = rw (c.deref.ensures.value ∙ c.in_ok-extend_from_slice.ensures.items, c.in_ok-listed.ensures) at (is l) in
    (λ i. of_append _ _ l (members.0 i), λ s. members.1 (in_append _ _ l s))))
    c.rising_ids.ensures.members
