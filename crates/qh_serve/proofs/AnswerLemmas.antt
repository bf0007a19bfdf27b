-- Properties of the hull that the answer needs.
use Rattle.qh_model.proofs.Common.{◌<◌, List, length, get_or, All, All-from_get_or, HullValue, IsHull, Vector}
use Rattle.qh_model.proofs.Members.{In-get_or}

-- the extreme ids of a hull are indices of points
pub names_of : (pts : List Vector) (h : HullValue) → IsHull pts h → All (λ i. i < length pts) h.body.extremes
names_of pts h is =
    All-from_get_or (λ i. i < length pts) h.body.extremes 0
    (λ k l. ((is.distinct_ids.members (get_or h.body.extremes k 0)).0
    ((is.body.extremes.members (get_or h.body.extremes k 0)).0 (In-get_or h.body.extremes k 0 l)).0).0)
