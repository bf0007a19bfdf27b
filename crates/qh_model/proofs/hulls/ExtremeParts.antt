-- Parts of a set of ids, which are sets of ids. A part that has all extreme ids is not empty and has the hull of the set.
use Rattle.qh_model.proofs.Common.{ℕ, ◌<◌, List, length, get_or, arith, IsStrictlyIncreasing, AreIndices, IsIdSet, Extreme, AreExtremes, BodyValue, IsBody}
use Rattle.qh_model.proofs.Common.{place, In, Members, Vector, HasExtremes}
use Rattle.qh_model.proofs.{Members.All-In, Members.All-of, Members.In-get_or, Members.in_at, hulls.SameSets.extremes_of_part, hulls.SameSets.body_of_part}
use Rattle.qh_model.proofs.{extremes.ExtremeIds.members_are_combinations, hulls.OfExtremes.extremes_told}

-- ids of a list of indices are indices
pub part_indices : (pts : List Vector) (ids part : List ℕ) → AreIndices pts ids → ((i : ℕ) → In i part → In i ids) → AreIndices pts part
part_indices pts ids part indices within = All-of (λ i. i < length pts) part (λ i m. All-In (λ i. i < length pts) ids i indices (within i m))

-- rising ids of a set of ids are a set of ids
pub part_set : (pts : List Vector) (ids part : List ℕ) → IsIdSet pts ids → IsStrictlyIncreasing part → ((i : ℕ) → In i part → In i ids) → IsIdSet pts part
part_set pts ids part set rising within = record { rising = rising; distinct = λ i j m n e. set.distinct i j (within i m) (within j n) e }

-- if there are ids, a part with all extreme ids has some
pub part_some : (pts : List Vector) (ids part : List ℕ) → IsIdSet pts ids → 0 < length ids
    → ((i : ℕ) → Extreme (place pts) (Members ids) i → In i part) → 0 < length part
part_some pts ids part set some extremes =
    let mix = members_are_combinations (place pts) ids set.distinct (get_or ids 0 0) (In-get_or ids 0 0 some) in
    let p = in_at part mix.a (extremes mix.a mix.has_a) in
    let l = p.1 in
    omega (arith, l)

-- the extreme ids of this part are those of the set
pub part_extremes : (pts : List Vector) (ids part xs : List ℕ) → IsIdSet pts ids → HasExtremes pts ids part
    → AreExtremes (place pts) (Members part) xs → AreExtremes (place pts) (Members ids) xs
part_extremes pts ids part xs set h =
    extremes_told (place pts) (Members part) (Members ids) (extremes_of_part (place pts) ids part set.distinct h.within h.extremes) xs

-- the hull of this part is that of the set
pub part_body : (pts : List Vector) (ids part : List ℕ) (b : BodyValue) → IsIdSet pts ids → IsStrictlyIncreasing part → HasExtremes pts ids part
    → (IsIdSet pts part → IsBody (place pts) (Members part) b) → IsBody (place pts) (Members ids) b
part_body pts ids part b set rising h f = body_of_part (place pts) ids part b set.distinct h.within h.extremes (f (part_set pts ids part set rising h.within))
