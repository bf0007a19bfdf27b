-- The sorted keys have the same facets.
use Rattle.qh_model.proofs.Common.{map, subst, sym, IfOk-weaker, IsPermutation-map, IsPermutation-sym, In}
use Rattle.{qh_model.proofs.Members.in_permutation, qh_parts.specs.steps.RingKeys.facet_in}
use Rattle.qh_parts.proofs.seam.marked.Marked.ring.Goals as goal

pub returns-clause-all : goal.returns-clause-all
returns-clause-all c =
    let old = c.in_ok-keys.keys.items in let new = c.sort_unstable.new.self.items in
    IfOk-weaker c.facets_of.result _ _ (λ v e f r. subst (λ xs. In f xs) (sym e) (in_permutation (map facet_in old) (map facet_in new)
    (IsPermutation-map facet_in old new c.sort_unstable.ensures.permutation) f (c.in_ok-keys.ensures.all f r))) c.facets_of.ensures

pub returns-clause-live : goal.returns-clause-live
returns-clause-live c =
    let old = c.in_ok-keys.keys.items in let new = c.sort_unstable.new.self.items in
    IfOk-weaker c.facets_of.result _ _ (λ v e f m. c.in_ok-keys.ensures.live f (in_permutation (map facet_in new) (map facet_in old)
    (IsPermutation-sym (map facet_in old) (map facet_in new) (IsPermutation-map facet_in old new c.sort_unstable.ensures.permutation)) f
    (subst (λ xs. In f xs) e m))) c.facets_of.ensures
