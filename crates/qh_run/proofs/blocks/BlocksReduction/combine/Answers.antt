use Rattle.qh_model.proofs.Common.{subst, sym, ◌<◌, length, inl, IfOk-weaker, IsIdSet, AreIndices}
use Rattle.qh_model.proofs.hulls.{RightValues.right_of_node, ExtremeParts.part_indices, ExtremeParts.part_set}
use Rattle.qh_run.proofs.RightUnions.{union_within, some_within}
use Rattle.qh_run.proofs.blocks.BlocksReduction.combine.Goals as goal

pub extremes_among-requires-clause-some : goal.extremes_among-requires-clause-some
extremes_among-requires-clause-some c =
    let union = rw (c.deref.ensures.value, c.deref-2.ensures.value) at c.in_ok-both.ensures.members in
    subst (λ xs. 0 < length xs) (sym c.deref-3.ensures.value)
    (some_within c.args.even.ids.items c.in_ok-both.both.items c.args.even.some (λ i m. (union i).1 (inl m)))

pub extremes_among-requires-clause-indices : goal.extremes_among-requires-clause-indices
extremes_among-requires-clause-indices c =
    let set = c.args.self.now in
    let union = rw (c.deref.ensures.value, c.deref-2.ensures.value) at c.in_ok-both.ensures.members in
    let within = union_within set.pts.now set.ids.now set.cut.now _ _ c.args.even.ids.items c.args.odd.ids.items
    c.in_ok-both.both.items c.requires.even c.requires.odd union in
    subst (AreIndices set.pts.now) (sym c.deref-3.ensures.value) (part_indices set.pts.now set.ids.now c.in_ok-both.both.items set.indices within)

pub extremes_among-requires-clause-set : goal.extremes_among-requires-clause-set
extremes_among-requires-clause-set c =
    let set = c.args.self.now in
    let both = c.in_ok-both.both.items in
    let union = rw (c.deref.ensures.value, c.deref-2.ensures.value) at c.in_ok-both.ensures.members in
    let within = union_within set.pts.now set.ids.now set.cut.now _ _ c.args.even.ids.items c.args.odd.ids.items both c.requires.even c.requires.odd union in
    subst (IsIdSet set.pts.now) (sym c.deref-3.ensures.value)
    (part_set set.pts.now set.ids.now both (record { rising = set.rising; distinct = set.distinct }) c.in_ok-both.ensures.rising within)

pub returns : goal.returns
returns c =
    let set = c.args.self.now in
    let union = rw (c.deref.ensures.value, c.deref-2.ensures.value) at c.in_ok-both.ensures.members in
    let found = rw (c.deref-3.ensures.value) at c.extremes_among.ensures in
    IfOk-weaker c.extremes_among.result _ _
    (λ v x. right_of_node set.pts.now set.ids.now set.cut.now c.args._node c.args.even.ids.items c.args.odd.ids.items
    c.in_ok-both.both.items v.ids.items set.distinct c.requires.inner.0 c.requires.inner.1 c.requires.even
    c.requires.odd union x)
    found
