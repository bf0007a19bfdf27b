-- The sorted ids of the parts are the list.
use Rattle.qh_model.proofs.Common.{◌∙◌, sym, subst, In}
use Rattle.qh_parts_join.proofs.kept.have_all.Goals as goal

pub returns : goal.returns
returns c = λ all l. (
    let members = rw (c.deref.ensures.value ∙ c.in_ok-listed.ensures) at (c.in_ok-rising.ensures.members l) in
    let same = sym c.deref-2.ensures.value ∙ c.are_same.ensures all in
    (λ i. subst (In l) same (members.1 i), λ i. members.0 (subst (In l) (sym same) i)))
