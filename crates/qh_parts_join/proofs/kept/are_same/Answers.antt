-- The test of lists decides equality.
use Rattle.qh_model.proofs.Common.{◌∙◌, sym, same_text}
use Rattle.qh_parts_join.proofs.kept.are_same.Goals as goal

pub returns : goal.returns
returns c = λ same. same_text _ _ (sym same ∙ c.eq.ensures)
