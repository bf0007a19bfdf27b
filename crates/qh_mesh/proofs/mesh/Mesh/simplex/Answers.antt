-- A simplex that is not reversed is a sound mesh.
use Rattle.qh_model.proofs.Common.{rules, IfOk-weaker, place}
use Rattle.qh_mesh.proofs.SoundMeshes.{simplex_is_sound}
use Rattle.qh_mesh.proofs.mesh.Mesh.simplex.Goals as goal

pub returns-else-sees-clause-sound : goal.returns-else-sees-clause-sound
returns-else-sees-clause-sound c = IfOk-weaker c.of_corners-else-sees.result _ _
    (λ m e. rw (e) (simplex_is_sound (place c.args.pts.now) _ _ _ _ c.requires.volume (search rules))) c.of_corners-else-sees.ensures
