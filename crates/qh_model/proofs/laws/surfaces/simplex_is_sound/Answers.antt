use Rattle.qh_model.proofs.laws.surfaces.simplex_is_sound.Goals as goal
use Rattle.qh_model.proofs.surfaces.{Simplex.simplex_sound, Simplex.middle_is_below, SimplexBoundary.simplex_boundary_sound}

pub returns : goal.returns
returns c = record { boundary = simplex_boundary_sound; simplex = simplex_sound; middle = middle_is_below }
