-- The facets so far are removed, and their places are free.
use Rattle.qh_model.proofs.Common.{◌≡◌, ◌+◌, reverse, vec_len, vec_capacity}
use Rattle.qh_mesh.specs.steps.Places.{Removed, IsPool}
use Rattle.qh_mesh.proofs.places.remove.Given as goal

abbrev pub invariant-loop-f : goal.invariant-loop-f
invariant-loop-f l = record {
  facets : Removed l.initial.facets l.facets l.visible l.f-index;
  pool : IsPool l.facets (reverse l.free.items);
  len : vec_len l.free ≡ vec_len l.initial.free + l.f-index;
  capacity : vec_capacity l.free ≡ vec_capacity l.initial.free;
}
