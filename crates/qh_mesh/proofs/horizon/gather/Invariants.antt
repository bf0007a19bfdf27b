-- The open sides of the facets so far are collected.
use Rattle.qh_model.proofs.Common.{take, ◌≡◌, ◌≤◌, ◌*◌, vec_len, vec_capacity}
use Rattle.qh_mesh.specs.steps.Horizons.{open_sides}
use Rattle.qh_mesh.proofs.horizon.gather.Given as goal

abbrev pub invariant-loop-f : goal.invariant-loop-f
invariant-loop-f l = record {
  items : l.horizon.items ≡ open_sides l.facets (take l.f-index l.visible);
  len : vec_len l.horizon ≤ 3 * l.f-index;
  capacity : vec_capacity l.horizon ≡ vec_capacity l.initial.horizon;
}
