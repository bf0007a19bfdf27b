use Rattle.qh_model.proofs.Common.{◌≡◌, ◌*◌, pos, ◌+ℤ◌, drop, place}
use Rattle.qconvex_c.specs.contract.Volumes.{six_volumes, PartialSumsFit}
use Rattle.qconvex_c.proofs.volumes.sum_of_volumes.Given as goal

abbrev pub invariant-loop-number : goal.invariant-loop-number
invariant-loop-number l = record {
  sum : l.total +ℤ six_volumes (place l.points) (place l.points 0) (drop (3 * l.number) l.triangles)
      ≡ six_volumes (place l.points) (place l.points 0) l.triangles;
  fits : PartialSumsFit (place l.points) (place l.points 0) (pos 0) l.triangles
      → PartialSumsFit (place l.points) (place l.points 0) l.total (drop (3 * l.number) l.triangles);
}
