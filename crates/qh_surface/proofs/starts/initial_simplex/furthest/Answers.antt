-- The id found is one of the ids.
use Rattle.std.proofs.Common.{◌<◌, ◌*◌, ◌/◌, ◌+◌, ℕ, length, arith, div-mul-le_self, mul-le-mul_right}
use Rattle.qh_model.proofs.Members.{All-In, In-get_or}
use Rattle.qh_surface.proofs.starts.initial_simplex.furthest.Goals.{then-distance-most, else-distance-most}
use Rattle.qh_surface.proofs.starts.initial_simplex.furthest.Goals as goal

-- a part begins within the list
begins : (n q k : ℕ) → k < n / (q + 1) → k * (q + 1) < n
begins n q k h = omega (arith, div-mul-le_self n (q + 1), mul-le-mul_right (q + 1) h)

pub loop-part-preserved : goal.loop-part-preserved
loop-part-preserved c = elim c.if-distance-most.branch [
  | then-distance-most w ↦ rw (w.found-is, c.index-ids-part.is)
      (In-get_or c.args.ids.now _ c.index-ids-part.result (begins (length c.args.ids.now) _ c.loop-part.part c.loop-part-test.true))
  | else-distance-most w ↦ rw w.found-is c.loop-part.invariant
]

pub returns-clause-inside : goal.returns-clause-inside
returns-clause-inside c = All-In (λ i. i < length c.args.pts.now) c.args.ids.now c.loop-part.found c.requires.indices c.loop-part.invariant
