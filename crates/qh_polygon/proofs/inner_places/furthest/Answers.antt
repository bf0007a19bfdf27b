-- The id found is one of the ids.
use Rattle.std.proofs.Common.{arith}
use Rattle.qh_model.proofs.Members.{In-get_or}
use Rattle.qh_polygon.proofs.inner_places.furthest.Goals.{then-reach-most, else-reach-most}
use Rattle.qh_polygon.proofs.inner_places.furthest.Goals as goal

pub loop-part-preserved : goal.loop-part-preserved
loop-part-preserved c = elim c.if-reach-most.branch [
  | then-reach-most w ↦ let part = c.loop-part-test.true in
      rw (w.found-is, c.index-ids-part.is) (In-get_or c.args.ids.now _ c.index-ids-part.result (omega (arith, part)))
  | else-reach-most w ↦ rw w.found-is c.loop-part.invariant
]
