use Rattle.std.proofs.Common.{arith, rules}
use Rattle.qh_polygon.proofs.ShapeDimension.{first_two, segment, flat, solid}
use Rattle.qh_polygon.proofs.ranking.rank.Goals as goal

pub returns-in_default-clause-dimension : goal.returns-in_default-clause-dimension
returns-in_default-clause-dimension c = λ h.
    segment c.args.pts.now c.args.ids.now c.index-ids-0-2.result c.index-ids-1.result
    (first_two _ _ _ (omega arith) c.index-ids-0-2.is c.index-ids-1.is) (search rules) h

pub returns-in-None-clause-dimension : goal.returns-in-None-clause-dimension
returns-in-None-clause-dimension c = λ h.
    flat c.args.pts.now c.args.ids.now c.index-ids-0-2.result c.index-ids-1.result c.in-Some.k
    (first_two _ _ _ (omega arith) c.index-ids-0-2.is c.index-ids-1.is) (search rules) (search rules)

pub returns-in-Some-first_off_plane-clause-dimension : goal.returns-in-Some-first_off_plane-clause-dimension
returns-in-Some-first_off_plane-clause-dimension c = λ h.
    solid c.args.pts.now c.args.ids.now c.index-ids-0-2.result c.index-ids-1.result c.in-Some.k
    c.in-Some-first_off_plane.l (first_two _ _ _ (omega arith) c.index-ids-0-2.is c.index-ids-1.is) (search rules) (search rules)
