-- The point is within the bounds, and the points within them stay so.
use Rattle.qh_places.proofs.PointBoxes.{le_trans}
use Rattle.qh_places.proofs.boxes.PointBox.with.Goals as goal

pub returns-clause-own : goal.returns-clause-own
returns-clause-own c = let l = c.least_of.ensures.two in let h = c.greatest_of.ensures.two in record { x = (l.x, h.x); y = (l.y, h.y); z = (l.z, h.z) }

pub returns-clause-others : goal.returns-clause-others
returns-clause-others c = λ q w.
    let l = c.least_of.ensures.one in let h = c.greatest_of.ensures.one in record {
      x = (le_trans _ _ _ l.x w.x.0, le_trans _ _ _ w.x.1 h.x);
      y = (le_trans _ _ _ l.y w.y.0, le_trans _ _ _ w.y.1 h.y);
      z = (le_trans _ _ _ l.z w.z.0, le_trans _ _ _ w.z.1 h.z);
    }
