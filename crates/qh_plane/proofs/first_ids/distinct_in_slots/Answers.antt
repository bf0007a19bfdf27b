use Rattle.qh_plane.proofs.SeenPlaces.{all_seen}
use Rattle.qh_plane.proofs.first_ids.distinct_in_slots.Goals as goal

pub returns : goal.returns
returns c =
    let f = c.loop-number.firsts in
    all_seen c.args.pts.now f.close f.slots.items c.loop-number.number f.ids.items c.loop-number.invariant c.loop-number-test.false
