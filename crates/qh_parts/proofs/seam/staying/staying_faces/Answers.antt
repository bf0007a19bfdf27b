-- The faces of the facets that stay are those of the set, and all faces of the part close up.
use Rattle.{std.proofs.Common.get_or, qh_surface.specs.contract.Walks.mark_at}
use Rattle.qh_parts.proofs.StayingParts.{part_set, part_finished, face_of_part}
use Rattle.qh_parts.proofs.seam.staying.staying_faces.Goals as goal

pub returns-clause-stay : goal.returns-clause-stay
returns-clause-stay c = λ ids kept distinct inside keeps q i. (
    let pts = c.args.set.pts.now in let shared = c.args.set.shared.now in let parts = c.args.set.parts.now in
    let d = c.index-set-number.result in let stay = mark_at c.args.guess.stay.now in
    let staying = c.in_ok-stays.ensures.part c.if-not-stays.false d in
    let own = part_set pts shared parts c.args.number d stay c.requires.parts c.requires.number ids distinct inside in
    let finished = part_finished pts shared parts c.args.number d stay c.requires.parts c.requires.number ids distinct inside in
    face_of_part pts shared parts c.args.number d stay c.requires.parts c.requires.number staying ids kept distinct inside keeps q
    (c.in_ok-faces.ensures.chosen (get_or parts c.args.number d).ids.items own finished q i))

pub returns-clause-closed : goal.returns-clause-closed
returns-clause-closed c = λ ids distinct inside. (
    let pts = c.args.set.pts.now in let shared = c.args.set.shared.now in let parts = c.args.set.parts.now in
    let d = c.index-set-number.result in let stay = mark_at c.args.guess.stay.now in
    let own = part_set pts shared parts c.args.number d stay c.requires.parts c.requires.number ids distinct inside in
    let finished = part_finished pts shared parts c.args.number d stay c.requires.parts c.requires.number ids distinct inside in
    c.in_ok-faces.ensures.closed (get_or parts c.args.number d).ids.items own finished)
