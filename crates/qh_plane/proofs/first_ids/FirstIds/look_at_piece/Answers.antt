-- One more first point, and the repeats after it.
use Rattle.std.proofs.{Common.◌∙◌, Common.◌-◌, lemmas.List.get_or_read}
use Rattle.qh_plane.proofs.FirstIds.{first_begun, first_passed, piece_seen}
use Rattle.qh_plane.proofs.first_ids.FirstIds.look_at_piece.Goals as goal

pub loop-first-init : goal.loop-first-init
loop-first-init c =
    let f = c.args.self.now in
    first_begun c.args.pts.now c.args.begin c.args.end c.args.firsts.now c.requires.order c.requires.firsts f.close f.slots.items f.ids.items
    c.requires.few c.requires.seen

pub look-requires-clause-seen : goal.look-requires-clause-seen
look-requires-clause-seen c =
    let read = get_or_read c.args.firsts.now c.loop-first.first-index c.first-item.result c.loop-first-test.true c.first-item.is (c.args.end - c.args.begin) in
    rw (c.index.ensures ∙ read) c.loop-first.invariant

pub loop-first-preserved : goal.loop-first-preserved
loop-first-preserved c =
    let pts = c.args.pts.now in let f = c.look.new.self in let firsts = c.args.firsts.now in let i = c.loop-first.first-index in
    let read = get_or_read firsts i c.first-item.result c.loop-first-test.true c.first-item.is (c.args.end - c.args.begin) in
    first_passed pts c.args.begin c.args.end firsts c.requires.order c.requires.firsts f.close f.slots.items f.ids.items i c.requires.few c.loop-first-test.true
    (rw (c.index.ensures ∙ read) at (c.in_ok-look.ensures c.if-not-branch.false))

pub returns : goal.returns
returns c _ =
    let f = c.loop-first.self in
    piece_seen c.args.pts.now c.args.begin c.args.end c.args.firsts.now c.requires.order c.requires.firsts f.close f.slots.items f.ids.items
    c.loop-first.first-index c.loop-first-test.false c.loop-first.invariant
